-- The entries of a history as C reads them: a list of records, and the lists of what these name.
use Rattle.std.specs.Prelude.{◌≡◌, ◌≤◌, ◌<◌, ◌⊎◌, ℕ, List, [], ◌∷◌, ◌++◌, length, Ok}
use Rattle.dn_types.specs.declared.entry.Entry.{Entry}
use Rattle.dn_types.specs.declared.reply.Reply.{Reply}
use Rattle.dn_types.specs.declared.reply.Reply.TheVariants.{Status}
use Rattle.dn_types.specs.declared.rule.Rule.{Rule}
use Rattle.dn_types.specs.declared.rule.Rule.TheVariants.{Ordered, Free}
use Rattle.dn_history.specs.HistoryFile.{history_in}
use Rattle.hingetulip_c.specs.EntryRecords.{call_number, line_of, packet_of, refusal, reply_number, told_fate}
use Rattle.hingetulip_c.specs.Lists.{deliveries_of, flows_of}
use Rattle.hingetulip_c.specs.Statuses.{list_count}
use Rattle.hingetulip_c.specs.declared.entry_lists.EntryLists.{EntryLists}
use Rattle.hingetulip_c.specs.declared.records.c_delivery.CDelivery.{CDelivery}
use Rattle.hingetulip_c.specs.declared.records.c_entry.CEntry.{CEntry}
use Rattle.hingetulip_c.specs.declared.records.c_flow.CFlow.{CFlow}
use Rattle.hingetulip_c.specs.declared.records.c_history.CHistory.{CHistory}

-- Records, and the lines, the deliveries and the flows that these name.
pub record Lists : Type 0 where
  pub entries : List CEntry
  pub lines : List ℕ
  pub deliveries : List CDelivery
  pub flows : List CFlow

abbrev pub nothing : Lists
nothing = record { entries = []; lines = []; deliveries = []; flows = [] }

-- Where the list of a reply begins that comes next.
abbrev pub list_place : Lists → Reply → ℕ
list_place l (Status list) = length l.flows
list_place l _ = length l.deliveries

-- The record of an entry that comes next.
abbrev pub c_entry : Lists → Entry → CEntry
c_entry l e = record {
  packet = packet_of e.call;
  fate = told_fate e.reply;
  caller = e.caller;
  line = length l.lines;
  size = length (line_of e.call);
  first = list_place l e.reply;
  count = list_count 0 e.reply;
  status = refusal e.reply;
  call = call_number e.call;
  reply = reply_number e.reply;
  reserved = 0;
}

-- The lists with one entry more, and with some more.
abbrev pub with_entry : Lists → Entry → Lists
with_entry l e = record {
  entries = l.entries ++ c_entry l e ∷ [];
  lines = l.lines ++ line_of e.call;
  deliveries = l.deliveries ++ deliveries_of e.reply;
  flows = l.flows ++ flows_of e.reply;
}

abbrev pub with_entries : Lists → List Entry → Lists
with_entries l [] = l
with_entries l (e ∷ entries) = with_entries (with_entry l e) entries

-- The lists that were made so far.
abbrev pub lists_in : EntryLists → Lists
lists_in made = record { entries = made.entries.items; lines = made.lines.items; deliveries = made.deliveries.items; flows = made.flows.items }

-- A rule's number in the header, and how long lists are.
abbrev pub rule_number : Rule → ℕ
rule_number Ordered = 0
rule_number Free = 1

abbrev pub sizes : Rule → Lists → CHistory
sizes rule l = record {
  entries = length l.entries;
  bytes = length l.lines;
  deliveries = length l.deliveries;
  flows = length l.flows;
  rule = rule_number rule;
  reserved = 0;
}

-- Lists of so many places have room, or one of them has too few.
abbrev pub HaveRoom : CHistory → ℕ → ℕ → ℕ → ℕ → Type 0
HaveRoom h entries bytes deliveries flows = (h.entries ≤ entries) × (h.bytes ≤ bytes) × (h.deliveries ≤ deliveries) × (h.flows ≤ flows)

abbrev pub LackRoom : CHistory → ℕ → ℕ → ℕ → ℕ → Type 0
LackRoom h entries bytes deliveries flows = (entries < h.entries) ⊎ (bytes < h.bytes) ⊎ (deliveries < h.deliveries) ⊎ (flows < h.flows)

-- A text is that of a history, whose entries these are as C reads them.
pub record IsHistory (text : List ℕ) (h : CHistory) (l : Lists) : Type 0 where
  pub rule : Rule
  pub entries : List Entry
  pub text_is : history_in text ≡ Ok (rule, entries)
  pub lists_are : l ≡ with_entries nothing entries
  pub sizes_are : h ≡ sizes rule l
