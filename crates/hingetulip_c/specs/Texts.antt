-- The text of an entry in a history file, of what C hands in.
use Rattle.std.specs.Prelude.{◌≡◌, ℕ, ◌^◌, ◌≤◌, ◌<◌, ◌⊎◌, List, Bool, cond, false, length, nat_eq, not, true}
use Rattle.std.specs.List.{list_any}
use Rattle.dn_types.specs.declared.call.Call.{Call}
use Rattle.dn_types.specs.declared.command.Command.{Command}
use Rattle.dn_types.specs.declared.command.Command.TheVariants.{Pipe, Queue, DeletePipe, DeleteQueue}
use Rattle.dn_types.specs.declared.delivery.Delivery.{Delivery}
use Rattle.dn_types.specs.declared.entry.Entry.{Entry}
use Rattle.dn_types.specs.declared.reply.Reply.{Reply}
use Rattle.dn_types.specs.declared.reply.Reply.TheVariants.{Queued, Lost, Full, NoTarget}
use Rattle.dn_types.specs.declared.reply.Reply.TheVariants.{Configured, Deleted, NoSuchPipe, PipeHasQueues, NoSuchQueue, Exhausted}
use Rattle.dn_records.specs.Records.{text_of}
use Rattle.dn_history.specs.HistoryText.{entry_records}
use Rattle.hingetulip_c.specs.Submits.{Faulty, FaultyMoment}
use Rattle.hingetulip_c.specs.declared.records.c_delivery.CDelivery.{CDelivery}
use Rattle.hingetulip_c.specs.declared.records.c_fate.CFate.{CFate}
use Rattle.hingetulip_c.specs.declared.records.c_packet.CPacket.{CPacket}

-- An entry, and its text in a history file.
abbrev pub entry_by : ℕ → Call → Reply → Entry
entry_by caller call reply = record { caller = caller; call = call; reply = reply }

abbrev pub entry_text : ℕ → Call → Reply → List ℕ
entry_text caller call reply = text_of (entry_records (entry_by caller call reply))

-- The reply that a fate tells.
abbrev pub told_by : CFate → Reply
told_by f = cond (nat_eq f.outcome 0) (Queued f.at f.flow f.packet)
    (cond (nat_eq f.outcome 1) (Lost f.at f.flow) (cond (nat_eq f.outcome 2) (Full f.at f.flow) (NoTarget f.at)))

-- Each number of the fate is in range.
pub record IsFate (f : CFate) : Type 0 where
  pub outcome : f.outcome ≤ 3
  pub reserved : f.reserved ≡ 0

-- The status tells of a number of the fate that is out of range.
abbrev pub FaultyFate : CFate → ℕ → Type 0
FaultyFate f status = ((status ≡ 21) × (3 < f.outcome)) ⊎ ((status ≡ 14) × (0 < f.reserved))

-- The status tells of a caller's number above 15.
abbrev pub FaultyCaller : ℕ → ℕ → Type 0
FaultyCaller caller status = (status ≡ 20) × (15 < caller)

-- The status tells of a number that is out of range: the caller's, the packet's or the fate's.
abbrev pub FaultySubmit : ℕ → CPacket → CFate → ℕ → Type 0
FaultySubmit caller p f status = FaultyCaller caller status ⊎ Faulty p status ⊎ FaultyFate f status

-- Memory was refused (6), or the entry's text is longer than the room (7).
abbrev pub LacksRoom : List ℕ → ℕ → ℕ → Type 0
LacksRoom text size status = (status ≡ 6) ⊎ ((status ≡ 7) × (length text < size))

-- A delivery that C hands in.
abbrev pub delivery_of : CDelivery → Delivery
delivery_of d = record { due = d.due; packet = d.packet; flow = d.flow; start = d.start }

-- The field `reserved` of a delivery isn't 0.
abbrev pub has_reserved : List CDelivery → Bool
has_reserved list = list_any (λ d. not (nat_eq d.reserved 0)) list

-- Each number of a collect is in range.
abbrev pub IsCollect : ℕ → ℕ → List CDelivery → Type 0
IsCollect caller moment list = (caller ≤ 15) × (moment ≤ 2 ^ 62) × (has_reserved list ≡ false)

-- The status tells of a number of a collect that is out of range.
abbrev pub FaultyCollect : ℕ → ℕ → List CDelivery → ℕ → Type 0
FaultyCollect caller moment list status = FaultyCaller caller status ⊎ FaultyMoment moment status ⊎ ((status ≡ 14) × (has_reserved list ≡ true))

-- The reply to a command that was obeyed.
abbrev pub obeyed : Command → Reply
obeyed (Pipe number bw delay limit loss buckets mask) = Configured
obeyed (Queue number pipe weight limit loss buckets mask) = Configured
obeyed (DeletePipe number) = Deleted
obeyed (DeleteQueue number) = Deleted

-- The reply to a command that a status tells.
abbrev pub told_of : Command → ℕ → Reply
told_of command status = cond (nat_eq status 0) (obeyed command)
    (cond (nat_eq status 1) Exhausted (cond (nat_eq status 2) NoSuchPipe (cond (nat_eq status 3) PipeHasQueues NoSuchQueue)))
