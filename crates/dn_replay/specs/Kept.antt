-- What is kept of a run for its report: the rows whose packets were accepted, by packet number, and the other rows.
use Rattle.std.specs.Prelude.{◌≡◌, ℕ, ◌+◌, ◌<◌, ◌≤◌, ◌^◌, ◌==◌, ◌&&◌, not, Bool, true, false, cond, List, [], ◌∷◌, ◌++◌, All, filter, length, map, slice_index_or, Option, None, Some, is_some, option_to_list}
use Rattle.std.specs.List.{list_any}
use Rattle.dn_types.specs.Calls.{trace_of}
use Rattle.dn_types.specs.Clock.{call_limit}
use Rattle.dn_types.specs.Replies.{reply}
use Rattle.dn_types.specs.Trace.{accepted_count}
use Rattle.dn_types.specs.declared.call.Call.{Call}
use Rattle.dn_types.specs.declared.call.Call.TheVariants.{Collect}
use Rattle.dn_types.specs.declared.delivery.Delivery.{Delivery}
use Rattle.dn_types.specs.declared.entry.Entry.{Entry}
use Rattle.dn_types.specs.declared.reply.Reply.{Reply}
use Rattle.dn_types.specs.declared.reply.Reply.TheVariants as r
use Rattle.dn_types.specs.declared.rule.Rule.TheVariants.{Ordered}
use Rattle.dn_records.specs.Records.{text_of}
use Rattle.dn_replay.specs.Report.{delivered, deliveries, delivery_of_packet, is_other, is_submit, line_fields, lines_after, queued_line, submits_by}
use Rattle.dn_replay.specs.Runs.{history_of}
use Rattle.dn_replay.specs.declared.report.fate.Fate.{Fate}
use Rattle.dn_replay.specs.declared.report.fate.Fate.TheVariants.{Accepted, Refused}
use Rattle.dn_replay.specs.declared.report.kept.Kept.{Kept}
use Rattle.dn_replay.specs.declared.report.kept_rows.AcceptedRow.{AcceptedRow}
use Rattle.dn_replay.specs.declared.report.kept_rows.RefusedRow.{RefusedRow}
use Rattle.dn_replay.specs.declared.report.line.ReportLine.{ReportLine}
use Rattle.dn_replay.specs.declared.report.line.ReportLine.TheVariants as line
use Rattle.dn_replay.specs.declared.report.refusal.Refusal.{Refusal}
use Rattle.dn_replay.specs.declared.report.refusal.Refusal.TheVariants.{Lost, Full, NoTarget, Unanswered}

-- What became of a packet, by the reply to its Submit.
abbrev pub fate_of : Reply → Fate
fate_of (r.Queued at flow packet) = Accepted flow at
fate_of (r.Lost at flow) = Refused (Lost flow at)
fate_of (r.Full at flow) = Refused (Full flow at)
fate_of (r.NoTarget at) = Refused (NoTarget at)
fate_of _ = Refused Unanswered

abbrev pub is_accepted : Fate → Bool
is_accepted (Accepted flow at) = true
is_accepted (Refused why) = false

-- The target of a packet wasn't configured.
abbrev pub lacks_target : Refusal → Bool
lacks_target (NoTarget at) = true
lacks_target _ = false

abbrev pub is_untargeted : Fate → Bool
is_untargeted (Accepted flow at) = false
is_untargeted (Refused why) = lacks_target why

-- An entry is a row's Submit, and the fate of the packet passes a test.
abbrev pub is_row : (Fate → Bool) → Entry → Bool
is_row test e = is_submit e.call && test (fate_of e.reply)

-- There is a row, and the target of no row is configured.
abbrev pub all_untargeted : List Entry → Bool
all_untargeted entries = not (list_any (is_row (λ f. not (is_untargeted f))) entries) && list_any (is_row is_untargeted) entries

-- The line of a row whose packet wasn't accepted, and of a row by the fate of its packet, which has this number if it was accepted.
abbrev pub refusal_line : ℕ → Refusal → Option ReportLine
refusal_line row (Lost flow at) = Some (line.Lost row flow at)
refusal_line row (Full flow at) = Some (line.Full row flow at)
refusal_line row (NoTarget at) = Some (line.NoTarget row at)
refusal_line row Unanswered = None

abbrev pub fate_line : ℕ → ℕ → List Delivery → Fate → Option ReportLine
fate_line row packet given (Accepted flow at) = Some (queued_line row at flow packet (delivery_of_packet packet given))
fate_line row packet given (Refused why) = refusal_line row why

-- The lines of rows that follow each other, from this row and this packet number on.
unfoldable pub fate_lines : ℕ → ℕ → List Delivery → List Fate → List ReportLine
fate_lines row packet given [] = []
fate_lines row packet given (f ∷ fates) = option_to_list (fate_line row packet given f) ++ fate_lines (row + 1) (cond (is_accepted f) (packet + 1) packet) given fates

-- What is kept of a row by the fate of its packet: of one that was accepted, and of any other.
abbrev pub accepted_row : ℕ → Fate → Option AcceptedRow
accepted_row row (Accepted flow at) = Some (record { row = row; flow = flow; at = at })
accepted_row row (Refused why) = None

abbrev pub refused_row : ℕ → Fate → Option RefusedRow
refused_row row (Accepted flow at) = None
refused_row row (Refused why) = Some (record { row = row; why = why })

-- What is kept of the rows that follow each other, from this row on.
unfoldable pub rows_kept : {R : Type 0} → (ℕ → Fate → Option R) → ℕ → List Fate → List R
rows_kept kept_of row [] = []
rows_kept kept_of row (f ∷ fates) = option_to_list (kept_of row f) ++ rows_kept kept_of (row + 1) fates

-- These are the fates of the rows of which this is kept.
pub record IsKeptOf (kept : Kept) (fates : List Fate) : Type 0 where
  pub accepted : kept.accepted.items ≡ rows_kept accepted_row 1 fates
  pub refused : kept.refused.items ≡ rows_kept refused_row 1 fates

-- By what is kept, there is a row, and the target of no row is configured.
abbrev pub are_untargeted : Kept → Bool
are_untargeted kept = (length kept.accepted.items == 0) && (not (list_any (λ r. not (lacks_target r.why)) kept.refused.items) && list_any (λ r. lacks_target r.why) kept.refused.items)

-- The row of a packet that wasn't accepted, and a row past the last that was refused. They are never asked.
abbrev pub no_row : AcceptedRow
no_row = record { row = 0; flow = 0; at = 0 }

abbrev pub no_refusal : RefusedRow
no_refusal = record { row = 0; why = Unanswered }

-- The line of the row of an accepted packet with this number.
abbrev pub accepted_line : ℕ → List Delivery → AcceptedRow → Option ReportLine
accepted_line packet given own = Some (queued_line own.row own.at own.flow packet (delivery_of_packet packet given))

-- Why the packet of a row wasn't accepted, if it wasn't.
abbrev pub refusal_in : Fate → Option Refusal
refusal_in (Accepted flow at) = None
refusal_in (Refused why) = Some why

-- The text of a line, if there is one and it isn't an `out` line.
abbrev pub other_text : Option ReportLine → List ℕ
other_text o = text_of (map line_fields (filter is_other (option_to_list o)))

-- The `out` line of a delivery, by the row whose packet has its number.
abbrev pub delivery_line : List AcceptedRow → Delivery → ReportLine
delivery_line accepted d = let own = slice_index_or accepted d.packet no_row in line.Out own.row own.flow d.packet own.at d.start d.due

-- The text of the `out` lines of deliveries, in their order.
abbrev pub out_text : Kept → List Delivery → List ℕ
out_text kept given = text_of (map line_fields (map (delivery_line kept.accepted.items) given))

-- The lines of a report: those of the deliveries in their order, and the others in the order of rows, by the fates of the rows' packets.
abbrev pub kept_lines : Kept → List Fate → List Delivery → List ReportLine
kept_lines kept fates given = map (delivery_line kept.accepted.items) given ++ filter is_other (fate_lines 1 0 given fates)

-- Each of the packets given was accepted.
abbrev pub AreKnown : Kept → List Delivery → Type 0
AreKnown kept given = All (λ d. d.packet < length kept.accepted.items) given

-- The marks say for each packet number below n whether the packet is among those given. A packet past the marks is.
abbrev pub AreMarksOf : List Bool → ℕ → List Delivery → Type 0
AreMarksOf marks n given = (packet : ℕ) → packet < n → slice_index_or marks packet true ≡ is_some (delivery_of_packet packet given)

-- Kept has what a report needs of these calls, which deliver nothing: it is kept of the fates of their Submits' packets. The lines of the
-- Submits are those of the fates, whatever a Collect gives after them, and the packets that were accepted have the numbers of their places.
pub record HasKept (kept : Kept) (calls : List Call) : Type 0 where
  pub fates : List Fate
  pub is_of : IsKeptOf kept fates
  pub lines : (given : List Delivery) → lines_after 1 given [] (history_of calls) ≡ fate_lines 1 0 given fates
  pub submits : submits_by 0 (history_of calls) ≡ length fates
  pub numbers : length calls ≤ call_limit → accepted_count (trace_of calls) ≡ length kept.accepted.items
  pub undelivered : deliveries (history_of calls) ≡ []
  pub rows : (test : Fate → Bool) → list_any (is_row test) (history_of calls) ≡ list_any test fates

-- The same, and the list is what a Collect at the last moment gives after them.
pub record CanReport (kept : Kept) (given : List Delivery) (calls : List Call) : Type 0 where
  pub kept_is : HasKept kept calls
  pub given_is : given ≡ delivered (reply Ordered calls (Collect (2 ^ 62)))
