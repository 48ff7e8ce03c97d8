-- The report of what is kept: its text, and whether that was written.
use Rattle.std.specs.Prelude.{◌≡◌, ℕ, ◌∷◌, ◌++◌, ◌^◌, Bool, drop, filter, length, List, map, Option}
use Rattle.std.specs.Io.KnownBytes.{Appends}
use Rattle.dn_types.specs.Replies.{reply}
use Rattle.dn_types.specs.declared.call.Call.{Call}
use Rattle.dn_types.specs.declared.call.Call.TheVariants.{Collect, Submit}
use Rattle.dn_types.specs.declared.delivery.Delivery.{Delivery}
use Rattle.dn_types.specs.declared.entry.Entry.{Entry}
use Rattle.dn_types.specs.declared.packet.Packet.{Packet}
use Rattle.dn_types.specs.declared.reply.Reply.{Reply}
use Rattle.dn_types.specs.declared.rule.Rule.TheVariants.{Ordered}
use Rattle.dn_types.specs.declared.target.Target.{Target}
use Rattle.dn_files.specs.Writing.{IsUnwritten}
use Rattle.dn_files.specs.declared.replay_fault.ReplayFault.{ReplayFault}
use Rattle.dn_files.specs.declared.source.Source.TheVariants.{Report}
use Rattle.dn_records.specs.Devices.{AppendsPart}
use Rattle.dn_records.specs.Records.{text_of}
use Rattle.dn_replay.specs.Kept.{accepted_row, all_untargeted, AreMarksOf, CanReport, fate_lines, HasKept, IsKeptOf, kept_lines, refusal_in, rows_kept}
use Rattle.dn_replay.specs.Parts.{IsUnderWay}
use Rattle.dn_replay.specs.Report.{is_other, line_fields, report, report_header}
use Rattle.dn_replay.specs.Runs.{history_of}
use Rattle.dn_replay.specs.declared.report.fate.Fate.{Fate}
use Rattle.dn_replay.specs.declared.report.kept.Kept.{Kept}
use Rattle.dn_replay.specs.declared.report.kept_rows.AcceptedRow.{AcceptedRow}
use Rattle.dn_replay.specs.declared.report.refusal.Refusal.{Refusal}

-- Whatever calls this was kept of, it is kept of a Submit more, which has this reply.
abbrev pub KeepsReply : Reply → Kept → Kept → Type 0
KeepsReply answer old new = (calls : List Call) (target : Target) (packet : Packet) (moment : ℕ) →
    HasKept old calls →
    answer ≡ reply Ordered calls (Submit target packet moment) →
    HasKept new (Submit target packet moment ∷ calls)

-- Whatever is given by these marks of the packets below n, this is so of it.
abbrev pub OfMarked : List Bool → ℕ → (List Delivery → Type 0) → Type 0
OfMarked marks n is = (given : List Delivery) → AreMarksOf marks n given → is given

-- The same of the fate of a row too: its packet was refused, or is the next of those accepted, and has this number.
abbrev pub OfFate : List Bool → List AcceptedRow → ℕ → ℕ → Option Refusal → (List Delivery → Fate → Type 0) → Type 0
OfFate marks accepted row packet refusal is = (given : List Delivery) (fate : Fate) (fates : List Fate) →
    AreMarksOf marks (length accepted) given → refusal ≡ refusal_in fate →
    drop packet accepted ≡ rows_kept accepted_row row (fate ∷ fates) → is given fate

-- The text of the lines of rows whose packets weren't given.
abbrev pub others_text : List Delivery → List Fate → List ℕ
others_text given fates = text_of (map line_fields (filter is_other (fate_lines 1 0 given fates)))

-- Those lines were added to whatever text was under way.
abbrev pub AddsOthers : Kept → List Bool → Option (List ℕ) → List ℕ → Option (List ℕ) → List ℕ → Type 0
AddsOthers kept marks old buffer new left = (start : Option (List ℕ)) (before : List ℕ) (given : List Delivery) (fates : List Fate) →
    IsKeptOf kept fates → AreMarksOf marks (length kept.accepted.items) given →
    IsUnderWay start old buffer before → IsUnderWay start new left (before ++ others_text given fates)

-- A write failed while they were added.
abbrev pub BreaksOffInOthers : Kept → List Bool → Option (List ℕ) → List ℕ → Option (List ℕ) → Type 0
BreaksOffInOthers kept marks old buffer new = (start : Option (List ℕ)) (before : List ℕ) (given : List Delivery) (fates : List Fate) →
    IsKeptOf kept fates → AreMarksOf marks (length kept.accepted.items) given →
    IsUnderWay start old buffer before → AppendsPart start new (before ++ others_text given fates)

-- The text of a whole report.
abbrev pub kept_text : Kept → List Delivery → List Fate → List ℕ
kept_text kept given fates = text_of (report_header ∷ map line_fields (kept_lines kept fates given))

-- It was written, or a write failed after a part of it.
abbrev pub WritesKept : Kept → List Delivery → Option (List ℕ) → Option (List ℕ) → Type 0
WritesKept kept given old new = (fates : List Fate) → IsKeptOf kept fates → Appends old new (kept_text kept given fates)

abbrev pub BreaksOffKept : Kept → List Delivery → Option (List ℕ) → Option (List ℕ) → Type 0
BreaksOffKept kept given old new = (fates : List Fate) → IsKeptOf kept fates → AppendsPart old new (kept_text kept given fates)

-- The history of calls and of a Collect at the last moment.
abbrev pub whole_history : List Call → List Entry
whole_history calls = history_of (Collect (2 ^ 62) ∷ calls)

-- The report of whatever calls this was kept of was written, and it is told whether no row has a target.
abbrev pub ReportsKept : Kept → List Delivery → Bool → Option (List ℕ) → Option (List ℕ) → Type 0
ReportsKept kept given untargeted old new = (calls : List Call) → CanReport kept given calls →
    Appends old new (report 1 (whole_history calls)) × (untargeted ≡ all_untargeted (whole_history calls))

-- Why it wasn't written.
abbrev pub LeavesKept : Kept → List Delivery → Option (List ℕ) → Option (List ℕ) → Bool → ReplayFault → Type 0
LeavesKept kept given old new failed fault = (calls : List Call) → CanReport kept given calls →
    IsUnwritten Report (report 1 (whole_history calls)) old new failed fault
