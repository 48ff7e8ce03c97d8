-- The laws of replays and their reports: which calls are made, which lines tell of them, in which order, and as which text.
use Rattle.std.specs.Prelude.{ℕ, ◌≡◌, ◌≢◌, ◌≤◌, ◌<◌, ◌+◌, ◌*◌, ◌^◌, ◌⊎◌, ⊤, Bool, true, false, List, [], ◌∷◌, ◌++◌, length, map, reverse, codes, decimal, Ok}
use Rattle.std.specs.List.{AllPairs, count_by}
use Rattle.dn_files.specs.ConfigFile.{config_file}
use Rattle.dn_files.specs.PacketFile.{packet_file}
use Rattle.dn_files.specs.declared.row.Row.{Row}
use Rattle.dn_laws.specs.Determined.Emulators.{Has}
use Rattle.dn_records.specs.Records.{Fields, records_of}
use Rattle.dn_replay.specs.Replays.{calls_of_inputs}
use Rattle.dn_replay.specs.Report.{report, report_lines}
use Rattle.dn_replay.specs.declared.report.line.ReportLine.{ReportLine}
use Rattle.dn_replay.specs.declared.report.line.ReportLine.TheVariants.{Out, Held, Lost, Full, NoTarget}
use Rattle.dn_types.specs.History.{own_entries}
use Rattle.dn_types.specs.declared.call.Call.{Call}
use Rattle.dn_types.specs.declared.call.Call.TheVariants.{Configure, Submit, Collect}
use Rattle.dn_types.specs.declared.command.Command.{Command}
use Rattle.dn_types.specs.declared.delivery.Delivery.{Delivery}
use Rattle.dn_types.specs.declared.entry.Entry.{Entry}
use Rattle.dn_types.specs.declared.reply.Reply.{Reply}
use Rattle.dn_types.specs.declared.reply.Reply.TheVariants as r

-- A reply of the history delivers this.
abbrev pub Delivers : List Entry → Delivery → Type 0
Delivers entries d = (e : Entry) × (at : ℕ) × (list : List Delivery) × Has entries e × (e.reply ≡ r.Delivered at list) × Has list d

-- What became of the packet of a row, by the reply to its Submit. An accepted packet that is never delivered is held.
abbrev pub Tells : List Entry → ℕ → Reply → ReportLine → Type 0
Tells entries row (r.Queued at flow packet) line = ((d : Delivery) × Delivers entries d × (d.packet ≡ packet) × (line ≡ Out row flow packet at d.start d.due))
    ⊎ (((d : Delivery) → Delivers entries d → d.packet ≢ packet) × (line ≡ Held row flow packet at))
Tells entries row (r.Lost at flow) line = line ≡ Lost row flow at
Tells entries row (r.Full at flow) line = line ≡ Full row flow at
Tells entries row (r.NoTarget at) line = line ≡ NoTarget row at
Tells entries row _ line = ⊥

abbrev pub is_sent : Call → Bool
is_sent (Submit target packet moment) = true
is_sent _ = false

abbrev pub sent : List Entry → ℕ
sent entries = count_by (λ e. is_sent e.call) entries

-- The line of a Submit of the history. Rows count from 1, and go round the n callers.
pub record IsToldOf (n : ℕ) (entries : List Entry) (line : ReportLine) : Type 0 where
  pub before : List Entry
  pub own : Entry
  pub behind : List Entry
  pub among : entries ≡ before ++ own ∷ behind
  pub submits : is_sent own.call ≡ true
  pub tells : Tells entries (own.caller + sent (own_entries own.caller before) * n + 1) own.reply line

-- The lines are those of the Submits, each once. For a line to be there, no packet may be delivered in two ways.
pub record LinesAreOf (n : ℕ) (entries : List Entry) : Type 0 where
  pub only : (line : ReportLine) → Has (report_lines n entries) line → IsToldOf n entries line
  pub each : ((d other : Delivery) → Delivers entries d → Delivers entries other → d.packet ≡ other.packet → d ≡ other)
      → (line : ReportLine) → IsToldOf n entries line → Has (report_lines n entries) line
  pub once : length (report_lines n entries) ≤ sent entries

abbrev pub LinesAreTold : Type 0
LinesAreTold = (n : ℕ) (entries : List Entry) → LinesAreOf n entries

-- The name of a line, its row, and its flow, packet, moment, start and due moment, empty where there is none.
abbrev pub parts : ReportLine → List ℕ × ℕ × Fields
parts (Out row flow packet at start due) = (codes "out", row, map decimal (flow ∷ packet ∷ at ∷ start ∷ due ∷ []))
parts (Held row flow packet at) = (codes "held", row, map decimal (flow ∷ packet ∷ at ∷ []) ++ [] ∷ [] ∷ [])
parts (Lost row flow at) = (codes "lost", row, decimal flow ∷ [] ∷ decimal at ∷ [] ∷ [] ∷ [])
parts (Full row flow at) = (codes "full", row, decimal flow ∷ [] ∷ decimal at ∷ [] ∷ [] ∷ [])
parts (NoTarget row at) = (codes "none", row, [] ∷ [] ∷ decimal at ∷ [] ∷ [] ∷ [])

abbrev pub fields : ReportLine → Fields
fields line = (parts line).0 ∷ decimal ((parts line).1) ∷ (parts line).2

abbrev pub names : Fields
names = codes "event" ∷ codes "row" ∷ codes "flow" ∷ codes "packet" ∷ codes "at" ∷ codes "start" ∷ codes "due" ∷ []

abbrev pub ReportsAreWritten : Type 0
ReportsAreWritten = (n : ℕ) (entries : List Entry) → records_of (report n entries) ≡ names ∷ map fields (report_lines n entries)

-- What was delivered comes first, by due moment and then by packet, and the other lines by row.
abbrev pub Precedes : ReportLine → ReportLine → Type 0
Precedes (Out row flow packet at start due) (Out row2 flow2 packet2 at2 start2 due2) = (due < due2) ⊎ ((due ≡ due2) × (packet ≤ packet2))
Precedes (Out row flow packet at start due) other = ⊤
Precedes other (Out row flow packet at start due) = ⊥
Precedes line other = (parts line).1 ≤ (parts other).1

abbrev pub LinesAreInOrder : Type 0
LinesAreInOrder = (n : ℕ) (entries : List Entry) → AllPairs Precedes (report_lines n entries)

-- A replay makes the commands of its configuration, sends its rows, and collects at the last moment.
abbrev pub InputsAreCalls : Type 0
InputsAreCalls = (config packets : List ℕ) (calls : List Call) → calls_of_inputs config packets ≡ Ok calls →
    (commands : List (ℕ × Command)) × (rows : List Row) × (config_file config ≡ Ok commands) × (packet_file packets ≡ Ok rows)
    × (reverse calls ≡ map (λ c. Configure c.1) commands ++ (map (λ row. Submit row.target row.packet row.moment) rows ++ Collect (2 ^ 62) ∷ []))
