-- A replay in one pass: what has been made and kept of an input whose parts have come so far.
use Rattle.std.specs.Prelude.{◌≡◌, ◌==◌, ◌||◌, ◌++◌, ◌<◌, ◌^◌, bytes_eq, codes, length, ℕ, Bool, true, false, List, [], Option, None, Result, Ok, IfOk, All}
use Rattle.std.specs.Io.KnownBytes.{Appends}
use Rattle.dn_types.specs.History.{IsLawful}
use Rattle.dn_types.specs.declared.call.Call.{Call}
use Rattle.dn_types.specs.declared.entry.Entry.{Entry}
use Rattle.dn_types.specs.declared.rule.Rule.TheVariants.{Ordered}
use Rattle.dn_config.specs.Tokens.Joined.{joined_parts, parts_from}
use Rattle.dn_files.specs.PacketFile.{rows_of}
use Rattle.dn_files.specs.PacketParts.{HasRead}
use Rattle.dn_files.specs.Reading.{◌>>=◌, IsFaultOf}
use Rattle.dn_files.specs.declared.replay_fault.ReplayFault.{ReplayFault}
use Rattle.dn_files.specs.declared.row.Row.{Row}
use Rattle.dn_files.specs.declared.source.Source.{Source}
use Rattle.dn_replay.specs.Rows.{submitted}
use Rattle.dn_replay.specs.Held.{has_entries, HasAnswered, HasMadeLast, HoldsNothing}
use Rattle.dn_replay.specs.Kept.{all_untargeted, HasKept}
use Rattle.dn_replay.specs.Replays.{calls_of_parts, IsReplayed}
use Rattle.dn_replay.specs.Report.{report}
use Rattle.dn_replay.specs.Runs.{HasMade, history_of, replayed}
use Rattle.dn_replay.specs.declared.config.config_part.ConfigPart.{ConfigPart}
use Rattle.dn_replay.specs.declared.replays.pass.Pass.{Pass}
use Rattle.dn_replay.specs.declared.replays.stage.Stage.{Stage}
use Rattle.dn_replay.specs.declared.replays.stage.Stage.TheVariants.{Config, Packets, Refused}

-- There are calls that are asked for, and the report of their history, which is lawful, was written. It is told whether no row has a target.
abbrev pub IsReportedFor : (Result (List Call) ReplayFault → Type 0) → Bool → Option (List ℕ) → Option (List ℕ) → Type 0
IsReportedFor Asked untargeted old new =
    (calls : List Call) × Asked (Ok calls) × IsLawful Ordered (history_of calls) × Appends old new (report 1 (history_of calls)) × (untargeted ≡ all_untargeted (history_of calls))

-- What is asked for was answered: by its report, and by its history too if that is recorded. If not, no entry is returned.
abbrev pub IsAnswered : Bool → (Result (List Call) ReplayFault → Type 0) → List Entry → Bool → Option (List ℕ) → Option (List ℕ) → Type 0
IsAnswered true Asked entries untargeted old new = IsReplayed Asked entries old new × (untargeted ≡ all_untargeted entries)
IsAnswered false Asked entries untargeted old new = (entries ≡ []) × IsReportedFor Asked untargeted old new

-- No read failed.
abbrev pub NoneFailed : Option Source → Type 0
NoneFailed what = what ≡ None

-- The calls of a replay of a packet file's text after those of a configuration.
abbrev pub calls_with : List Call → List ℕ → Result (List Call) ReplayFault
calls_with calls text = rows_of text >>= λ rows. Ok (replayed calls rows)

-- Where calls are asked for, they are so few that all count, also with as many Collects in passing.
abbrev pub AreFew : Result (List Call) ReplayFault → Type 0
AreFew asked = IfOk asked (λ calls. length calls < 2 ^ 61)

-- A pass has made no call and read nothing.
pub record IsFresh (pass : Pass) : Type 0 where
  pub made : HasMade pass.run []
  pub kept : HasKept pass.kept []
  pub holds : HoldsNothing pass.held
  pub read : HasRead pass.reader [] []

-- A pass that records its calls, or doesn't, has made these and, of the packets' text that has come so far, the Submits of the rows that
-- it took.
pub record HasFed (records : Bool) (pass : Pass) (calls : List Call) (text : List ℕ) : Type 0 where
  pub records_is : has_entries pass.held ≡ records
  pub rows : List Row
  pub read : HasRead pass.reader text rows
  pub answered : HasAnswered pass.held pass.run pass.kept (submitted calls rows)

-- A pass that records its calls, or doesn't, has made these and then the Collect at the last moment.
pub record HasEnded (records : Bool) (pass : Pass) (calls : List Call) : Type 0 where
  pub records_is : has_entries pass.held ≡ records
  pub made : HasMadeLast pass.held pass.run pass.kept calls

-- It has done so behind these calls and the Submits of all rows of a packets' text.
abbrev pub HasEndedWith : Bool → Pass → List Call → List ℕ → Type 0
HasEndedWith records pass calls text = (rows : List Row) × (rows_of text ≡ Ok rows) × HasEnded records pass (submitted calls rows)

-- A line that a line feed makes the line `--`.
abbrev pub is_mark : List ℕ → Bool
is_mark line = bytes_eq line (codes "--") || bytes_eq line (codes "--\r")

-- No line feed stands in a text.
abbrev pub IsLine : List ℕ → Type 0
IsLine text = All (λ byte. (byte == 10) ≡ false) text

-- The two parts of a text that goes on behind this front.
abbrev pub behind : List ℕ → List ℕ × List ℕ → List ℕ × List ℕ
behind front parts = (front ++ parts.0, parts.1)

-- The line `--` hasn't ended in the text so far: what comes is cut where it ends in the last line or later.
pub record IsConfigSoFar (part : ConfigPart) (text : List ℕ) : Type 0 where
  pub line : IsLine part.line.items
  pub cuts : (more : List ℕ) → joined_parts (text ++ more) ≡ behind part.lines.items (parts_from true (part.line.items ++ more))

-- Whatever comes behind this text, it asks for what the configuration and then the packets and what comes ask for.
abbrev pub IsCutAt : (List ℕ → Result (List Call) ReplayFault) → List ℕ → List ℕ → List ℕ → Type 0
IsCutAt asked text config packets = (more : List ℕ) → asked (text ++ more) ≡ calls_of_parts (config, packets ++ more)

-- This text has come of a replay, whose whole text asks for what `asked` gives, and whose calls are recorded, or aren't. By the stage, a
-- configuration's lines have come; or its calls were made, and packets' text has come; or it has this fault, whatever comes.
abbrev pub HasTaken : Stage → Bool → Pass → (List ℕ → Result (List Call) ReplayFault) → List ℕ → Type 0
HasTaken (Config part) records pass asked text =
    (has_entries pass.held ≡ records) × IsFresh pass × IsConfigSoFar part text × ((whole : List ℕ) → asked whole ≡ calls_of_parts (joined_parts whole))
HasTaken Packets records pass asked text =
    (calls : List Call) × (packets : List ℕ) × HasFed records pass calls packets × ((more : List ℕ) → asked (text ++ more) ≡ calls_with calls (packets ++ more))
HasTaken (Refused fault) records pass asked text = (has_entries pass.held ≡ records) × ((more : List ℕ) → IsFaultOf (asked (text ++ more)) fault)

-- Some text has come.
abbrev pub CanTake : Stage → Pass → Type 0
CanTake stage pass = (records : Bool) × (asked : List ℕ → Result (List Call) ReplayFault) × (text : List ℕ) × HasTaken stage records pass asked text

-- This is the whole text of a replay, and a pass has made the calls of its configuration and was given its packets.
abbrev pub HasTakenAll : Bool → Pass → (List ℕ → Result (List Call) ReplayFault) → List ℕ → Type 0
HasTakenAll records pass asked text = (calls : List Call) × (packets : List ℕ) × HasFed records pass calls packets × (asked text ≡ calls_with calls packets)
