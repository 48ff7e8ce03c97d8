-- The steps of a replay in one pass: what holds behind each, of whatever text had come before it.
use Rattle.std.specs.Prelude.{◌≡◌, ℕ, Bool, List, [], ◌++◌, Option, Result, Ok}
use Rattle.dn_types.specs.declared.call.Call.{Call}
use Rattle.dn_types.specs.declared.entry.Entry.{Entry}
use Rattle.dn_config.specs.Tokens.Joined.{joined_parts}
use Rattle.dn_files.specs.declared.replay_fault.ReplayFault.{ReplayFault}
use Rattle.dn_files.specs.declared.row.Row.{Row}
use Rattle.dn_replay.specs.Rows.{submitted}
use Rattle.dn_replay.specs.Configuring.{configured_by}
use Rattle.dn_replay.specs.Held.{GoesOn, has_entries}
use Rattle.dn_replay.specs.OnePass.{AreFew, calls_with, HasFed, HasTaken, IsAnswered, IsConfigSoFar, IsCutAt, NoneFailed}
use Rattle.dn_replay.specs.Replays.{IsUnreplayed}
use Rattle.dn_replay.specs.declared.config.config_part.ConfigPart.{ConfigPart}
use Rattle.dn_replay.specs.declared.config.run.Run.{Run}
use Rattle.dn_replay.specs.declared.replays.held.Held.{Held}
use Rattle.dn_replay.specs.declared.replays.pass.Pass.{Pass}
use Rattle.dn_replay.specs.declared.replays.stage.Stage.{Stage}
use Rattle.dn_replay.specs.declared.report.kept.Kept.{Kept}

-- The packets of these rows were submitted behind whatever calls were made.
abbrev pub Submits : List Row → Held → Run → Kept → Held → Run → Kept → Type 0
Submits rows = GoesOn (λ calls. submitted calls rows)

-- A part more of a configuration has come, in which the line `--` doesn't end.
abbrev pub TakesLines : List ℕ → ConfigPart → ConfigPart → Type 0
TakesLines part old new = (text : List ℕ) → IsConfigSoFar old text → IsConfigSoFar new (text ++ part)

-- The line ends in the part. Up to there the configuration has these lines, and this rest of the part comes behind it.
abbrev pub IsCutIn : List ℕ → ConfigPart → List ℕ → List ℕ → Type 0
IsCutIn part old lines rest = (text : List ℕ) → IsConfigSoFar old text
    → (more : List ℕ) → joined_parts (text ++ (part ++ more)) ≡ (lines, rest ++ more)

-- Of whatever a pass was fed, this is so.
abbrev pub Fed : Pass → (Bool → List Call → List ℕ → Type 0) → Type 0
Fed pass is = (records : Bool) (calls : List Call) (text : List ℕ) → HasFed records pass calls text → is records calls text

-- A pass has made the commands of a configuration's text, and was given no packets yet.
abbrev pub Configures : List ℕ → Pass → Pass → Type 0
Configures config old new = (calls : List Call) × (configured_by config ≡ Ok calls) × HasFed (has_entries old.held) new calls []

-- A pass was fed a part more.
abbrev pub FeedsPart : List ℕ → Pass → Pass → Type 0
FeedsPart part old new = Fed old (λ records calls text. HasFed records new calls (text ++ part))

-- What a pass was fed, and is the whole text, was answered. If it wasn't, why not.
abbrev pub AnswersFed : Pass → List Entry → Bool → Option (List ℕ) → Option (List ℕ) → Type 0
AnswersFed pass entries untargeted old new = Fed pass (λ records calls text. AreFew (calls_with calls text)
    → IsAnswered records (λ asked. calls_with calls text ≡ asked) entries untargeted old new)

abbrev pub LeavesFed : Pass → Option (List ℕ) → Option (List ℕ) → Bool → ReplayFault → Type 0
LeavesFed pass old new failed fault = Fed pass (λ records calls text. AreFew (calls_with calls text)
    → IsUnreplayed NoneFailed (λ asked. calls_with calls text ≡ asked) old new failed fault)

-- Of whatever has come to a stage and its pass, this is so.
abbrev pub Taken : Stage → Pass → (Bool → (List ℕ → Result (List Call) ReplayFault) → List ℕ → Type 0) → Type 0
Taken stage pass is = (records : Bool) (asked : List ℕ → Result (List Call) ReplayFault) (text : List ℕ)
    → HasTaken stage records pass asked text → is records asked text

-- A part more has come.
abbrev pub TakesPart : List ℕ → Stage → Pass → Stage → Pass → Type 0
TakesPart part stage old next new = Taken stage old (λ records asked text. HasTaken next records new asked (text ++ part))

-- Whatever text is cut into this configuration and these first bytes of packets has come.
abbrev pub TakesConfig : List ℕ → List ℕ → Pass → Stage → Pass → Type 0
TakesConfig config packets old stage new = (asked : List ℕ → Result (List Call) ReplayFault) (text : List ℕ)
    → IsCutAt asked text config packets → HasTaken stage (has_entries old.held) new asked text

-- What has come, and is the whole text, was answered. If it wasn't, why not.
abbrev pub AnswersTaken : Stage → Pass → List Entry → Bool → Option (List ℕ) → Option (List ℕ) → Type 0
AnswersTaken stage pass entries untargeted old new = Taken stage pass (λ records asked text. AreFew (asked text)
    → IsAnswered records (λ r. asked text ≡ r) entries untargeted old new)

abbrev pub LeavesTaken : Stage → Pass → Option (List ℕ) → Option (List ℕ) → Bool → ReplayFault → Type 0
LeavesTaken stage pass old new failed fault = Taken stage pass (λ records asked text. AreFew (asked text)
    → IsUnreplayed NoneFailed (λ r. asked text ≡ r) old new failed fault)
