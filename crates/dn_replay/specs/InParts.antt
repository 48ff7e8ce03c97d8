-- A replay whose input comes in parts: which text has come, and what it asks for.
use Rattle.std.specs.Prelude.{◌≡◌, ◌<◌, ◌≤◌, ◌+◌, ◌^◌, length, ℕ, Bool, List, [], ◌++◌, Option, None, Some, Result}
use Rattle.dn_types.specs.declared.call.Call.{Call}
use Rattle.dn_types.specs.declared.entry.Entry.{Entry}
use Rattle.dn_files.specs.Reading.{◌>>=◌, IsFaultOf, IsTextOf, within_limit}
use Rattle.dn_files.specs.declared.replay_fault.ReplayFault.{ReplayFault}
use Rattle.dn_files.specs.declared.replay_fault.ReplayFault.TheVariants.{OutOfMemory, TooLong}
use Rattle.dn_files.specs.declared.source.Source.{Source}
use Rattle.dn_files.specs.declared.source.Source.TheVariants.{Input, Packets}
use Rattle.dn_replay.specs.Held.{has_entries}
use Rattle.dn_replay.specs.OnePass.{HasTaken, IsAnswered, NoneFailed}
use Rattle.dn_replay.specs.Replays.{calls_of_joined_within, calls_within, IsUnreplayed, TextFailed}
use Rattle.dn_replay.specs.declared.replays.pass.Pass.{Pass}
use Rattle.dn_replay.specs.declared.replays.stage.Stage.{Stage}
use Rattle.dn_replay.specs.declared.replays.stage.Stage.TheVariants.{Refused}

-- A limit is so small that all calls of a text within it count.
abbrev pub IsLimit : ℕ → Type 0
IsLimit limit = limit ≤ 2 ^ 40

-- What a text of at most so many bytes asks for: the packets behind this configuration, or, where there is none, a joined input.
abbrev pub calls_asked : ℕ → Option (List ℕ) → List ℕ → Result (List Call) ReplayFault
calls_asked limit None text = calls_of_joined_within limit text
calls_asked limit (Some config) text = calls_within limit config text

-- The name of such a text in a fault.
abbrev pub source_of : Option (List ℕ) → Source
source_of None = Input
source_of (Some config) = Packets

-- What is known of a replay under way: whether it records, the configuration before its text, if there is one, and the text's limit.
pub record AskedOf : Type 0 where
  pub records : Bool
  pub config : Option (List ℕ)
  pub limit : ℕ

-- Which part of its text a replay under way reads, what it has made, the name of the text in a fault, how long that can be, and how long
-- it is so far.
pub record Coming : Type 0 where
  pub stage : Stage
  pub pass : Pass
  pub source : Source
  pub limit : ℕ
  pub length : ℕ

-- This text has come of the packets behind a configuration, or of a joined input, and each call is kept with its reply, or isn't.
pub record HasCome (records : Bool) (replay : Coming) (config : Option (List ℕ)) (text : List ℕ) : Type 0 where
  pub records_is : has_entries replay.pass.held ≡ records
  pub source_is : replay.source ≡ source_of config
  pub size : replay.length ≡ length text
  pub short : length text ≤ replay.limit
  pub few : IsLimit replay.limit
  pub asked : List ℕ → Result (List Call) ReplayFault
  pub asks : (whole : List ℕ) → calls_asked replay.limit config whole ≡ (within_limit replay.limit (source_of config) whole >>= asked)
  pub taken : HasTaken replay.stage records replay.pass asked text

-- Some text has come.
abbrev pub CanGoOn : Coming → Type 0
CanGoOn replay = (records : Bool) × (config : Option (List ℕ)) × (text : List ℕ) × HasCome records replay config text

-- What an input may have held asks for these calls, or has this fault.
abbrev pub IsAskedBehind : ℕ → Option (List ℕ) → Option (List ℕ) → Result (List Call) ReplayFault → Type 0
IsAskedBehind limit config known asked = (text : List ℕ) × IsTextOf known text × (calls_asked limit config text ≡ asked)

-- Of whatever text has come, this is so.
abbrev pub Come : Coming → (Bool → Option (List ℕ) → List ℕ → Type 0) → Type 0
Come replay is = (records : Bool) (config : Option (List ℕ)) (text : List ℕ) → HasCome records replay config text → is records config text

-- A part more has come.
abbrev pub ComesMore : List ℕ → Coming → Coming → Type 0
ComesMore part old new = Come old (λ records config text. HasCome records new config (text ++ part))

-- Each text that goes on with this part has this fault, or memory was refused.
abbrev pub IsFaultBehind : List ℕ → Coming → ReplayFault → Type 0
IsFaultBehind part replay fault = (records : Bool) (config : Option (List ℕ)) (text more : List ℕ)
    → HasCome records replay config text → IsFaultOf (calls_asked replay.limit config (text ++ (part ++ more))) fault

-- What has come, and is the whole text, was answered. If it wasn't, why not.
abbrev pub AnswersCome : Coming → List Entry → Bool → Option (List ℕ) → Option (List ℕ) → Type 0
AnswersCome replay entries untargeted old new = Come replay (λ records config text.
    IsAnswered records (λ asked. calls_asked replay.limit config text ≡ asked) entries untargeted old new)

abbrev pub LeavesCome : Coming → Option (List ℕ) → Option (List ℕ) → Bool → ReplayFault → Type 0
LeavesCome replay old new failed fault = Come replay (λ records config text.
    IsUnreplayed NoneFailed (λ asked. calls_asked replay.limit config text ≡ asked) old new failed fault)

-- Of a replay of which nothing has come, this is so.
abbrev pub First : Coming → (Bool → Option (List ℕ) → Type 0) → Type 0
First replay is = (records : Bool) (config : Option (List ℕ)) → HasCome records replay config [] → is records config

-- What an input may have held has come.
abbrev pub ComesWhole : Option (List ℕ) → Coming → Coming → Type 0
ComesWhole known old new = (text : List ℕ) × IsTextOf known text × First old (λ records config. HasCome records new config text)

-- It was answered. If it wasn't, why not, where a read of the input can have failed.
abbrev pub AnswersWhole : Option (List ℕ) → Coming → List Entry → Bool → Option (List ℕ) → Option (List ℕ) → Type 0
AnswersWhole known replay entries untargeted old new = (text : List ℕ) × IsTextOf known text × First replay (λ records config.
    IsAnswered records (λ asked. calls_asked replay.limit config text ≡ asked) entries untargeted old new)

abbrev pub LeavesWhole : Option (List ℕ) → Bool → Coming → Option (List ℕ) → Option (List ℕ) → Bool → ReplayFault → Type 0
LeavesWhole known read_failed replay old new failed fault = First replay (λ records config.
    IsUnreplayed (TextFailed (source_of config) read_failed) (IsAskedBehind replay.limit config known) old new failed fault)

-- Memory was refused for a part, so that the replay ends with OutOfMemory, whatever comes.
abbrev pub LacksMemory : Coming → Type 0
LacksMemory replay = replay.stage ≡ Refused OutOfMemory

-- Why a part isn't taken, and how that leaves the replay. With a text that is too long the replay is as before, and else it lacks memory.
abbrev pub IsUnfed : Coming → Coming → List ℕ → ReplayFault → Type 0
IsUnfed old new part (TooLong what) = (what ≡ old.source) × (old.limit < old.length + length part) × (new ≡ old)
IsUnfed old new part OutOfMemory = (old.length + length part ≤ old.limit) × LacksMemory new
IsUnfed old new part _ = ⊥
