-- What the words of a command line ask for, and why they ask for nothing.
use Rattle.std.specs.Prelude.{◌≡◌, ◌≢◌, ◌⊎◌, ◌<◌, ◌^◌, ⊤, ℕ, Bool, true, false, IsTrue, List, [], Option, Some, None, codes, is_some, option_map, unwrap_or}
use Rattle.std.specs.Str.{bytes_eq}
use Rattle.std.specs.Str.Parse.{IsNumeral, digits_value, without_leading_plus}
use Rattle.clap.specs.Words.{IsAmong, Row, Text, fault_of, first_of, kind_of, one_of, subcommand_of}
use Rattle.clap.specs.declared.error.Error.{Error}
use Rattle.clap.specs.declared.error.kind.ErrorKind.{ErrorKind}
use Rattle.clap.specs.declared.error.kind.ErrorKind.TheVariants as kind
use Rattle.dummynet.specs.Program.{program}
use Rattle.dummynet.specs.declared.refusal.Refusal.{Refusal}
use Rattle.dummynet.specs.declared.refusal.Refusal.TheVariants as refusal
use Rattle.dummynet.specs.declared.request.Audit.{Audit}
use Rattle.dummynet.specs.declared.request.Replay.{Replay}
use Rattle.dummynet.specs.declared.request.Request.{Request}
use Rattle.dummynet.specs.declared.request.Request.TheVariants as request

-- The value of an argument, and the empty text where it has none.
abbrev pub value_of : Text → List Row → Text
value_of id rows = unwrap_or (first_of id rows) []

-- The text is a number below 2^64 in decimal digits.
abbrev pub IsNumber : Text → Type 0
IsNumber text = IsNumeral 10 (without_leading_plus text) × (digits_value 10 (without_leading_plus text) < 2 ^ 64)

-- The number that stands in the value of an argument, if one does.
abbrev pub IsCountOf : Option Text → Option ℕ → Type 0
IsCountOf None count = count ≡ None
IsCountOf (Some text) None = IsNumber text → ⊥
IsCountOf (Some text) (Some n) = IsNumber text × (n ≡ digits_value 10 (without_leading_plus text))

-- The replay that the values of its arguments ask for.
pub record IsReplayOf (rows : List Row) (replay : Replay) : Type 0 where
  pub config : replay.config.now ≡ value_of (codes "config") rows
  pub packets : replay.packets.now ≡ value_of (codes "packets") rows
  pub callers : IsCountOf (one_of (codes "callers") rows) replay.callers
  pub history : option_map (λ s. s.now) replay.history ≡ first_of (codes "history") rows
  pub most_packets : IsCountOf (one_of (codes "most-packets") rows) replay.most_packets

-- The audit that they ask for.
pub record IsAuditOf (rows : List Row) (audit : Audit) : Type 0 where
  pub history : audit.history.now ≡ value_of (codes "history") rows
  pub most_history : IsCountOf (one_of (codes "most-history") rows) audit.most_history

abbrev pub AsksForAudit : List Row → Request → Type 0
AsksForAudit rows (request.Audit audit) = IsAuditOf rows audit
AsksForAudit rows _ = ⊥

abbrev pub AsksForReplay : List Row → Request → Type 0
AsksForReplay rows (request.Replay replay) = IsReplayOf rows replay
AsksForReplay rows _ = ⊥

-- By whether the command is audit, and whether it is live.
abbrev pub AsksByName : Bool → Bool → List Row → Request → Type 0
AsksByName true _ rows r = AsksForAudit rows r
AsksByName false true rows r = r ≡ request.Live
AsksByName false false rows r = AsksForReplay rows r

-- What the command asks for with the values of its arguments, and a command line without one.
abbrev pub AsksFor : Option (Text × List Row) → Request → Type 0
AsksFor None r = r ≡ request.Joined
AsksFor (Some command) r =
    AsksByName (bytes_eq command.0 (codes "audit")) (bytes_eq command.0 (codes "live")) command.1 r

-- The history would go where the configuration or the packets are read from, by the same word.
abbrev pub Overwrites : Request → Type 0
Overwrites (request.Replay replay) = (option_map (λ s. s.now) replay.history ≡ Some replay.config.now)
    ⊎ (option_map (λ s. s.now) replay.history ≡ Some replay.packets.now)
Overwrites _ = ⊥

-- A limit of the packets is given to callers, who have the usual one.
abbrev pub LimitsCallers : Request → Type 0
LimitsCallers (request.Replay replay) = IsTrue (is_some replay.callers) × IsTrue (is_some replay.most_packets)
LimitsCallers _ = ⊥

-- Arguments that don't go together.
abbrev pub Conflicts : Request → Type 0
Conflicts r = Overwrites r ⊎ LimitsCallers r

-- The words, the program's name first, are understood, and ask for this.
pub record Asks (words : List Text) (r : Request) : Type 0 where
  pub understood : fault_of program words ≡ []
  pub asked : AsksFor (subcommand_of program words) r
  pub spares_inputs : Overwrites r → ⊥
  pub fits : LimitsCallers r → ⊥

-- They ask for a replay whose arguments don't go together.
abbrev pub AskInConflict : List Text → Type 0
AskInConflict words = (r : Request) × AsksFor (subcommand_of program words) r × Conflicts r

-- Why they ask for nothing: want of memory, which comes with any words, or a kind of fault that they have.
abbrev pub IsRefusedFor : List Text → Refusal → Type 0
IsRefusedFor words refusal.OutOfMemory = ⊤
IsRefusedFor words refusal.NotUtf8 = ⊥
IsRefusedFor words (refusal.Told e) = IsAmong (kind_of e) (fault_of program words)
    ⊎ ((kind_of e ≡ kind.ArgumentConflict) × AskInConflict words)

-- The words themselves can't be had.
abbrev pub IsUnread : Refusal → Type 0
IsUnread refusal.OutOfMemory = ⊤
IsUnread refusal.NotUtf8 = ⊤
IsUnread (refusal.Told e) = ⊥

-- clap's error as a refusal: want of memory is one of its own.
abbrev pub IsToldAs : Error → Refusal → Type 0
IsToldAs e refusal.OutOfMemory = kind_of e ≡ kind.OutOfMemory
IsToldAs e refusal.NotUtf8 = ⊥
IsToldAs e (refusal.Told told) = (told ≡ e) × (kind_of e ≢ kind.OutOfMemory)

-- The status with which the program ends: 0 where the words asked for help or the version, and 2 for usage.
abbrev pub told_status : ErrorKind → ℕ
told_status kind.DisplayHelp = 0
told_status kind.DisplayVersion = 0
told_status _ = 2

-- The same of any refusal: 5 for memory.
abbrev pub refusal_status : Refusal → ℕ
refusal_status refusal.OutOfMemory = 5
refusal_status refusal.NotUtf8 = 2
refusal_status (refusal.Told e) = told_status (kind_of e)
