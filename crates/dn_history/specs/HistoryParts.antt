-- A history whose text comes in parts: what has been read of it so far, and what is left of what has come.
use Rattle.std.specs.Prelude.{◌≡◌, ℕ, List, ◌++◌, ◌+◌, length, codes, Some, Result, Ok}
use Rattle.csv.specs.declared.parser.State.TheVariants as st
use Rattle.dn_types.specs.declared.entry.Entry.{Entry}
use Rattle.dn_types.specs.declared.rule.Rule.{Rule}
use Rattle.dn_records.specs.Reading.{records_after}
use Rattle.dn_records.specs.Records.{Fields}
use Rattle.dn_files.specs.LineEnd.{behind_first}
use Rattle.dn_files.specs.Reading.{◌>>=◌}
use Rattle.dn_files.specs.declared.replay_fault.ReplayFault.{ReplayFault}
use Rattle.dn_history.specs.EntriesLeft.{EntriesLeft, entries_left}
use Rattle.dn_history.specs.HistoryFile.{history_in}
use Rattle.dn_history.specs.HistoryRecords.{rule_of}
use Rattle.dn_history.specs.RecordsLeft.{Rest}
use Rattle.dn_history.specs.declared.history_version.HistoryVersion.{HistoryVersion}
use Rattle.dn_history.specs.declared.history_version.HistoryVersion.TheVariants.{First, Second, Third, Live}
use Rattle.dn_history.specs.declared.read.progress.Progress.TheVariants.{Reading}

-- The version of the history, how many entries were given, the number of the next record, and the text that has come and
-- wasn't read.
pub record Unread : Type 0 where
  pub version : HistoryVersion
  pub given : ℕ
  pub number : ℕ
  pub text : List ℕ

-- The records that are left where this text follows.
abbrev pub rest_with : Unread → List ℕ → Rest
rest_with left more = record { number = left.number; records = records_after st.StartRecord (left.text ++ more) }

-- The entries that are left where this text follows.
abbrev pub entries_with : Unread → List ℕ → Result (List Entry) ReplayFault
entries_with left more = entries_left Reading left.version left.given (rest_with left more)

-- A history of these entries.
abbrev pub with_rule : Rule → List Entry → Result (Rule × List Entry) ReplayFault
with_rule rule entries = Ok (rule, entries)

-- The history of which these entries were given, and those are left that a reader has left.
abbrev pub history_behind : List Entry → EntriesLeft → Result (Rule × List Entry) ReplayFault
history_behind entries left = left.entries >>= λ last. with_rule left.rule (entries ++ last)

-- Of this text these entries were given: whatever follows, the history is these entries, and then those that are left.
pub record HasRead (left : Unread) (text : List ℕ) (entries : List Entry) : Type 0 where
  pub count : left.given ≡ length entries
  pub goes_on : (more : List ℕ) → history_in (text ++ more) ≡ (entries_with left more >>= λ last. with_rule (rule_of left.version) (entries ++ last))

-- The line that tells a version, without its end.
abbrev pub version_words : HistoryVersion → List ℕ
version_words First = codes "dummynet-history,1"
version_words Second = codes "dummynet-history,2"
version_words Third = codes "dummynet-history,3"
version_words Live = codes "dummynet-live,1"

-- A text begins with the line that tells this version, and then the rest follows.
pub record BeginsHistory (text : List ℕ) (version : HistoryVersion) (rest : List ℕ) : Type 0 where
  pub stands : behind_first (version_words version) text ≡ Some rest

-- A text begins with no line that tells a version.
abbrev pub BeginsNoHistory : List ℕ → Type 0
BeginsNoHistory text = (version : HistoryVersion) (rest : List ℕ) → ¬ BeginsHistory text version rest

-- What follows entries that were read.
abbrev pub after_entries : List Entry → Result (List Entry) ReplayFault → Result (List Entry) ReplayFault
after_entries front read = read >>= λ entries. Ok (front ++ entries)

-- Of records these entries were read, behind which the others are left, whatever stands behind them all.
pub record AreRead (version : HistoryVersion) (given : ℕ) (rest : Rest) (entries : List Entry) (count : ℕ) (left : Rest) : Type 0 where
  pub counted : count ≡ given + length entries
  pub goes_on : (more : List Fields) → entries_left Reading version given (record { number = rest.number; records = rest.records ++ more })
      ≡ after_entries entries (entries_left Reading version count (record { number = left.number; records = left.records ++ more }))
