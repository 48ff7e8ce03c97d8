-- What a reader of the entries of a history has left: the entries that it will give, or the fault that it will come to.
use Rattle.std.specs.Prelude.{◌≡◌, ℕ, ◌+◌, ◌<◌, ◌^◌, ⊤, List, [], length, Option, Some, None, Result, Ok, Err}
use Rattle.dn_types.specs.declared.entry.Entry.{Entry}
use Rattle.dn_types.specs.declared.rule.Rule.{Rule}
use Rattle.dn_files.specs.Reading.{◌>>=◌, IsFaultOf}
use Rattle.dn_files.specs.declared.replay_fault.ReplayFault.{ReplayFault}
use Rattle.dn_history.specs.HistoryFile.{entries_from}
use Rattle.dn_history.specs.RecordsLeft.{Rest}
use Rattle.dn_history.specs.declared.history_version.HistoryVersion.{HistoryVersion}
use Rattle.dn_history.specs.declared.read.progress.Progress.{Progress}
use Rattle.dn_history.specs.declared.read.progress.Progress.TheVariants.{Reading, Ended, Failed}

-- The rule of the history, how many of its entries were given, how many records are left, and the entries that are left,
-- or the fault that is met before their end.
pub record EntriesLeft : Type 0 where
  pub rule : Rule
  pub given : ℕ
  pub records : ℕ
  pub entries : Result (List Entry) ReplayFault

-- The entries that are left, by how far the reading has come, how many were given, and the records that are left.
abbrev pub entries_left : Progress → HistoryVersion → ℕ → Rest → Result (List Entry) ReplayFault
entries_left Reading version given rest = entries_from (length rest.records + 1) version given rest
entries_left Ended version given rest = Ok []
entries_left (Failed fault) version given rest = Err fault

-- What a reading keeps: records are so few that the entries that were given can be counted, and a fault is one of a text.
abbrev pub IsSound : Progress → ℕ → Type 0
IsSound Reading most = most < 2 ^ 64
IsSound Ended most = ⊤
IsSound (Failed fault) most = IsFaultOf {A = List Entry} (Err fault) fault

-- What an answer takes from what is left: an entry counts as given and takes a record at least, and behind the last there is none.
abbrev pub IsAfter : Option Entry → EntriesLeft → EntriesLeft → Type 0
IsAfter None old new = (new.given ≡ old.given) × (new.entries ≡ Ok [])
IsAfter (Some entry) old new = (new.given ≡ old.given + 1) × (new.records < old.records)

-- The history of which these entries are left, where none was given.
abbrev pub history_left : EntriesLeft → Result (Rule × List Entry) ReplayFault
history_left left = left.entries >>= λ entries. Ok (left.rule, entries)
