-- A replay by several callers: the history that it may leave, what is written of it, and why there is none.
use Rattle.std.specs.Prelude.{◌≡◌, ◌⊎◌, ℕ, ◌<◌, ◌≤◌, Bool, List, All, Option}
use Rattle.std.specs.Io.KnownBytes.{Appends}
use Rattle.dn_types.specs.History.{calls_of, IsLawful, own_entries}
use Rattle.dn_types.specs.declared.call.Call.{Call}
use Rattle.dn_types.specs.declared.entry.Entry.{Entry}
use Rattle.dn_types.specs.declared.rule.Rule.TheVariants.{Ordered}
use Rattle.dn_replay.specs.Callers.{calls_given}
use Rattle.dn_files.specs.PacketFile.{packet_file}
use Rattle.dn_files.specs.Reading.{ReadsAs}
use Rattle.dn_replay.specs.Replays.{AskFor, config_calls, IsUnanswered}
use Rattle.dn_replay.specs.Report.{report}
use Rattle.dn_files.specs.Writing.{IsUnwritten, NothingWritten}
use Rattle.dn_files.specs.declared.replay_fault.ReplayFault.{ReplayFault}
use Rattle.dn_files.specs.declared.replay_fault.ReplayFault.TheVariants.{BadCount, OutOfMemory, Write}
use Rattle.dn_files.specs.declared.row.Row.{Row}
use Rattle.dn_files.specs.declared.source.Source.TheVariants.{Report}

-- How many callers there can be, and how many there can't.
abbrev pub IsCount : ℕ → Type 0
IsCount n = (0 < n) × (n ≤ 16)

abbrev pub IsBadCount : ℕ → Type 0
IsBadCount n = (n ≡ 0) ⊎ (16 < n)

-- Why there are no callers.
abbrev pub IsUnopened : ℕ → ReplayFault → Type 0
IsUnopened n BadCount = IsBadCount n
IsUnopened n OutOfMemory = IsCount n
IsUnopened n _ = ⊥

-- A lawful history of n callers, in which each caller's calls are those of its own, in order. How they fall among the calls of others
-- is left to the threads.
pub record IsHistoryOfCallers (n : ℕ) (calls : List Call) (rows : List Row) (entries : List Entry) : Type 0 where
  pub lawful : IsLawful Ordered entries
  pub callers : All (λ e. e.caller < n) entries
  pub own : (k : ℕ) → k < n → calls_of (own_entries k entries) ≡ calls_given n calls rows k

-- Two inputs are read as these rows and as calls of which this is so.
abbrev pub AreReadAs : Option (List ℕ) → Option (List ℕ) → List Row → (List Call → Type 0) → Type 0
AreReadAs config packets rows is = (calls : List Call) × ReadsAs config_calls config calls × ReadsAs packet_file packets rows × is calls

-- Two inputs are read as the calls of a configuration and as rows, and these entries are a history of n callers with them.
pub record IsReplayOfCallers (n : ℕ) (config packets : Option (List ℕ)) (entries : List Entry) : Type 0 where
  pub calls : List Call
  pub rows : List Row
  pub config_reads : ReadsAs config_calls config calls
  pub packets_read : ReadsAs packet_file packets rows
  pub history : IsHistoryOfCallers n calls rows entries

-- The entries are such a history, and their report was written.
abbrev pub IsReplayedByCallers : ℕ → Option (List ℕ) → Option (List ℕ) → List Entry → Option (List ℕ) → Option (List ℕ) → Type 0
IsReplayedByCallers n config packets entries old new = IsCount n × IsReplayOfCallers n config packets entries × Appends old new (report n entries)

-- Nothing of two inputs was read.
abbrev pub AreUnread : Option (List ℕ) → Option (List ℕ) → Option (List ℕ) → Option (List ℕ) → Type 0
AreUnread config config_left packets packets_left = (config_left ≡ config) × (packets_left ≡ packets)

-- What was written of a replay that wasn't answered, and why it wasn't. A bad count of callers is told before anything is read. Before a
-- failed write a part of the report of such a history was written. All other faults are those of a replay by one caller.
abbrev pub IsUnansweredByCallers : ℕ → Option (List ℕ) → Option (List ℕ) → Option (List ℕ) → Option (List ℕ) → Bool → ReplayFault → Type 0
IsUnansweredByCallers n config packets old new failed BadCount = IsBadCount n × NothingWritten old new failed
IsUnansweredByCallers n config packets old new failed (Write what) =
    IsCount n × ((entries : List Entry) × IsReplayOfCallers n config packets entries × IsUnwritten Report (report n entries) old new failed (Write what))
IsUnansweredByCallers n config packets old new failed fault = IsCount n × IsUnanswered (AskFor config packets) old new failed fault
