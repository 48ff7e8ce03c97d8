-- A replay: the calls that its inputs ask for, and what is written of them.
use Rattle.std.specs.Prelude.{◌≡◌, ℕ, Bool, true, false, List, Option, None, Some, Result, Ok, Err}
use Rattle.std.specs.Io.KnownBytes.{Appends}
use Rattle.dn_types.specs.declared.call.Call.{Call}
use Rattle.dn_types.specs.declared.entry.Entry.{Entry}
use Rattle.dn_config.specs.Tokens.Joined.{joined_parts}
use Rattle.dn_files.specs.ConfigFile.{config_limit}
use Rattle.dn_replay.specs.Configuring.{configured_by}
use Rattle.dn_files.specs.PacketFile.{packet_limit, rows_of}
use Rattle.dn_files.specs.Reading.{◌>>=◌, within_limit, IsTextOf, ReadsAs}
use Rattle.dn_replay.specs.Report.{report}
use Rattle.dn_replay.specs.Runs.{history_of, replayed}
use Rattle.dn_files.specs.Writing.{IsUnwritten, NothingWritten}
use Rattle.dn_files.specs.declared.replay_fault.ReplayFault.{ReplayFault}
use Rattle.dn_files.specs.declared.replay_fault.ReplayFault.TheVariants.{Read, Write, OutOfMemory}
use Rattle.dn_files.specs.declared.source.Source.{Source}
use Rattle.dn_files.specs.declared.source.Source.TheVariants.{Input, Config, Packets, Report}

-- The calls of a configuration.
abbrev pub config_calls : List ℕ → Result (List Call) ReplayFault
config_calls text = within_limit config_limit Config text >>= configured_by

-- The calls of two inputs, newest first, or their first fault, where the packets have at most so many bytes. The configuration comes
-- before the packets.
unfoldable pub calls_within : ℕ → List ℕ → List ℕ → Result (List Call) ReplayFault
calls_within limit config packets = config_calls config >>= λ calls. (within_limit limit Packets packets >>= rows_of) >>= λ rows. Ok (replayed calls rows)

-- The same with the limit of a packet file.
abbrev pub calls_of_inputs : List ℕ → List ℕ → Result (List Call) ReplayFault
calls_of_inputs config packets = calls_within packet_limit config packets

-- The same of the two parts of one input, which has one limit.
abbrev pub calls_of_parts : List ℕ × List ℕ → Result (List Call) ReplayFault
calls_of_parts parts = configured_by parts.0 >>= λ calls. rows_of parts.1 >>= λ rows. Ok (replayed calls rows)

unfoldable pub calls_of_joined_within : ℕ → List ℕ → Result (List Call) ReplayFault
calls_of_joined_within limit text = within_limit limit Input text >>= λ whole. calls_of_parts (joined_parts whole)

abbrev pub calls_of_joined : List ℕ → Result (List Call) ReplayFault
calls_of_joined text = calls_of_joined_within packet_limit text

-- What two inputs may have held asks for these calls, or has this fault, where the packets have at most so many bytes.
abbrev pub AskForWithin : ℕ → Option (List ℕ) → Option (List ℕ) → Result (List Call) ReplayFault → Type 0
AskForWithin limit config packets asked = (c : List ℕ) × (p : List ℕ) × IsTextOf config c × IsTextOf packets p × (calls_within limit c p ≡ asked)

-- The same with the limit of a packet file.
abbrev pub AskFor : Option (List ℕ) → Option (List ℕ) → Result (List Call) ReplayFault → Type 0
AskFor config packets asked = (c : List ℕ) × (p : List ℕ) × IsTextOf config c × IsTextOf packets p × (calls_of_inputs c p ≡ asked)

-- What one joined input may have held asks for these calls, or has this fault, where it has at most so many bytes.
abbrev pub AsksForWithin : ℕ → Option (List ℕ) → Result (List Call) ReplayFault → Type 0
AsksForWithin limit input asked = (text : List ℕ) × IsTextOf input text × (calls_of_joined_within limit text ≡ asked)

-- The same with the limit of a packet file.
abbrev pub AsksFor : Option (List ℕ) → Result (List Call) ReplayFault → Type 0
AsksFor input asked = (text : List ℕ) × IsTextOf input text × (calls_of_joined text ≡ asked)

-- What a configuration may have held is accepted.
abbrev pub IsAccepted : Option (List ℕ) → Type 0
IsAccepted config = (calls : List Call) × ReadsAs config_calls config calls

-- Of which of two inputs a read failed, if of one. The packets are read after the configuration was accepted.
abbrev pub EitherFailed : Option (List ℕ) → Bool → Bool → Option Source → Type 0
EitherFailed config config_failed packets_failed None = (config_failed ≡ false) × (packets_failed ≡ false)
EitherFailed config config_failed packets_failed (Some Config) = (config_failed ≡ true) × (packets_failed ≡ false)
EitherFailed config config_failed packets_failed (Some Packets) = (config_failed ≡ false) × (packets_failed ≡ true) × IsAccepted config
EitherFailed config config_failed packets_failed (Some _) = ⊥

-- The same of one input, by its name.
abbrev pub TextFailed : Source → Bool → Option Source → Type 0
TextFailed source failed None = failed ≡ false
TextFailed source failed (Some what) = (what ≡ source) × (failed ≡ true)

abbrev pub InputFailed : Bool → Option Source → Type 0
InputFailed = TextFailed Input

-- Why the inputs weren't read. Each fault but a failed read comes only where no read failed.
abbrev pub IsUnread : (Option Source → Type 0) → (Result (List Call) ReplayFault → Type 0) → ReplayFault → Type 0
IsUnread ReadFailed Asked (Read what) = ReadFailed (Some what)
IsUnread ReadFailed Asked (Write what) = ⊥
IsUnread ReadFailed Asked OutOfMemory = ReadFailed None
IsUnread ReadFailed Asked fault = ReadFailed None × Asked (Err fault)

-- Why two inputs weren't read, by their bytes and by whether a read of each failed.
abbrev pub AreUnreadFor : Option (List ℕ) → Bool → Option (List ℕ) → Bool → ReplayFault → Type 0
AreUnreadFor config config_failed packets packets_failed = IsUnread (EitherFailed config config_failed packets_failed) (AskFor config packets)

-- The entries are the history of the calls, and their report was written.
abbrev pub IsReported : List Call → List Entry → Option (List ℕ) → Option (List ℕ) → Type 0
IsReported calls entries old new = (entries ≡ history_of calls) × Appends old new (report 1 (history_of calls))

-- A write failed after a part of the report of the calls, or memory was refused before anything was written.
abbrev pub IsUnreported : List Call → Option (List ℕ) → Option (List ℕ) → Bool → ReplayFault → Type 0
IsUnreported calls = IsUnwritten Report (report 1 (history_of calls))

-- What is asked for was answered by its history and its report.
abbrev pub IsReplayed : (Result (List Call) ReplayFault → Type 0) → List Entry → Option (List ℕ) → Option (List ℕ) → Type 0
IsReplayed Asked entries old new = (calls : List Call) × Asked (Ok calls) × IsReported calls entries old new

-- What was written of what is asked for, if it wasn't answered, and why it wasn't. Before a failed write a part of the report was written,
-- and before any other fault nothing.
abbrev pub IsUnanswered : (Result (List Call) ReplayFault → Type 0) → Option (List ℕ) → Option (List ℕ) → Bool → ReplayFault → Type 0
IsUnanswered Asked old new failed (Read what) = NothingWritten old new failed
IsUnanswered Asked old new failed (Write what) = (calls : List Call) × Asked (Ok calls) × IsUnreported calls old new failed (Write what)
IsUnanswered Asked old new failed OutOfMemory = NothingWritten old new failed
IsUnanswered Asked old new failed fault = Asked (Err fault) × NothingWritten old new failed

-- Of which input a read failed, by the fault or the result, if of one.
abbrev pub failed_read : ReplayFault → Option Source
failed_read (Read what) = Some what
failed_read fault = None

abbrev pub read_of : {A : Type 0} → Result A ReplayFault → Option Source
read_of (Ok value) = None
read_of (Err fault) = failed_read fault

-- Why nothing was answered. Each fault but a failed read comes only where no read failed.
abbrev pub IsUnreplayed : (Option Source → Type 0) → (Result (List Call) ReplayFault → Type 0) → Option (List ℕ) → Option (List ℕ) → Bool → ReplayFault → Type 0
IsUnreplayed ReadFailed Asked old new failed fault = ReadFailed (failed_read fault) × IsUnanswered Asked old new failed fault
