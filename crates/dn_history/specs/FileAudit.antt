-- The audit of a history file: the verdict on the history in it by its own rule, and the line that tells the verdict.
use Rattle.std.specs.Prelude.{◌≡◌, ◌≤◌, ◌<◌, ℕ, Bool, false, List, ◌++◌, length, codes, decimal, Option, None, Some, Result, Ok, Box, box_value}
use Rattle.std.specs.declared.alloc.Global.{Global}
use Rattle.std.specs.Io.KnownBytes.{Appends}
use Rattle.dn_types.specs.declared.entry.Entry.{Entry}
use Rattle.dn_types.specs.declared.rule.Rule.{Rule}
use Rattle.dn_history.specs.Audit.{HasAudited, IsVerdict}
use Rattle.dn_history.specs.HistoryFaults.{IsHistoryFault}
use Rattle.dn_history.specs.HistoryFile.{history_in, history_limit}
use Rattle.dn_history.specs.HistoryParts.{HasRead}
use Rattle.dn_history.specs.HistoryRecords.{rule_of}
use Rattle.dn_files.specs.Reading.{◌>>=◌, IsRefusal, ReadsAs, within_limit}
use Rattle.dn_files.specs.Writing.{IsUnwritten, NothingWritten}
use Rattle.dn_files.specs.declared.replay_fault.ReplayFault.{ReplayFault}
use Rattle.dn_files.specs.declared.replay_fault.ReplayFault.TheVariants.{OutOfMemory, TooLong, Write}
use Rattle.dn_files.specs.declared.source.Source.TheVariants.{History, Report}
use Rattle.dn_history.specs.declared.file_audit.file_audit.FileAudit.{FileAudit}
use Rattle.dn_history.specs.declared.file_audit.parts_audit.PartsAudit.{PartsAudit}
use Rattle.dn_history.specs.declared.running_audit.RunningAudit.{RunningAudit}
use Rattle.dn_history.specs.declared.verdict.Verdict.{Verdict}
use Rattle.dn_history.specs.declared.verdict.Verdict.TheVariants.{Lawful, Differs}

-- The line of a verdict on a history of this many entries. It ends in a line feed.
abbrev pub verdict_line : ℕ → Verdict → List ℕ
verdict_line entries Lawful = codes "lawful " ++ decimal entries ++ codes "\n"
verdict_line entries (Differs i) = codes "differs " ++ decimal i ++ codes "\n"

-- Behind entries that were audited, those that a reader had left were all audited too, and this is the count of all.
abbrev pub AreAudited : Rule → List Entry → Result (List Entry) ReplayFault → RunningAudit → ℕ → Type 0
AreAudited rule front left audit count = (entries : List Entry) × (left ≡ Ok entries) × (count ≡ length (front ++ entries)) × HasAudited rule audit (front ++ entries)

-- Of a text that has come so far, the entries that were given were audited by its rule.
pub record IsAuditing (begun : PartsAudit) (text : List ℕ) : Type 0 where
  pub entries : List Entry
  pub read : HasRead begun.parts text entries
  pub audited : HasAudited (rule_of begun.parts.version) begun.audit entries

-- This text has come of a file: it is kept until the line of its version has come, and audited from then on.
abbrev pub IsTakenBy : Option (Box PartsAudit Global) → List ℕ → List ℕ → Type 0
IsTakenBy None kept text = kept ≡ text
IsTakenBy (Some begun) kept text = IsAuditing (box_value begun) text

abbrev pub HasTaken : FileAudit → List ℕ → Type 0
HasTaken audit text = IsTakenBy audit.begun audit.front.items text

-- The same of a text within its limit.
pub record HasCome (audit : FileAudit) (text : List ℕ) : Type 0 where
  pub size : audit.length ≡ length text
  pub short : length text ≤ audit.limit
  pub taken : HasTaken audit text

-- Why a part isn't taken. The text that has come is longer with it than the limit, or else memory was refused.
abbrev pub IsUnfed : FileAudit → List ℕ → ReplayFault → Type 0
IsUnfed audit part (TooLong what) = (what ≡ History) × ((text : List ℕ) → HasCome audit text → audit.limit < length (text ++ part))
IsUnfed audit part OutOfMemory = (text : List ℕ) → HasCome audit text → length (text ++ part) ≤ audit.limit
IsUnfed audit part _ = ⊥

-- What a history file of at most so many bytes is read as.
abbrev pub history_within : ℕ → List ℕ → Result (Rule × List Entry) ReplayFault
history_within limit text = within_limit limit History text >>= history_in

-- A text is a history of this many entries with this verdict by its own rule.
abbrev pub HasVerdict : List ℕ → Verdict → ℕ → Type 0
HasVerdict text verdict count = (history : Rule × List Entry) × (history_in text ≡ Ok history) × IsVerdict history.0 history.1 verdict × (count ≡ length history.1)

-- What a file of at most so many bytes may have held is read as a history with this verdict by the rule of the file, and this is the
-- verdict's line.
abbrev pub IsTold : ℕ → Option (List ℕ) → Verdict → List ℕ → Type 0
IsTold limit known verdict line = (history : Rule × List Entry) × ReadsAs (history_within limit) known history × IsVerdict history.0 history.1 verdict
    × (line ≡ verdict_line (length history.1) verdict)

-- A file was audited, and the line of its verdict was written.
abbrev pub IsAuditedWithin : ℕ → Option (List ℕ) → Verdict → Option (List ℕ) → Option (List ℕ) → Type 0
IsAuditedWithin limit known verdict old new = (line : List ℕ) × IsTold limit known verdict line × Appends old new line

-- The same with the limit of a history file.
abbrev pub IsAudited : Option (List ℕ) → Verdict → Option (List ℕ) → Option (List ℕ) → Type 0
IsAudited known verdict old new = IsAuditedWithin history_limit known verdict old new

-- Why a file has no verdict, by its bytes and by whether a read of it failed. Before a failed write a part of the verdict's
-- line was written. Any other fault is one of reading, or a want of memory, and nothing was written.
abbrev pub IsUnauditedWithin : ℕ → Option (List ℕ) → Bool → Option (List ℕ) → Option (List ℕ) → Bool → ReplayFault → Type 0
IsUnauditedWithin limit known read_failed old new failed (Write what) = (read_failed ≡ false)
    × ((verdict : Verdict) × (line : List ℕ) × IsTold limit known verdict line × IsUnwritten Report line old new failed (Write what))
IsUnauditedWithin limit known read_failed old new failed fault = IsRefusal History (history_within limit) known read_failed fault × NothingWritten old new failed

-- The same with the limit of a history file.
abbrev pub IsUnaudited : Option (List ℕ) → Bool → Option (List ℕ) → Option (List ℕ) → Bool → ReplayFault → Type 0
IsUnaudited known read_failed old new failed fault = IsUnauditedWithin history_limit known read_failed old new failed fault

-- The faults of an audit of a file: those of its reading, and of the writing of the line. No other comes.
abbrev pub IsAuditFault : ReplayFault → Type 0
IsAuditFault (Write what) = what ≡ Report
IsAuditFault fault = IsHistoryFault fault
