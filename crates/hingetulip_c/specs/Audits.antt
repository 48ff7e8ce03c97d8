-- An audit that C holds: the part of a history file that has come to it, and the verdict on a whole file in C's words.
use Rattle.std.specs.Prelude.{◌≡◌, ℕ, List}
use Rattle.dn_history.specs.FileAudit.{HasCome, HasVerdict}
use Rattle.dn_history.specs.declared.file_audit.file_audit.FileAudit.{FileAudit}
use Rattle.dn_history.specs.declared.verdict.Verdict.{Verdict}
use Rattle.dn_history.specs.declared.verdict.Verdict.TheVariants.{Lawful, Differs}
use Rattle.dn_files.specs.declared.replay_fault.ReplayFault.{ReplayFault}
use Rattle.dn_files.specs.declared.replay_fault.ReplayFault.TheVariants.{TooLong}
use Rattle.hingetulip_c.specs.Handles.{Holds}
use Rattle.hingetulip_c.specs.declared.records.c_verdict.CVerdict.{CVerdict}

-- The handle is open, its audit takes a text of at most so many bytes, and this text has come to it so far.
abbrev pub HoldsText : ℕ → List FileAudit → List ℕ → Type 0
HoldsText limit held text = Holds (λ a. (a.limit ≡ limit) × HasCome a text) held

-- The status of a part that isn't taken: the text is longer with it than the limit, or else memory was refused.
abbrev pub unfed_status : ReplayFault → ℕ
unfed_status (TooLong what) = 23
unfed_status _ = 6

-- A verdict on a history of this many entries, as C reads it.
abbrev pub c_verdict : Verdict → ℕ → CVerdict
c_verdict Lawful entries = record { entries = entries; first = 0; finding = 0; reserved = 0 }
c_verdict (Differs i) entries = record { entries = entries; first = i; finding = 1; reserved = 0 }

-- The text is that of a history, and this is the verdict on it by the rule of its version.
pub record IsFound (text : List ℕ) (found : CVerdict) : Type 0 where
  pub verdict : Verdict
  pub entries : ℕ
  pub has_verdict : HasVerdict text verdict entries
  pub found_is : found ≡ c_verdict verdict entries
