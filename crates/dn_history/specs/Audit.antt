-- Audits: whether each reply of a history is sequential dummynet's, and if not, which is the first that isn't.
use Rattle.std.specs.Prelude.{◌≡◌, ◌≢◌, ℕ, List, take, slice_get, Some}
use Rattle.dn_types.specs.Clock.{counted}
use Rattle.dn_types.specs.History.{IsLawful, calls_of}
use Rattle.dn_types.specs.Replies.{reply}
use Rattle.dn_types.specs.declared.call.Call.{Call}
use Rattle.dn_types.specs.declared.entry.Entry.{Entry}
use Rattle.dn_types.specs.declared.rule.Rule.{Rule}
use Rattle.dn_shaper.specs.Shaper.{CanNeedMemory, StandsAfter}
use Rattle.dn_history.specs.declared.running_audit.RunningAudit.{RunningAudit}
use Rattle.dn_history.specs.declared.verdict.Verdict.{Verdict}
use Rattle.dn_history.specs.declared.verdict.Verdict.TheVariants.{Lawful, Differs}

-- The calls before the i-th entry of a history, newest first. Entries count from 0.
abbrev pub calls_before : List Entry → ℕ → List Call
calls_before history i = calls_of (take i history)

-- The entry is the i-th, and those before it are lawful.
pub record IsLawfulUpTo (rule : Rule) (history : List Entry) (i : ℕ) (e : Entry) : Type 0 where
  pub there : slice_get history i ≡ Some e
  pub lawful : IsLawful rule (take i history)

-- What is found of a history: it is lawful, or it is lawful up to an entry whose reply isn't the one to its call after
-- the calls before it.
abbrev pub IsVerdict : Rule → List Entry → Verdict → Type 0
IsVerdict rule history Lawful = IsLawful rule history
IsVerdict rule history (Differs i) = (e : Entry) × IsLawfulUpTo rule history i e × (e.reply ≢ reply rule (calls_before history i) e.call)

-- Memory can be wanted: the history is lawful up to an entry whose call may take some after the calls before it.
abbrev pub CanWantMemory : Rule → List Entry → Type 0
CanWantMemory rule history = (i : ℕ) × (e : Entry) × IsLawfulUpTo rule history i e × CanNeedMemory (counted (calls_before history i)) e.call

-- What an audit has come to after these entries: this is found of them, and while none differs its shaper answered their calls.
pub record HasAudited (rule : Rule) (audit : RunningAudit) (history : List Entry) : Type 0 where
  pub found : IsVerdict rule history audit.verdict
  pub stands : audit.verdict ≡ Lawful → StandsAfter rule audit.shaper (calls_of history)

-- The status with which the program ends: 0 for a lawful history, and 1 for one that differs.
abbrev pub verdict_status : Verdict → ℕ
verdict_status Lawful = 0
verdict_status (Differs i) = 1
