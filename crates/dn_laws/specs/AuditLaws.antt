-- The laws of audits: what a verdict says of a history, and that each history has no other.
use Rattle.std.specs.Prelude.{ℕ, ◌≡◌, ◌≢◌, ◌<◌, List, take, Some, slice_get}
use Rattle.dn_history.specs.Audit.{IsVerdict}
use Rattle.dn_history.specs.declared.verdict.Verdict.{Verdict}
use Rattle.dn_history.specs.declared.verdict.Verdict.TheVariants.{Lawful, Differs}
use Rattle.dn_types.specs.History.{calls_of}
use Rattle.dn_types.specs.Replies.{reply}
use Rattle.dn_types.specs.declared.entry.Entry.{Entry}
use Rattle.dn_types.specs.declared.rule.Rule.{Rule}

-- Each of the first n entries has the reply to its call after the calls before it.
abbrev pub AreRight : Rule → List Entry → ℕ → Type 0
AreRight rule history n = (i : ℕ) (e : Entry) → i < n → slice_get history i ≡ Some e → e.reply ≡ reply rule (calls_of (take i history)) e.call

-- A lawful history has right replies alone. Of one that differs, the entry with the number, from 0 on, is the first whose reply is wrong.
abbrev pub IsTrueOf : Rule → List Entry → Verdict → Type 0
IsTrueOf rule history Lawful = (n : ℕ) → AreRight rule history n
IsTrueOf rule history (Differs i) = AreRight rule history i × ((e : Entry) × (slice_get history i ≡ Some e) × (e.reply ≢ reply rule (calls_of (take i history)) e.call))

-- A verdict is one that is true. No history has two.
abbrev pub VerdictsAreTrue : Type 0
VerdictsAreTrue = (rule : Rule) (history : List Entry) (verdict : Verdict) → IsVerdict rule history verdict → IsTrueOf rule history verdict

abbrev pub TruthsSuffice : Type 0
TruthsSuffice = (rule : Rule) (history : List Entry) (verdict : Verdict) → IsTrueOf rule history verdict → IsVerdict rule history verdict

abbrev pub NoneHasTwoVerdicts : Type 0
NoneHasTwoVerdicts = (rule : Rule) (history : List Entry) (verdict other : Verdict) → IsVerdict rule history verdict → IsVerdict rule history other → verdict ≡ other
