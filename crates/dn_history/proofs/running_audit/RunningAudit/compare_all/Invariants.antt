use Rattle.dn_history.proofs.Words.{Entry, HasAudited, List, Rule, length, take, ◌++◌, ◌≡◌}
use Rattle.dn_history.proofs.running_audit.RunningAudit.compare_all.Given as goal

abbrev pub invariant-loop-place : goal.invariant-loop-place
invariant-loop-place l = (rule : Rule) (front : List Entry) → HasAudited rule l.fn.self front → l.first ≡ length front → HasAudited rule l.self (front ++ take l.place l.entries)
