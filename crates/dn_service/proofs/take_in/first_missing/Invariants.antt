use Rattle.dn_service.proofs.Words.{has_number, true, ℕ, ◌<◌, ◌≡◌}
use Rattle.dn_service.proofs.take_in.first_missing.Given as goal

abbrev pub invariant-loop-number : goal.invariant-loop-number
invariant-loop-number l = (k : ℕ) → k < l.number → has_number k l.callers ≡ true
