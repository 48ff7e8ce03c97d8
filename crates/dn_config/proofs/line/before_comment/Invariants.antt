use Rattle.dn_config.proofs.Vocabulary.{false, get_or, is_hash, ℕ, ◌<◌, ◌≡◌}
use Rattle.dn_config.proofs.line.before_comment.Given as goal

abbrev pub invariant-loop-i : goal.invariant-loop-i
invariant-loop-i l = (k : ℕ) → k < l.i → is_hash (get_or l.line k 0) ≡ false
