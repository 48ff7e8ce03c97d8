use Rattle.dn_config.proofs.Vocabulary.{get_or, is_ascii_digit, true, ℕ, ◌<◌, ◌≡◌}
use Rattle.dn_config.proofs.tokens.digits.digits_len.Given as goal

abbrev pub invariant-loop-i : goal.invariant-loop-i
invariant-loop-i l = (k : ℕ) → k < l.i → is_ascii_digit (get_or l.text k 0) ≡ true
