use Rattle.dn_config.proofs.Vocabulary.{get_or, is_separator, true, ℕ, ◌<◌, ◌≡◌}
use Rattle.dn_config.proofs.tokens.words.gap_len.Given as goal

abbrev pub invariant-loop-i : goal.invariant-loop-i
invariant-loop-i l = (k : ℕ) → k < l.i → is_separator (get_or l.text k 0) ≡ true
