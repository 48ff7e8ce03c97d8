use Rattle.dn_config.proofs.Vocabulary.{false, get_or, is_separator, ℕ, ◌<◌, ◌≡◌}
use Rattle.dn_config.proofs.tokens.words.word_len.Given as goal

abbrev pub invariant-loop-i : goal.invariant-loop-i
invariant-loop-i l = (k : ℕ) → k < l.i → is_separator (get_or l.text k 0) ≡ false
