use Rattle.dn_config.proofs.Vocabulary.{digits_value, get_or, is_ascii_digit, take, true, ℕ, ◌<◌, ◌^◌, ◌≡◌}
use Rattle.dn_config.proofs.tokens.until.short_digits.Given as goal

abbrev pub invariant-loop-i : goal.invariant-loop-i
invariant-loop-i l =
    ((k : ℕ) → k < l.i → is_ascii_digit (get_or l.front k 0) ≡ true) × (l.value ≡ digits_value 10 (take l.i l.front)) × (l.value < 10 ^ l.i)
