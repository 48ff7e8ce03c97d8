use Rattle.dn_config.proofs.Vocabulary.{digit_value, digits_value, get_or, min, take, ℕ, ◌<◌, ◌≡◌}
use Rattle.dn_config.proofs.tokens.numbers.read_numeral.Given as goal

abbrev pub invariant-loop-byte : goal.invariant-loop-byte
invariant-loop-byte l =
    ((k : ℕ) → k < l.byte-index → digit_value (get_or l.text k 0) < l.radix)
    × (l.value ≡ min (digits_value l.radix (take l.byte-index l.text)) l.beyond)
