-- How far a test holds from the front of a list, where a loop over the list has come to its end.
use Rattle.dn_config.proofs.Vocabulary.{Bool, List, arith, false, get_or, length, position_or_len, position_or_len_is, prefix_len, prefix_len_is, sym, true, ℕ, ◌<◌, ◌≡◌, ◌≤◌}

-- where every element passes, the prefix is the whole
pub whole_prefix : (p : ℕ → Bool) (xs : List ℕ) (i : ℕ) → length xs ≤ i → i ≤ length xs → ((k : ℕ) → k < i → p (get_or xs k 0) ≡ true) → length xs ≡ prefix_len p xs
whole_prefix p xs i l m h = sym (prefix_len_is p xs (length xs) 0 (omega arith) (λ k e. h k (omega arith)) (λ e. absurd (omega arith)))

-- where none does, the position is the length
pub no_position : (p : ℕ → Bool) (xs : List ℕ) (i : ℕ) → length xs ≤ i → i ≤ length xs → ((k : ℕ) → k < i → p (get_or xs k 0) ≡ false) → length xs ≡ position_or_len p xs
no_position p xs i l m h = sym (position_or_len_is p xs (length xs) 0 (omega arith) (λ k e. h k (omega arith)) (λ e. absurd (omega arith)))
