-- The decimal digits of a number, read back.
use Rattle.dn_config.proofs.Vocabulary.{AllDigits, Bool, List, None, Ok, Some, [], all_digits, and_from, ap, arith, cond, decimal, decimal_digit, decimal_is_IsNumeral, digit_from_value, digit_value}
use Rattle.dn_config.proofs.Vocabulary.{digits_value, false, first_decimal, is_ascii_digit, length, list_all, lt-ltb, nat_lt, nat_tests, ne_eqb, number_of, number_within, numeral_of, refl, slice_index}
use Rattle.dn_config.proofs.Vocabulary.{suc, true, zero, ℕ, ◌&&◌, ◌<◌, ◌==◌, ◌^◌, ◌∷◌, ◌≡◌, ◌≤◌}
use Rattle.dn_config.proofs.Capping.{ok_within}

test_digits : (ds : List ℕ) → AllDigits 10 ds → all_digits 10 ds ≡ true
test_digits [] h = refl
test_digits (d ∷ ds) h = and_from (nat_lt (digit_value d) 10) (all_digits 10 ds) (lt-ltb _ _ h.0) (test_digits ds h.1)

numeral_back : (ds : List ℕ) (n : ℕ) → 0 < length ds → AllDigits 10 ds → digits_value 10 ds ≡ n → numeral_of 10 ds ≡ Some n
unfolding numeral_of
numeral_back ds n l h e = let some : nat_lt 0 (length ds) ≡ true = lt-ltb _ _ l in rw (some, test_digits ds h) (ap Some e)

no_zero : (ds : List ℕ) (n : ℕ) → numeral_of 10 ds ≡ Some n → 48 < slice_index ds 0 → number_of ds ≡ Some n
unfolding number_of
no_zero ds n e l = let other : slice_index ds 0 == 48 ≡ false = ne_eqb _ _ (λ h. absurd (omega arith)) in rw other (and_false (nat_lt 1 (length ds)) e)
  where
    and_false : (b : Bool) → numeral_of 10 ds ≡ Some n → cond (b && false) None (numeral_of 10 ds) ≡ Some n
    and_false true h = h
    and_false false h = h

-- A number is written as a number of that value.
pub number_back : (n : ℕ) → n < 2 ^ 64 → number_of (decimal n) ≡ Some n
unfolding number_of numeral_of
number_back zero l = rw (decimal_digit 0 (omega arith)) refl
number_back (suc n) l =
    let is = decimal_is_IsNumeral (suc n) l in
    no_zero (decimal (suc n)) (suc n) (numeral_back (decimal (suc n)) (suc n) is.0.0 is.0.1 is.1) (first_decimal (suc n) (omega arith) l)

-- The digits of a number, each a digit of ASCII.
pub ascii_digits : (ds : List ℕ) → AllDigits 10 ds → list_all is_ascii_digit ds ≡ true
ascii_digits [] h = refl
ascii_digits (d ∷ ds) h =
    let range = digit_from_value d h.0 in
    let first : is_ascii_digit d ≡ true = in_range_test d range.0 range.1 in
    and_from (is_ascii_digit d) (list_all is_ascii_digit ds) first (ascii_digits ds h.1)
  where
    in_range_test : (d : ℕ) → 48 ≤ d → d ≤ 57 → is_ascii_digit d ≡ true
    in_range_test d a b = grind (arith, nat_tests)

-- A number of a range, and the range.
pub ranged_back : (least greatest n : ℕ) → n < 2 ^ 64 → least ≤ n → n ≤ greatest → number_within least greatest (decimal n) ≡ Ok n
ranged_back least greatest n l a b = rw (number_back n l) (ok_within least greatest n a b)
