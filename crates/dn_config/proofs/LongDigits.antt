-- More digits than a number of 64 bits has are no such number.
use Rattle.dn_config.proofs.Vocabulary.{Bool, Err, List, None, NumberFault, Ok, Range, Result, Some, [], add-one, all_digits, and_parts, arith, cond, digit_from_value, digit_value, digits_value}
use Rattle.dn_config.proofs.Vocabulary.{digits_value-take-le, digits_value_more, eqb-false, false, is_ascii_digit, length, length-take, lt-leb, lt-ltb, ltb-true, nat_le, nat_lt, nat_tests, number_of}
use Rattle.dn_config.proofs.Vocabulary.{number_until, number_within, numeral_of, pow-suc, prefix_len, refl, result_ok, suc, take, true, within, zero, ℕ, ◌&&◌, ◌+◌, ◌-◌, ◌<◌, ◌==◌, ◌^◌, ◌∷◌, ◌≡◌, ◌≤◌}
use Rattle.dn_config.specs.Tokens.Numbers.{digits}
use Rattle.dn_config.proofs.Capping.{digits_are_digits}

-- What passes a test at the front of a part passes it at the front of the whole.
pub prefix-part : (p : ℕ → Bool) (n : ℕ) (xs : List ℕ) → prefix_len p (take n xs) ≤ prefix_len p xs
prefix-part p zero xs = omega arith
prefix-part p (suc n) [] = omega arith
prefix-part p (suc n) (x ∷ xs) = by_test (p x) (prefix-part p n xs)
  where
    by_test : (b : Bool) → prefix_len p (take n xs) ≤ prefix_len p xs → cond b (1 + prefix_len p (take n xs)) 0 ≤ cond b (1 + prefix_len p xs) 0
    by_test true h = omega (arith, h)
    by_test false h = omega arith

pub prefix-within : (p : ℕ → Bool) (xs : List ℕ) → prefix_len p xs ≤ length xs
prefix-within p [] = omega arith
prefix-within p (x ∷ xs) = by_test (p x) (prefix-within p xs)
  where
    by_test : (b : Bool) → prefix_len p xs ≤ length xs → cond b (1 + prefix_len p xs) 0 ≤ suc (length xs)
    by_test true h = omega (arith, h)
    by_test false h = omega arith

digit_from : (d : ℕ) → 48 ≤ d → d ≤ 57 → digit_value d ≡ d - 48
digit_from d low high = grind (arith, nat_tests)

-- A number whose first digit isn't 0 is no less than the power of ten that has as many digits.
at-least : (d : ℕ) (ds : List ℕ) (i : ℕ) → 1 ≤ digit_value d → i ≤ length ds → 10 ^ i ≤ digits_value 10 (take (i + 1) (d ∷ ds))
at-least d ds zero some l = omega (arith, digits_value_more 10 (d ∷ ds) 0 (omega arith))
at-least d ds (suc i) some l =
    let below = rw add-one at (at-least d ds i some (omega arith)) in
    let more = digits_value_more 10 (d ∷ ds) (suc i) (omega arith) in
    omega (arith, below, more, pow-suc 10 i)

pub too-long : (least greatest : ℕ) (ds : List ℕ) → greatest < 2 ^ 64 → all_digits 10 ds ≡ true → 20 < length ds → result_ok (number_within least greatest ds) ≡ None
unfolding number_of numeral_of within
too-long least greatest [] small all l = absurd (omega arith)
too-long least greatest (d ∷ ds) small all l = by_first (d == 48) refl
  where
    long : nat_lt 1 (length (d ∷ ds)) ≡ true
    long = lt-ltb _ _ (omega arith)

    both : (nat_lt (digit_value d) 10 ≡ true) × (all_digits 10 ds ≡ true)
    both = and_parts (nat_lt (digit_value d) 10) (all_digits 10 ds) all

    range : (48 ≤ d) × (d ≤ 57)
    range = digit_from_value d (ltb-true (digit_value d) 10 both.0)

    neither : (b : Bool) → result_ok (cond {A = Result ℕ NumberFault} (b && false) (Ok (digits_value 10 (d ∷ ds))) (Err Range)) ≡ None
    neither true = refl
    neither false = refl

    some : nat_lt 0 (length (d ∷ ds)) ≡ true
    some = lt-ltb _ _ (omega arith)

    numeral : numeral_of 10 (d ∷ ds) ≡ Some (digits_value 10 (d ∷ ds))
    numeral = rw (some, all) refl

    by_first : (b : Bool) → (d == 48) ≡ b → result_ok (within least greatest (cond (nat_lt 1 (length (d ∷ ds)) && b) None (numeral_of 10 (d ∷ ds)))) ≡ None
    by_first true e = rw long refl
    by_first false e =
        let least-value = at-least d ds 20 (omega (arith, eqb-false d 48 e, range, digit_from d range.0 range.1)) (omega arith) in
        let whole = digits_value-take-le 10 (d ∷ ds) 21 (omega arith) in
        let above : nat_le (digits_value 10 (d ∷ ds)) greatest ≡ false = lt-leb _ _ (omega (arith, least-value, whole, small)) in
        rw (long, numeral, above) (neither (nat_le least (digits_value 10 (d ∷ ds))))

-- Digits of such a length at the front of a text are no number there.
pub none-until : (end least greatest : ℕ) (text : List ℕ) → greatest < 2 ^ 64 → 20 < prefix_len is_ascii_digit text → number_until end least greatest text ≡ None
unfolding number_until
none-until end least greatest text small l =
    let count = length-take (prefix_len is_ascii_digit text) text in
    rw (too-long least greatest (digits text) small (digits_are_digits text) (omega (arith, count, prefix-within is_ascii_digit text))) refl
