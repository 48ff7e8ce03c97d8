-- Numbers that are counted no further than one above the greatest that is asked for.
use Rattle.dn_config.proofs.Vocabulary.{Bool, Err, List, None, Ok, Option, Range, Some, [], add-one, all_digits, ap, arith, cases_lt, cond, digit_value, digits_value, digits_value_more, false, get_or}
use Rattle.dn_config.proofs.Vocabulary.{inl, inr, is_ascii_digit, le-leb, leb-true, length, lt-leb, lt-ltb, min, mul-le, nat_le, nat_lt, nat_tests, numeral_of, one-add, prefix_len, refl, sym, take}
use Rattle.dn_config.proofs.Vocabulary.{take_all, true, within, ℕ, ◌&&◌, ◌*◌, ◌+◌, ◌<◌, ◌^◌, ◌∷◌, ◌≡◌, ◌≢◌, ◌≤◌, ◌⊎◌}

-- a number is no greater than its multiple
pub grows : (a r : ℕ) → 1 ≤ r → a ≤ a * r
grows a r l = grind arith

caps_above : (m n r d p q : ℕ) → m < n → m ≤ p → n ≤ q → min (p + d) m ≡ min (q + d) m
caps_above m n r d p q l a b = omega arith

caps_or : (m n r d : ℕ) → 1 ≤ r → (m < n) ⊎ (n ≤ m) → min (min n m * r + d) m ≡ min (n * r + d) m
caps_or m n r d l (inl h) =
    let e : min n m ≡ m = omega arith in
    rw e (caps_above m n r d (m * r) (n * r) h (grows m r l) (grows n r l))
caps_or m n r d l (inr h) = let e : min n m ≡ n = omega arith in rw e refl

-- a step of a capped sum of digits
pub caps : (m n r d : ℕ) → 1 ≤ r → min (min n m * r + d) m ≡ min (n * r + d) m
caps m n r d l = caps_or m n r d l (cases_lt m n)

-- the capped number so far with one digit more
pub value_more : (radix m : ℕ) (ds : List ℕ) (i v d : ℕ) → 1 ≤ radix → i < length ds → v ≡ min (digits_value radix (take i ds)) m → d ≡ digit_value (get_or ds i 0)
    → min (v * radix + d) m ≡ min (digits_value radix (take (i + 1) ds)) m
value_more radix m ds i v d l h e f = rw (e, f, digits_value_more radix ds i h) (caps m (digits_value radix (take i ds)) radix (digit_value (get_or ds i 0)) l)

digits_pass : (radix : ℕ) (ds : List ℕ) → ((k : ℕ) → k < length ds → digit_value (get_or ds k 0) < radix) → all_digits radix ds ≡ true
digits_pass radix [] h = refl
digits_pass radix (d ∷ ds) h =
    let first : nat_lt (digit_value d) radix ≡ true = lt-ltb _ _ (h 0 (omega arith)) in
    rw first (digits_pass radix ds (λ k l. rw add-one at (h (k + 1) (omega arith))))

-- a capped number is small enough for one step more
pub step_fits : (v beyond radix d : ℕ) → v ≤ beyond → beyond ≤ 18446744073709551616 → radix ≤ 36 → d < 36 → v * radix + d < 2 ^ 128
step_fits v beyond radix d a b c e =
    let most : v * radix ≤ 18446744073709551616 * 36 = mul-le v radix 18446744073709551616 36 a' c in
    omega arith
  where
    a' : v ≤ 18446744073709551616
    a' = omega arith

-- what is in a range is the number that was tested
pub within_ok : (least greatest v : ℕ) (o : Option ℕ) → Ok v ≡ within least greatest o → (o ≡ Some v) × (least ≤ v) × (v ≤ greatest)
unfolding within
within_ok least greatest v None e = absurd (cc)
within_ok least greatest v (Some n) e = tested (nat_le least n) (nat_le n greatest) refl refl e
  where
    tested : (a b : Bool) → nat_le least n ≡ a → nat_le n greatest ≡ b → Ok v ≡ cond (a && b) (Ok n) (Err Range) → (Some n ≡ Some v) × (least ≤ v) × (v ≤ greatest)
    tested true true p q e =
        let same : n ≡ v = cc in
        let low = leb-true _ _ p in
        let high = leb-true _ _ q in
        (ap Some same, omega arith, omega arith)
    tested true false p q e = absurd (cc)
    tested false true p q e = absurd (cc)
    tested false false p q e = absurd (cc)

pub ok_within : (least greatest n : ℕ) → least ≤ n → n ≤ greatest → within least greatest (Some n) ≡ Ok n
unfolding within
ok_within least greatest n a b =
    let low : nat_le least n ≡ true = le-leb _ _ a in
    let high : nat_le n greatest ≡ true = le-leb _ _ b in
    rw (low, high) refl

pub above_within : (greatest n : ℕ) → greatest < n → within 0 greatest (Some n) ≡ Err Range
unfolding within
above_within greatest n a =
    let low : nat_le 0 n ≡ true = le-leb _ _ (omega arith) in
    let high : nat_le n greatest ≡ false = lt-leb _ _ a in
    rw (low, high) refl

module _ (radix greatest : ℕ) (ds : List ℕ) (i v : ℕ) (past : length ds ≤ i) (end : i ≤ length ds) (some : 0 < length ds)
    (digits : (k : ℕ) → k < i → digit_value (get_or ds k 0) < radix) (capped : v ≡ min (digits_value radix (take i ds)) (greatest + 1)) where
  whole : numeral_of radix ds ≡ Some (digits_value radix (take i ds))
  unfolding numeral_of
  whole =
      let pass : all_digits radix ds ≡ true = digits_pass radix ds (λ k l. digits k (omega arith)) in
      let nonempty : nat_lt 0 (length ds) ≡ true = lt-ltb _ _ some in
      rw (nonempty, pass) (ap (λ xs. Some (digits_value radix xs)) (sym (take_all i ds past)))

  -- the capped number shows whether the number is in range
  pub whole_above : v ≡ greatest + 1 → Err Range ≡ within 0 greatest (numeral_of radix ds)
  unfolding within
  whole_above e =
      let low : nat_le 0 (digits_value radix (take i ds)) ≡ true = le-leb _ _ (omega arith) in
      let high : nat_le (digits_value radix (take i ds)) greatest ≡ false = lt-leb _ _ (omega arith) in
      rw (whole, low, high) refl

  pub whole_in : v ≢ greatest + 1 → Ok v ≡ within 0 greatest (numeral_of radix ds)
  unfolding within
  whole_in ne =
      let small : digits_value radix (take i ds) ≡ v = omega arith in
      let low : nat_le 0 (digits_value radix (take i ds)) ≡ true = le-leb _ _ (omega arith) in
      let high : nat_le (digits_value radix (take i ds)) greatest ≡ true = le-leb _ _ (omega arith) in
      rw (whole, low, high) (ap Ok (sym small))

-- the digits that a word begins with are digits
digit_test : (c : ℕ) → is_ascii_digit c ≡ true → nat_lt (digit_value c) 10 ≡ true
digit_test c h = grind (arith, nat_tests)

pub digits_are_digits : (w : List ℕ) → all_digits 10 (take (prefix_len is_ascii_digit w) w) ≡ true
digits_are_digits [] = refl
digits_are_digits (c ∷ w) = by_test (is_ascii_digit c) refl (digits_are_digits w)
  where
    by_test : (b : Bool) → is_ascii_digit c ≡ b → all_digits 10 (take (prefix_len is_ascii_digit w) w) ≡ true → all_digits 10 (take (cond b (1 + prefix_len is_ascii_digit w) 0) (c ∷ w)) ≡ true
    by_test true e h = rw (one-add, digit_test c e) h
    by_test false e h = refl
