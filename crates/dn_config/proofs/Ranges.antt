-- What is read of a number, and what is made of it.
use Rattle.dn_config.proofs.Vocabulary.{AllDigits, BadNumber, Bool, Err, IfSome, IsSome, LineFault, List, None, NumberFault, Ok, Option, OutOfRange, Result, Some, [], all_digits, and_parts, ap, arith}
use Rattle.dn_config.proofs.Vocabulary.{cases_lt, cond, digit_value, digits_value, digits_value_short, div-le_of_le-mul, false, inl, inr, kept, length, lt-ltb, ltb-true, min, nat_lt, numeral_of}
use Rattle.dn_config.proofs.Vocabulary.{numerals_by_value, ok_or, placed, refl, sym, tells_digits, times, true, within, ℕ, ◌*◌, ◌/◌, ◌<◌, ◌^◌, ◌↔◌, ◌∙◌, ◌∷◌, ◌≡◌, ◌≤◌, ◌⊎◌}
use Rattle.dn_config.proofs.Capping.{grows, within_ok, ok_within, above_within}

placed_ok : (at n : ℕ) (r : Result ℕ NumberFault) → Ok n ≡ placed at r → Ok n ≡ r
placed_ok at n (Ok m) e = cc
placed_ok at n (Err x) e = absurd (cc)

-- a number that is too great is too great in any unit
more_units : (at m k n : ℕ) (e : LineFault) → 1 ≤ k → (m < n) ⊎ (n ≤ m) → Err e ≡ placed at (within 0 m (Some n)) → Err e ≡ placed at (within 0 m (Some (n * k)))
more_units at m k n e l (inl h) f =
    let more : n ≤ n * k = grows n k l in
    f ∙ ap (placed at) (above_within m n h ∙ sym (above_within m (n * k) (omega arith)))
more_units at m k n e l (inr h) f = let ok = ap (placed at) (ok_within 0 m n (omega arith) h) in absurd (cc)

pub units_fault : (at m k : ℕ) (e : LineFault) (o : Option ℕ) → 1 ≤ k → Err e ≡ placed at (within 0 m o) → Err e ≡ placed at (within 0 m (times k o))
unfolding within
units_fault at m k e None l f = f
units_fault at m k e (Some n) l f = more_units at m k n e l (cases_lt m n) f

-- a range type of at most m, made of a number of units that was held within a u64
made_or : (at m n v : ℕ) (r : Option ℕ) (res : Result ℕ LineFault) → v ≡ min n 18446744073709551615 → m < 18446744073709551615 → (IsSome r ↔ (v ≤ m)) → IfSome r (λ made. made ≡ v)
    → res ≡ ok_or r (OutOfRange at) → (m < n) ⊎ (n ≤ m) → res ≡ placed at (within 0 m (Some n))
made_or at m n v None res e b f g h (inl l) = h ∙ sym (ap (placed at) (above_within m n l))
made_or at m n v None res e b f g h (inr l) = let bad : false ≡ true = f.1 (omega arith) in absurd (cc)
made_or at m n v (Some x) res e b f g h (inl l) = let small = f.0 refl in absurd (omega arith)
made_or at m n v (Some x) res e b f g h (inr l) =
    let same : x ≡ n = omega arith in
    h ∙ ap Ok same ∙ sym (ap (placed at) (ok_within 0 m n (omega arith) l))

pub units_made : (at m k n v : ℕ) (o r : Option ℕ) (res : Result ℕ LineFault) → Ok n ≡ placed at (within 0 m o) → v ≡ min (n * k) 18446744073709551615 → m < 18446744073709551615
    → (IsSome r ↔ (v ≤ m)) → IfSome r (λ made. made ≡ v) → res ≡ ok_or r (OutOfRange at) → res ≡ placed at (within 0 m (times k o))
units_made at m k n v o r res e f b g h i =
    let same = (within_ok 0 m n o (placed_ok at n (within 0 m o) e)).0 in
    rw same (made_or at m (n * k) v r res f b g h i (cases_lt m (n * k)))

-- a loss rate and what is kept of it
pub kept_none : (at m : ℕ) (o : Option ℕ) → o ≡ None → Err (BadNumber at) ≡ kept (placed at (within 0 m o))
unfolding within
kept_none at m o e = rw e refl

pub kept_high : (at m n : ℕ) (o : Option ℕ) → o ≡ Some n → m < n → Err (OutOfRange at) ≡ kept (placed at (within 0 m o))
kept_high at m n o e l = rw (e, above_within m n l) refl

kept_bound : (n one : ℕ) → 0 < one → n ≤ one → n * 2147483648 / one ≤ 2147483648
kept_bound n one p l = div-le_of_le-mul one (grind arith)

pub kept_in : (at n : ℕ) (o r : Option ℕ) (res : Result ℕ LineFault) → o ≡ Some n → n ≤ 1000000000000000000
    → (IsSome r ↔ (n * 2147483648 / 1000000000000000000 ≤ 2147483648)) → IfSome r (λ made. made ≡ n * 2147483648 / 1000000000000000000)
    → res ≡ ok_or r (OutOfRange at) → res ≡ kept (placed at (within 0 1000000000000000000 o))
kept_in at n o None res e l g f h = let bad : false ≡ true = g.1 (kept_bound n 1000000000000000000 (omega arith) l) in absurd (cc)
kept_in at n o (Some v) res e l g f h = rw (e, ok_within 0 1000000000000000000 n (omega arith) l) (h ∙ ap Ok f)

-- the value of 18 digits or less
all_from_test : (r : ℕ) (ds : List ℕ) → all_digits r ds ≡ true → AllDigits r ds
all_from_test r [] h = tt
all_from_test r (d ∷ ds) h = let both = and_parts (nat_lt (digit_value d) r) (all_digits r ds) h in (ltb-true _ _ both.0, all_from_test r ds both.1)

pub short_bound : (ds : List ℕ) → all_digits 10 ds ≡ true → length ds ≤ 18 → digits_value 10 ds < 10 ^ 18
short_bound ds h l = digits_value_short (numerals_by_value (AllDigits 10) tells_digits) ds 18 (all_from_test 10 ds h) l

some_value : (b : Bool) (x v : ℕ) → cond b (Some x) None ≡ Some v → v ≡ x
some_value true x v e = cc
some_value false x v e = absurd (cc)

pub short_ok : (ds : List ℕ) (m v : ℕ) → Ok v ≡ within 0 m (numeral_of 10 ds) → v ≡ digits_value 10 ds
unfolding numeral_of
short_ok ds m v e = some_value _ (digits_value 10 ds) v (within_ok 0 m v (numeral_of 10 ds) e).0

pub short_err : (ds : List ℕ) (m : ℕ) (e : NumberFault) → all_digits 10 ds ≡ true → length ds ≤ 18 → 10 ^ 18 ≤ m → Err e ≡ within 0 m (numeral_of 10 ds) → 0 ≡ digits_value 10 ds
unfolding numeral_of
short_err [] m e h l b f = refl
short_err (d ∷ ds) m e h l b f =
    let some : nat_lt 0 (length (d ∷ ds)) ≡ true = lt-ltb _ _ (omega arith) in
    let bound = short_bound (d ∷ ds) h l in
    let ok = ok_within 0 m (digits_value 10 (d ∷ ds)) (omega arith) (omega arith) in
    let g = rw (some, h) at f in
    absurd (cc)
