-- What a `retain` leaves whose closure says `false` once, at the first element that passes a test.
use Rattle.dn_heap.proofs.Words.{Bool, IsFiltered, IsPermutation, IsPermutation-cons, IsPermutation-middle, IsPermutation-refl, IsPermutation-trans, List, ReturnsInTurn, [], ap, arith, cases_Bool}
use Rattle.dn_heap.proofs.Words.{false, inl, inr, items_where_true, length, list_any, refl, true, ◌∷◌, ◌≡◌}

-- one call: `true` until the test passes for the first time, `false` there, and `true` from then on
pub record StepsOnce {P X : Type 0} (done : P → Bool) (test : X → Bool) (p : P) (x : X) (b : Bool) (q : P) : Type 0 where
  pub before : done p ≡ false → test x ≡ false → (b ≡ true) × (done q ≡ false)
  pub found : done p ≡ false → test x ≡ true → (b ≡ false) × (done q ≡ true)
  pub after : done p ≡ true → (b ≡ true) × (done q ≡ true)

module _ {P X : Type 0} (R : P → X → Bool → P → Type 0) (J : P → Type 0) (done : P → Bool) (test : X → Bool)
    (step : (p : P) (x : X) (b : Bool) (q : P) → J p → R p x b q → StepsOnce done test p x b q × J q) where
  kept_after : (p : P) (bs : List Bool) (xs : List X) (q : P) → J p → done p ≡ true → length bs ≡ length xs → ReturnsInTurn R p bs xs q → items_where_true bs xs ≡ xs
  kept_after p [] [] q j d e r = refl
  kept_after p [] (x ∷ xs) q j d e r = absurd (omega arith)
  kept_after p (b ∷ bs) [] q j d e r = absurd r
  kept_after p (b ∷ bs) (x ∷ xs) q j d e r =
      let s = step p x b r.0 j r.1 in
      let a = s.0.after d in
      let k : length bs ≡ length xs = omega arith in
      rw a.0 (ap (λ l. x ∷ l) (kept_after r.0 bs xs q s.1 a.1 k r.2))

  taken_before : (p : P) (bs : List Bool) (xs : List X) (q : P) → J p → done p ≡ false → list_any test xs ≡ true → length bs ≡ length xs
      → ReturnsInTurn R p bs xs q → (x : X) × (test x ≡ true) × IsPermutation xs (x ∷ items_where_true bs xs)
  taken_before p bs [] q j d some e r = absurd (cc)
  taken_before p [] (x ∷ xs) q j d some e r = absurd (omega arith)
  taken_before p (b ∷ bs) (x ∷ xs) q j d some e r =
      let s = step p x b r.0 j r.1 in
      let k : length bs ≡ length xs = omega arith in
      elim (cases_Bool (test x)) [
        | inl t ↦
            let f = s.0.found d t in
            let rest : items_where_true bs xs ≡ xs = kept_after r.0 bs xs q s.1 f.1 k r.2 in
            rw (f.0, rest) (x, t, IsPermutation-refl (x ∷ xs))
        | inr t ↦
            let f = s.0.before d t in
            let more : list_any test xs ≡ true = rw t at some in
            let one = taken_before r.0 bs xs q s.1 f.1 more k r.2 in
            let ys = items_where_true bs xs in
            rw f.0 (
              one.0,
              one.1,
              IsPermutation-trans (x ∷ xs) (x ∷ one.0 ∷ ys) (one.0 ∷ x ∷ ys)
                  (IsPermutation-cons x xs (one.0 ∷ ys) one.2)
                  (IsPermutation-middle (x ∷ []) one.0 ys),
            )
      ]

  pub taken_once : (p : P) (xs ys : List X) → J p → done p ≡ false → list_any test xs ≡ true → IsFiltered R p xs ys → (x : X) × (test x ≡ true) × IsPermutation xs (x ∷ ys)
  taken_once p xs ys j d some h = rw h.4 (taken_before p h.0 xs h.1 j d some h.2 h.3)
