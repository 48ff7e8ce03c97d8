-- A list in order is the only one that is in order and leaves what is level as it stands.
use Rattle.dn_replay.proofs.Words.{Bool, Bor, Called, ComputesKey, IsNonDecreasingBy, IsNonDecreasingBy-from_sort_by_key, IsSortedByKey, IsStableByKey, List, [], always_returns_same, ap, arith}
use Rattle.dn_replay.proofs.Words.{cases_Bool, cond, false, filter, get_or, inl, inr, is_lt, length, nat_cmp, nat_eq, nat_lt, nat_tests, not, refl, sorted_by, suc, sym, true, with_placed, ℕ, ◌&&◌}
use Rattle.dn_replay.proofs.Words.{◌<◌, ◌∙◌, ◌∷◌, ◌≡◌, ◌≤◌, ◌⊎◌}
use denote.Param.Members.{Mut}

-- Each element's place is at least n.
abbrev pub AtLeast : {X : Type 0} → (X → ℕ) → ℕ → List X → Type 0
AtLeast place n [] = Unit {0}
AtLeast place n (y ∷ ys) = (n ≤ place y) × AtLeast place n ys

-- No place is below an earlier one.
abbrev pub Rises : {X : Type 0} → (X → ℕ) → List X → Type 0
Rises place [] = Unit {0}
Rises place (y ∷ ys) = AtLeast place (place y) ys × Rises place ys

-- The elements at a place.
abbrev pub at : {X : Type 0} → (X → ℕ) → ℕ → List X → List X
at place n ys = filter (λ y. nat_eq n (place y)) ys

at_least-from : {X : Type 0} (place : X → ℕ) (n : ℕ) (ys : List X) → ((j : ℕ) (d : X) → j < length ys → n ≤ place (get_or ys j d)) → AtLeast place n ys
at_least-from place n [] h = tt
at_least-from place n (y ∷ ys) h = (h 0 y (omega arith), at_least-from place n ys (λ j d lt. h (suc j) d (omega arith)))

rises-from : {X : Type 0} (place : X → ℕ) (ys : List X) → IsNonDecreasingBy place ys → Rises place ys
rises-from place [] up = tt
rises-from place (y ∷ ys) up =
    (at_least-from place (place y) ys (λ j d lt. up 0 (suc j) d (omega arith) (omega arith)), rises-from place ys (λ i j d le lt. up (suc i) (suc j) d (omega arith) (omega arith)))

pub lower : {X : Type 0} (place : X → ℕ) (m n : ℕ) (ys : List X) → n ≤ m → AtLeast place m ys → AtLeast place n ys
lower place m n [] le h = tt
lower place m n (y ∷ ys) le h = (omega (arith, h.0), lower place m n ys le h.1)

pub none-at : {X : Type 0} (place : X → ℕ) (n m : ℕ) (ys : List X) → n < m → AtLeast place m ys → at place n ys ≡ []
none-at place n m [] lt h = refl
none-at place n m (y ∷ ys) lt h =
    let above : m ≤ place y = h.0 in
    let other : nat_eq n (place y) ≡ false = grind (arith, nat_tests) in
    rw other (none-at place n m ys lt h.1)

pub itself : (n : ℕ) → nat_eq n n ≡ true
itself n = grind (arith, nat_tests)

-- Two lists that rise and have the same at each place of an element are the same.
abbrev pub Agree : {X : Type 0} → (X → ℕ) → List X → List X → Type 0
Agree {X} place xs ys = (x : X) → at place (place x) ys ≡ at place (place x) xs

same_tails : {X : Type 0} (b : Bool) (x y : X) (xs ys : List X) → x ≡ y → cond b (y ∷ ys) ys ≡ cond b (x ∷ xs) xs → ys ≡ xs
same_tails true x y xs ys e h = cc
same_tails false x y xs ys e h = h

trichotomy : (a b : ℕ) → (a < b) ⊎ ((b < a) ⊎ (a ≡ b))
trichotomy a b = elim (cases_Bool (nat_lt a b)) [
  | inl less ↦ inl (grind (arith, nat_tests))
  | inr not_less ↦ elim (cases_Bool (nat_lt b a)) [
    | inl more ↦ inr (inl (grind (arith, nat_tests)))
    | inr not_more ↦ inr (inr (grind (arith, nat_tests)))
  ]
]

pub unique : {X : Type 0} (place : X → ℕ) (xs ys : List X) → Rises place xs → Rises place ys → Agree place xs ys → xs ≡ ys
unique place [] [] rx ry h = refl
unique place [] (y ∷ ys) rx ry h = let e = rw (itself (place y)) at (h y) in cc
unique place (x ∷ xs) [] rx ry h = let e = rw (itself (place x)) at (h x) in cc
unique {X} place (x ∷ xs) (y ∷ ys) rx ry h = elim (trichotomy (place x) (place y)) [
  | inl lt ↦
      let others : nat_eq (place x) (place y) ≡ false = grind (arith, nat_tests) in
      let e = rw (itself (place x), others, none-at place (place x) (place y) ys lt ry.0) at (h x) in cc
  | inr (inl lt) ↦
      let others : nat_eq (place y) (place x) ≡ false = grind (arith, nat_tests) in
      let e = rw (itself (place y), others, none-at place (place y) (place x) xs lt rx.0) at (h y) in cc
  | inr (inr level) ↦
      let e = rw (← level, itself (place x)) at (h x) in
      let heads : x ≡ y = cc in
      let tails : xs ≡ ys = unique place xs ys rx.1 ry.1 (λ z. same_tails (nat_eq (place z) (place x)) x y (at place (place z) xs) (at place (place z) ys) heads (rw (← level) at (h z))) in
      cc
]

placed-at_least : {X : Type 0} (place : X → ℕ) (n : ℕ) (x : X) (ys : List X) → n ≤ place x → AtLeast place n ys → AtLeast place n (with_placed place x ys)
unfolding with_placed
placed-at_least place n x [] le h = (le, tt)
placed-at_least place n x (y ∷ ys) le h = elim (cases_Bool (nat_lt (place y) (place x))) [
  | inl before ↦ rw before (h.0, placed-at_least place n x ys le h.1)
  | inr behind ↦ rw behind (le, h)
]

placed-rises : {X : Type 0} (place : X → ℕ) (x : X) (ys : List X) → Rises place ys → Rises place (with_placed place x ys)
unfolding with_placed
placed-rises place x [] r = (tt, tt)
placed-rises place x (y ∷ ys) r = elim (cases_Bool (nat_lt (place y) (place x))) [
  | inl before ↦
      let le : place y ≤ place x = grind (arith, nat_tests) in
      rw before (placed-at_least place (place y) x ys le r.0, placed-rises place x ys r.1)
  | inr behind ↦
      let le : place x ≤ place y = grind (arith, nat_tests) in
      rw behind ((le, lower place (place y) (place x) ys le r.0), r)
]

swap-at : {X : Type 0} (a b : Bool) (x y : X) (l : List X) → (a ≡ true → b ≡ true → ⊥) → cond b (y ∷ cond a (x ∷ l) l) (cond a (x ∷ l) l) ≡ cond a (x ∷ cond b (y ∷ l) l) (cond b (y ∷ l) l)
swap-at true true x y l h = absurd (h refl refl)
swap-at _ _ x y l h = refl

placed-level : {X : Type 0} (place : X → ℕ) (n : ℕ) (x : X) (ys : List X) → at place n (with_placed place x ys) ≡ at place n (x ∷ ys)
unfolding with_placed
placed-level place n x [] = refl
placed-level place n x (y ∷ ys) = elim (cases_Bool (nat_lt (place y) (place x))) [
  | inl before ↦
      let apart : nat_eq n (place x) ≡ true → nat_eq n (place y) ≡ true → ⊥ = λ a b. absurd (grind (arith, nat_tests)) in
      rw (before, placed-level place n x ys) (swap-at (nat_eq n (place x)) (nat_eq n (place y)) x y (at place n ys) apart)
  | inr behind ↦ rw behind refl
]

pub in_order-rises : {X : Type 0} (place : X → ℕ) (xs : List X) → Rises place (sorted_by place xs)
unfolding sorted_by
in_order-rises place [] = tt
in_order-rises place (x ∷ xs) = placed-rises place x (sorted_by place xs) (in_order-rises place xs)

pub in_order-level : {X : Type 0} (place : X → ℕ) (n : ℕ) (xs : List X) → at place n (sorted_by place xs) ≡ at place n xs
unfolding sorted_by
in_order-level place n [] = refl
in_order-level place n (x ∷ xs) = placed-level place n x (sorted_by place xs) ∙ ap (λ (l : List _). cond (nat_eq n (place x)) (x ∷ l) l) (in_order-level place n xs)

-- std's test of what is level.
level : (a b : ℕ) → not (is_lt (nat_cmp a b)) && not (is_lt (nat_cmp b a)) ≡ nat_eq a b
level a b = grind (arith, nat_tests)

level-at : {X : Type 0} (place : X → ℕ) (x : X) (ys : List X) → filter (λ y. not (is_lt (nat_cmp (place x) (place y))) && not (is_lt (nat_cmp (place y) (place x)))) ys ≡ at place (place x) ys
level-at place x [] = refl
level-at place x (y ∷ ys) = rw (level (place x) (place y), level-at place x ys) refl

-- What a stable sort gives is the list in order.
pub sorted_is : {X : Type 0} (place : X → ℕ) (xs ys : List X) → IsNonDecreasingBy place ys → IsStableByKey place nat_cmp xs ys → ys ≡ sorted_by place xs
sorted_is place xs ys up stable =
    unique place ys (sorted_by place xs) (rises-from place ys up) (in_order-rises place xs)
    (λ x. in_order-level place (place x) xs ∙ sym (level-at place x xs) ∙ sym (stable x) ∙ level-at place x ys)

-- The same by the clauses of `sort_by_key`, where each call gives the place of the element.
pub sorted_by_key : {X : Type 0} (place : X → ℕ) {F : Type 0} {g : Mut F (Bor X × Unit {0}) ℕ} {f : F} (xs ys : List X)
    → ((key : X → ℕ) → ComputesKey g key f → IsSortedByKey key nat_cmp ys) → ((key : X → ℕ) → ComputesKey g key f → IsStableByKey key nat_cmp xs ys)
    → ((a : Bor X × Unit {0}) (r : ℕ) (f' : F) → Called g f a r f' → (r ≡ place a.0.now) × (f' ≡ f)) → ys ≡ sorted_by place xs
sorted_by_key place {g = g} {f = f} xs ys sorted stable calls =
    sorted_is place xs ys (IsNonDecreasingBy-from_sort_by_key place ys sorted calls) (stable place (always_returns_same g (λ a r. r ≡ place a.0.now) f calls))
