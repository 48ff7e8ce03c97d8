-- How often a key is in a list, and lists in which each key is as often.
use Rattle.dn_shaper.proofs.Words.{All, All-head, All-tail, Bool, Contains, Contains-permutation, IsPermutation, IsPermutation-cons, IsPermutation-filter_both, IsPermutation-middle}
use Rattle.dn_shaper.proofs.Words.{IsPermutation-refl, IsPermutation-sym, IsPermutation-trans, List, NextStart, [], ap, arith, cases_Bool, cond, false, filter, inl, inr, keys_at, length}
use Rattle.dn_shaper.proofs.Words.{length-append, length_permutation, nat_eq, nat_tests, not, one_at, refl, slice_index_or, subst, suc, sum_by, sum_by-IsPermutation, sum_by-cons, sym, true, zero}
use Rattle.dn_shaper.proofs.Words.{ℕ, ◌&&◌, ◌++◌, ◌+◌, ◌<◌, ◌∙◌, ◌∷◌, ◌≡◌, ◌≤◌, ◌⊎◌}
use Rattle.dn_shaper.proofs.NextStarts.{same_place, other_place}

abbrev pub key_eq : NextStart → NextStart → Bool
key_eq x k = nat_eq x.moment k.moment && nat_eq x.place k.place

abbrev pub one_if : NextStart → NextStart → ℕ
one_if k x = cond (key_eq x k) 1 0

abbrev pub count_of : NextStart → List NextStart → ℕ
count_of k keys = sum_by (one_if k) keys

-- The keys without the first that is this one.
abbrev without_one : NextStart → List NextStart → List NextStart
without_one k [] = []
without_one k (x ∷ xs) = cond (key_eq x k) xs (x ∷ without_one k xs)

pub same_key : (x k : NextStart) → key_eq x k ≡ true → x ≡ k
same_key x k e =
    let t : x.moment ≡ k.moment = grind (arith, nat_tests) in
    let s : x.place ≡ k.place = grind (arith, nat_tests) in
    λ i. record { moment = t i; place = s i }

pub itself : (k : NextStart) → key_eq k k ≡ true
itself k = grind (arith, nat_tests)

pub one_is : (k x : NextStart) → key_eq x k ≡ true → one_if k x ≡ 1
one_is k x e = rw e refl

pub one_not : (k x : NextStart) → key_eq x k ≡ false → one_if k x ≡ 0
one_not k x e = rw e refl

-- A key of another place or of another moment is another key.
pub one_elsewhere : (k x : NextStart) → (x.place ≡ k.place → ⊥) → one_if k x ≡ 0
one_elsewhere k x ne = elim (cases_Bool (key_eq x k)) [
  | inl e ↦ absurd (ne (ap (λ (y : NextStart). y.place) (same_key x k e)))
  | inr e ↦ one_not k x e
]

pub count-cons : (k x : NextStart) (xs : List NextStart) → count_of k (x ∷ xs) ≡ one_if k x + count_of k xs
count-cons k x xs = sum_by-cons (one_if k) x xs

hit : (g x : NextStart) (xs : List NextStart) → key_eq x g ≡ true → without_one g (x ∷ xs) ≡ xs
hit g x xs e = rw e refl

miss : (g x : NextStart) (xs : List NextStart) → key_eq x g ≡ false → without_one g (x ∷ xs) ≡ x ∷ without_one g xs
miss g x xs e = rw e refl

-- A key that isn't g isn't counted where g is.
apart : (k g x : NextStart) → key_eq x g ≡ false → (one_if k g ≡ 0) ⊎ (one_if k x ≡ 0)
apart k g x e = elim (cases_Bool (key_eq g k)) [
  | inl s ↦ inr (one_not k x (subst (λ (y : NextStart). key_eq x y ≡ false) (same_key g k s) e))
  | inr n ↦ inl (one_not k g n)
]

count-without : (k g : NextStart) (xs : List NextStart) → 0 < count_of g xs → count_of k (without_one g xs) + one_if k g ≡ count_of k xs
count-without k g [] some = absurd (omega arith)
count-without k g (x ∷ xs) some =
    let c = count-cons k x xs in
    let b = count-cons g x xs in
    elim (cases_Bool (key_eq x g)) [
      | inl e ↦
          let s : one_if k x ≡ one_if k g = ap (one_if k) (same_key x g e) in
          rw (hit g x xs e) (omega arith)
      | inr e ↦
          let z = one_not g x e in
          let r = count-without k g xs (omega (arith, b, z, some)) in
          let d = count-cons k x (without_one g xs) in
          rw (miss g x xs e) (omega arith)
    ]

found : (g : NextStart) (xs : List NextStart) → 0 < count_of g xs → IsPermutation xs (g ∷ without_one g xs)
found g [] h = absurd (omega arith)
found g (x ∷ xs) h =
    let c = count-cons g x xs in
    elim (cases_Bool (key_eq x g)) [
      | inl e ↦
          rw (hit g x xs e) (subst (λ (y : NextStart). IsPermutation (x ∷ xs) (y ∷ xs)) (same_key x g e) (IsPermutation-refl (x ∷ xs)))
      | inr e ↦
          let z = one_not g x e in
          let ws = without_one g xs in
          let r = IsPermutation-cons x xs (g ∷ ws) (found g xs (omega (arith, c, z, h))) in
          rw (miss g x xs e) (IsPermutation-trans (x ∷ xs) (x ∷ g ∷ ws) (g ∷ x ∷ ws) r (IsPermutation-middle (x ∷ []) g ws))
    ]

-- Lists in which each key is as often are permutations.
pub same_counts : (xs ys : List NextStart) → ((k : NextStart) → count_of k xs ≡ count_of k ys) → IsPermutation xs ys
same_counts [] [] h = IsPermutation-refl []
same_counts [] (y ∷ ys) h =
    absurd (let a = h y in let b = count-cons y y ys in let o = one_is y y (itself y) in omega arith)
same_counts (x ∷ xs) ys h =
    let a = h x in
    let b = count-cons x x xs in
    let o = one_is x x (itself x) in
    let ws = without_one x ys in
    let some : 0 < count_of x ys = omega (arith, a, b, o) in
    let f = found x ys some in
    let r = same_counts xs ws (λ k.
    let c = h k in
    let d = count-cons k x xs in
    let e = count-without k x ys some in
    omega arith) in
    IsPermutation-trans (x ∷ xs) (x ∷ ws) ys (IsPermutation-cons x xs ws r) (IsPermutation-sym ys (x ∷ ws) f)

counted_at : (k : NextStart) (xs : List NextStart) (i : ℕ) → i < length xs → slice_index_or xs i k ≡ k → 0 < count_of k xs
counted_at k [] i l e = absurd (omega arith)
counted_at k (x ∷ xs) zero l e =
    let c = count-cons k x xs in
    let o = one_is k x (subst (λ (y : NextStart). key_eq y k ≡ true) (sym e) (itself k)) in
    omega arith
counted_at k (x ∷ xs) (suc i) l e =
    let c = count-cons k x xs in
    let r = counted_at k xs i (omega arith) e in
    omega arith

pub counted : (k : NextStart) (xs : List NextStart) → Contains xs k → 0 < count_of k xs
counted k xs h = counted_at k xs h.0 h.1 h.2

pub contains_counted : (k : NextStart) (xs : List NextStart) → 0 < count_of k xs → Contains xs k
contains_counted k xs h =
    let ws = without_one k xs in
    Contains-permutation (k ∷ ws) xs k (IsPermutation-sym xs (k ∷ ws) (found k xs h)) (0, omega arith, refl)

-- ---- By place

one_below : (k x : NextStart) → one_if k x ≤ one_at k.place x
one_below k x = elim (cases_Bool (key_eq x k)) [
  | inl e ↦
      let o = one_is k x e in
      let p = same_place k.place x (ap (λ (y : NextStart). y.place) (same_key x k e)) in
      omega arith
  | inr e ↦ let z = one_not k x e in omega arith
]

-- A key is no more often there than its place.
pub count-below : (k : NextStart) (xs : List NextStart) → count_of k xs ≤ keys_at k.place xs
count-below k [] = omega arith
count-below k (x ∷ xs) =
    let c = count-cons k x xs in
    let d = sum_by-cons (one_at k.place) x xs in
    let o = one_below k x in
    let r = count-below k xs in
    omega arith

one_by_place : (k x : NextStart) → (x.place ≡ k.place → x ≡ k) → one_if k x ≡ one_at k.place x
one_by_place k x only = elim (cases_Bool (nat_eq x.place k.place)) [
  | inl e ↦
      let p : x.place ≡ k.place = grind (arith, nat_tests) in
      let one = one_is k x (subst (λ (y : NextStart). key_eq y k ≡ true) (sym (only p)) (itself k)) in
      let at = same_place k.place x p in
      omega arith
  | inr e ↦
      let ne : x.place ≡ k.place → ⊥ = λ p. absurd (let t : nat_eq x.place k.place ≡ true = grind (arith, nat_tests) in cc) in
      let one = one_elsewhere k x ne in
      let at = other_place k.place x ne in
      omega arith
]

-- It is as often there, where each key of its place is the same.
pub count-by_place : (k : NextStart) (xs : List NextStart) → All (λ x. x.place ≡ k.place → x ≡ k) xs → count_of k xs ≡ keys_at k.place xs
count-by_place k [] all = refl
count-by_place k (x ∷ xs) all =
    let c = count-cons k x xs in
    let d = sum_by-cons (one_at k.place) x xs in
    let o = one_by_place k x (All-head (λ (y : NextStart). y.place ≡ k.place → y ≡ k) x xs all) in
    let r = count-by_place k xs (All-tail (λ (y : NextStart). y.place ≡ k.place → y ≡ k) x xs all) in
    omega arith

-- ---- Filters

module _ (p : NextStart → Bool) where
  pub filter-in : (x : NextStart) (xs : List NextStart) → p x ≡ true → filter p (x ∷ xs) ≡ x ∷ filter p xs
  filter-in x xs e = ap (λ (b : Bool). cond b (x ∷ filter p xs) (filter p xs)) e

  pub filter-out : (x : NextStart) (xs : List NextStart) → p x ≡ false → filter p (x ∷ xs) ≡ filter p xs
  filter-out x xs e = ap (λ (b : Bool). cond b (x ∷ filter p xs) (filter p xs)) e

  -- A key that passes otherwise than another isn't that one.
  other_key : (k x : NextStart) (b c : Bool) → p x ≡ b → p k ≡ c → (b ≡ c → ⊥) → one_if k x ≡ 0
  other_key k x b c e f ne = elim (cases_Bool (key_eq x k)) [
    | inl s ↦ absurd (ne (sym e ∙ ap p (same_key x k s) ∙ f))
    | inr n ↦ one_not k x n
  ]

  pub count-passing : (k : NextStart) → p k ≡ true → (xs : List NextStart) → count_of k (filter p xs) ≡ count_of k xs
  count-passing k t [] = refl
  count-passing k t (x ∷ xs) =
      let r = count-passing k t xs in
      let c = count-cons k x xs in
      elim (cases_Bool (p x)) [
        | inl e ↦ let s = ap (count_of k) (filter-in x xs e) in let d = count-cons k x (filter p xs) in omega (arith, r, c, s, d)
        | inr e ↦ let s = ap (count_of k) (filter-out x xs e) in let z = other_key k x false true e t (λ f. cc) in omega (arith, r, c, s, z)
      ]

  pub count-failing : (k : NextStart) → p k ≡ false → (xs : List NextStart) → count_of k (filter p xs) ≡ 0
  count-failing k f [] = refl
  count-failing k f (x ∷ xs) =
      let r = count-failing k f xs in
      elim (cases_Bool (p x)) [
        | inl e ↦
            let s = ap (count_of k) (filter-in x xs e) in
            let d = count-cons k x (filter p xs) in
            let z = other_key k x true false e f (λ g. cc) in
            omega (arith, r, s, d, z)
        | inr e ↦ let s = ap (count_of k) (filter-out x xs e) in omega (arith, r, s)
      ]

  pub filter-none : (xs : List NextStart) → ((x : NextStart) → p x ≡ false) → filter p xs ≡ []
  filter-none [] none = refl
  filter-none (x ∷ xs) none = filter-out x xs (none x) ∙ filter-none xs none

  pub filter-permutation : (xs ys : List NextStart) → IsPermutation xs ys → IsPermutation (filter p xs) (filter p ys)
  filter-permutation xs ys perm = same_counts (filter p xs) (filter p ys) (λ k.
      let same = sum_by-IsPermutation (one_if k) xs ys perm in
      elim (cases_Bool (p k)) [
        | inl t ↦ let a = count-passing k t xs in let b = count-passing k t ys in omega (arith, a, b, same)
        | inr f ↦ let a = count-failing k f xs in let b = count-failing k f ys in omega (arith, a, b)
      ])

  -- A key that passes comes or leaves.
  pub filter-with : (x : NextStart) (xs ys : List NextStart) → p x ≡ true → IsPermutation (x ∷ xs) ys → IsPermutation (x ∷ filter p xs) (filter p ys)
  filter-with x xs ys t perm = subst (λ (l : List NextStart). IsPermutation l (filter p ys)) (filter-in x xs t) (filter-permutation (x ∷ xs) ys perm)

  -- One that doesn't pass comes or leaves.
  pub filter-without : (x : NextStart) (xs ys : List NextStart) → p x ≡ false → IsPermutation (x ∷ xs) ys → IsPermutation (filter p xs) (filter p ys)
  filter-without x xs ys f perm = subst (λ (l : List NextStart). IsPermutation l (filter p ys)) (filter-out x xs f) (filter-permutation (x ∷ xs) ys perm)

  pub filter-lengths : (xs : List NextStart) → length (filter p xs) + length (filter (λ x. not (p x)) xs) ≡ length xs
  filter-lengths xs =
      let perm = IsPermutation-filter_both p (λ x. not (p x)) (λ x. refl) xs in
      let a = length_permutation xs (filter p xs ++ filter (λ x. not (p x)) xs) perm in
      let b = length-append (filter p xs) (filter (λ x. not (p x)) xs) in
      omega arith
