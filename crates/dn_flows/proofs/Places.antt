-- Lists with one place set, sums over them, and the test whether two places are one.
use Rattle.dn_flows.proofs.Words.{List, Some, [], ap, arith, false, get_or, inl, inr, length, map, nat_eq, nat_tests, refl, set, slice_get, suc, sum_by, sum_by-cons, sym, true, zero, ℕ, ◌++◌, ◌+◌}
use Rattle.dn_flows.proofs.Words.{◌<◌, ◌∙◌, ◌∷◌, ◌≡◌, ◌≤◌, ◌⊎◌}

pub eq-yes : (i j : ℕ) → i ≡ j → nat_eq i j ≡ true
eq-yes i j e = grind (arith, nat_tests)

pub eq-no : (i j : ℕ) → (i ≡ j → ⊥) → nat_eq i j ≡ false
eq-no i j ne = grind (arith, nat_tests)

module _ {X : Type 0} where
  pub get-set : (xs : List X) (k : ℕ) (x y : X) → slice_get xs k ≡ Some x → slice_get (set xs k y) k ≡ Some y
  get-set [] k x y e = absurd cc
  get-set (z ∷ xs) zero x y e = refl
  get-set (z ∷ xs) (suc k) x y e = get-set xs k x y e

  pub get-set-other : (xs : List X) (k j : ℕ) (y : X) → (j ≡ k → ⊥) → slice_get (set xs k y) j ≡ slice_get xs j
  get-set-other [] k j y ne = refl
  get-set-other (z ∷ xs) zero zero y ne = absurd (ne refl)
  get-set-other (z ∷ xs) zero (suc j) y ne = refl
  get-set-other (z ∷ xs) (suc k) zero y ne = refl
  get-set-other (z ∷ xs) (suc k) (suc j) y ne = get-set-other xs k j y (λ e. ne (ap suc e))

  pub get-below : (xs : List X) (k : ℕ) (x : X) → slice_get xs k ≡ Some x → k < length xs
  get-below [] k x e = absurd cc
  get-below (z ∷ xs) zero x e = omega arith
  get-below (z ∷ xs) (suc k) x e = let r = get-below xs k x e in omega arith

  pub get-some : (xs : List X) (k : ℕ) → k < length xs → (x : X) × (slice_get xs k ≡ Some x)
  get-some [] k lt = absurd (omega arith)
  get-some (z ∷ xs) zero lt = (z, refl)
  get-some (z ∷ xs) (suc k) lt = get-some xs k (omega arith)

  pub get-read : (xs : List X) (k : ℕ) (x : X) → k < length xs → x ≡ get_or xs k x → slice_get xs k ≡ Some x
  get-read [] k x lt e = absurd (omega arith)
  get-read (z ∷ xs) zero x lt e = ap (λ (w : X). Some w) (sym e)
  get-read (z ∷ xs) (suc k) x lt e = get-read xs k x (omega arith) e

  -- An element of a list with one more is one of the list, or the one more.
  pub get-more : (xs : List X) (y x : X) (k : ℕ) → slice_get (xs ++ y ∷ []) k ≡ Some x → (slice_get xs k ≡ Some x) ⊎ ((k ≡ length xs) × (x ≡ y))
  get-more [] y x zero e = let same : y ≡ x = cc in inr (refl, sym same)
  get-more [] y x (suc k) e = absurd cc
  get-more (z ∷ xs) y x zero e = inl e
  get-more (z ∷ xs) y x (suc k) e = by (get-more xs y x k e)
    where
      by : (slice_get xs k ≡ Some x) ⊎ ((k ≡ length xs) × (x ≡ y)) → (slice_get xs k ≡ Some x) ⊎ ((suc k ≡ suc (length xs)) × (x ≡ y))
      by (inl h) = inl h
      by (inr h) = inr (ap suc h.0, h.1)

  pub get-kept : (xs : List X) (y x : X) (k : ℕ) → slice_get xs k ≡ Some x → slice_get (xs ++ y ∷ []) k ≡ Some x
  get-kept [] y x k e = absurd cc
  get-kept (z ∷ xs) y x zero e = e
  get-kept (z ∷ xs) y x (suc k) e = get-kept xs y x k e

  pub get-last : (xs : List X) (y : X) → slice_get (xs ++ y ∷ []) (length xs) ≡ Some y
  get-last [] y = refl
  get-last (z ∷ xs) y = get-last xs y

  pub length-more : (xs : List X) (y : X) → length (xs ++ y ∷ []) ≡ length xs + 1
  length-more [] y = refl
  length-more (z ∷ xs) y = let r = length-more xs y in omega arith

  module _ {Y : Type 0} (f : X → Y) where
    pub map-set : (xs : List X) (k : ℕ) (y : X) → map f (set xs k y) ≡ set (map f xs) k (f y)
    map-set [] k y = refl
    map-set (z ∷ xs) zero y = refl
    map-set (z ∷ xs) (suc k) y = λ i. f z ∷ map-set xs k y i

    pub map-set-same : (xs : List X) (k : ℕ) (x y : X) → slice_get xs k ≡ Some x → f y ≡ f x → map f (set xs k y) ≡ map f xs
    map-set-same [] k x y e h = refl
    map-set-same (z ∷ xs) zero x y e h = let same : z ≡ x = cc in λ i. (h ∙ ap f (sym same)) i ∷ map f xs
    map-set-same (z ∷ xs) (suc k) x y e h = λ i. f z ∷ map-set-same xs k x y e h i

    pub get-map : (xs : List X) (k : ℕ) (x : X) → slice_get xs k ≡ Some x → slice_get (map f xs) k ≡ Some (f x)
    get-map [] k x e = absurd cc
    get-map (z ∷ xs) zero x e = let same : z ≡ x = cc in ap (λ (v : X). Some (f v)) same
    get-map (z ∷ xs) (suc k) x e = get-map xs k x e

  module _ (f : X → ℕ) where
    -- One term of a sum is changed.
    pub sum-set : (xs : List X) (k : ℕ) (x y : X) → slice_get xs k ≡ Some x → sum_by f (set xs k y) + f x ≡ sum_by f xs + f y
    sum-set [] k x y e = absurd cc
    sum-set (z ∷ xs) zero x y e =
        let same : z ≡ x = cc in
        let w = ap f same in
        let a = sum_by-cons f z xs in
        let b = sum_by-cons f y xs in
        omega arith
    sum-set (z ∷ xs) (suc k) x y e =
        let rest = sum-set xs k x y e in
        let a = sum_by-cons f z xs in
        let b = sum_by-cons f z (set xs k y) in
        omega arith

    pub sum-le : (xs : List X) (k : ℕ) (x : X) → slice_get xs k ≡ Some x → f x ≤ sum_by f xs
    sum-le [] k x e = absurd cc
    sum-le (z ∷ xs) zero x e = let same : z ≡ x = cc in let w = ap f same in let a = sum_by-cons f z xs in omega arith
    sum-le (z ∷ xs) (suc k) x e = let rest = sum-le xs k x e in let a = sum_by-cons f z xs in omega arith

    pub sum-more : (xs : List X) (y : X) → sum_by f (xs ++ y ∷ []) ≡ sum_by f xs + f y
    sum-more [] y = let a = sum_by-cons f y [] in omega arith
    sum-more (z ∷ xs) y = let r = sum-more xs y in let a = sum_by-cons f z xs in let b = sum_by-cons f z (xs ++ y ∷ []) in omega arith

-- The element that was read, and what stands for it.
pub viewed : {X Y : Type 0} (f : X → Y) (xs : List X) (i : ℕ) (x : X) (y : Y) → slice_get (map f xs) i ≡ Some y → x ≡ get_or xs i x → (slice_get xs i ≡ Some x) × (f x ≡ y)
viewed f [] i x y e read = absurd cc
viewed f (z ∷ xs) zero x y e read = let same : f z ≡ y = cc in (ap (λ w. Some w) (sym read), ap f read ∙ same)
viewed f (z ∷ xs) (suc i) x y e read = viewed f xs i x y e read

pub get-below-map : {X Y : Type 0} (f : X → Y) (xs : List X) (i : ℕ) (y : Y) → slice_get (map f xs) i ≡ Some y → i < length xs
get-below-map f [] i y e = absurd cc
get-below-map f (z ∷ xs) zero y e = omega arith
get-below-map f (z ∷ xs) (suc i) y e = let r = get-below-map f xs i y e in omega arith

module _ {X Y : Type 0} (f h : X → Y) where
  pub map-same : (xs : List X) → ((j : ℕ) (x : X) → slice_get xs j ≡ Some x → h x ≡ f x) → map h xs ≡ map f xs
  map-same [] same = refl
  map-same (z ∷ xs) same = λ i. same 0 z refl i ∷ map-same xs (λ j x e. same (suc j) x e) i

  -- One element changes, and the others stand for what they stood for.
  pub map-set-but : (xs : List X) (k : ℕ) (y : X) → ((j : ℕ) (x : X) → slice_get xs j ≡ Some x → (j ≡ k → ⊥) → h x ≡ f x) → map h (set xs k y) ≡ set (map f xs) k (h y)
  map-set-but [] k y same = refl
  map-set-but (z ∷ xs) zero y same = λ i. h y ∷ map-same xs (λ j x e. same (suc j) x e (λ n. absurd (omega arith))) i
  map-set-but (z ∷ xs) (suc k) y same = λ i. same 0 z refl (λ n. absurd (omega arith)) i ∷ map-set-but xs k y (λ j x e ne. same (suc j) x e (λ n. ne (omega arith))) i
