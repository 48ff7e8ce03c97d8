-- Lists in order, by insertion: two lists with the same elements give the same list in order. That they have the same
-- elements is said by sums: every function adds up to the same over both.
use Rattle.std.proofs.Common.{◌≡◌, ℕ, ◌+◌, Bool, true, false, cond, List, [], ◌∷◌, filter, All, IsPermutation, refl, sym, ap, ◌∙◌, arith}
use Rattle.std.specs.List.{sum_by}
use Rattle.std.proofs.lemmas.List.Sums.{sum_by-cons}
use Rattle.std.proofs.lemmas.List.Sorted.{sum_by-IsPermutation}
use Rattle.std.proofs.lemmas.List.Elements.{All-head, All-tail}

module _ {K : Type 0} (before : K → K → Bool) where
  -- The list with one more in its place, and the list with each in its place.
  abbrev pub placed : K → List K → List K
  placed d [] = d ∷ []
  placed d (e ∷ es) = cond (before d e) (d ∷ e ∷ es) (e ∷ placed d es)

  abbrev pub all_placed : List K → List K
  all_placed [] = []
  all_placed (d ∷ ds) = placed d (all_placed ds)

  -- No element goes before x.
  abbrev pub NoneBefore : K → List K → Type 0
  NoneBefore x [] = Unit {0}
  NoneBefore x (y ∷ ys) = (before y x ≡ false) × NoneBefore x ys

  -- No element goes before one that stands before it.
  abbrev pub Ascends : List K → Type 0
  Ascends [] = Unit {0}
  Ascends (x ∷ xs) = NoneBefore x xs × Ascends xs

  -- `before` is a strict order in which only equals don't differ.
  pub record IsStrict : Type 0 where
    pub own : (x : K) → before x x ≡ false
    pub back : (x y : K) → before x y ≡ true → before y x ≡ false
    pub through : (x y z : K) → before y x ≡ false → before z y ≡ false → before z x ≡ false
    pub same : (x y : K) → before x y ≡ false → before y x ≡ false → x ≡ y

  -- A list with one more in its place has the same elements as with it in front.
  pub sum_by-placed : (f : K → ℕ) (d : K) (xs : List K) → sum_by f (placed d xs) ≡ f d + sum_by f xs
  sum_by-placed f d [] = sum_by-cons f d []
  sum_by-placed f d (e ∷ es) = by (sum_by-placed f d es) (before d e)
    where
      by : sum_by f (placed d es) ≡ f d + sum_by f es → (b : Bool) → sum_by f (cond b (d ∷ e ∷ es) (e ∷ placed d es)) ≡ f d + sum_by f (e ∷ es)
      by ih true = sum_by-cons f d (e ∷ es)
      by ih false =
          let a = sum_by-cons f e (placed d es) in
          let b = sum_by-cons f e es in
          omega arith

  pub sum_by-all_placed : (f : K → ℕ) (xs : List K) → sum_by f (all_placed xs) ≡ sum_by f xs
  sum_by-all_placed f [] = refl
  sum_by-all_placed f (x ∷ xs) =
      let ih = sum_by-all_placed f xs in
      let a = sum_by-placed f x (all_placed xs) in
      let b = sum_by-cons f x xs in
      omega arith

  -- What is put in its place goes before no other.
  pub none_placed : (x d : K) (xs : List K) → before d x ≡ false → NoneBefore x xs → NoneBefore x (placed d xs)
  none_placed x d [] h k = (h, tt)
  none_placed x d (e ∷ es) h k = by (none_placed x d es h k.1) (before d e)
    where
      by : NoneBefore x (placed d es) → (b : Bool) → NoneBefore x (cond b (d ∷ e ∷ es) (e ∷ placed d es))
      by ih true = (h, k)
      by ih false = (k.0, ih)

  pub none_all_placed : (x : K) (xs : List K) → NoneBefore x xs → NoneBefore x (all_placed xs)
  none_all_placed x [] h = tt
  none_all_placed x (y ∷ ys) h = none_placed x y (all_placed ys) h.0 (none_all_placed x ys h.1)

  pub none_from_all : (x : K) (xs : List K) → All (λ y. before y x ≡ false) xs → NoneBefore x xs
  none_from_all x [] h = tt
  none_from_all x (y ∷ ys) h = (All-head (λ y. before y x ≡ false) y ys h, none_from_all x ys (All-tail (λ y. before y x ≡ false) y ys h))

  -- What stays in a list that is filtered keeps its order.
  pub none_filtered : (p : K → Bool) (x : K) (xs : List K) → NoneBefore x xs → NoneBefore x (filter p xs)
  none_filtered p x [] h = tt
  none_filtered p x (y ∷ ys) h = by (none_filtered p x ys h.1) (p y)
    where
      by : NoneBefore x (filter p ys) → (b : Bool) → NoneBefore x (cond b (y ∷ filter p ys) (filter p ys))
      by ih true = (h.0, ih)
      by ih false = ih

  pub ascends_filtered : (p : K → Bool) (xs : List K) → Ascends xs → Ascends (filter p xs)
  ascends_filtered p [] h = tt
  ascends_filtered p (x ∷ xs) h = by (ascends_filtered p xs h.1) (p x)
    where
      by : Ascends (filter p xs) → (b : Bool) → Ascends (cond b (x ∷ filter p xs) (filter p xs))
      by ih true = (none_filtered p x xs h.0, ih)
      by ih false = ih

  -- Where none goes before x, the count of those that do is 0.
  none_counted : (x : K) (xs : List K) → NoneBefore x xs → sum_by (λ z. cond (before z x) 1 0) xs ≡ 0
  none_counted x [] h = refl
  none_counted x (y ∷ ys) h =
      let a = sum_by-cons (λ z. cond (before z x) 1 0) y ys in
      let b = none_counted x ys h.1 in
      let c : cond {A = ℕ} (before y x) 1 0 ≡ 0 = ap (λ t. cond {A = ℕ} t 1 0) h.0 in
      omega arith

  module _ (o : IsStrict) where
    none_through : (x e : K) (es : List K) → before e x ≡ false → NoneBefore e es → NoneBefore x es
    none_through x e [] h k = tt
    none_through x e (y ∷ ys) h k = (o.through x e y h k.0, none_through x e ys h k.1)

    -- Lists made by insertion ascend.
    pub ascends_placed : (d : K) (xs : List K) → Ascends xs → Ascends (placed d xs)
    ascends_placed d [] h = (tt, tt)
    ascends_placed d (e ∷ es) h = by (ascends_placed d es h.1) (before d e) refl
      where
        by : Ascends (placed d es) → (b : Bool) → before d e ≡ b → Ascends (cond b (d ∷ e ∷ es) (e ∷ placed d es))
        by ih true p = ((o.back d e p, none_through d e es (o.back d e p) h.0), h)
        by ih false p = (none_placed e d es p h.0, ih)

    pub ascends_all_placed : (xs : List K) → Ascends (all_placed xs)
    ascends_all_placed [] = tt
    ascends_all_placed (x ∷ xs) = ascends_placed x (all_placed xs) (ascends_all_placed xs)

    -- The first of one list doesn't go before the first of the other.
    front : (x : K) (xs : List K) (y : K) (ys : List K) → NoneBefore y ys → ((f : K → ℕ) → sum_by f (x ∷ xs) ≡ sum_by f (y ∷ ys)) → before x y ≡ false
    front x xs y ys h same = by (before x y) refl
      where
        by : (b : Bool) → before x y ≡ b → b ≡ false
        by false p = refl
        by true p =
            let f : K → ℕ = λ z. cond (before z y) 1 0 in
            let a = sum_by-cons f x xs in
            let b = sum_by-cons f y ys in
            let c = none_counted y ys h in
            let d : cond {A = ℕ} (before x y) 1 0 ≡ 1 = ap (λ t. cond {A = ℕ} t 1 0) p in
            let e : cond {A = ℕ} (before y y) 1 0 ≡ 0 = ap (λ t. cond {A = ℕ} t 1 0) (o.own y) in
            absurd (omega arith)

    -- Two lists that ascend and have the same elements are the same list.
    pub same_ascending : (xs ys : List K) → Ascends xs → Ascends ys → ((f : K → ℕ) → sum_by f xs ≡ sum_by f ys) → xs ≡ ys
    same_ascending [] [] h k same = refl
    same_ascending [] (y ∷ ys) h k same = let a = sum_by-cons (λ (z : K). 1) y ys in let b = same (λ z. 1) in absurd (omega arith)
    same_ascending (x ∷ xs) [] h k same = let a = sum_by-cons (λ (z : K). 1) x xs in let b = same (λ z. 1) in absurd (omega arith)
    same_ascending (x ∷ xs) (y ∷ ys) h k same =
        let e : x ≡ y = o.same x y (front x xs y ys k.0 same) (front y ys x xs h.0 (λ f. sym (same f))) in
        let rest : xs ≡ ys = same_ascending xs ys h.1 k.1 (λ f. later f (ap f e)) in
        cc
      where
        later : (f : K → ℕ) → f x ≡ f y → sum_by f xs ≡ sum_by f ys
        later f e =
            let a = sum_by-cons f x xs in
            let b = sum_by-cons f y ys in
            let c = same f in
            omega arith

    -- A reordered list gives the same list in order.
    pub all_placed_permuted : (xs ys : List K) → IsPermutation xs ys → all_placed xs ≡ all_placed ys
    all_placed_permuted xs ys h =
        same_ascending (all_placed xs) (all_placed ys) (ascends_all_placed xs) (ascends_all_placed ys)
        (λ f. sum_by-all_placed f xs ∙ sym (sum_by-IsPermutation f xs ys h) ∙ sym (sum_by-all_placed f ys))

    -- The least stands first.
    pub all_placed_least : (x : K) (xs : List K) → NoneBefore x xs → all_placed (x ∷ xs) ≡ x ∷ all_placed xs
    all_placed_least x xs h =
        same_ascending (all_placed (x ∷ xs)) (x ∷ all_placed xs) (ascends_all_placed (x ∷ xs))
        (none_all_placed x xs h, ascends_all_placed xs) (λ f. sum_by-placed f x (all_placed xs) ∙ sym (sum_by-cons f x (all_placed xs)))
