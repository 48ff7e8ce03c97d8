-- A list that is sorted by one place and then by another is in order by both.
use Rattle.std.proofs.Common.{AllPairs, List, [], arith, get_or, inl, inr, length, nat_lt, refl, subst, suc, zero, ℕ, ◌++◌, ◌<◌, ◌∷◌, ◌≡◌, ◌≤◌, ◌⊎◌}
use Rattle.std.proofs.lemmas.Bool.{cases_Bool}
use Rattle.std.proofs.lemmas.Bool.Decides.{nat_tests}
use Rattle.std.proofs.lemmas.List.Kept.{AllPairs-cons}
use Rattle.dn_laws.proofs.Members.{has-either}
use Rattle.dn_laws.specs.Determined.Emulators.{Has}
use Rattle.dn_replay.specs.Report.{sorted_by, with_placed}

placed-in : {X : Type 0} (place : X → ℕ) (x : X) (ys : List X) (z : X) → Has (with_placed place x ys) z → Has (x ∷ ys) z
unfolding with_placed
placed-in place x [] z h = h
placed-in place x (y ∷ ys) z h = elim (cases_Bool (nat_lt (place y) (place x))) [
  | inl before ↦ elim (rw before at h) [
    | inl same ↦ inr (inl same)
    | inr later ↦ elim (placed-in place x ys z later) [ inl this ↦ inl this | inr among ↦ inr (inr among) ]
  ]
  | inr behind ↦ rw behind at h
]

in-placed : {X : Type 0} (place : X → ℕ) (x : X) (ys : List X) (z : X) → Has (x ∷ ys) z → Has (with_placed place x ys) z
unfolding with_placed
in-placed place x [] z h = h
in-placed place x (y ∷ ys) z h = elim (cases_Bool (nat_lt (place y) (place x))) [
  | inl before ↦ rw before (elim h [
    | inl this ↦ inr (in-placed place x ys z (inl this))
    | inr (inl same) ↦ inl same
    | inr (inr among) ↦ inr (in-placed place x ys z (inr among))
  ])
  | inr behind ↦ rw behind h
]

pub sorted-in : {X : Type 0} (place : X → ℕ) (xs : List X) (z : X) → Has (sorted_by place xs) z → Has xs z
unfolding sorted_by
sorted-in place [] z h = h
sorted-in place (x ∷ xs) z h = elim (placed-in place x (sorted_by place xs) z h) [ inl this ↦ inl this | inr among ↦ inr (sorted-in place xs z among) ]

pub in-sorted : {X : Type 0} (place : X → ℕ) (xs : List X) (z : X) → Has xs z → Has (sorted_by place xs) z
unfolding sorted_by
in-sorted place [] z h = h
in-sorted place (x ∷ xs) z (inl this) = in-placed place x (sorted_by place xs) z (inl this)
in-sorted place (x ∷ xs) z (inr among) = in-placed place x (sorted_by place xs) z (inr (in-sorted place xs z among))

placed-length : {X : Type 0} (place : X → ℕ) (x : X) (ys : List X) → length (with_placed place x ys) ≡ suc (length ys)
unfolding with_placed
placed-length place x [] = refl
placed-length place x (y ∷ ys) = elim (cases_Bool (nat_lt (place y) (place x))) [
  | inl before ↦ rw before (let rest = placed-length place x ys in omega (arith, rest))
  | inr behind ↦ rw behind refl
]

pub sorted-length : {X : Type 0} (place : X → ℕ) (xs : List X) → length (sorted_by place xs) ≡ length xs
unfolding sorted_by
sorted-length place [] = refl
sorted-length place (x ∷ xs) = let rest = sorted-length place xs in let one = placed-length place x (sorted_by place xs) in omega (arith, one, rest)

-- Each element and each later one.
abbrev pub Pairs : {X : Type 0} → (X → X → Type 0) → List X → Type 0
Pairs R [] = Unit {0}
Pairs {X} R (x ∷ xs) = ((y : X) → Has xs y → R x y) × Pairs R xs

abbrev pub Lex : {X : Type 0} → (X → ℕ) → (X → ℕ) → X → X → Type 0
Lex d p x y = (d x < d y) ⊎ ((d x ≡ d y) × (p x ≤ p y))

lex-from : {X : Type 0} (d p : X → ℕ) (x y : X) → d x ≤ d y → p x ≤ p y → Lex d p x y
lex-from d p x y h least = elim (cases_Bool (nat_lt (d x) (d y))) [
  | inl less ↦ inl (grind (arith, nat_tests))
  | inr level ↦ inr (let same : d x ≡ d y = grind (arith, nat_tests) in same, least)
]

lex-least : {X : Type 0} (d p : X → ℕ) (x y : X) → Lex d p x y → d x ≤ d y
lex-least d p x y (inl less) = omega (arith, less)
lex-least d p x y (inr level) = omega (arith, level.0)

placed-pairs : {X : Type 0} (d p : X → ℕ) (x : X) (ys : List X) → Pairs (Lex d p) ys → ((y : X) → Has ys y → p x ≤ p y) → Pairs (Lex d p) (with_placed d x ys)
unfolding with_placed
placed-pairs d p x [] r least = (λ z h. absurd h, tt)
placed-pairs d p x (y ∷ ys) r least = elim (cases_Bool (nat_lt (d y) (d x))) [
  | inl before ↦
      let lt : d y < d x = grind (arith, nat_tests) in
      rw before
      (λ z h. elim (placed-in d x ys z h) [ inl same ↦ inl (subst (λ (w : _). d y < d w) same lt) | inr among ↦ r.0 z among ], placed-pairs d p x ys r.1 (λ z h. least z (inr h)))
  | inr behind ↦
      let le : d x ≤ d y = grind (arith, nat_tests) in
      rw behind (
        λ z h. elim h [
          | inl same ↦ lex-from d p x z (subst (λ (w : _). d x ≤ d w) same le) (least z (inl same))
          | inr among ↦ let more = lex-least d p y z (r.0 z among) in lex-from d p x z (omega (arith, le, more)) (least z (inr among))
        ],
        r,
      )
]

pub sorted-pairs : {X : Type 0} (d p : X → ℕ) (xs : List X) → Pairs (λ x y. p x ≤ p y) xs → Pairs (Lex d p) (sorted_by d xs)
unfolding sorted_by
sorted-pairs d p [] h = tt
sorted-pairs d p (x ∷ xs) h = placed-pairs d p x (sorted_by d xs) (sorted-pairs d p xs h.1) (λ y among. h.0 y (sorted-in d xs y among))

pub pairs-in : {X : Type 0} (R S : X → X → Type 0) (xs : List X) → ((x y : X) → Has xs x → Has xs y → R x y → S x y) → Pairs R xs → Pairs S xs
pairs-in R S [] f h = tt
pairs-in R S (x ∷ xs) f h = (λ y among. f x y (inl refl) (inr among) (h.0 y among), pairs-in R S xs (λ a b m n. f a b (inr m) (inr n)) h.1)

any-pairs : {X : Type 0} (ys : List X) → Pairs (λ x y. 0 ≤ 0) ys
any-pairs [] = tt
any-pairs (y ∷ ys) = (λ z h. omega arith, any-pairs ys)

pub pairs-least : {X : Type 0} (d : X → ℕ) (xs : List X) → Pairs (λ x y. d x ≤ d y) (sorted_by d xs)
pairs-least d xs = pairs-in (Lex d (λ x. 0)) (λ x y. d x ≤ d y) (sorted_by d xs) (λ x y m n h. lex-least d (λ z. 0) x y h) (sorted-pairs d (λ x. 0) xs (any-pairs xs))

pub pairs-append : {X : Type 0} (S : X → X → Type 0) (xs ys : List X) → Pairs S xs → Pairs S ys → ((x y : X) → Has xs x → Has ys y → S x y) → Pairs S (xs ++ ys)
pairs-append S [] ys h k f = k
pairs-append S (x ∷ xs) ys h k f =
    (λ y among. elim (has-either xs ys y among) [ inl left ↦ h.0 y left | inr right ↦ f x y (inl refl) right ], pairs-append S xs ys h.1 k (λ a b m n. f a b (inr m) n))

has-at : {X : Type 0} (xs : List X) (k : ℕ) (d : X) → k < length xs → Has xs (get_or xs k d)
has-at [] k d lt = absurd (omega (arith, lt))
has-at (x ∷ xs) zero d lt = inl refl
has-at (x ∷ xs) (suc k) d lt = inr (has-at xs k d (omega (arith, lt)))

pub all-pairs : {X : Type 0} (R : X → X → Type 0) (xs : List X) → Pairs R xs → AllPairs R xs
all-pairs R [] h = λ i j d lt within. absurd (omega (arith, within))
all-pairs R (x ∷ xs) h = AllPairs-cons R x xs (λ k d lt. h.0 (get_or xs k d) (has-at xs k d lt)) (all-pairs R xs h.1)
