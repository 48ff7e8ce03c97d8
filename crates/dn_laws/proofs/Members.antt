-- What is in a list, and in its parts.
use Rattle.std.proofs.Common.{Bool, List, [], cond, false, filter, inl, inr, refl, sym, true, subst, ◌++◌, ◌∷◌, ◌≡◌, ◌⊎◌}
use Rattle.dn_laws.specs.Determined.Emulators.{Has}

pub has-left : {X : Type 0} (xs ys : List X) (z : X) → Has xs z → Has (xs ++ ys) z
has-left [] ys z h = absurd h
has-left (x ∷ xs) ys z (inl same) = inl same
has-left (x ∷ xs) ys z (inr h) = inr (has-left xs ys z h)

pub has-right : {X : Type 0} (xs ys : List X) (z : X) → Has ys z → Has (xs ++ ys) z
has-right [] ys z h = h
has-right (x ∷ xs) ys z h = inr (has-right xs ys z h)

pub has-either : {X : Type 0} (xs ys : List X) (z : X) → Has (xs ++ ys) z → Has xs z ⊎ Has ys z
has-either [] ys z h = inr h
has-either (x ∷ xs) ys z (inl same) = inl (inl same)
has-either (x ∷ xs) ys z (inr h) = elim (has-either xs ys z h) [ inl left ↦ inl (inr left) | inr right ↦ inr right ]

first-passes : {X : Type 0} (b : Bool) (x : X) (xs : List X) (z : X) → Has (cond b (x ∷ xs) xs) z → ((x ≡ z) × (b ≡ true)) ⊎ Has xs z
first-passes true x xs z (inl same) = inl (same, refl)
first-passes true x xs z (inr h) = inr h
first-passes false x xs z h = inr h

then-passes : {X : Type 0} (b : Bool) (x : X) (xs : List X) (z : X) → Has xs z → Has (cond b (x ∷ xs) xs) z
then-passes true x xs z h = inr h
then-passes false x xs z h = h

-- What passes a test.
pub has-passed : {X : Type 0} (p : X → Bool) (xs : List X) (z : X) → Has (filter p xs) z → Has xs z × (p z ≡ true)
has-passed p [] z h = absurd h
has-passed p (x ∷ xs) z h = elim (first-passes (p x) x (filter p xs) z h) [
  | inl this ↦ (inl this.0, subst (λ (y : _). p y ≡ true) this.0 this.1)
  | inr later ↦ let rest = has-passed p xs z later in (inr rest.0, rest.1)
]

pub passed-has : {X : Type 0} (p : X → Bool) (xs : List X) (z : X) → Has xs z → p z ≡ true → Has (filter p xs) z
passed-has p [] z h e = absurd h
passed-has p (x ∷ xs) z (inl same) e = let this : p x ≡ true = subst (λ (y : _). p y ≡ true) (sym same) e in rw this (inl same)
passed-has p (x ∷ xs) z (inr h) e = then-passes (p x) x (filter p xs) z (passed-has p xs z h e)
