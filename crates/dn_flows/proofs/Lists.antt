-- The lists of flows by number, where a flow is added or taken out, and which flows are in them.
use Rattle.dn_flows.proofs.Words.{Bool, List, None, Some, [], ap, arith, cases_eq, cond, false, get_or-set_other, get_or-set_same, inl, inr, last_of, length, length-take-le, list_any}
use Rattle.dn_flows.proofs.Words.{list_any-append, list_at, nat_eq, refl, set, slice_get, suc, sym, take, true, zero, ℕ, ◌++◌, ◌+◌, ◌-◌, ◌<◌, ◌||◌, ◌∙◌, ◌∷◌, ◌≡◌}
use Rattle.dn_flows.proofs.Places.{eq-no, eq-yes, get-some}

-- A list less its last flow, where the test passes.
abbrev pub less_last : Bool → List ℕ → List ℕ
less_last b xs = cond b (take (length xs - 1) xs) xs

-- The list of a number after the last flow of one list was taken out.
pub popped_at : (lists : List (List ℕ)) (place : ℕ) (l : List ℕ) → place < length lists → l ≡ take (length (list_at lists place) - 1) (list_at lists place)
    → (other : ℕ) → list_at (set lists place l) other ≡ less_last (nat_eq place other) (list_at lists other)
popped_at lists place l lt is other = elim (cases_eq other place) [
  | inl e ↦ rw (e, get_or-set_same lists place l [] lt, eq-yes place place refl) is
  | inr n ↦ rw (get_or-set_other lists place other l [] n, eq-no place other (λ e. n (sym e))) refl
]

-- The list of a number after a flow was put at the end of one list.
pub pushed_at : (lists : List (List ℕ)) (place : ℕ) (l : List ℕ) (flow : ℕ) → place < length lists → l ≡ list_at lists place ++ flow ∷ []
    → (other : ℕ) → list_at (set lists place l) other ≡ cond (nat_eq place other) (list_at lists other ++ flow ∷ []) (list_at lists other)
pushed_at lists place l flow lt is other = elim (cases_eq other place) [
  | inl e ↦ rw (e, get_or-set_same lists place l [] lt, eq-yes place place refl) is
  | inr n ↦ rw (get_or-set_other lists place other l [] n, eq-no place other (λ e. n (sym e))) refl
]

-- A list that is as it was.
pub same_at : (lists : List (List ℕ)) (place : ℕ) (l : List ℕ) → place < length lists → l ≡ list_at lists place → (other : ℕ) → list_at (set lists place l) other ≡ list_at lists other
same_at lists place l lt is other = elim (cases_eq other place) [
  | inl e ↦ rw (e, get_or-set_same lists place l [] lt) is
  | inr n ↦ rw (get_or-set_other lists place other l [] n) refl
]

-- ---- Whether a flow is in a list

pub in-more : (flow x : ℕ) (xs : List ℕ) → list_any (nat_eq flow) xs ≡ true → list_any (nat_eq flow) (xs ++ x ∷ []) ≡ true
in-more flow x xs h = list_any-append (nat_eq flow) xs (x ∷ []) ∙ ap (λ b. b || list_any (nat_eq flow) (x ∷ [])) h

pub in-last : (flow : ℕ) (xs : List ℕ) → list_any (nat_eq flow) (xs ++ flow ∷ []) ≡ true
in-last flow [] = ap (λ b. b || false) (eq-yes flow flow refl)
in-last flow (x ∷ xs) = by (nat_eq flow x) (in-last flow xs)
  where
    by : (b : Bool) → list_any (nat_eq flow) (xs ++ flow ∷ []) ≡ true → (b || list_any (nat_eq flow) (xs ++ flow ∷ [])) ≡ true
    by true h = refl
    by false h = h

-- Each flow but the last one is in what the last one leaves.
in-take : (flow x : ℕ) (xs : List ℕ) (n : ℕ) → length xs ≡ suc n → slice_get xs n ≡ Some x → (flow ≡ x → ⊥) → list_any (nat_eq flow) xs ≡ true → list_any (nat_eq flow) (take n xs) ≡ true
in-take flow x [] n many there ne h = absurd (omega arith)
in-take flow x (y ∷ []) zero many there ne h =
    let is : y ≡ x = cc in
    let no = ap (λ b. b || false) (eq-no flow y (λ e. ne (e ∙ is))) in
    absurd cc
in-take flow x (y ∷ z ∷ xs) zero many there ne h = absurd (omega arith)
in-take flow x (y ∷ xs) (suc n) many there ne h = by (nat_eq flow y) h (λ e. in-take flow x xs n (omega arith) there ne e)
  where
    by : (b : Bool) → (b || list_any (nat_eq flow) xs) ≡ true → (list_any (nat_eq flow) xs ≡ true → list_any (nat_eq flow) (take n xs) ≡ true) → (b || list_any (nat_eq flow) (take n xs)) ≡ true
    by true e rest = refl
    by false e rest = rest e

pub in-rest : (flow x : ℕ) (xs : List ℕ) → last_of xs ≡ Some x → (flow ≡ x → ⊥) → list_any (nat_eq flow) xs ≡ true → list_any (nat_eq flow) (take (length xs - 1) xs) ≡ true
in-rest flow x [] there ne h = absurd cc
in-rest flow x (y ∷ xs) there ne h =
    let one : length (y ∷ xs) - 1 ≡ length xs = omega arith in
    let many : length (y ∷ xs) ≡ suc (length xs) = omega arith in
    rw one (in-take flow x (y ∷ xs) (length xs) many (rw one at there) ne h)

-- One flow is taken out of a list that has a last one.
pub one-fewer : (x : ℕ) (xs : List ℕ) → last_of xs ≡ Some x → length (take (length xs - 1) xs) + 1 ≡ length xs
one-fewer x [] there = absurd cc
one-fewer x (y ∷ xs) there =
    let n = length-take-le (length (y ∷ xs) - 1) (y ∷ xs) (omega arith) in
    omega arith

-- None is in a list without a last one.
pub none-in : (flow : ℕ) (xs : List ℕ) → last_of xs ≡ None → list_any (nat_eq flow) xs ≡ false
none-in flow [] e = refl
none-in flow (x ∷ xs) e = absurd (let some = get-some (x ∷ xs) (length (x ∷ xs) - 1) (omega arith) in cc)
