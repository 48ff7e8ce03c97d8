-- A function of slot and element, at each element of a list.
use Rattle.dn_wf2q.proofs.Words.{All, All-head, All-tail, List, [], ap, arith, by_slot, get_or, length, refl, replicate, set, suc, zero, ℕ, ◌++◌, ◌<◌, ◌∷◌, ◌≡◌}

pub length-by_slot : {X Y : Type 0} (f : ℕ → X → Y) (xs : List X) → length (by_slot f xs) ≡ length xs
length-by_slot f [] = refl
length-by_slot f (x ∷ xs) = ap suc (length-by_slot (λ slot. f (suc slot)) xs)

pub by_slot_at : {X Y : Type 0} (f : ℕ → X → Y) (xs : List X) (i : ℕ) (d : X) (e : Y) → i < length xs → get_or (by_slot f xs) i e ≡ f i (get_or xs i d)
by_slot_at f [] i d e l = absurd (omega arith)
by_slot_at f (x ∷ xs) zero d e l = refl
by_slot_at f (x ∷ xs) (suc i) d e l = by_slot_at (λ slot. f (suc slot)) xs i d e (omega arith)

pub by_slot-set : {X Y : Type 0} (f : ℕ → X → Y) (xs : List X) (i : ℕ) (x : X) → by_slot f (set xs i x) ≡ set (by_slot f xs) i (f i x)
by_slot-set f [] i x = refl
by_slot-set f (y ∷ ys) zero x = refl
by_slot-set f (y ∷ ys) (suc i) x = ap (λ zs. f 0 y ∷ zs) (by_slot-set (λ slot. f (suc slot)) ys i x)

by_slot-same : {X Y : Type 0} (f : ℕ → X → Y) (xs : List X) (y : Y) → All (λ x. (slot : ℕ) → f slot x ≡ y) xs → by_slot f xs ≡ replicate (length xs) y
by_slot-same f [] y h = refl
by_slot-same f (x ∷ xs) y h =
    let one = All-head (λ x. (slot : ℕ) → f slot x ≡ y) x xs h in
    let rest = All-tail (λ x. (slot : ℕ) → f slot x ≡ y) x xs h in
    rw (one 0, by_slot-same (λ slot. f (suc slot)) xs y (λ i d l. λ slot. rest i d l (suc slot))) refl

-- Elements at the end of which the function makes the same at each slot.
pub by_slot-append : {X Y : Type 0} (f : ℕ → X → Y) (xs zs : List X) (y : Y) → All (λ x. (slot : ℕ) → f slot x ≡ y) zs → by_slot f (xs ++ zs) ≡ by_slot f xs ++ replicate (length zs) y
by_slot-append f [] zs y h = by_slot-same f zs y h
by_slot-append f (x ∷ xs) zs y h = ap (λ l. f 0 x ∷ l) (by_slot-append (λ slot. f (suc slot)) xs zs y (λ i d l. λ slot. h i d l (suc slot)))
