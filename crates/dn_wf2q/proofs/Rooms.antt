-- The room at a slot.
use Rattle.dn_wf2q.proofs.Words.{Err, Flow, List, Ok, OnErr, OnOk, Result, [], ap, arith, forgotten, get_or, length, map, no_packets, one_each, padded, refl, replicate, room_at, set, suc, zero, ℕ}
use Rattle.dn_wf2q.proofs.Words.{◌++◌, ◌-◌, ◌<◌, ◌∷◌, ◌≡◌, ◌≤◌}

module _ {X : Type 0} (spare : X → ℕ) where
  pub room_listed : (qs : List X) (slot : ℕ) → 0 < room_at (map spare qs) slot → slot < length qs
  room_listed [] slot h = absurd (omega arith)
  room_listed (q ∷ qs) zero h = omega arith
  room_listed (q ∷ qs) (suc slot) h = let l = room_listed qs slot h in omega arith

  -- Where the queue at a slot has at least as much room as before.
  pub room_grows : (qs : List X) (slot : ℕ) (q : X) → ((d : X) → slot < length qs → spare (get_or qs slot d) ≤ spare q)
      → (g : ℕ) → room_at (map spare qs) g ≤ room_at (map spare (set qs slot q)) g
  room_grows [] slot q h g = omega arith
  room_grows (x ∷ xs) zero q h zero = h x (omega arith)
  room_grows (x ∷ xs) zero q h (suc g) = omega arith
  room_grows (x ∷ xs) (suc slot) q h zero = omega arith
  room_grows (x ∷ xs) (suc slot) q h (suc g) = room_grows xs slot q (λ d l. h d (omega arith)) g

  -- Whatever room the queue at a slot has, the others have theirs.
  pub room_of_others : (qs : List X) (slot : ℕ) (q : X) (g : ℕ) → (g ≡ slot → ⊥) → room_at (map spare qs) g ≤ room_at (map spare (set qs slot q)) g
  room_of_others [] slot q g n = omega arith
  room_of_others (x ∷ xs) zero q zero n = absurd (n refl)
  room_of_others (x ∷ xs) zero q (suc g) n = omega arith
  room_of_others (x ∷ xs) (suc slot) q zero n = omega arith
  room_of_others (x ∷ xs) (suc slot) q (suc g) n = room_of_others xs slot q g (λ e. n (omega arith))

  pub room_extended : (xs ms : List X) (g : ℕ) → room_at (map spare xs) g ≤ room_at (map spare (xs ++ ms)) g
  room_extended [] ms g = omega arith
  room_extended (x ∷ xs) ms zero = omega arith
  room_extended (x ∷ xs) ms (suc g) = room_extended xs ms g

pub on_ok : {T E : Type 0} (r : Result T E) (P Q : Type 0) → (P → Q) → OnOk r P → OnOk r Q
on_ok (Ok x) P Q f h = f h
on_ok (Err e) P Q f h = h

-- Each slot that is there has room.
pub known : (flows : List Flow) (slot : ℕ) → slot < length flows → 0 < room_at (one_each flows) slot
known [] slot l = absurd (omega arith)
known (fl ∷ fls) zero l = omega arith
known (fl ∷ fls) (suc slot) l = known fls slot (omega arith)

pub rooms-set : (flows : List Flow) (slot : ℕ) (fl : Flow) → one_each (set flows slot fl) ≡ one_each flows
rooms-set [] slot fl = refl
rooms-set (x ∷ xs) zero fl = refl
rooms-set (x ∷ xs) (suc slot) fl = ap (λ l. 1 ∷ l) (rooms-set xs slot fl)

pub rooms-forgotten : (flows : List Flow) → one_each (forgotten flows) ≡ one_each flows
rooms-forgotten [] = refl
rooms-forgotten (x ∷ xs) = ap (λ l. 1 ∷ l) (rooms-forgotten xs)

-- The flow at a slot changes.
pub keeps-set : (flows new : List Flow) (slot : ℕ) (fl : Flow) → new ≡ set flows slot fl → (g : ℕ) → room_at (one_each flows) g ≤ room_at (one_each new) g
keeps-set flows new slot fl is g = rw (is, rooms-set flows slot fl) (omega arith)

-- Slots are added.
pub keeps-padded : (flows new : List Flow) (n : ℕ) → new ≡ padded flows n → (g : ℕ) → room_at (one_each flows) g ≤ room_at (one_each new) g
keeps-padded flows new n is g = rw is (room_extended (λ fl. 1) flows (replicate (n - length flows) no_packets) g)

pub keeps-same : (flows new : List Flow) → new ≡ flows → (g : ℕ) → room_at (one_each flows) g ≤ room_at (one_each new) g
keeps-same flows new is g = rw is (omega arith)

pub keeps-forgotten : (flows new : List Flow) (slot : ℕ) (fl : Flow) → new ≡ set (forgotten flows) slot fl → (g : ℕ) → room_at (one_each flows) g ≤ room_at (one_each new) g
keeps-forgotten flows new slot fl is g = rw (is, rooms-set (forgotten flows) slot fl, rooms-forgotten flows) (omega arith)

pub keeps-told : {T E : Type 0} (r : Result T E) (flows new : List Flow) (n : ℕ) → OnOk r (new ≡ padded flows n) → OnErr r (new ≡ flows)
    → (g : ℕ) → room_at (one_each flows) g ≤ room_at (one_each new) g
keeps-told (Ok x) flows new n ok err = keeps-padded flows new n ok
keeps-told (Err e) flows new n ok err = keeps-same flows new err
