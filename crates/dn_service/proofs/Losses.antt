-- Tries that found a caller in a call: what the seats know of them adds up, and a step changes what one seat knows.
use Rattle.dn_service.proofs.Words.{Account, Each, Entry, Faces, Has, List, SeatView, Sits, [], ap, arith, cond, faces, having_seen, inl, inr, length, map, met_by, met_in_all, nat_eq, ne_eqb}
use Rattle.dn_service.proofs.Words.{new_accounts, note, refl, set, suc, sym, times, up_to_date, zero, ℕ, ⊎_elim, ◌++◌, ◌+◌, ◌<◌, ◌∙◌, ◌∷◌, ◌≡◌, ◌≢◌}
use mathlib.Core.Option.{some, some-ne-none, some-injective}
use lib.ListN.{get_elem?}
use Rattle.dn_service.proofs.Accounts.{each_map}

-- ---- The sum

times_more : (k : ℕ) (xs : List ℕ) (j : ℕ) → times k (xs ++ j ∷ []) ≡ times k xs + cond (nat_eq j k) 1 0
times_more k [] j = omega arith
times_more k (x ∷ xs) j = let e = times_more k xs j in omega arith

pub met_note : (k j : ℕ) (xs : List Account) → 0 < length xs → met_by k (note j xs) ≡ met_by k xs + cond (nat_eq j k) 1 0
met_note k j [] l = absurd (omega arith)
met_note k j (x ∷ xs) l = let e = times_more k x.lost j in omega arith

pub met_map : (k : ℕ) (f : Account → Account) (xs : List Account) → ((a : Account) → (f a).lost ≡ a.lost) → met_by k (map f xs) ≡ met_by k xs
met_map k f [] same = refl
met_map k f (x ∷ xs) same = let e = met_map k f xs same in let d : times k (f x).lost ≡ times k x.lost = ap (times k) (same x) in omega arith

pub met_join : (k : ℕ) (xs ys : List Account) → met_by k (xs ++ ys) ≡ met_by k xs + met_by k ys
met_join k [] ys = omega arith
met_join k (x ∷ xs) ys = let e = met_join k xs ys in omega arith

pub met_new : (k j n : ℕ) → met_by k (new_accounts j n) ≡ 0
met_new k j zero = refl
met_new k j (suc n) = let e = met_new k (j + 1) n in omega arith

pub met_set : (k : ℕ) (vs : List SeatView) (id : ℕ) (v w : SeatView) → get_elem? vs id ≡ some v
    → met_in_all k (set vs id w) + met_by k v.accounts ≡ met_in_all k vs + met_by k w.accounts
met_set k [] id v w at = absurd (some-ne-none v (sym at))
met_set k (x ∷ xs) zero v w at = let e : met_by k x.accounts ≡ met_by k v.accounts = ap (λ (u : SeatView). met_by k u.accounts) (some-injective x v at) in omega arith
met_set k (x ∷ xs) (suc i) v w at = let e = met_set k xs i v w at in omega arith

pub met_kept : (k : ℕ) (vs : List SeatView) (id : ℕ) (v w : SeatView) → get_elem? vs id ≡ some v → met_by k w.accounts ≡ met_by k v.accounts
    → met_in_all k (set vs id w) ≡ met_in_all k vs
met_kept k vs id v w at same = let e = met_set k vs id v w at in omega arith

pub met_last : (k : ℕ) (vs : List SeatView) (w : SeatView) → met_in_all k (vs ++ w ∷ []) ≡ met_in_all k vs + met_by k w.accounts
met_last k [] w = omega arith
met_last k (x ∷ xs) w = let e = met_last k xs w in omega arith

none_met : (k : ℕ) (vs : List SeatView) → ((j : ℕ) (u : SeatView) → get_elem? vs j ≡ some u → met_by k u.accounts ≡ 0) → met_in_all k vs ≡ 0
none_met k [] h = refl
none_met k (x ∷ xs) h = let a = h 0 x refl in let b = none_met k xs (λ j u e. h (suc j) u e) in omega arith

-- Where no other seat has a try to tell of, what one knows is all.
pub met_alone : (k : ℕ) (vs : List SeatView) (id : ℕ) (v : SeatView) → get_elem? vs id ≡ some v
    → ((j : ℕ) (u : SeatView) → j ≢ id → get_elem? vs j ≡ some u → met_by k u.accounts ≡ 0) → met_in_all k vs ≡ met_by k v.accounts
met_alone k [] id v at h = absurd (some-ne-none v (sym at))
met_alone k (x ∷ xs) zero v at h =
    let e : met_by k x.accounts ≡ met_by k v.accounts = ap (λ (u : SeatView). met_by k u.accounts) (some-injective x v at) in
    let b = none_met k xs (λ j u e. h (suc j) u (λ q. absurd (omega arith)) e) in omega arith
met_alone k (x ∷ xs) (suc i) v at h =
    let a = h 0 x (λ q. absurd (omega arith)) refl in
    let b = met_alone k xs i v at (λ j u ne e. h (suc j) u (λ q. ne (omega arith)) e) in omega arith

-- A seat in which no caller can sit has none.
pub met_none : {P : Account → Type 0} (k : ℕ) (xs : List Account) → ((x : Account) → P x → ⊥) → Each P xs → met_by k xs ≡ 0
met_none k [] none h = refl
met_none k (x ∷ xs) none h = absurd (none x h.0)

-- ---- What the accounts keep

pub noted_some : (j : ℕ) (xs : List Account) → 0 < length (note j xs) → 0 < length xs
noted_some j [] l = l
noted_some j (x ∷ xs) l = omega arith

pub has_noted : (j : ℕ) (xs : List Account) (k : ℕ) → Has k xs → Has k (note j xs)
has_noted j [] k has = has
has_noted j (x ∷ xs) k has = has

pub noted_sit : (n : ℕ) (history : List Entry) (seat_of : ℕ → ℕ) (seat j : ℕ) (xs : List Account) → Each (Sits n history seat_of seat) xs → Each (Sits n history seat_of seat) (note j xs)
noted_sit n history seat_of seat j [] h = h
noted_sit n history seat_of seat j (x ∷ xs) h = (record { below = h.0.below; seated = h.0.seated; follows = record { front = h.0.follows.front; own = h.0.follows.own } }, h.1)

pub noted_faces : (w : ℕ) (tally : ℕ → ℕ) (j : ℕ) (xs : List Account) → Each (Faces w tally) xs → Each (Faces w tally) (note j xs)
noted_faces w tally j [] h = h
noted_faces w tally j (x ∷ xs) h = (h.0, h.1)

pub faced_some : (f : ℕ → ℕ) (xs : List Account) → 0 < length (map (faces f) xs) → 0 < length xs
faced_some f [] l = l
faced_some f (x ∷ xs) l = omega arith

pub has_faced : (f : ℕ → ℕ) (xs : List Account) (k : ℕ) → Has k xs → Has k (map (faces f) xs)
has_faced f [] k has = has
has_faced f (x ∷ xs) k has = ⊎_elim (λ (e : x.number ≡ k). inl e) (λ (t : Has k xs). inr (has_faced f xs k t)) has

pub faced_sit : (n : ℕ) (history : List Entry) (seat_of : ℕ → ℕ) (seat : ℕ) (f : ℕ → ℕ) (xs : List Account) → Each (Sits n history seat_of seat) xs
    → Each (Sits n history seat_of seat) (map (faces f) xs)
faced_sit n history seat_of seat f [] h = tt
faced_sit n history seat_of seat f (x ∷ xs) h = (
  record { below = h.0.below; seated = h.0.seated; follows = record { front = h.0.follows.front; own = h.0.follows.own } },
  faced_sit n history seat_of seat f xs h.1,
)

-- ---- What a caller knows of the sum

-- Caller j is found in a call once more.
abbrev pub one_more : (ℕ → ℕ) → ℕ → ℕ → ℕ
one_more tally j k = tally k + cond (nat_eq j k) 1 0

-- The word names caller j, and so no other counts it.
pub faces_more : (w j : ℕ) (tally : ℕ → ℕ) (xs : List Account) → w ≡ j + 1 → Each (Faces w tally) xs → Each (Faces w (one_more tally j)) xs
faces_more w j tally xs is h = each_map xs (λ x f other.
    let ne : j ≢ x.number = λ e. other (is ∙ ap (λ i. i + 1) e) in
    let none : cond {A = ℕ} (nat_eq j x.number) 1 0 ≡ 0 = ap (λ b. cond {A = ℕ} b 1 0) (ne_eqb j x.number ne) in
    let same = f other in omega arith) h

-- The word was 0, so each caller knew.
pub faces_taken : (w w' : ℕ) (tally : ℕ → ℕ) (xs : List Account) → w ≡ 0 → Each (Faces w tally) xs → Each (Faces w' tally) xs
faces_taken w w' tally xs free h = each_map xs (λ x f _. f (λ e. absurd (omega arith))) h

pub faces_all : (w : ℕ) (tally : ℕ → ℕ) (xs : List Account) → w ≡ 0 → Each (Faces w tally) xs → Each (λ a. a.faced ≡ tally a.number) xs
faces_all w tally xs free h = each_map xs (λ x f. f (λ e. absurd (omega arith))) h

-- The word named a caller of the seat id, so those of another seat knew.
pub faces_free : (n w k : ℕ) (history : List Entry) (tally seat_of : ℕ → ℕ) (id j : ℕ) (xs : List Account) → w ≡ k + 1 → seat_of k ≡ id → j ≢ id
    → Each (Sits n history seat_of j) xs → Each (Faces w tally) xs → Each (Faces 0 tally) xs
faces_free n w k history tally seat_of id j [] is here other s h = tt
faces_free n w k history tally seat_of id j (x ∷ xs) is here other s h = (
  λ _. h.0 (λ e. let q : x.number ≡ k = omega arith in other (sym s.0.seated ∙ (ap seat_of q ∙ here))),
  faces_free n w k history tally seat_of id j xs is here other s.1 h.1,
)

pub faces_now : (w : ℕ) (tally : ℕ → ℕ) (history : List Entry) (xs : List Account) → Each (Faces w tally) (map (up_to_date history tally) xs)
faces_now w tally history [] = tt
faces_now w tally history (x ∷ xs) = (λ _. refl, faces_now w tally history xs)

pub faces_known : (w : ℕ) (tally : ℕ → ℕ) (xs : List Account) → Each (Faces w tally) (map (faces tally) xs)
faces_known w tally [] = tt
faces_known w tally (x ∷ xs) = (λ _. refl, faces_known w tally xs)

pub faces_learned : (w : ℕ) (tally : ℕ → ℕ) (seen : List Entry) (xs : List Account) → Each (Faces w tally) xs → Each (Faces w tally) (map (having_seen seen) xs)
faces_learned w tally seen [] h = tt
faces_learned w tally seen (x ∷ xs) h = (h.0, faces_learned w tally seen xs h.1)

pub faces_new : (j n : ℕ) → Each (Faces 0 (λ _. 0)) (new_accounts j n)
faces_new j zero = tt
faces_new j (suc n) = (λ _. refl, faces_new (j + 1) n)
