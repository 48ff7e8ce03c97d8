-- Lists of views: what a step of one seat leaves of the others'.
use Rattle.dn_service.proofs.Words.{Has, List, SeatView, [], ap, arith, at_set, length, refl, set, set_else, subst, suc, sym, zero, ℕ, ⊎_elim, ◌++◌, ◌<◌, ◌∙◌, ◌∷◌, ◌≡◌, ◌≢◌}
use mathlib.Core.Logic.{dite}
use mathlib.Core.Option.{some, some-ne-none, some-injective}
use native.Mathlib.Decide.{ℕ_discrete}
use lib.ListN.{get_elem?}

module _ {A : Type 0} where
  pub set_there : (l : List A) (i : ℕ) (a b : A) → get_elem? l i ≡ some a → get_elem? (set l i b) i ≡ some b
  set_there [] i a b e = absurd (some-ne-none a (sym e))
  set_there (x ∷ xs) zero a b e = refl
  set_there (x ∷ xs) (suc i) a b e = set_there xs i a b e

  pub one_home : (l : List A) (a : A) → length l ≡ 1 → get_elem? (set l 0 a) 0 ≡ some a
  one_home [] a e = absurd (omega arith)
  one_home (x ∷ xs) a e = refl

-- What holds of the seat that stepped, and of the others as they were, holds of all seats.
pub seats_set : (K : ℕ → SeatView → Type 0) (vs : List SeatView) (id : ℕ) (w : SeatView) → K id w → ((j : ℕ) (v : SeatView) → j ≢ id → get_elem? vs j ≡ some v → K j v)
    → (j : ℕ) (v : SeatView) → get_elem? (set vs id w) j ≡ some v → K j v
seats_set K vs id w mine others j v e = ⊎_elim (λ (t : (j ≡ id) × (w ≡ v)). subst (λ (x : ℕ × SeatView). K x.0 x.1) (λ i. (sym t.0 i, t.1 i)) mine)
    (λ (t : (j ≢ id) × (get_elem? vs j ≡ some v)). others j v t.0 t.1) (at_set vs id j w v e)

-- Caller k sits at the seat h.
abbrev pub Held : List SeatView → ℕ → ℕ → Type 0
Held vs h k = (v : SeatView) × (get_elem? vs h ≡ some v) × Has k v.accounts

pub held_set : (vs : List SeatView) (id : ℕ) (v w : SeatView) → get_elem? vs id ≡ some v → (h k : ℕ) → (Has k v.accounts → Has k w.accounts) → Held vs h k → Held (set vs id w) h k
held_set vs id v w at h k keep held = dite (ℕ_discrete h id)
    (λ e. (
      w,
      subst (λ (z : ℕ). get_elem? (set vs id w) z ≡ some w) (sym e) (set_there vs id v w at),
      keep (subst (λ (u : SeatView). Has k u.accounts) (some-injective held.0 v (sym held.1 ∙ (ap (get_elem? vs) e ∙ at))) held.2),
    ))
    (λ ne. (held.0, set_else vs id h w ne ∙ held.1, held.2))

pub at_inside : (l : List SeatView) (i : ℕ) (a : SeatView) → get_elem? l i ≡ some a → i < length l
at_inside [] i a e = absurd (some-ne-none a (sym e))
at_inside (x ∷ xs) zero a e = omega arith
at_inside (x ∷ xs) (suc i) a e = let h = at_inside xs i a e in omega arith

-- What holds of each seat and of a new one.
pub added_last : (vs : List SeatView) (w : SeatView) (K : ℕ → SeatView → Type 0)
    → ((j : ℕ) (v : SeatView) → get_elem? vs j ≡ some v → K j v) → K (length vs) w → (j : ℕ) (v : SeatView)
    → get_elem? (vs ++ w ∷ []) j ≡ some v → K j v
added_last [] w K all new zero v e = subst (K 0) (some-injective w v e) new
added_last [] w K all new (suc j) v e = absurd (some-ne-none v (sym e))
added_last (x ∷ xs) w K all new zero v e = all zero v e
added_last (x ∷ xs) w K all new (suc j) v e = added_last xs w (λ i. K (suc i)) (λ i. all (suc i)) new j v e
