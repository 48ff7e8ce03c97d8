-- As many keys stand in the heap as links have a backlog.
use Rattle.dn_shaper.proofs.Words.{Bool, Holds, IsPermutation-refl, List, NextStart, None, Option, Some, [], ap, arith, backlogged, cond, false, is_some, length, next_at, one_backlogged, refl}
use Rattle.dn_shaper.proofs.Words.{set, slice_get, suc, sum-set, sum_by-cons, sym, true, zero, ℕ, ◌∙◌, ◌∷◌, ◌≡◌}
use Rattle.dn_shaper.proofs.NextStarts.{popped_next, holds_none}

none-backlogged : (nexts : List (Option ℕ)) → ((place : ℕ) → is_some (next_at nexts place) ≡ false) → backlogged nexts ≡ 0
none-backlogged [] h = refl
none-backlogged (o ∷ nexts) h =
    let rest = none-backlogged nexts (λ place. h (suc place)) in
    let one = ap {B = ℕ} (λ b. cond b 1 0) (h 0) in
    let all = sum_by-cons one_backlogged o nexts in
    omega (arith, rest, one, all)

nowhere : (b : Bool) → ◌≡◌ {A = ℕ} 0 (cond b 1 0) → b ≡ false
nowhere true e = absurd (omega (arith, e))
nowhere false e = refl

pub next-got : (nexts : List (Option ℕ)) (place m : ℕ) → next_at nexts place ≡ Some m → slice_get nexts place ≡ Some (Some m)
next-got [] place m e = absurd cc
next-got (o ∷ nexts) zero m e = ap (λ (x : Option ℕ). Some x) e
next-got (o ∷ nexts) (suc place) m e = next-got nexts place m e

pub counted-held : (keys : List NextStart) (nexts : List (Option ℕ)) → Holds nexts keys → length keys ≡ backlogged nexts
counted-held [] nexts h = sym (none-backlogged nexts (λ place. nowhere (is_some (next_at nexts place)) (h.once place)))
counted-held (k ∷ ks) nexts h =
    let all = IsPermutation-refl (k ∷ ks) in
    let rest = counted-held ks (set nexts k.place None) (holds_none nexts (k ∷ ks) ks k h all) in
    let there = next-got nexts k.place k.moment (popped_next nexts (k ∷ ks) ks k h all) in
    let one = sum-set one_backlogged nexts k.place (Some k.moment) None there in
    omega (arith, rest, one)
