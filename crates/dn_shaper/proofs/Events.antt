-- What one event more changes in a count.
use Rattle.dn_shaper.proofs.Words.{Bool, Event, List, ap, arith, cond, count_by, false, sum_by-cons, true, ℕ, ◌+◌, ◌∙◌, ◌∷◌, ◌≡◌}

pub uncounted : (p : Event → Bool) (e : Event) (trace : List Event) → p e ≡ false → count_by p (e ∷ trace) ≡ count_by p trace
uncounted p e trace h = sum_by-cons (λ x. cond (p x) 1 0) e trace ∙ ap {B = ℕ} (λ b. cond b 1 0 + count_by p trace) h ∙ (omega arith)

pub counted-once : (p : Event → Bool) (e : Event) (trace : List Event) → p e ≡ true → count_by p (e ∷ trace) ≡ count_by p trace + 1
counted-once p e trace h = sum_by-cons (λ x. cond (p x) 1 0) e trace ∙ ap {B = ℕ} (λ b. cond b 1 0 + count_by p trace) h ∙ (omega arith)
