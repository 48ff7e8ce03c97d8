-- A flow whose number is above those of all accepted packets has no finish tag and no discarded packet.
use Rattle.dn_shaper.proofs.Words.{Accepted, Bool, Event, Link, List, [], and-no, ap, arith, arrived, backlog-above, collected, cond, discarded, discarded_count, eq-no, false, flow_bound}
use Rattle.dn_shaper.proofs.Words.{last_finish_tag, length, link_eq, lost, nat_eq, opened, refl, refused, started, true, ℕ, ◌+◌, ◌∙◌, ◌∷◌, ◌≡◌, ◌≤◌}

zero-if : (b : Bool) (n : ℕ) → n ≡ 0 → cond b 0 n ≡ 0
zero-if true n e = refl
zero-if false n e = e

pub last_finish-above : (link : Link) (flow : ℕ) (trace : List Event) → flow_bound trace ≤ flow → last_finish_tag link flow trace ≡ 0
last_finish-above link flow [] h = refl
last_finish-above link flow (opened l ∷ trace) h = zero-if (link_eq l link) (last_finish_tag link flow trace) (last_finish-above link flow trace h)
last_finish-above link flow (arrived p ∷ trace) h =
    let ne : p.stamped.flow ≡ flow → ⊥ = λ e. absurd (omega arith) in
    ap (λ b. cond b p.stamped.finish_tag (last_finish_tag link flow trace)) (and-no (link_eq p.link link) (nat_eq p.stamped.flow flow) (eq-no p.stamped.flow flow ne))
    ∙ last_finish-above link flow trace (omega arith)
last_finish-above link flow (started s ∷ trace) h = last_finish-above link flow trace h
last_finish-above link flow (lost l f ∷ trace) h = last_finish-above link flow trace h
last_finish-above link flow (refused l f ∷ trace) h = last_finish-above link flow trace h
last_finish-above link flow (discarded f ∷ trace) h = zero-if (nat_eq f flow) (last_finish_tag link flow trace) (last_finish-above link flow trace h)
last_finish-above link flow (collected at ∷ trace) h = last_finish-above link flow trace h

pub discarded-above : (link : Link) (flow : ℕ) (trace : List Event) → flow_bound trace ≤ flow → discarded_count link flow trace ≡ 0
discarded-above link flow [] h = refl
discarded-above link flow (opened l ∷ trace) h = discarded-above link flow trace h
discarded-above link flow (arrived p ∷ trace) h = discarded-above link flow trace (omega arith)
discarded-above link flow (started s ∷ trace) h = discarded-above link flow trace h
discarded-above link flow (lost l f ∷ trace) h = discarded-above link flow trace h
discarded-above link flow (refused l f ∷ trace) h = discarded-above link flow trace h
discarded-above link flow (discarded f ∷ trace) h =
    let none = ap {B = ℕ} (λ (q : List Accepted). length q) (backlog-above link flow trace h) in
    let rest = discarded-above link flow trace h in
    ap {B = ℕ} (λ n. cond (nat_eq f flow) n 0 + discarded_count link flow trace) none ∙ zero (nat_eq f flow) (discarded_count link flow trace) rest
  where
    zero : (b : Bool) (n : ℕ) → n ≡ 0 → cond b 0 0 + n ≡ 0
    zero true n e = omega arith
    zero false n e = omega arith
discarded-above link flow (collected at ∷ trace) h = discarded-above link flow trace h
