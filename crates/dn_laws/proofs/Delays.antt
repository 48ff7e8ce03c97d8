-- Each delivery is of a packet that started.
use Rattle.dn_laws.proofs.Words.{All, All-filter, List, [], ap, arith, get_or, in_order-all, nat_le, nat_lt, refl, ℕ, ◌∷◌}
use Rattle.dn_laws.proofs.LawWords.{delivery_of, given, undelivered, IsDueBy, IsDeliveryOf, last_due, Start, Event, opened, arrived, started, lost, refused, discarded, collected, Delivery, Rule, Free}
use Rattle.dn_laws.proofs.LawWords.{Ordered}

due-by : (rule : Rule) (s : Start) (last : ℕ) → IsDueBy rule s last (delivery_of rule s last).due
due-by Free s last = refl
due-by Ordered s last = refl

module _ (rule : Rule) where
  still : (e : Event) (trace : List Event) (d : Delivery) → IsDeliveryOf rule trace d → IsDeliveryOf rule (e ∷ trace) d
  still e trace d h = record {
    start = h.start;
    later = e ∷ h.later;
    earlier = h.earlier;
    happened = ap (λ (r : List Event). e ∷ r) h.happened;
    number = h.number;
    flow = h.flow;
    moment =
        h.moment;
    due = h.due;
  }

  pub all-still : (e : Event) (trace : List Event) (ds : List Delivery) → All (IsDeliveryOf rule trace) ds → All (IsDeliveryOf rule (e ∷ trace)) ds
  all-still e trace ds h = λ k d lt. still e trace (get_or ds k d) (h k d lt)

  new-start : (s : Start) (trace : List Event) → IsDeliveryOf rule (started s ∷ trace) (delivery_of rule s (last_due rule s.packet.link trace))
  new-start s trace = record { start = s; later = []; earlier = trace; happened = refl; number = refl; flow = refl; moment = refl; due = due-by rule s (last_due rule s.packet.link trace) }

  all-started : (trace : List Event) → All (IsDeliveryOf rule trace) (undelivered rule trace)
  all-started [] = λ k d lt. absurd (omega arith)
  all-started (opened l ∷ trace) = all-still (opened l) trace (undelivered rule trace) (all-started trace)
  all-started (arrived p ∷ trace) = all-still (arrived p) trace (undelivered rule trace) (all-started trace)
  all-started (started s ∷ trace) =
      in_order-all (IsDeliveryOf rule (started s ∷ trace)) (delivery_of rule s (last_due rule s.packet.link trace)) (undelivered rule trace)
      (new-start s trace) (all-still (started s) trace (undelivered rule trace) (all-started trace))
  all-started (lost l f ∷ trace) = all-still (lost l f) trace (undelivered rule trace) (all-started trace)
  all-started (refused l f ∷ trace) = all-still (refused l f) trace (undelivered rule trace) (all-started trace)
  all-started (discarded f ∷ trace) = all-still (discarded f) trace (undelivered rule trace) (all-started trace)
  all-started (collected at ∷ trace) =
      all-still (collected at) trace (undelivered rule (collected at ∷ trace)) (All-filter (λ d. nat_lt at d.due) (IsDeliveryOf rule trace) (undelivered rule trace) (all-started trace))

pub delays-are-explained : (rule : Rule) (at : ℕ) (trace : List Event) → All (IsDeliveryOf rule trace) (undelivered rule trace) × All (IsDeliveryOf rule trace) (given rule at trace)
delays-are-explained rule at trace = (all-started rule trace, All-filter (λ d. nat_le d.due at) (IsDeliveryOf rule trace) (undelivered rule trace) (all-started rule trace))
