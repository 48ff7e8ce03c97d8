-- A packet was given or is still to be given as often as it started.
use Rattle.dn_types.proofs.Words.{Bool, Delivery, Event, List, Rule, [], arith, arrival_time, arrived, collected, cond, count_by, discarded, due_by, false, filter, given_count, in_order}
use Rattle.dn_types.proofs.Words.{is_given_before, is_packet, is_start_with, last_due, lost, nat_le, nat_lt, nat_tests, opened, refl, refused, started, sum_by-cons, true, undelivered, ℕ, ◌+◌, ◌∷◌}
use Rattle.dn_types.proofs.Words.{◌≡◌}

pub count-delivery : (p : Delivery → Bool) (d : Delivery) (ds : List Delivery) → count_by p (d ∷ ds) ≡ cond (p d) 1 0 + count_by p ds
count-delivery p d ds = sum_by-cons (λ x. cond (p x) 1 0) d ds

pub count-event : (p : Event → Bool) (e : Event) (trace : List Event) → count_by p (e ∷ trace) ≡ cond (p e) 1 0 + count_by p trace
count-event p e trace = sum_by-cons (λ x. cond (p x) 1 0) e trace

module _ (p : Delivery → Bool) where
  count-in_order : (d : Delivery) (ds : List Delivery) → count_by p (in_order d ds) ≡ cond (p d) 1 0 + count_by p ds
  count-in_order d [] = count-delivery p d []
  count-in_order d (e ∷ es) = by_test (is_given_before d e) (count-in_order d es)
    where
      by_test : (b : Bool) → count_by p (in_order d es) ≡ cond (p d) 1 0 + count_by p es → count_by p (cond b (d ∷ e ∷ es) (e ∷ in_order d es)) ≡ cond (p d) 1 0 + count_by p (e ∷ es)
      by_test true rest = count-delivery p d (e ∷ es)
      by_test false rest = let a = count-delivery p e (in_order d es) in let b = count-delivery p e es in omega arith

  -- What is due by the moment and what is due later are all.
  count-split : (at : ℕ) (ds : List Delivery) → count_by p (filter (λ d. nat_le d.due at) ds) + count_by p (filter (λ d. nat_lt at d.due) ds) ≡ count_by p ds
  count-split at [] = refl
  count-split at (d ∷ ds) = by_test (nat_le d.due at) (nat_lt at d.due) apart (count-split at ds)
    where
      not' : Bool → Bool
      not' true = false
      not' false = true

      apart : nat_lt at d.due ≡ not' (nat_le d.due at)
      apart = by (nat_le d.due at) refl
        where
          by : (b : Bool) → nat_le d.due at ≡ b → nat_lt at d.due ≡ not' b
          by true e = grind (arith, nat_tests)
          by false e = grind (arith, nat_tests)

      by_test : (b c : Bool) → c ≡ not' b → count_by p (filter (λ d. nat_le d.due at) ds) + count_by p (filter (λ d. nat_lt at d.due) ds) ≡ count_by p ds →
          count_by p (cond b (d ∷ filter (λ d. nat_le d.due at) ds) (filter (λ d. nat_le d.due at) ds))
          + count_by p (cond c (d ∷ filter (λ d. nat_lt at d.due) ds) (filter (λ d. nat_lt at d.due) ds)) ≡ count_by p (d ∷ ds)
      by_test true false e rest = let a = count-delivery p d (filter (λ d. nat_le d.due at) ds) in let b = count-delivery p d ds in omega arith
      by_test false true e rest = let a = count-delivery p d (filter (λ d. nat_lt at d.due) ds) in let b = count-delivery p d ds in omega arith
      by_test true true e rest = absurd cc
      by_test false false e rest = absurd cc

pub gives-started : (rule : Rule) (number : ℕ) (trace : List Event) → given_count rule number trace + count_by (is_packet number) (undelivered rule trace) ≡ count_by (is_start_with number) trace
gives-started rule number [] = refl
gives-started rule number (opened l ∷ trace) = let rest = gives-started rule number trace in let e = count-event (is_start_with number) (opened l) trace in omega arith
gives-started rule number (arrived p ∷ trace) = let rest = gives-started rule number trace in let e = count-event (is_start_with number) (arrived p) trace in omega arith
gives-started rule number (started s ∷ trace) =
    let rest = gives-started rule number trace in
    let e = count-event (is_start_with number) (started s) trace in
    let more = count-in_order (is_packet number) (record {
      due = due_by rule (arrival_time s) (last_due rule s.packet.link trace);
      packet = s.packet.packet;
      flow = s.packet.stamped.flow;
      start = s.moment;
    }) (undelivered rule trace) in
    omega (arith, rest, e, more)
gives-started rule number (lost l f ∷ trace) = let rest = gives-started rule number trace in let e = count-event (is_start_with number) (lost l f) trace in omega arith
gives-started rule number (refused l f ∷ trace) = let rest = gives-started rule number trace in let e = count-event (is_start_with number) (refused l f) trace in omega arith
gives-started rule number (discarded f ∷ trace) = let rest = gives-started rule number trace in let e = count-event (is_start_with number) (discarded f) trace in omega arith
gives-started rule number (collected at ∷ trace) =
    let rest = gives-started rule number trace in
    let e = count-event (is_start_with number) (collected at) trace in
    let split = count-split (is_packet number) at (undelivered rule trace) in
    omega arith
