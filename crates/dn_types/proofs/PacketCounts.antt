-- What waits in a queue, what a delete took out of it, and what started are at most as many packets as were accepted.
use Rattle.dn_types.proofs.Words.{Accepted, All, All-drop, All-filter, All-nil, All-push, Bool, Delivery, Event, Link, List, Rule, Start, [], accepted_count, ap, arith, arrived, backlog}
use Rattle.dn_types.proofs.Words.{collected, cond, count_by, delivery_of, discarded, discarded_count, drop, false, is_arrival, is_of, is_start_of, is_start_with, last_due, length, lost, nat_eq}
use Rattle.dn_types.proofs.Words.{nat_lt, nat_tests, opened, refl, refused, start_count, started, suc, true, undelivered, zero, ℕ, ◌++◌, ◌+◌, ◌<◌, ◌∷◌, ◌≡◌, ◌≤◌}
use Rattle.dn_types.proofs.Bounded.{first-all}
use Rattle.dn_types.proofs.BoundedReplies.{in_order-all}
use Rattle.dn_types.proofs.Fifo.{IsProper}
use Rattle.dn_types.proofs.Giving.{count-event}
use Rattle.dn_types.proofs.StepFacts.{push-length, clear-length, drop-length, at-most-one}

-- ---- What waits and what a delete took

module _ (link : Link) (flow : ℕ) where
  -- Whether an event is an arrival at the queue.
  abbrev pub joins : Event → Bool
  joins (arrived p) = is_of link flow p
  joins _ = false

  pub queue-count : (trace : List Event) → length (backlog link flow trace) + discarded_count link flow trace ≤ count_by joins trace
  queue-count [] = omega arith
  queue-count (opened l ∷ trace) = let rest = queue-count trace in let e = count-event joins (opened l) trace in omega (arith, rest, e)
  queue-count (arrived p ∷ trace) =
      let rest = queue-count trace in
      let e = count-event joins (arrived p) trace in
      let more = push-length (is_of link flow p) (backlog link flow trace) p in
      omega (arith, rest, e, more)
  queue-count (started s ∷ trace) =
      let rest = queue-count trace in
      let e = count-event joins (started s) trace in
      let less = drop-length (is_of link flow s.packet) (backlog link flow trace) in
      omega (arith, rest, e, less)
  queue-count (lost l f ∷ trace) = let rest = queue-count trace in let e = count-event joins (lost l f) trace in omega (arith, rest, e)
  queue-count (refused l f ∷ trace) = let rest = queue-count trace in let e = count-event joins (refused l f) trace in omega (arith, rest, e)
  queue-count (discarded f ∷ trace) =
      let rest = queue-count trace in
      let e = count-event joins (discarded f) trace in
      let same = clear-length (nat_eq f flow) (backlog link flow trace) in
      omega (arith, rest, e, same)
  queue-count (collected at ∷ trace) = let rest = queue-count trace in let e = count-event joins (collected at) trace in omega (arith, rest, e)

-- ---- Sums over packet numbers

-- f 0 + .. + f (n - 1)
abbrev sum_below : ℕ → (ℕ → ℕ) → ℕ
sum_below zero f = 0
sum_below (suc n) f = sum_below n f + f n

module _ (f g : ℕ → ℕ) where
  sum-grows : (n : ℕ) → ((k : ℕ) → f k ≤ g k) → sum_below n f ≤ sum_below n g
  sum-grows zero h = omega arith
  sum-grows (suc n) h = let rest = sum-grows n h in let here = h n in omega (arith, rest, here)

  -- One that is greater at one place.
  sum-more : (n at : ℕ) → at < n → ((k : ℕ) → g k ≡ cond (nat_eq at k) 1 0 + f k) → sum_below n f + 1 ≤ sum_below n g
  sum-more zero at h e = absurd (omega arith)
  sum-more (suc n) at h e = by (nat_eq at n) refl (λ lt. sum-more n at lt e)
    where
      grows : (k : ℕ) → f k ≤ g k
      grows k = let same = e k in omega (arith, same)

      by : (b : Bool) → nat_eq at n ≡ b → (at < n → sum_below n f + 1 ≤ sum_below n g) → sum_below (suc n) f + 1 ≤ sum_below (suc n) g
      by true is lower =
          let one : cond {A = ℕ} (nat_eq at n) 1 0 ≡ 1 = ap {B = ℕ} (λ b. cond b 1 0) is in
          let rest = sum-grows n grows in
          let here = e n in
          omega (arith, one, rest, here)
      by false is lower =
          let below : at < n = grind (arith, nat_tests) in
          let rest = lower below in
          let here = grows n in
          omega (arith, rest, here)

sum-ones : (n : ℕ) (f : ℕ → ℕ) → ((k : ℕ) → f k ≤ 1) → sum_below n f ≤ n
sum-ones zero f h = omega arith
sum-ones (suc n) f h = let rest = sum-ones n f h in let here = h n in omega (arith, rest, here)

-- ---- Packet numbers

module _ (n : ℕ) where
  abbrev IsBelow : Accepted → Type 0
  IsBelow p = p.packet < n

  push-below : (b : Bool) (q : List Accepted) (p : Accepted) → IsBelow p → All IsBelow q → All IsBelow (cond b (q ++ p ∷ []) q)
  push-below true q p one h = All-push IsBelow q p h one
  push-below false q p one h = h

  drop-below : (b : Bool) (q : List Accepted) → All IsBelow q → All IsBelow (cond b (drop 1 q) q)
  drop-below true q h = All-drop IsBelow 1 q h
  drop-below false q h = h

  clear-below : (b : Bool) (q : List Accepted) → All IsBelow q → All IsBelow (cond b [] q)
  clear-below true q h = All-nil IsBelow
  clear-below false q h = h

  -- Events that are no arrival leave the count of accepted packets.
  same-count : (e : Event) (trace : List Event) → is_arrival e ≡ false → accepted_count (e ∷ trace) ≤ n → accepted_count trace ≤ n
  same-count e trace is few = let one = count-event is_arrival e trace in let none : cond {A = ℕ} (is_arrival e) 1 0 ≡ 0 = ap {B = ℕ} (λ b. cond b 1 0) is in omega (arith, one, none, few)

  one-more : (p : Accepted) (trace : List Event) → accepted_count (arrived p ∷ trace) ≤ n → accepted_count trace < n
  one-more p trace few = let one = count-event is_arrival (arrived p) trace in omega (arith, one, few)

  pub waiting-below : (link : Link) (flow : ℕ) (trace : List Event) → IsProper trace → accepted_count trace ≤ n → All IsBelow (backlog link flow trace)
  waiting-below link flow [] h few = All-nil IsBelow
  waiting-below link flow (opened l ∷ trace) h few = waiting-below link flow trace h (same-count (opened l) trace refl few)
  waiting-below link flow (arrived p ∷ trace) h few =
      let lower = one-more p trace few in
      let number = h.0 in
      push-below (is_of link flow p) (backlog link flow trace) p (omega (arith, lower, number)) (waiting-below link flow trace h.1 (omega (arith, lower)))
  waiting-below link flow (started s ∷ trace) h few = drop-below (is_of link flow s.packet) (backlog link flow trace) (waiting-below link flow trace h.2 (same-count (started s) trace refl few))
  waiting-below link flow (lost l f ∷ trace) h few = waiting-below link flow trace h (same-count (lost l f) trace refl few)
  waiting-below link flow (refused l f ∷ trace) h few = waiting-below link flow trace h (same-count (refused l f) trace refl few)
  waiting-below link flow (discarded f ∷ trace) h few = clear-below (nat_eq f flow) (backlog link flow trace) (waiting-below link flow trace h (same-count (discarded f) trace refl few))
  waiting-below link flow (collected at ∷ trace) h few = waiting-below link flow trace h (same-count (collected at) trace refl few)

  pub start-below : (s : Start) (trace : List Event) → IsProper (started s ∷ trace) → accepted_count (started s ∷ trace) ≤ n → s.packet.packet < n
  start-below s trace h few =
      let q = backlog s.packet.link s.packet.stamped.flow trace in
      first-all IsBelow s.packet q h.0 (waiting-below s.packet.link s.packet.stamped.flow trace h.2 (same-count (started s) trace refl few))

  -- ---- Deliveries

  abbrev pub IsNumbered : Delivery → Type 0
  IsNumbered d = d.packet < n

  pub undelivered-below : (rule : Rule) (trace : List Event) → IsProper trace → accepted_count trace ≤ n → All IsNumbered (undelivered rule trace)
  undelivered-below rule [] h few = All-nil IsNumbered
  undelivered-below rule (opened l ∷ trace) h few = undelivered-below rule trace h (same-count (opened l) trace refl few)
  undelivered-below rule (arrived p ∷ trace) h few = let lower = one-more p trace few in undelivered-below rule trace h.1 (omega (arith, lower))
  undelivered-below rule (started s ∷ trace) h few = in_order-all IsNumbered (delivery_of rule s (last_due rule s.packet.link trace)) (undelivered rule trace)
      (start-below s trace h few) (undelivered-below rule trace h.2 (same-count (started s) trace refl few))
  undelivered-below rule (lost l f ∷ trace) h few = undelivered-below rule trace h (same-count (lost l f) trace refl few)
  undelivered-below rule (refused l f ∷ trace) h few = undelivered-below rule trace h (same-count (refused l f) trace refl few)
  undelivered-below rule (discarded f ∷ trace) h few = undelivered-below rule trace h (same-count (discarded f) trace refl few)
  undelivered-below rule (collected at ∷ trace) h few =
      All-filter (λ d. nat_lt at d.due) IsNumbered (undelivered rule trace) (undelivered-below rule trace h (same-count (collected at) trace refl few))

  -- ---- Starts

  starts-quiet : (flow : ℕ) (e : Event) (trace : List Event) →
      is_start_of flow e ≡ false → ((k : ℕ) → is_start_with k e ≡ false) → count_by (is_start_of flow) trace ≤ sum_below n (λ k. start_count k trace) →
      count_by (is_start_of flow) (e ∷ trace) ≤ sum_below n (λ k. start_count k (e ∷ trace))
  starts-quiet flow e trace is none h =
      let one = count-event (is_start_of flow) e trace in
      let zero' : cond {A = ℕ} (is_start_of flow e) 1 0 ≡ 0 = ap {B = ℕ} (λ b. cond b 1 0) is in
      let grows = sum-grows (λ k. start_count k trace) (λ k. start_count k (e ∷ trace)) n (λ k. let same = count-event (is_start_with k) e trace in omega (arith, same)) in
      omega (arith, one, zero', grows, h)

  -- The starts of a flow are among those of the packets with numbers.
  pub starts-below : (flow : ℕ) (trace : List Event) → IsProper trace → accepted_count trace ≤ n → count_by (is_start_of flow) trace ≤ sum_below n (λ k. start_count k trace)
  starts-below flow [] h few = omega arith
  starts-below flow (opened l ∷ trace) h few = starts-quiet flow (opened l) trace refl (λ k. refl) (starts-below flow trace h (same-count (opened l) trace refl few))
  starts-below flow (arrived p ∷ trace) h few = let lower = one-more p trace few in starts-quiet flow (arrived p) trace refl (λ k. refl) (starts-below flow trace h.1 (omega (arith, lower)))
  starts-below flow (started s ∷ trace) h few =
      let rest = starts-below flow trace h.2 (same-count (started s) trace refl few) in
      let one = count-event (is_start_of flow) (started s) trace in
      let more = sum-more (λ k. start_count k trace) (λ k. start_count k (started s ∷ trace)) n s.packet.packet (start-below s trace h few) (λ k. count-event (is_start_with k) (started s) trace) in
      let most = at-most-one (is_start_of flow (started s)) in
      omega (arith, rest, one, more, most)
  starts-below flow (lost l f ∷ trace) h few = starts-quiet flow (lost l f) trace refl (λ k. refl) (starts-below flow trace h (same-count (lost l f) trace refl few))
  starts-below flow (refused l f ∷ trace) h few = starts-quiet flow (refused l f) trace refl (λ k. refl) (starts-below flow trace h (same-count (refused l f) trace refl few))
  starts-below flow (discarded f ∷ trace) h few = starts-quiet flow (discarded f) trace refl (λ k. refl) (starts-below flow trace h (same-count (discarded f) trace refl few))
  starts-below flow (collected at ∷ trace) h few = starts-quiet flow (collected at) trace refl (λ k. refl) (starts-below flow trace h (same-count (collected at) trace refl few))

  -- Where no packet starts twice, they are at most as many as there are numbers.
  pub starts-few : (flow : ℕ) (trace : List Event) → IsProper trace → accepted_count trace ≤ n → ((k : ℕ) → start_count k trace ≤ 1) → count_by (is_start_of flow) trace ≤ n
  starts-few flow trace h few once =
      let below = starts-below flow trace h few in
      let most = sum-ones n (λ k. start_count k trace) once in
      omega (arith, below, most)
