-- The packets of a flow start in the order of their arrival.
use Rattle.dn_types.proofs.Words.{Accepted, Bool, Event, Link, List, Some, Start, [], accepted_count, accepted_since, ap, append_assoc, arrived, backlog, cond, discarded, drop, eqb-true, false}
use Rattle.dn_types.proofs.Words.{free, is_of, nat_eq, refl, slice_get, started, started_since, sym, true, ℕ, ⊤, ◌++◌, ◌∙◌, ◌∷◌, ◌≡◌, ◌≤◌}
use Rattle.dn_types.proofs.Settled.{and-left, link_eq-true}
use Rattle.dn_types.proofs.Settling.{and-right}

-- Each accepted packet has the count of those before it as its number, and each start is of the first packet of its
-- backlog, once its link is free.
abbrev pub IsProper : List Event → Type 0
IsProper [] = ⊤
IsProper (arrived p ∷ trace) = (p.packet ≡ accepted_count trace) × IsProper trace
IsProper (started s ∷ trace) = (slice_get (backlog s.packet.link s.packet.stamped.flow trace) 0 ≡ Some s.packet) × (free s.packet.link trace ≤ s.moment) × IsProper trace
IsProper (_ ∷ trace) = IsProper trace

pub append-none : (xs : List Accepted) → xs ++ [] ≡ xs
append-none [] = refl
append-none (x ∷ xs) = ap (λ (r : List Accepted). x ∷ r) (append-none xs)

first-rest : (p : Accepted) (q : List Accepted) → slice_get q 0 ≡ Some p → p ∷ drop 1 q ≡ q
first-rest p [] e = absurd cc
first-rest p (r ∷ q) e = let same : r ≡ p = cc in ap (λ (x : Accepted). x ∷ q) (sym same)

module _ (link : Link) (flow : ℕ) where
  arrive-more : (b : Bool) (p : Accepted) (acc ss q : List Accepted) → acc ≡ ss ++ q → cond b (acc ++ p ∷ []) acc ≡ ss ++ cond b (q ++ p ∷ []) q
  arrive-more true p acc ss q e = ap (λ (xs : List Accepted). xs ++ p ∷ []) e ∙ append_assoc ss q (p ∷ [])
  arrive-more false p acc ss q e = e

  start-more : (b : Bool) (p : Accepted) (acc ss q : List Accepted) → (b ≡ true → slice_get q 0 ≡ Some p) → acc ≡ ss ++ q → acc ≡ cond b (ss ++ p ∷ []) ss ++ cond b (drop 1 q) q
  start-more true p acc ss q first e = e ∙ ap (λ (xs : List Accepted). ss ++ xs) (sym (first-rest p q (first refl))) ∙ sym (append_assoc ss (p ∷ []) (drop 1 q))
  start-more false p acc ss q first e = e

  clear-more : (b : Bool) (acc ss q : List Accepted) → acc ≡ ss ++ q → cond b [] acc ≡ cond b [] ss ++ cond b [] q
  clear-more true acc ss q e = refl
  clear-more false acc ss q e = e

  -- The first packet of its backlog is so of the backlog that it is of.
  pub own-first : (s : Start) (trace : List Event) → slice_get (backlog s.packet.link s.packet.stamped.flow trace) 0 ≡ Some s.packet
      → is_of link flow s.packet ≡ true → slice_get (backlog link flow trace) 0 ≡ Some s.packet
  own-first s trace first e =
      let l = link_eq-true s.packet.link link (and-left _ (nat_eq s.packet.stamped.flow flow) e) in
      let f = eqb-true s.packet.stamped.flow flow (and-right _ (nat_eq s.packet.stamped.flow flow) e) in
      sym (λ i. slice_get (backlog (l i) (f i) trace) 0) ∙ first

  pub in-order-proper : (trace : List Event) → IsProper trace → accepted_since link flow trace ≡ started_since link flow trace ++ backlog link flow trace
  in-order-proper [] h = refl
  in-order-proper (arrived p ∷ trace) h = arrive-more (is_of link flow p) p _ _ _ (in-order-proper trace h.1)
  in-order-proper (started s ∷ trace) h = start-more (is_of link flow s.packet) s.packet _ _ _ (own-first s trace h.0) (in-order-proper trace h.2)
  in-order-proper (discarded f ∷ trace) h = clear-more (nat_eq f flow) _ _ _ (in-order-proper trace h)
  in-order-proper (_ ∷ trace) h = in-order-proper trace h
