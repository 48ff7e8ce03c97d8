-- A start takes one packet from those that wait on its link.
use Rattle.dn_types.proofs.Words.{Accepted, All, All-drop, All-push, Bool, Event, Link, List, None, Option, Settings, Some, Stamped, Start, [], and_right, ap, arith, arrived, backlog, cond}
use Rattle.dn_types.proofs.Words.{discarded, drop, eqb-true, eqb_tells, false, flow_bound, free, inl, inr, is_of, leb_tells, length, link_eq, link_heads, nat_eq, nat_le, next_packet, next_start}
use Rattle.dn_types.proofs.Words.{option_and_then, option_map, own, pick, refl, shared, slice_get, start_at, started, subst, suc, sym, total, true, virtual_time, waiting, zero, ℕ, ⊎_elim, ◌&&◌}
use Rattle.dn_types.proofs.Words.{◌++◌, ◌+◌, ◌<◌, ◌∙◌, ◌∷◌, ◌≡◌, ◌≢◌, ◌≤◌, ◌⊎◌}

-- ---- What a backlog holds

module _ (link : Link) (flow : ℕ) where
  abbrev pub IsOwn : Accepted → Type 0
  IsOwn p = is_of link flow p ≡ true

  own-none : All IsOwn []
  own-none = λ k d h. absurd (omega arith)

  own-push : (p : Accepted) (q : List Accepted) (b : Bool) → is_of link flow p ≡ b → All IsOwn q → All IsOwn (cond b (q ++ p ∷ []) q)
  own-push p q true e h = All-push IsOwn q p h e
  own-push p q false e h = h

  own-drop : (q : List Accepted) (b : Bool) → All IsOwn q → All IsOwn (cond b (drop 1 q) q)
  own-drop q true h = All-drop IsOwn 1 q h
  own-drop q false h = h

  own-clear : (q : List Accepted) (b : Bool) → All IsOwn q → All IsOwn (cond b [] q)
  own-clear q true h = own-none
  own-clear q false h = h

  -- Each packet in a backlog is of the backlog's link and flow.
  pub backlog-own : (trace : List Event) → All IsOwn (backlog link flow trace)
  backlog-own [] = own-none
  backlog-own (arrived p ∷ trace) = own-push p (backlog link flow trace) (is_of link flow p) refl (backlog-own trace)
  backlog-own (started s ∷ trace) = own-drop (backlog link flow trace) (is_of link flow s.packet) (backlog-own trace)
  backlog-own (discarded f ∷ trace) = own-clear (backlog link flow trace) (nat_eq f flow) (backlog-own trace)
  backlog-own (_ ∷ trace) = backlog-own trace

  pub first-own : (p : Accepted) (q : List Accepted) → slice_get q 0 ≡ Some p → All IsOwn q → is_of link flow p ≡ true
  first-own p [] e h = absurd cc
  first-own p (r ∷ q) e h = let same : r ≡ p = cc in rw (← same) (h 0 r (omega arith))

  -- No packet has a flow number from the bound on.
  is_of-above : (p : Accepted) → p.stamped.flow < flow → is_of link flow p ≡ false
  is_of-above p h = ⊎_elim (λ same. absurd (omega (arith, same.1))) (λ other. ap (λ b. link_eq p.link link && b) other.0 ∙ and_right (link_eq p.link link) false refl) (eqb_tells p.stamped.flow flow)

  cond-same : (b : Bool) (xs ys : List Accepted) → xs ≡ [] → ys ≡ [] → cond b xs ys ≡ []
  cond-same true xs ys e f = e
  cond-same false xs ys e f = f

  pub backlog-above : (trace : List Event) → flow_bound trace ≤ flow → backlog link flow trace ≡ []
  backlog-above [] h = refl
  backlog-above (arrived p ∷ trace) h = ap (λ b. cond b (backlog link flow trace ++ p ∷ []) (backlog link flow trace)) (is_of-above p (omega arith)) ∙ backlog-above trace (omega arith)
  backlog-above (started s ∷ trace) h = let e = backlog-above trace h in cond-same (is_of link flow s.packet) _ _ (ap (drop 1) e) e
  backlog-above (discarded f ∷ trace) h = cond-same (nat_eq f flow) _ _ refl (backlog-above trace h)
  backlog-above (_ ∷ trace) h = backlog-above trace h

-- ---- One start takes one packet

pub and-right : (a b : Bool) → (a && b) ≡ true → b ≡ true
and-right true b e = e
and-right false b e = absurd cc

pub and-no : (a b : Bool) → b ≡ false → (a && b) ≡ false
and-no true b e = e
and-no false b e = refl

length-rest : (p : Accepted) (q : List Accepted) → slice_get q 0 ≡ Some p → length (drop 1 q) + 1 ≡ length q
length-rest p [] e = absurd cc
length-rest p (r ∷ q) e = omega arith

le_or_lt : (a b : ℕ) → (a ≤ b) ⊎ (b < a)
le_or_lt a b = ⊎_elim (λ le. inl le.1) (λ lt. inr lt.1) (leb_tells a b)

module _ (link : Link) (flow : ℕ) (s : Start) (trace : List Event) (is_first : slice_get (backlog link flow trace) 0 ≡ Some s.packet) where
  pub is_of-start : is_of link flow s.packet ≡ true
  is_of-start = first-own link flow s.packet (backlog link flow trace) is_first (backlog-own link flow trace)

  pub flow-start : s.packet.stamped.flow ≡ flow
  flow-start = eqb-true s.packet.stamped.flow flow (and-right (link_eq s.packet.link link) _ is_of-start)

  pub backlog-start : backlog link flow (started s ∷ trace) ≡ drop 1 (backlog link flow trace)
  backlog-start = ap (λ b. cond b (drop 1 (backlog link flow trace)) (backlog link flow trace)) is_of-start

  other-flow : (g : ℕ) → g ≢ flow → nat_eq s.packet.stamped.flow g ≡ false
  other-flow g ne = ⊎_elim (λ same. absurd (ne (sym same.1 ∙ flow-start))) (λ other. other.0) (eqb_tells s.packet.stamped.flow g)

  pub backlog-start-other : (g : ℕ) → g ≢ flow → backlog link g (started s ∷ trace) ≡ backlog link g trace
  backlog-start-other g ne = ap (λ b. cond b (drop 1 (backlog link g trace)) (backlog link g trace)) (and-no (link_eq s.packet.link link) _ (other-flow g ne))

  pub is_below : flow < flow_bound trace
  is_below = ⊎_elim (λ high. absurd (no_packet (backlog-above link flow trace high.1))) (λ low. low.1) (leb_tells (flow_bound trace) flow)
    where
      no_packet : backlog link flow trace ≡ [] → ⊥
      no_packet e = let none = ap (λ (q : List Accepted). slice_get q 0) e in cc

  waiting-start-low : (n : ℕ) → n ≤ flow → total n (λ f. backlog link f (started s ∷ trace)) ≡ total n (λ f. backlog link f trace)
  waiting-start-low zero h = refl
  waiting-start-low (suc n) h =
      let ne : n ≢ flow = λ e. absurd (omega arith) in
      let rest = waiting-start-low n (omega arith) in
      let same = ap (λ (q : List Accepted). length q) (backlog-start-other n ne) in
      omega arith

  one_less : length (backlog link flow (started s ∷ trace)) + 1 ≡ length (backlog link flow trace)
  one_less = let one = ap (λ (q : List Accepted). length q) backlog-start in let rest = length-rest s.packet (backlog link flow trace) is_first in omega arith

  waiting-start-high : (n : ℕ) → flow < n → total n (λ f. backlog link f (started s ∷ trace)) + 1 ≡ total n (λ f. backlog link f trace)
  waiting-start-high zero h = absurd (omega arith)
  waiting-start-high (suc n) h = ⊎_elim at_flow (above_flow (λ lt. waiting-start-high n lt)) (eqb_tells n flow)
    where
      Shrinks : ℕ → Type 0
      Shrinks m = length (backlog link m (started s ∷ trace)) + 1 ≡ length (backlog link m trace)

      at_flow : (nat_eq n flow ≡ true) × (n ≡ flow) → total (suc n) (λ f. backlog link f (started s ∷ trace)) + 1 ≡ total (suc n) (λ f. backlog link f trace)
      at_flow same =
          let low = waiting-start-low n (omega (arith, same.1)) in
          let here : length (backlog link n (started s ∷ trace)) + 1 ≡ length (backlog link n trace) = subst Shrinks (sym same.1) one_less in
          omega arith

      above_flow : (flow < n → total n (λ f. backlog link f (started s ∷ trace)) + 1 ≡ total n (λ f. backlog link f trace))
          → (nat_eq n flow ≡ false) × (n ≢ flow) → total (suc n) (λ f. backlog link f (started s ∷ trace)) + 1 ≡ total (suc n) (λ f. backlog link f trace)
      above_flow lower other =
          let ne = other.1 in
          let lt : flow < n = ⊎_elim (λ (le : n ≤ flow). absurd (ne (omega arith))) (λ (lt : flow < n). lt) (le_or_lt n flow) in
          let rest = lower lt in
          let same = ap (λ (q : List Accepted). length q) (backlog-start-other n ne) in
          omega arith

  pub waiting-start : waiting link (started s ∷ trace) + 1 ≡ waiting link trace
  waiting-start = waiting-start-high (flow_bound trace) is_below

-- ---- The next start

-- The next packet is the first of a backlog.
pub next_packet-first : (link : Link) (trace : List Event) (p : Accepted) → next_packet link trace ≡ Some p → (flow : ℕ) × (slice_get (backlog link flow trace) 0 ≡ Some p)
next_packet-first (own pipe flow) trace p e = (flow, e)
next_packet-first (shared pipe) trace p e = picked (pick (virtual_time (shared pipe) trace) (link_heads (shared pipe) trace)) e
  where
    picked : (o : Option Stamped) → option_and_then (λ h. slice_get (backlog (shared pipe) h.flow trace) 0) o ≡ Some p → (flow : ℕ) × (slice_get (backlog (shared pipe) flow trace) 0 ≡ Some p)
    picked None e = absurd cc
    picked (Some h) e = (h.flow, e)

-- The next start is the next packet's.
pub next_start-packet : (settings : Settings) (at : ℕ) (link : Link) (trace : List Event) (s : Start) → next_start settings at link trace ≡ Some s → next_packet link trace ≡ Some s.packet
next_start-packet settings at link trace s e = by_test (nat_le (free link trace) at) (next_packet link trace) e
  where
    by_test : (b : Bool) (o : Option Accepted) → cond b (option_map (λ p. start_at settings link p (free link trace)) o) None ≡ Some s → o ≡ Some s.packet
    by_test false o e = absurd cc
    by_test true None e = absurd cc
    by_test true (Some p) e = let same : start_at settings link p (free link trace) ≡ s = cc in ap (λ (x : Start). Some x.packet) same

pub waiting-next : (settings : Settings) (at : ℕ) (link : Link) (trace : List Event) (s : Start)
    → next_start settings at link trace ≡ Some s → waiting link (started s ∷ trace) + 1 ≡ waiting link trace
waiting-next settings at link trace s e = let first = next_packet-first link trace s.packet (next_start-packet settings at link trace s e) in waiting-start link first.0 s trace first.1
