-- What is picked is the first of its slot's backlog, and it is the next packet of the link.
use Rattle.dn_shaper.proofs.Words.{Accepted, All, Ascends, Event, IsOwn, IsScheduleAt, Link, List, None, Some, Stamped, [], and-right, ap, arith, backlog, backlog-above, backlog-own, eqb-true}
use Rattle.dn_shaper.proofs.Words.{flow_bound, grown, heads, heads-same, inl, inr, length, link_eq, link_heads, map, max, nat_eq, option_map, pick, pick-first, refl, slice_get, slotted}
use Rattle.dn_shaper.proofs.Words.{stamped_of, subst, suc, sym, virtual_time, zero, ℕ, ⊎_elim, ◌<◌, ◌∙◌, ◌∷◌, ◌≡◌, ◌≤◌, ◌⊎◌}
use Rattle.dn_wf2q.specs.Schedule.{Flow, Schedule, flow_at as slot_at, heads_of}
use Rattle.dn_shaper.proofs.Slots.{flow_from}
use Rattle.dn_shaper.proofs.Slots.{flows-rise, flow-at, moved, heads-moved, heads-between, pick-moved, grown-moved, le-to}

pub slot_or : (slots : List ℕ) (slot : ℕ) → ((flow : ℕ) × (slice_get slots slot ≡ Some flow)) ⊎ (length slots ≤ slot)
slot_or [] slot = inr (omega arith)
slot_or (f ∷ fs) zero = inl (f, refl)
slot_or (f ∷ fs) (suc slot) = ⊎_elim (λ h. inl h) (λ le. inr (omega (arith, le))) (slot_or fs slot)

slot-beyond : (slots : List ℕ) (slot flow : ℕ) → slice_get slots slot ≡ Some flow → slot < length slots
slot-beyond [] slot flow e = absurd cc
slot-beyond (f ∷ fs) zero flow e = omega arith
slot-beyond (f ∷ fs) (suc slot) flow e = let r = slot-beyond fs slot flow e in omega arith

first-mapped : {X Y : Type 0} (f : X → Y) (xs : List X) (y : Y) → slice_get (map f xs) 0 ≡ Some y → (x : X) × (slice_get xs 0 ≡ Some x) × (f x ≡ y)
first-mapped f [] y e = absurd cc
first-mapped f (x ∷ xs) y e = let same : f x ≡ y = cc in (x, refl, same)

back-at_slot : (to : ℕ → ℕ) (rises : (a b : ℕ) → a < b → to a < to b) (slot flow : ℕ) → to slot ≡ flow → (ps : List Accepted) →
    ((p : Accepted) (i : ℕ) → slice_get ps i ≡ Some p → p.stamped.flow ≡ flow) → map (moved to rises) (map (slotted slot) (stamped_of ps)) ≡ stamped_of ps
back-at_slot to rises slot flow e [] h = refl
back-at_slot to rises slot flow e (p ∷ ps) h =
    let here : to slot ≡ p.stamped.flow = e ∙ sym (h p 0 refl) in
    λ i.
    (record { flow = here i; len = p.stamped.len; weight = p.stamped.weight; start_tag = p.stamped.start_tag; finish_tag = p.stamped.finish_tag }) ∷ back-at_slot to rises slot flow e ps
    (λ r k er. h r (suc k) er) i

all-get : {X : Type 0} (P : X → Type 0) (xs : List X) (i : ℕ) (x : X) → All P xs → slice_get xs i ≡ Some x → P x
all-get P [] i x h e = absurd cc
all-get P (y ∷ xs) zero x h e = let same : y ≡ x = cc in subst P same (h 0 y (omega arith))
all-get P (y ∷ xs) (suc i) x h e = all-get P xs i x (λ k d lt. h (suc k) d (omega arith)) e

pub backlog-flow : (link : Link) (flow : ℕ) (trace : List Event) (p : Accepted) (i : ℕ) → slice_get (backlog link flow trace) i ≡ Some p → p.stamped.flow ≡ flow
backlog-flow link flow trace p i e = eqb-true p.stamped.flow flow
    (and-right (link_eq p.link link) (nat_eq p.stamped.flow flow) (all-get (IsOwn link flow) (backlog link flow trace) i p (backlog-own link flow trace) e))

module _ (link : Link) (trace : List Event) (s : Schedule) (slots : List ℕ) (a : IsScheduleAt link trace s slots) (ascends : Ascends 0 slots)
    (listed : (flow : ℕ) → ((slot : ℕ) → slice_get slots slot ≡ Some flow → ⊥) → backlog link flow trace ≡ []) where
  abbrev to : ℕ → ℕ
  to slot = flow_from 0 slots slot

  abbrev rises : (x y : ℕ) → x < y → to x < to y
  rises x y lt = flows-rise 0 slots x y ascends lt

  abbrev q : ℕ → List Stamped
  q flow = stamped_of (backlog link flow trace)

  abbrev r : ℕ → List Stamped
  r slot = (slot_at s.flows slot).backlog

  none_there : (slot : ℕ) → length slots ≤ slot → backlog link (to slot) trace ≡ []
  none_there slot le = listed (to slot) (λ other e.
      let lt = slot-beyond slots other (to slot) e in
      let same = flow-at 0 slots other (to slot) e in
      let up = rises other slot (omega arith) in
      absurd (omega arith))

  -- A slot holds the backlog of its flow.
  slot-same : (slot : ℕ) → q (to slot) ≡ map (moved to rises) (r slot)
  slot-same slot = ⊎_elim given not_given (slot_or slots slot)
    where
      given : (flow : ℕ) × (slice_get slots slot ≡ Some flow) → q (to slot) ≡ map (moved to rises) (r slot)
      given h =
          let e = flow-at 0 slots slot h.0 h.1 in
          ap q e
          ∙ sym (back-at_slot to rises slot h.0 e (backlog link h.0 trace) (λ p i ep. backlog-flow link h.0 trace p i ep))
          ∙ ap (map (moved to rises)) (sym (a.slots_are slot h.0 h.1).backlog_is)

      not_given : length slots ≤ slot → q (to slot) ≡ map (moved to rises) (r slot)
      not_given le = ap stamped_of (none_there slot le) ∙ ap (λ (x : Flow). map (moved to rises) x.backlog) (sym (a.beyond slot le))

  not_listed : (flow : ℕ) → ((slot : ℕ) → to slot ≡ flow → ⊥) → q flow ≡ []
  not_listed flow h = ap stamped_of (listed flow (λ slot e. h slot (flow-at 0 slots slot flow e)))

  abbrev many : ℕ
  many = max (length s.flows) (flow_bound trace)

  slot_none : (flows : List Flow) (slot : ℕ) → length flows ≤ slot → (slot_at flows slot).backlog ≡ []
  slot_none [] slot le = refl
  slot_none (x ∷ flows) zero le = absurd (omega arith)
  slot_none (x ∷ flows) (suc slot) le = slot_none flows slot (omega arith)

  heads_there : heads many r ≡ heads_of s.flows
  heads_there = heads-between (length s.flows) (max (length s.flows) (flow_bound trace)) r (omega arith) (λ slot le lt. slot_none s.flows slot le)

  -- The link's heads are the schedule's.
  pub heads-agree : link_heads link trace ≡ map (moved to rises) (heads_of s.flows)
  heads-agree =
      let up = le-to to rises (max (length s.flows) (flow_bound trace)) in
      sym (heads-same (flow_bound trace) q (λ flow. backlog link flow trace) (λ flow. refl))
      ∙ sym (heads-between (flow_bound trace) (to (max (length s.flows) (flow_bound trace))) q (omega arith) (λ flow le lt. ap stamped_of (backlog-above link flow trace le)))
      ∙ heads-moved to rises q r slot-same not_listed (max (length s.flows) (flow_bound trace))
      ∙ ap (map (moved to rises)) heads_there

  pub pick-agree : pick (virtual_time link trace) (link_heads link trace) ≡ option_map (moved to rises) (pick s.virtual_time (heads_of s.flows))
  pick-agree =
      ap (λ v. pick v (link_heads link trace)) (sym a.virtual_time_is)
      ∙ ap (λ (hs : List Stamped). pick s.virtual_time hs) heads-agree
      ∙ pick-moved to rises s.virtual_time (heads_of s.flows)

  pub none-agree : pick s.virtual_time (heads_of s.flows) ≡ None → pick (virtual_time link trace) (link_heads link trace) ≡ None
  none-agree e = pick-agree ∙ ap (option_map (moved to rises)) e

  pub grown-agree : (len : ℕ) → grown s.virtual_time (heads_of s.flows) len ≡ grown (virtual_time link trace) (link_heads link trace) len
  grown-agree len =
      sym (grown-moved to rises s.virtual_time (heads_of s.flows) len)
      ∙ ap (λ (hs : List Stamped). grown s.virtual_time hs len) (sym heads-agree)
      ∙ ap (λ v. grown v (link_heads link trace) len) a.virtual_time_is

  own_firsts : (slot : ℕ) (h : Stamped) → slice_get (r slot) 0 ≡ Some h → h.flow ≡ slot
  own_firsts slot h e = ⊎_elim given not_given (slot_or slots slot)
    where
      given : (flow : ℕ) × (slice_get slots slot ≡ Some flow) → h.flow ≡ slot
      given g =
          let first = first-mapped (slotted slot) (stamped_of (backlog link g.0 trace)) h (ap (λ (xs : List Stamped). slice_get xs 0) (sym (a.slots_are slot g.0 g.1).backlog_is) ∙ e) in
          sym (ap (λ (x : Stamped). x.flow) first.2)

      not_given : length slots ≤ slot → h.flow ≡ slot
      not_given le = let none : None ≡ Some h = sym (ap (λ (x : Flow). slice_get x.backlog 0) (a.beyond slot le)) ∙ e in absurd cc

  -- What is picked has a flow, and it is that flow's first packet.
  module _ (h : Stamped) (picked : pick s.virtual_time (heads_of s.flows) ≡ Some h) where
    pub first-picked : slice_get (r h.flow) 0 ≡ Some h
    first-picked = pick-first r own_firsts (length s.flows) s.virtual_time h picked

    pub flow-picked : (flow : ℕ) × (slice_get slots h.flow ≡ Some flow)
    flow-picked = ⊎_elim (λ g. g) (λ le. let none : None ≡ Some h = sym (ap (λ (x : Flow). slice_get x.backlog 0) (a.beyond h.flow le)) ∙ first-picked in absurd cc) (slot_or slots h.flow)

    pub packet-picked : (flow : ℕ) → slice_get slots h.flow ≡ Some flow → (p : Accepted) × (slice_get (backlog link flow trace) 0 ≡ Some p) × (slotted h.flow p.stamped ≡ h)
    packet-picked flow e =
        let first = first-mapped (slotted h.flow) (stamped_of (backlog link flow trace)) h (ap (λ (xs : List Stamped). slice_get xs 0) (sym (a.slots_are h.flow flow e).backlog_is) ∙ first-picked) in
        let p = first-mapped (λ (x : Accepted). x.stamped) (backlog link flow trace) first.0 first.1 in
        (p.0, p.1, ap (slotted h.flow) p.2 ∙ first.2)

    pub pick-flow : (flow : ℕ) → slice_get slots h.flow ≡ Some flow → (x : Stamped) × (pick (virtual_time link trace) (link_heads link trace) ≡ Some x) × (x.flow ≡ flow)
    pick-flow flow e = (moved to rises h, pick-agree ∙ ap (option_map (moved to rises)) picked, flow-at 0 slots h.flow flow e)
