-- All parts agree with a packet that is accepted.
use Rattle.dn_shaper.proofs.Words.{Accepted, AgreesWith, AreCountsWithin, ArrivesAt, ArrivesInSchedule, ArrivesOn, Bool, Event, FlowState, Home, IsAt, IsHomeOf, Link, LinkView, List, None, Packet}
use Rattle.dn_shaper.proofs.Words.{Parts, Settings, Some, Stamped, Treatment, Waiting, Within, [], accept, and_parts, and_right, ap, arith, arrived, as_queued, backlog, begun_flows, begun_time}
use Rattle.dn_shaper.proofs.Words.{cases_lt, cond, eq-yes, eqb-true, false, flow_at, free, get-set, home, homes_of, inl, inr, is_of, length, length-map, length-more, link_names, links}
use Rattle.dn_shaper.proofs.Words.{map-set-same, nat_eq, nat_le, next_packet, next_packet-first, next_start, next_start_of, next_starts, opened, opening, option_map, own, places, places-used}
use Rattle.dn_shaper.proofs.Words.{pushed, refl, scaled, set, set-set, set_past, shared, slice_get, slotted, stamped_of, start_at, start_tag_on_arrival, subst, suc, sum-set, sym, true, views_of}
use Rattle.dn_shaper.proofs.Words.{waiting, waits_in_all, with_link, zero, ℕ, ⊎_elim, ◌&&◌, ◌++◌, ◌+◌, ◌<◌, ◌∙◌, ◌∷◌, ◌≡◌, ◌≤◌, ◌⊎◌}
use Rattle.dn_wf2q.specs.Schedule.{Flow, Schedule, flow_at as slot_at, waiting_of as waiting_in, joined_by, stamped}
use Rattle.dn_shaper.proofs.Arrived.{arrived-agrees}
use Rattle.dn_shaper.proofs.HomeRead.{home-of}
use Rattle.dn_shaper.proofs.Next.{home-here, next_exists}
use Rattle.dn_shaper.proofs.OnePlace.{agrees-as, each-flow, each-set}
use Rattle.dn_shaper.proofs.Opened.{opened-agrees}
use Rattle.dn_flows.proofs.Places.{map-set}
use Rattle.dn_shaper.proofs.Waiting.{empty-all}

pub set-self : {X : Type 0} (xs : List X) (k : ℕ) (x : X) → slice_get xs k ≡ Some x → set xs k x ≡ xs
set-self [] k x e = absurd cc
set-self (z ∷ xs) zero x e = let same : z ≡ x = cc in λ i. sym same i ∷ xs
set-self (z ∷ xs) (suc k) x e = λ i. z ∷ set-self xs k x e i

-- The link's view where a busy period has begun, if one has.
abbrev begun_view : Bool → LinkView → LinkView
begun_view idle v = record {
  link = v.link;
  value = v.value;
  waits = v.waits;
  schedule = record {
    flows = begun_flows idle v.schedule;
    virtual_time = begun_time idle v.schedule;
    room = v.schedule.room;
    arrivals = v.schedule.arrivals;
    picks = v.schedule.picks;
    moves = v.schedule.moves;
  };
  slots = v.slots;
}

module _ (settings : Settings) (at : ℕ) (h : Home) (flow len weight : ℕ) (idle : Bool) (old new : Parts) (s : ArrivesAt at h flow len weight idle old new)
    (more : List Link) (trace : List Event) (a : AgreesWith old more trace)
    (within : flow < length old.flows.keys) (at_home : slice_get (homes_of old.flows.flows) flow ≡ Some h) where
  the_home : IsHomeOf flow (home old.flows.keys flow) (views_of old) h
  the_home = home-of old a within at_home

  same_view : the_home.view ≡ s.view
  same_view = let both : Some the_home.view ≡ Some s.view = sym the_home.there ∙ s.there in cc

  pub link-home : home old.flows.keys flow ≡ s.view.link
  link-home = sym the_home.link_is ∙ ap (λ (v : LinkView). v.link) same_view

  pub slot-home : (pipe : ℕ) → s.view.link ≡ shared pipe → slice_get s.view.slots h.slot ≡ Some flow
  slot-home pipe is = (home-here old.rule old.accepted old.flows.keys (homes_of old.flows.flows)
      (views_of old) old.flows.flows old.line.pending more trace a h.place s.view s.there flow h the_home link-home).1 pipe is

  abbrev l : Link
  l = s.view.link

  opens_there : idle ≡ (nat_eq (waiting l trace) 0 && nat_le (free l trace) at)
  opens_there = let b = a.views_are h.place s.view s.there in s.idle_is ∙ (λ i. nat_eq (b.waits_are i) 0 && nat_le (b.free_is i) at)

  abbrev before : List Event
  before = opening l at trace

  before_is : before ≡ cond idle (opened l ∷ trace) trace
  before_is = ap (λ b. cond b (opened l ∷ trace) trace) (sym opens_there)

  opened_if : (b : Bool) →
      IsAt old.rule old.accepted old.flows.keys (homes_of old.flows.flows) (set (views_of old) h.place (begun_view b s.view)) old.flows.flows old.line.pending more (cond b (opened l ∷ trace) trace)
  opened_if true = opened-agrees old.rule old.accepted old.flows.keys (homes_of old.flows.flows)
      (views_of old) old.flows.flows old.line.pending more trace a h.place s.view s.there (begun_view true s.view) refl refl refl refl (λ pipe is. (refl, refl))
  opened_if false = subst (λ (vs : List LinkView). IsAt old.rule old.accepted old.flows.keys (homes_of old.flows.flows) vs old.flows.flows old.line.pending more trace)
      (sym (set-self (views_of old) h.place s.view s.there)) a

  opened_now : IsAt old.rule old.accepted old.flows.keys (homes_of old.flows.flows) (set (views_of old) h.place (begun_view idle s.view)) old.flows.flows old.line.pending more before
  opened_now = subst
      (λ (t : List Event). IsAt old.rule old.accepted old.flows.keys (homes_of old.flows.flows) (set (views_of old) h.place (begun_view idle s.view)) old.flows.flows old.line.pending more t)
      (sym before_is) (opened_if idle)

  links_before : (b : Bool) → links (cond b (opened l ∷ trace) trace) ≡ links trace
  links_before true = refl
  links_before false = refl

  free_before : (b : Bool) → free l (cond b (opened l ∷ trace) trace) ≡ free l trace
  free_before true = refl
  free_before false = refl

  waiting_before : (b : Bool) → waiting l (cond b (opened l ∷ trace) trace) ≡ waiting l trace
  waiting_before true = refl
  waiting_before false = refl

  pub free-then : free l before ≡ free l trace
  free-then = ap (free l) before_is ∙ free_before idle

  pub waiting-then : waiting l before ≡ waiting l trace
  waiting-then = ap (waiting l) before_is ∙ waiting_before idle

  module _ (packet : Packet) (how : Treatment) (len_is : packet.len ≡ len) (weight_is : how.weight ≡ weight) (made : link_names (views_of old) ≡ with_link l (links trace)) where
    abbrev pub the_packet : Accepted
    the_packet = accept l packet flow how before

    stamped_is : (pipe : ℕ) → l ≡ shared pipe → stamped h.slot (slot_at (begun_flows idle s.view.schedule) h.slot) (begun_time idle s.view.schedule) len weight ≡ slotted h.slot the_packet.stamped
    stamped_is pipe is =
        let c = (opened_now.views_are h.place (begun_view idle s.view) (get-set (views_of old) h.place s.view (begun_view idle s.view) s.there)).schedule_is pipe is in
        let x = c.slots_are h.slot flow (slot-home pipe is) in
        let count : length (slot_at (begun_flows idle s.view.schedule) h.slot).backlog ≡ length (backlog l flow before) = ap (λ (q : List Stamped). length q) x.backlog_is
        ∙ length-map (stamped_of (backlog l flow before)) (slotted h.slot) ∙ length-map (backlog l flow before) (λ (p : Accepted). p.stamped) in
        λ i. record {
          flow = h.slot;
          len = sym len_is i;
          weight = sym weight_is i;
          start_tag = start_tag_on_arrival (nat_eq (count i) 0) (x.last_finish_is i)
              (c.virtual_time_is i);
          finish_tag = start_tag_on_arrival (nat_eq (count i) 0) (x.last_finish_is i) (c.virtual_time_is i) + scaled (sym len_is i)
              (sym weight_is i);
        }

    arrival : (pipe : ℕ) → l ≡ shared pipe →
        (slot : ℕ) × (slice_get s.view.slots slot ≡ Some flow) × (slot < length (begun_flows idle s.view.schedule)) ×
        (s.view'.schedule.flows ≡ set (begun_flows idle s.view.schedule) slot (joined_by (slot_at (begun_flows idle s.view.schedule) slot) (slotted slot the_packet.stamped))) ×
        (s.view'.schedule.virtual_time ≡ begun_time idle s.view.schedule)
    arrival pipe is =
        let r = subst (ArrivesOn h.slot len weight idle s.view s.view') is s.joins.arrives in (
          h.slot,
          slot-home pipe is,
          in_range r,
          r.flows
              ∙ ap (λ (x : Stamped). set (begun_flows idle s.view.schedule) h.slot (joined_by (slot_at (begun_flows idle s.view.schedule) h.slot) x)) (stamped_is pipe is),
          r.virtual_time,
        )
      where
        in_range : ArrivesInSchedule h.slot len weight idle s.view.schedule s.view'.schedule → h.slot < length (begun_flows idle s.view.schedule)
        in_range r = ⊎_elim (λ lt. lt)
            (λ ge. absurd
            (let same = ap (λ (fs : List Flow). waiting_in fs)
            (r.flows
            ∙ set_past (begun_flows idle s.view.schedule) h.slot
            (joined_by (slot_at (begun_flows idle s.view.schedule) h.slot) (stamped h.slot (slot_at (begun_flows idle s.view.schedule) h.slot) (begun_time idle s.view.schedule) len weight)) ge) in
            let one = r.one_more in omega arith))
            (cases_lt h.slot (length (begun_flows idle s.view.schedule)))

    made_then : link_names (set (views_of old) h.place (begun_view idle s.view)) ≡ with_link l (links before)
    made_then =
        map-set-same (λ (x : LinkView). x.link) (views_of old) h.place s.view (begun_view idle s.view) s.there refl
        ∙ made
        ∙ ap (λ (ls : List Link). with_link l ls) (sym (ap links before_is ∙ links_before idle))

    base : IsAt old.rule (old.accepted + 1) old.flows.keys (homes_of old.flows.flows) (set (set (views_of old) h.place (begun_view idle s.view)) h.place s.view')
        (set old.flows.flows flow (pushed (as_queued the_packet) (flow_at old.flows.flows flow))) old.line.pending [] (arrived the_packet ∷ before)
    base =
        arrived-agrees old.rule old.accepted old.flows.keys (homes_of old.flows.flows)
        (set (views_of old) h.place (begun_view idle s.view)) old.flows.flows old.line.pending more before opened_now h.place (begun_view idle s.view)
        (get-set (views_of old) h.place s.view (begun_view idle s.view) s.there)
        flow within link-home made_then the_packet refl refl (sym opened_now.accepted_is) s.view' s.joins.link s.joins.value s.joins.waits s.joins.slots arrival

    -- All parts agree with the arrival.
    pub arrives-agree : AgreesWith new [] (arrived the_packet ∷ before)
    arrives-agree =
        let w : as_queued the_packet ≡ record { packet = old.accepted; len = len; weight = weight } = λ i. record { packet = sym opened_now.accepted_is i; len = len_is i; weight = weight_is i } in
        agrees-as new s.rule s.accepted s.keys s.homes (s.views_are ∙ sym (set-set (views_of old) h.place (begun_view idle s.view) s.view'))
        (s.flows_are ∙ ap (λ (x : Waiting). set old.flows.flows flow (pushed x (flow_at old.flows.flows flow))) (sym w)) (ap (λ l. l.pending) s.line) base

    -- Where the link was idle, the packet is the next one.
    pub next-alone : idle ≡ true → (p : Accepted) → next_packet l (arrived the_packet ∷ before) ≡ Some p → p ≡ the_packet
    next-alone yes' p next =
        let first = next_packet-first l (arrived the_packet ∷ before) p next in
        let z : waiting l before ≡ 0 = waiting-then ∙ eqb-true (waiting l trace) 0 (and_parts (nat_eq (waiting l trace) 0) (nat_le (free l trace) at) (sym opens_there ∙ yes')).0 in
        only (is_of l first.0 the_packet) (backlog l first.0 before) (empty-all l before z first.0) first.1
      where
        only : (b : Bool) (q : List Accepted) → q ≡ [] → slice_get (cond b (q ++ the_packet ∷ []) q) 0 ≡ Some p → p ≡ the_packet
        only true [] e f = let same : the_packet ≡ p = cc in sym same
        only false [] e f = absurd cc
        only b (x ∷ q) e f = absurd (let n = ap (λ (ys : List Accepted). length ys) e in omega arith)

  -- Where packets wait and none is due, the link is free later.
  pub not-free : 0 < s.view.waits → next_start settings at l trace ≡ None → nat_le (free l trace) at ≡ false
  not-free some none = by (nat_le (free l trace) at) refl
    where
      p : (x : Accepted) × (next_packet l trace ≡ Some x)
      p = next_exists old.rule old.accepted old.flows.keys (homes_of old.flows.flows) (views_of old) old.flows.flows old.line.pending more trace a h.place s.view s.there some

      by : (b : Bool) → nat_le (free l trace) at ≡ b → nat_le (free l trace) at ≡ false
      by false e = e
      by true e =
          let there : next_start settings at l trace ≡ Some (start_at settings l p.0 (free l trace)) =
          ap (λ b. cond b (option_map (λ (x : Accepted). start_at settings l x (free l trace)) (next_packet l trace)) None) e
          ∙ ap (option_map (λ (x : Accepted). start_at settings l x (free l trace))) p.1 in
          let t = sym none ∙ there in
          absurd cc

  -- So the packet starts at once exactly where the link was idle.
  pub starts-at-once : next_start settings at l trace ≡ None → nat_le (free l before) at ≡ idle
  starts-at-once none = ap (λ m. nat_le m at) free-then ∙ by (cases_lt 0 s.view.waits)
    where
      by : (0 < s.view.waits) ⊎ (s.view.waits ≤ 0) → nat_le (free l trace) at ≡ idle
      by (inl some) =
          let f = not-free some none in
          f ∙ sym (opens_there ∙ ap (λ t. nat_eq (waiting l trace) 0 && t) f ∙ and_right (nat_eq (waiting l trace) 0) false refl)
      by (inr zero_waits) =
          let z : nat_eq s.view.waits 0 ≡ true = eq-yes s.view.waits 0 (omega arith) in
          let e = (a.views_are h.place s.view s.there).free_is in
          sym (s.idle_is ∙ ap (λ t. t && nat_le s.view.value.free at) z ∙ ap (λ m. nat_le m at) e)

-- ---- Counts

module _ (at : ℕ) (h : Home) (flow len weight : ℕ) (idle : Bool) (old new : Parts) (s : ArrivesAt at h flow len weight idle old new) where
  abbrev packet : Waiting
  packet = record { packet = old.accepted; len = len; weight = weight }

  pub arrives-waiting : waits_in_all (views_of new) ≡ waits_in_all (views_of old) + 1
  arrives-waiting =
      let e = ap (λ (vs : List LinkView). waits_in_all vs) s.views_are in
      let w = sum-set (λ (v : LinkView). v.waits) (views_of old) h.place s.view s.view' s.there in
      let one = s.joins.waits in
      omega arith

  pub arrives-nexts : next_starts (views_of new) ≡ set (next_starts (views_of old)) h.place (next_start_of s.view')
  arrives-nexts = ap (λ (vs : List LinkView). next_starts vs) s.views_are ∙ map-set next_start_of (views_of old) h.place s.view'

  pub arrives-names : link_names (views_of new) ≡ link_names (views_of old)
  arrives-names = ap (λ (vs : List LinkView). link_names vs) s.views_are ∙ map-set-same (λ (x : LinkView). x.link) (views_of old) h.place s.view s.view' s.there s.joins.link

  pub arrives-within : (n : ℕ) → flow < length old.flows.flows → (flow_at old.flows.flows flow).reserved ≡ true → Within n old → Within (n + 1) new
  arrives-within n lt reserved w = record {
    waiting_is = let a = arrives-waiting in let b = s.waiting in let c = w.waiting_is in omega arith;
    room =
        let a = w.room in
        let b = s.waiting in
        let c = ap {B = ℕ} (λ x. x.room) s.line in
        let d = ap {B = ℕ} places s.flows_are in
        let e = places-used old.flows.flows flow (pushed packet (flow_at old.flows.flows flow)) lt reserved refl in
        omega arith;
    pushed = let b = s.waiting in let c = ap {B = ℕ} (λ x. x.pushed) s.line in let d = w.pushed in omega arith;
    sums = let b = s.waiting in let c = ap {B = ℕ} (λ x. length x.pending) s.line in let d = w.sums in omega arith;
    flows_are = λ g. subst (λ (fs : List FlowState). AreCountsWithin (n + 1) (flow_at fs g)) (sym s.flows_are)
        (each-flow (λ g x. AreCountsWithin (n + 1) x) old.flows.flows flow (pushed packet (flow_at old.flows.flows flow)) lt
        (let i = w.flows_are flow in let a = i.0 in let b = i.1 in let c = i.2 in let l = length-more (flow_at old.flows.flows flow).backlog packet in (omega arith, omega arith, omega arith))
        (λ g ne. let i = w.flows_are g in let a = i.0 in let b = i.1 in let c = i.2 in (omega arith, omega arith, omega arith)) g);
    arrivals = λ j v e. each-set (λ (j : ℕ) (v : LinkView). v.schedule.arrivals ≤ n + 1) (views_of old) h.place s.view s.there s.view'
        (let m = more_arrivals s.view.link s.joins.arrives in let le = w.arrivals h.place s.view s.there in omega arith)
        (λ j v e ne. let le = w.arrivals j v e in omega arith) j v (ap (λ (vs : List LinkView). slice_get vs j) (sym s.views_are) ∙ e);
    accepted = let a = s.accepted in let b = w.accepted in omega arith;
  }
    where
      more_arrivals : (l : Link) → ArrivesOn h.slot len weight idle s.view s.view' l → s.view'.schedule.arrivals ≤ s.view.schedule.arrivals + 1
      more_arrivals (own pipe f) r = let e = ap {B = ℕ} (λ (x : Schedule). x.arrivals) r in omega arith
      more_arrivals (shared pipe) r = let e = r.arrivals in omega arith
