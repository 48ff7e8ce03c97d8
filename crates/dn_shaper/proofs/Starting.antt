-- A link for which a packet waits can start one, and all parts agree with the start.
use Rattle.dn_shaper.proofs.Words.{Accepted, Agrees, AgreesWith, AreCountsWithin, Bool, CanSend, CanStart, Delivery, Event, FlowState, GivesRates, HasFront, IsAlone, IsAt, IsNextToSend, IsReady}
use Rattle.dn_shaper.proofs.Words.{Link, LinkParts, LinkView, List, Parts, Settings, Some, StartsAt, Waiting, Within, [], ap, arith, as_queued, backlog, cond, due_by, false, flow_at, get-below}
use Rattle.dn_shaper.proofs.Words.{get_or, home, homes_of, in_order, is_given_before, length, next_packet, next_start_of, next_starts, own, pipe_of, places, places-same, popped, popped_backlog}
use Rattle.dn_shaper.proofs.Words.{popped_from, queue_lengths, refl, room_at, set, shared, slice_get, start_at, started, subst, suc, sum-le, sum-set, sym, transmission_time, true, view_of, viewed}
use Rattle.dn_shaper.proofs.Words.{views_of, waits_in_all, zero, ℕ, ◌+◌, ◌<◌, ◌^◌, ◌∙◌, ◌∷◌, ◌≡◌, ◌≤◌}
use Rattle.dn_shaper.proofs.Alone.{is-alone, own-slot}
use Rattle.dn_shaper.proofs.Next.{can_send, taken, front}
use Rattle.dn_shaper.proofs.OnePlace.{agrees-as, each-flow, each-set}
use Rattle.dn_flows.proofs.Places.{map-set}
use Rattle.dn_shaper.proofs.Started.{start-agrees, popped_started, popped_rest}
use Rattle.dn_shaper.proofs.Taking.{drop-fewer}

-- A start leaves a reserved place.
popped_reserved : (x : FlowState) → (popped x).reserved ≡ x.reserved
popped_reserved x = by x.backlog
  where
    by : (ws : List Waiting) → (popped_from ws x).reserved ≡ x.reserved
    by [] = refl
    by (y ∷ ws) = refl

-- A flow that has a packet is there.
pub popped-below : (fs : List FlowState) (i : ℕ) (w : Waiting) → slice_get (flow_at fs i).backlog 0 ≡ Some w → i < length fs
popped-below [] i w e = absurd cc
popped-below (x ∷ fs) zero w e = omega arith
popped-below (x ∷ fs) (suc i) w e = let r = popped-below fs i w e in omega arith

-- ---- What a start needs

module _ {p : Parts} (within : Within (2 ^ 62) p) (agrees : Agrees p) {place moment : ℕ} (can : CanStart p place moment) where
  -- The link that is read at the place is the one that can start.
  pub link-read : {link : LinkParts} → link ≡ get_or p.links.items place link → (slice_get p.links.items place ≡ Some link) × (view_of (queue_lengths p.flows.flows) link ≡ can.view)
  link-read {link = link} read = viewed (view_of (queue_lengths p.flows.flows)) p.links.items place link can.view can.there read

  pub sends-at : CanSend can.view can.view.link
  sends-at = can_send p.rule p.accepted p.flows.keys (homes_of p.flows.flows) (views_of p) p.flows.flows p.line.pending agrees.0 agrees.1 agrees.2 place can.view can.there can.some

  pub front-at : HasFront can.view p.flows.flows
  front-at flow v' takes =
      let t = taken p.rule p.accepted p.flows.keys (homes_of p.flows.flows) (views_of p) p.flows.flows p.line.pending agrees.0 agrees.1 agrees.2 place can.view can.there flow v' can.some takes.sends in
      let f = front p.rule p.accepted p.flows.keys (homes_of p.flows.flows) (views_of p) p.flows.flows p.line.pending agrees.0 agrees.1 agrees.2 place can.view can.there flow t.0 t.2 in
      (as_queued t.0, f.0, f.1, few flow (as_queued t.0) f.0)
    where
      few : (flow : ℕ) (w : Waiting) → slice_get (flow_at p.flows.flows flow).backlog 0 ≡ Some w → (flow_at p.flows.flows flow).started < 2 ^ 62
      few flow w e = let h = (within.flows_are flow).2 in let some = get-below (flow_at p.flows.flows flow).backlog 0 w e in omega arith

  waits-at : 0 < p.waiting
  waits-at = let le = sum-le (λ (v : LinkView). v.waits) (views_of p) place can.view can.there in let is = within.waiting_is in let some = can.some in omega arith

  -- The flow that is sent is at home on the link.
  pub alone-at : (flow : ℕ) (v' : LinkView) → IsNextToSend flow can.view v' can.view.link → IsAlone flow place (views_of p)
  alone-at flow v' sends = is-alone p agrees.0 agrees.1 agrees.2 flow place can.view can.there (by can.view.link refl sends)
    where
      by : (l : Link) → can.view.link ≡ l → IsNextToSend flow can.view v' l → home p.flows.keys flow ≡ can.view.link
      by (own pipe f) is same = ap (home p.flows.keys) same ∙ agrees.2.slots_home place can.view can.there 0 f (own-slot (queue_lengths p.flows.flows) p.links.items place can.view pipe f can.there is)
      by (shared pipe) is picked = agrees.2.slots_home place can.view can.there picked.0.flow flow picked.2

  pub room-at : 0 < p.line.room
  room-at = let w = waits-at in let r = within.room in omega arith

  pub pushed-at : p.line.pushed < 2 ^ 62
  pushed-at = let w = waits-at in let r = within.pushed in omega arith

  pub waiting-at : 1 ≤ p.waiting
  waiting-at = let w = waits-at in omega arith

-- ---- What it leaves

pub length-in_order : (d : Delivery) (ds : List Delivery) → length (in_order d ds) ≡ length ds + 1
length-in_order d [] = refl
length-in_order d (e ∷ es) = by (is_given_before d e) (length-in_order d es)
  where
    by : (b : Bool) → length (in_order d es) ≡ length es + 1 → length (cond b (d ∷ e ∷ es) (e ∷ in_order d es)) ≡ suc (length es) + 1
    by true h = omega arith
    by false h = omega arith

module _ (place moment bandwidth delay : ℕ) (old new : Parts) (s : StartsAt place moment bandwidth delay old new) where
  -- Some of the packets waited.
  some-waited : 0 < s.view.waits
  some-waited = let w = s.starts.waits in omega arith

  pub starts-agree : (settings : Settings) (more : List Link) (trace : List Event) → GivesRates settings (pipe_of s.view.link) bandwidth delay → AgreesWith old more trace →
      (p : Accepted) × (next_packet s.view.link trace ≡ Some p) × AgreesWith new more (started (start_at settings s.view.link p moment) ∷ trace)
  starts-agree settings more trace rates a =
      let t = taken old.rule old.accepted old.flows.keys (homes_of old.flows.flows)
      (views_of old) old.flows.flows old.line.pending more trace a place s.view s.there s.starts.flow s.view' some-waited s.starts.sends in
      let f = front old.rule old.accepted old.flows.keys (homes_of old.flows.flows) (views_of old) old.flows.flows old.line.pending more trace a place s.view s.there s.starts.flow t.0 t.2 in
      let both : Some s.starts.packet ≡ Some (as_queued t.0) = sym s.starts.front ∙ f.0 in
      let packet : s.starts.packet ≡ as_queued t.0 = cc in
      (t.0, t.1, after t.0 t.2 packet)
    where
      after : (p : Accepted) → slice_get (backlog s.view.link s.starts.flow trace) 0 ≡ Some p → s.starts.packet ≡ as_queued p →
          AgreesWith new more (started (start_at settings s.view.link p moment) ∷ trace)
      after p first packet = agrees-as new s.rule s.accepted s.keys s.homes s.views_are s.starts.flows_are pending_is base
        where
          transmission_is : transmission_time bandwidth s.starts.packet.len ≡ (start_at settings s.view.link p moment).transmission
          transmission_is = ap (λ (w : Waiting). transmission_time bandwidth w.len) packet ∙ ap (λ b. transmission_time b p.stamped.len) (sym rates.bandwidth_is)

          pending_is : new.line.pending ≡ in_order (record { due = s.view'.value.last_due; packet = p.packet; flow = s.starts.flow; start = moment }) old.line.pending
          pending_is = s.starts.pending_is ∙ ap (λ (w : Waiting). in_order (record { due = s.view'.value.last_due; packet = w.packet; flow = s.starts.flow; start = moment }) old.line.pending) packet

          base : IsAt old.rule old.accepted old.flows.keys (homes_of old.flows.flows) (set (views_of old) place s.view')
              (set old.flows.flows s.starts.flow (popped (flow_at old.flows.flows s.starts.flow)))
              (in_order (record { due = s.view'.value.last_due; packet = p.packet; flow = s.starts.flow; start = moment }) old.line.pending) more
              (started (start_at settings s.view.link p moment) ∷ trace)
          base = start-agrees old.rule old.accepted old.flows.keys (homes_of old.flows.flows)
              (views_of old) old.flows.flows old.line.pending more trace a place s.view s.there s.starts.flow
              (start_at settings s.view.link p moment) first s.view' s.starts.link s.starts.slots s.starts.sends
              (s.starts.free ∙ ap (λ x. moment + x) transmission_is)
              (s.starts.last_due ∙ (λ i. due_by old.rule (moment + transmission_is i + sym rates.delay_is i) s.view.value.last_due))
              s.starts.waits

  pub starts-waiting : waits_in_all (views_of new) + 1 ≡ waits_in_all (views_of old)
  starts-waiting =
      let e = ap (λ (vs : List LinkView). waits_in_all vs) s.views_are in
      let w = sum-set (λ (v : LinkView). v.waits) (views_of old) place s.view s.view' s.there in
      let one = s.starts.waits in
      omega arith

  flow-there : s.starts.flow < length old.flows.flows
  flow-there = popped-below old.flows.flows s.starts.flow s.starts.packet s.starts.front

  pub starts-within : (n : ℕ) → Within n old → Within n new
  starts-within n w = record {
    waiting_is = let a = starts-waiting in let b = s.waiting in let c = w.waiting_is in omega arith;
    room =
        let a = s.waiting in
        let b = s.room in
        let c = w.room in
        let d = ap {B = ℕ} places s.starts.flows_are in
        let e = places-same old.flows.flows s.starts.flow (popped (flow_at old.flows.flows s.starts.flow)) flow-there (popped_reserved (flow_at old.flows.flows s.starts.flow)) in
        omega arith;
    pushed = let a = s.waiting in let b = s.pushed in let c = w.pushed in omega arith;
    sums =
        let a = s.waiting in
        let b = ap (λ (ds : List Delivery). length ds) s.starts.pending_is in
        let d = length-in_order (record { due = s.view'.value.last_due; packet = s.starts.packet.packet; flow = s.starts.flow; start = moment }) old.line.pending in
        let c = w.sums in
        omega arith;
    flows_are = λ g. subst (λ (fs : List FlowState). AreCountsWithin n (flow_at fs g)) (sym s.starts.flows_are)
        (each-flow (λ g x. AreCountsWithin n x) old.flows.flows s.starts.flow (popped (flow_at old.flows.flows s.starts.flow)) flow-there
        (popped_within (flow_at old.flows.flows s.starts.flow) s.starts.front (w.flows_are s.starts.flow)) (λ g ne. w.flows_are g) g);
    arrivals = λ j v e. each-set (λ (j : ℕ) (v : LinkView). v.schedule.arrivals ≤ n) (views_of old) place s.view s.there s.view'
        (let same = s.keeps.arrivals in let le = w.arrivals place s.view s.there in omega arith)
        (λ j v e ne. w.arrivals j v e) j v (ap (λ (vs : List LinkView). slice_get vs j) (sym s.views_are) ∙ e);
    accepted = let a = s.accepted in let b = w.accepted in omega arith;
  }
    where
      popped_within : (x : FlowState) → slice_get x.backlog 0 ≡ Some s.starts.packet → AreCountsWithin n x → AreCountsWithin n (popped x)
      popped_within x e h =
          let r = popped_rest x in
          let r0 = r.0 in
          let r1 = r.1 in
          let r2 = r.2 in
          let one = popped_started x s.starts.packet e in
          let b = ap (λ (ws : List Waiting). length ws) (popped_backlog x) in
          let l = drop-fewer x.backlog s.starts.packet e in
          let h0 = h.0 in
          let h1 = h.1 in
          let h2 = h.2 in
          (omega arith, omega arith, omega arith)

  pub starts-ready : (flow : ℕ) → IsReady flow old → IsReady flow new
  starts-ready flow r = record {
    place = subst (λ (fs : List FlowState). (flow_at fs flow).reserved ≡ true) (sym s.starts.flows_are)
        (each-flow (λ (g : ℕ) (x : FlowState). (flow_at old.flows.flows g).reserved ≡ true → x.reserved ≡ true) old.flows.flows s.starts.flow
        (popped (flow_at old.flows.flows s.starts.flow)) flow-there (λ kept. popped_reserved (flow_at old.flows.flows s.starts.flow) ∙ kept) (λ g ne kept. kept) flow r.place);
    slot = λ h v pipe at e is.
        let home_before : slice_get (homes_of old.flows.flows) flow ≡ Some h = (λ i. slice_get (sym s.homes i) flow) ∙ at in
        each-set (λ (j : ℕ) (v : LinkView). j ≡ h.place → v.link ≡ shared pipe → 0 < room_at v.schedule.room h.slot) (views_of old) place s.view s.there s.view'
        (λ here is.
        let before = r.slot h s.view pipe home_before (ap (slice_get (views_of old)) (sym here) ∙ s.there) (sym s.starts.link ∙ is) in
        let keeps = s.keeps.room h.slot in
        omega arith)
        (λ j v e ne here is. r.slot h v pipe home_before (ap (slice_get (views_of old)) (sym here) ∙ e) is) h.place v
        (ap (λ (vs : List LinkView). slice_get vs h.place) (sym s.views_are) ∙ e) refl is;
  }

  pub starts-nexts : next_starts (views_of new) ≡ set (next_starts (views_of old)) place (next_start_of s.view')
  starts-nexts = ap (λ (vs : List LinkView). next_starts vs) s.views_are ∙ map-set next_start_of (views_of old) place s.view'
