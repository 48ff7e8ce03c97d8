-- What holds after a new flow got its home, whichever it is.
use Rattle.dn_shaper.proofs.Words.{AgreesWith, Delivery, Event, FlowKey, FlowState, GivesHome, Holds, Home, IsAt, IsIndexed, IsReady, IsSound, KeepsPlaces, KeepsReady, Link, LinkView, List}
use Rattle.dn_shaper.proofs.Words.{NextStart, SameFlow, Some, State, Table, Within, [], ap, arith, cond, eq-yes, flow_after_set, flow_at, get-below, get-kept, get-last, homes_of, length}
use Rattle.dn_shaper.proofs.Words.{length-more, length-set, link_names, new_flow, next_starts, refl, reserved-below, room_at, set, shared, slice_get, subst, sym, true, views_of, waits_in_all}
use Rattle.dn_shaper.proofs.Words.{with_home, with_place, ℕ, ◌++◌, ◌+◌, ◌<◌, ◌^◌, ◌∙◌, ◌∷◌, ◌≡◌, ◌≤◌}
use Rattle.dn_shaper.proofs.HomesOf.{homes-last}
use Rattle.dn_shaper.proofs.OnePlace.{agrees-as}
use Rattle.dn_shaper.proofs.Preparing.{IsOneMore, flow-more, with_flows}
use Rattle.dn_shaper.proofs.Reserving.{same-within, set-keeps, set-same}

module _ (old new : State) (t : Table) (key : FlowKey) (one : IsOneMore key old.parts.flows t) (g : GivesHome key (length old.parts.flows.keys) (with_flows old t) new) where
  abbrev flow : ℕ
  flow = length old.parts.flows.keys

  pub keys-are : new.parts.flows.keys ≡ old.parts.flows.keys ++ key ∷ []
  keys-are = g.keys ∙ one.keys

  module _ (as_many : length old.parts.flows.flows ≡ length old.parts.flows.keys) where
    -- The last flow as it is left.
    abbrev last : FlowState
    last = with_home g.home (with_place (flow_at t.flows flow))

    inside : flow < length t.flows
    inside = let m = ap {B = ℕ} (λ (fs : List FlowState). length fs) one.flows ∙ length-more old.parts.flows.flows new_flow in omega arith

    pub same-flows : (f : ℕ) → SameFlow (flow_at old.parts.flows.flows f) (flow_at new.parts.flows.flows f)
    same-flows f =
        subst (λ (x : FlowState × List FlowState). SameFlow x.0 (flow_at x.1 f))
        (λ i. ((ap (λ (fs : List FlowState). flow_at fs f) one.flows ∙ flow-more old.parts.flows.flows f) i, sym g.flows i))
        (set-same t.flows flow f last inside (record { backlog = refl; lost = refl; full = refl; started = refl; discarded = refl; active = refl }))

    pub many-flows : length new.parts.flows.flows ≡ length old.parts.flows.keys + 1
    many-flows =
        ap (λ (fs : List FlowState). length fs) g.flows
        ∙ length-set t.flows flow last
        ∙ ap (λ (fs : List FlowState). length fs) one.flows
        ∙ length-more old.parts.flows.flows new_flow
        ∙ ap (λ n. n + 1) as_many

    reserved-now : (flow_at new.parts.flows.flows flow).reserved ≡ true
    reserved-now =
        ap (λ (fs : List FlowState). (flow_at fs flow).reserved) g.flows
        ∙ ap (λ (s : FlowState). s.reserved) (flow_after_set t.flows flow flow last inside)
        ∙ ap (λ b. (cond b last (flow_at t.flows flow)).reserved) (eq-yes flow flow refl)

    places-kept : KeepsPlaces t.flows new.parts.flows.flows
    places-kept = subst (KeepsPlaces t.flows) (sym g.flows) (set-keeps t.flows flow last inside refl)

    homes-now : homes_of new.parts.flows.flows ≡ homes_of old.parts.flows.flows ++ g.home ∷ []
    homes-now = ap homes_of g.flows ∙ ap (λ (fs : List FlowState). homes_of (set fs flow last)) one.flows ∙ homes-last old.parts.flows.flows new_flow last flow as_many

    -- ---- What holds on either home

    pub ready-by : (room : (v : LinkView) (pipe : ℕ) → slice_get (views_of new.parts) g.home.place ≡ Some v → v.link ≡ shared pipe → 0 < room_at v.schedule.room g.home.slot) →
        length (homes_of old.parts.flows.flows) ≡ flow → IsReady flow new.parts
    ready-by room many = record {
      place = reserved-now;
      slot = λ h v pipe at e is.
          let last : slice_get (homes_of new.parts.flows.flows) flow ≡ Some g.home = (λ i. slice_get (homes-now i) (sym many i)) ∙ get-last (homes_of old.parts.flows.flows) g.home in
          let both : Some g.home ≡ Some h = sym last ∙ at in
          let same : g.home ≡ h = cc in
          subst (λ (x : Home). 0 < room_at v.schedule.room x.slot) same (room v pipe (ap (λ (x : Home). slice_get (views_of new.parts) x.place) same ∙ e) is);
    }

    -- Where no link has less room, and no flow another home, all flows are as ready as before.
    pub leaves-by : (more : List Link) (trace : List Event) → AgreesWith old.parts more trace
        → ((k : ℕ) (v : LinkView) → k < length (views_of old.parts) → slice_get (views_of new.parts) k ≡ Some v
        → (w : LinkView) × (slice_get (views_of old.parts) k ≡ Some w) × (v.link ≡ w.link) × ((slot : ℕ) → room_at w.schedule.room slot ≤ room_at v.schedule.room slot))
        → KeepsReady old.parts new.parts
    leaves-by more trace a roomy f ready = record {
      place = places-kept f
          (ap (λ (fs : List FlowState). (flow_at fs f).reserved) one.flows ∙ ap (λ (s : FlowState). s.reserved) (flow-more old.parts.flows.flows f) ∙ ready.place);
      slot = λ h v pipe at there is.
          let below = reserved-below old.parts.flows.flows f ready.place in
          let its = a.homes_are f (omega arith) in
          let both : Some its.0 ≡ Some h = sym (get-kept (homes_of old.parts.flows.flows) g.home its.0 f its.1) ∙ (λ i. slice_get (sym homes-now i) f) ∙ at in
          let same : its.0 ≡ h = cc in
          let before = ap (λ (x : Home). slice_get (views_of old.parts) x.place) (sym same) ∙ its.2.there in
          let w = roomy h.place v (get-below (views_of old.parts) h.place its.2.view before) there in
          let was = ready.slot h w.0 pipe (its.1 ∙ both) w.1 (sym w.2 ∙ is) in
          let room = w.3 h.slot in
          omega arith;
    }

    pub within-by : waits_in_all (views_of new.parts) ≡ waits_in_all (views_of old.parts) →
        ((n : ℕ) → Within n old.parts → (k : ℕ) (v : LinkView) → slice_get (views_of new.parts) k ≡ Some v → v.schedule.arrivals ≤ n) → (n : ℕ) →
        Within n old.parts → Within n new.parts
    within-by waits arrivals n w = record {
      waiting_is = g.waiting ∙ w.waiting_is ∙ sym waits;
      room = let a = g.line in let b = g.waiting in omega arith;
      pushed = let a = w.pushed in let b = g.waiting in let c = g.pushed in omega arith;
      sums = let a = w.sums in let b = g.waiting in let c = ap {B = ℕ} (λ (ds : List Delivery). length ds) g.pending in omega arith;
      flows_are = λ f. same-within (same-flows f) (w.flows_are f);
      arrivals = arrivals n w;
      accepted = let a = w.accepted in let b = g.accepted in omega arith;
    }

    pub sound-by : (agrees : (more : List Link) × (trace : List Event) × AgreesWith new.parts more trace) →
        ((n : ℕ) → Within n old.parts → Within n new.parts) → Holds (next_starts (views_of new.parts)) old.heap.keys →
        length (views_of new.parts) ≤ length old.heap.keys + new.heap.room → IsIndexed new (link_names (views_of new.parts)) → IsSound old → IsSound new
    sound-by agrees within held places indexed s = record {
      kept = record {
        agrees = agrees;
        within = within (2 ^ 62) s.kept.within;
        held = subst (λ (ks : List NextStart). Holds (next_starts (views_of new.parts)) ks) (sym g.heap.keys) held;
        places = let e = ap {B = ℕ} (λ (ks : List NextStart). length ks) g.heap.keys in omega arith;
      };
      within = subst (λ n. Within n new.parts) (sym g.keeps.calls) (within old.calls s.within);
      moves = let a = s.moves in let b = g.heap.moves in let c = g.waiting in let d = g.keeps.calls in omega arith;
      early = let a = s.early in let b = g.keeps.now in omega arith;
      indexed = indexed;
    }

    -- The parts from their pieces.
    pub agrees-by : (more : List Link) (trace : List Event) (h : Home) (views : List LinkView) → g.home ≡ h → views_of new.parts ≡ views →
        IsAt old.parts.rule old.parts.accepted (old.parts.flows.keys ++ key ∷ []) (homes_of old.parts.flows.flows ++ h ∷ []) views new.parts.flows.flows old.parts.line.pending more trace →
        AgreesWith new.parts more trace
    agrees-by more trace h views same_home same_views a =
        agrees-as new.parts g.keeps.rule g.accepted keys-are (homes-now ∙ ap (λ (y : Home). homes_of old.parts.flows.flows ++ y ∷ []) same_home) same_views refl g.pending a
