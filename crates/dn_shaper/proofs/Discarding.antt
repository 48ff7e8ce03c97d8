-- A flow's packets are discarded: all parts agree, and a link only loses its backlog.
use Rattle.dn_shaper.proofs.Words.{Accepted, Agrees, AreCountsWithin, DiscardsAt, DiscardsFlow, DiscardsOn, FlowState, HoldsCount, Home, IsAlone, IsHomeOf, KeepsFlows, Link, LinkView, List, None}
use Rattle.dn_shaper.proofs.Words.{Parts, Schedule, Some, Stamped, Waiting, Within, ap, arith, as_queued, backlog, cond, emptied, flow_at, get-map, home, homes_of, inl, inr, length, length-map}
use Rattle.dn_shaper.proofs.Words.{link_names, map-set-same, nat_lt, next_start_of, next_starts, own, places, places-same, refl, set, shared, slice_get, slotted, stamped_of, subst, sum-le}
use Rattle.dn_shaper.proofs.Words.{sum-set, sym, views_of, waits_in_all, ℕ, ◌+◌, ◌<◌, ◌^◌, ◌∙◌, ◌≡◌, ◌≤◌, ◌⊎◌}
use Rattle.dn_shaper.proofs.Accepting.{next-some}
use Rattle.dn_shaper.proofs.Alone.{is-alone}
use Rattle.dn_shaper.proofs.Discarded.{discarded-agrees}
use Rattle.dn_shaper.proofs.HomeRead.{home-of, in-table}
use Rattle.dn_shaper.proofs.Next.{home-here}
use Rattle.dn_shaper.proofs.OnePlace.{agrees-as, each-flow, each-set}
use Rattle.dn_flows.proofs.Places.{map-set}
use Rattle.dn_shaper.proofs.Waiting.{waiting-discarded}

module _ {p : Parts} (bound : Within (2 ^ 62) p) (agrees : Agrees p) {flow : ℕ} (within : flow < length p.flows.keys) where
  pub few-there : (flow_at p.flows.flows flow).discarded + length (flow_at p.flows.flows flow).backlog ≤ 2 ^ 62
  few-there = let i = (bound.flows_are flow).2 in omega arith

  module _ {h : Home} (at_home : slice_get (homes_of p.flows.flows) flow ≡ Some h) where
    pub is-home : IsHomeOf flow (home p.flows.keys flow) (views_of p) h
    is-home = home-of p agrees.2 within at_home

    -- The flow's packets are among those that wait for its link.
    pub enough : length (flow_at p.flows.flows flow).backlog ≤ is-home.view.waits
    enough =
        let a = agrees.2 in
        let w = waiting-discarded is-home.view.link flow agrees.1 in
        let c = ap {B = ℕ} (λ (q : List Waiting). length q) (a.flows_are flow).backlog_is ∙ length-map _ as_queued ∙ ap {B = ℕ} (λ (l : Link). length (backlog l flow agrees.1)) (sym is-home.link_is) in
        let v = (a.views_are h.place is-home.view is-home.there).waits_are in
        omega arith

    -- On a shared link they wait at its slot.
    pub holds : HoldsCount h.slot (length (flow_at p.flows.flows flow).backlog) is-home.view is-home.view.link
    holds = by is-home.view.link refl
      where
        by : (l : Link) → is-home.view.link ≡ l → HoldsCount h.slot (length (flow_at p.flows.flows flow).backlog) is-home.view l
        by (own pipe f) is = tt
        by (shared pipe) is =
            let a = agrees.2 in
            let slot = is-home.slot_is pipe (sym is-home.link_is ∙ is) in
            let there = (((a.views_are h.place is-home.view is-home.there).schedule_is pipe is).slots_are h.slot flow slot).backlog_is in
            let waits = backlog is-home.view.link flow agrees.1 in
            ap {B = ℕ} (λ (q : List Stamped). length q) there
            ∙ length-map (stamped_of waits) (slotted h.slot)
            ∙ length-map waits (λ (x : Accepted). x.stamped)
            ∙ ap {B = ℕ} (λ (l : Link). length (backlog l flow agrees.1)) is-home.link_is
            ∙ sym (ap {B = ℕ} (λ (q : List Waiting). length q) (a.flows_are flow).backlog_is ∙ length-map _ as_queued)

    pub alone : IsAlone flow h.place (views_of p)
    alone = is-alone p agrees.0 agrees.1 agrees.2 flow h.place is-home.view is-home.there (sym is-home.link_is)

    pub enough-all : length (flow_at p.flows.flows flow).backlog ≤ p.waiting
    enough-all = let e = enough in let le = sum-le (λ (v : LinkView). v.waits) (views_of p) h.place is-home.view is-home.there in let is = bound.waiting_is in omega arith

module _ {h : Home} {flow : ℕ} {old new : Parts} (bound : Within (2 ^ 62) old) (agrees : Agrees old) (within : flow < length old.flows.keys)
    (at_home : slice_get (homes_of old.flows.flows) flow ≡ Some h) (s : DiscardsAt h flow old new) where
  pub discards-agree : DiscardsFlow flow old new
  discards-agree more trace a =
      let is = home-of old a within at_home in
      let view_both : Some is.view ≡ Some s.view = sym is.there ∙ s.there in
      let view_is : is.view ≡ s.view = cc in
      let here : home old.flows.keys flow ≡ s.view.link = sym is.link_is ∙ ap (λ (v : LinkView). v.link) view_is in
      agrees-as new s.rule s.accepted s.keys s.homes s.views_are s.flows_are (ap (λ l. l.pending) s.line)
      (discarded-agrees old.rule old.accepted old.flows.keys (homes_of old.flows.flows)
      (views_of old) old.flows.flows old.line.pending more trace a h.place s.view s.there flow within here s.view' s.leaves.link s.leaves.value s.leaves.waits s.leaves.slots
      (λ pipe e.
      let r = subst (DiscardsOn h.slot s.view s.view') e s.leaves.discards in
      let here' = home-here old.rule old.accepted old.flows.keys (homes_of old.flows.flows) (views_of old) old.flows.flows old.line.pending more trace a h.place s.view s.there flow h is here in
      (h.slot, here'.1 pipe e, r.0, r.1)))

  pub discards-waiting : waits_in_all (views_of new) + length (flow_at old.flows.flows flow).backlog ≡ waits_in_all (views_of old)
  discards-waiting =
      let e = ap (λ (vs : List LinkView). waits_in_all vs) s.views_are in
      let w = sum-set (λ (v : LinkView). v.waits) (views_of old) h.place s.view s.view' s.there in
      let one = s.leaves.waits in
      omega arith

  pub discards-keeps : KeepsFlows old new
  discards-keeps = record {
    rule = s.rule;
    keys = s.keys;
    homes = s.homes;
    names = ap (λ (vs : List LinkView). link_names vs) s.views_are
        ∙ map-set-same (λ (x : LinkView). x.link) (views_of old) h.place s.view s.view' s.there s.leaves.link;
  }

  pub discards-within : (n : ℕ) → Within n old → Within n new
  discards-within n w = record {
    waiting_is = let a = discards-waiting in let b = s.waiting in let c = w.waiting_is in omega arith;
    room =
        let b = s.waiting in
        let c = ap {B = ℕ} (λ x. x.room) s.line in
        let d = w.room in
        let e = ap {B = ℕ} places s.flows_are in
        let f = places-same old.flows.flows flow (emptied (flow_at old.flows.flows flow)) (in-table old agrees within) refl in
        omega arith;
    pushed = let b = s.waiting in let c = ap {B = ℕ} (λ x. x.pushed) s.line in let d = w.pushed in omega arith;
    sums = let b = s.waiting in let c = ap {B = ℕ} (λ x. length x.pending) s.line in let d = w.sums in omega arith;
    flows_are = λ g. subst (λ (fs : List FlowState). AreCountsWithin n (flow_at fs g)) (sym s.flows_are)
        (each-flow (λ g x. AreCountsWithin n x) old.flows.flows flow (emptied (flow_at old.flows.flows flow)) (in-table old agrees within)
        (let i = w.flows_are flow in let x = i.0 in let y = i.1 in let z = i.2 in (x, y, omega arith)) (λ g ne. w.flows_are g) g);
    arrivals = λ j v e. each-set (λ (j : ℕ) (v : LinkView). v.schedule.arrivals ≤ n) (views_of old) h.place s.view s.there s.view'
        (let same = same_arrivals s.view.link s.leaves.discards in let le = w.arrivals h.place s.view s.there in omega arith)
        (λ j v e ne. w.arrivals j v e) j v (ap (λ (vs : List LinkView). slice_get vs j) (sym s.views_are) ∙ e);
    accepted = let a = s.accepted in let b = w.accepted in omega arith;
  }
    where
      same_arrivals : (l : Link) → DiscardsOn h.slot s.view s.view' l → s.view'.schedule.arrivals ≡ s.view.schedule.arrivals
      same_arrivals (own pipe f) r = ap (λ (x : Schedule). x.arrivals) r
      same_arrivals (shared pipe) r = r.2

  pub discards-nexts : next_starts (views_of new) ≡ set (next_starts (views_of old)) h.place (next_start_of s.view')
  discards-nexts = ap (λ (vs : List LinkView). next_starts vs) s.views_are ∙ map-set next_start_of (views_of old) h.place s.view'

  pub next-then : slice_get (next_starts (views_of old)) h.place ≡ Some (next_start_of s.view)
  next-then = get-map next_start_of (views_of old) h.place s.view s.there

  -- A link starts at the same moment as before, where packets are left for it or none was discarded.
  pub still-next : (0 < s.view'.waits) ⊎ (length (flow_at old.flows.flows flow).backlog ≡ 0) → next_start_of s.view' ≡ next_start_of s.view
  still-next (inl some) = let w = s.leaves.waits in next-some s.view' some ∙ ap (λ x. Some x.free) s.leaves.value ∙ sym (next-some s.view (omega arith))
  still-next (inr none) =
      let same : s.view'.waits ≡ s.view.waits = let w = s.leaves.waits in omega arith in
      λ i. cond (nat_lt 0 (same i)) (Some (s.leaves.value i).free) None
