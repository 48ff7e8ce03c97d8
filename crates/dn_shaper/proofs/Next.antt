-- Where packets wait for a link, one of them is the next, and its flow is the one that the parts take.
use Rattle.dn_shaper.proofs.Words.{Accepted, CanSend, Delivery, Event, FlowKey, FlowState, Home, IsAt, IsHomeOf, IsNextToSend, IsScheduleAt, Link, LinkView, List, None, Option, Rule, Some}
use Rattle.dn_shaper.proofs.Words.{Stamped, Waiting, [], ap, arith, as_queued, backlog, backlog-above, cases_eq, cases_lt, cond, false, flow_at, flow_bound, free, get-map, heads, heads-none}
use Rattle.dn_shaper.proofs.Words.{heads_of, home, inl, inr, is_some, le-ltb, length, length-map, link_eq, link_eq-refl, link_eq-true, link_heads, link_names, lt-ltb, map, next_packet}
use Rattle.dn_shaper.proofs.Words.{next_packet-first, next_start_of, next_starts, option_and_then, option_map, own, pick, pick-some, refl, shared, slice_get, suc, sym, total, true, true_or_false}
use Rattle.dn_shaper.proofs.Words.{virtual_time, waiting-start, zero, ℕ, ⊎_elim, ◌<◌, ◌∙◌, ◌∷◌, ◌≡◌, ◌≤◌, ◌⊎◌}
use Rattle.dn_shaper.proofs.Alone.{own-home}
use Rattle.dn_shaper.proofs.FirstStart.{moment_of_next}
use Rattle.dn_shaper.proofs.Heads.{none-agree, flow-picked, packet-picked, pick-flow, backlog-flow}

-- The flow that a link takes next.
abbrev pub Takes : ℕ → LinkView → Link → Type 0
Takes flow v (own pipe f) = flow ≡ f
Takes flow v (shared pipe) = (h : Stamped) × (pick v.schedule.virtual_time (heads_of v.schedule.flows) ≡ Some h) × (slice_get v.slots h.flow ≡ Some flow)

some_first : (q : List Accepted) → 0 < length q → (p : Accepted) × (slice_get q 0 ≡ Some p)
some_first [] h = absurd (omega arith)
some_first (p ∷ q) h = (p, refl)

pub not_empty : {X : Type 0} (q : List X) (x : X) → slice_get q 0 ≡ Some x → 0 < length q
not_empty [] x e = absurd cc
not_empty (y ∷ q) x e = omega arith

pub first-map : {X Y : Type 0} (f : X → Y) (xs : List X) (x : X) → slice_get xs 0 ≡ Some x → slice_get (map f xs) 0 ≡ Some (f x)
first-map f [] x e = absurd cc
first-map f (y ∷ xs) x e = let same : y ≡ x = cc in ap (λ z. Some (f z)) same

pub total-zero : (n : ℕ) (q : ℕ → List Accepted) → ((g : ℕ) → length (q g) ≡ 0) → total n q ≡ 0
total-zero zero q h = refl
total-zero (suc n) q h = let rest = total-zero n q h in let here = h n in omega arith

-- Next starts that are each a function of the link are that function of the links' names.
pub nexts-from : (next : Link → Option ℕ) (views : List LinkView) → ((k : ℕ) (v : LinkView) → slice_get views k ≡ Some v → next_start_of v ≡ next v.link) →
    next_starts views ≡ map next (link_names views)
nexts-from next [] h = refl
nexts-from next (v ∷ views) h = λ i. h 0 v refl i ∷ nexts-from next views (λ k w e. h (suc k) w e) i

module _ (rule : Rule) (accepted : ℕ) (keys : List FlowKey) (homes : List Home) (views : List LinkView) (flows : List FlowState) (pending : List Delivery)
    (more : List Link) (trace : List Event) (a : IsAt rule accepted keys homes views flows pending more trace) where
  -- A flow with packets on a link is at home there, and has a key.
  pub at_home : (flow : ℕ) (link : Link) → 0 < length (backlog link flow trace) → home keys flow ≡ link
  at_home flow link some = ⊎_elim (λ here. link_eq-true (home keys flow) link here)
      (λ away. absurd (let short = ap (λ (q : List Accepted). length q) (a.elsewhere flow link away) in omega arith))
      (true_or_false (link_eq (home keys flow) link))

  pub is_flow : (flow : ℕ) (link : Link) → 0 < length (backlog link flow trace) → flow < length keys
  is_flow flow link some = ⊎_elim (λ lt. lt)
      (λ ge. absurd (let b = a.bound in let short = ap (λ (q : List Accepted). length q) (backlog-above link flow trace (omega arith)) in omega arith))
      (cases_lt flow (length keys))

  module _ (k : ℕ) (v : LinkView) (there : slice_get views k ≡ Some v) where
    pub distinct_views : (j : ℕ) (w : LinkView) → slice_get views j ≡ Some w → (j ≡ k → ⊥) → link_eq v.link w.link ≡ false
    distinct_views j w e ne = a.distinct k j v.link w.link (get-map (λ (x : LinkView). x.link) views k v there) (get-map (λ (x : LinkView). x.link) views j w e) (λ s. ne (sym s))

    -- The home of a flow on this link is this place.
    pub home-here : (flow : ℕ) (h : Home) → IsHomeOf flow (home keys flow) views h → home keys flow ≡ v.link →
        (h.place ≡ k) × ((pipe : ℕ) → v.link ≡ shared pipe → slice_get v.slots h.slot ≡ Some flow)
    home-here flow h is e = by (cases_eq h.place k)
      where
        by : (h.place ≡ k) ⊎ (h.place ≡ k → ⊥) → (h.place ≡ k) × ((pipe : ℕ) → v.link ≡ shared pipe → slice_get v.slots h.slot ≡ Some flow)
        by (inl same) =
            let both : Some v ≡ Some is.view = sym there ∙ ap (slice_get views) (sym same) ∙ is.there in
            let one : is.view ≡ v = cc in
            (same, λ pipe s. ap (λ (x : LinkView). slice_get x.slots h.slot) (sym one) ∙ is.slot_is pipe (e ∙ s))
        by (inr other) =
            let apart = distinct_views h.place is.view is.there other in
            let same : link_eq v.link is.view.link ≡ true = ap (link_eq v.link) (is.link_is ∙ e) ∙ link_eq-refl v.link in
            let t : true ≡ false = sym same ∙ apart in
            absurd cc

    -- The flows that have packets on a shared link have slots.
    pub listed : (pipe : ℕ) → v.link ≡ shared pipe → (flow : ℕ) → ((slot : ℕ) → slice_get v.slots slot ≡ Some flow → ⊥) → backlog v.link flow trace ≡ []
    listed pipe is flow none = by (backlog v.link flow trace) refl
      where
        by : (q : List Accepted) → backlog v.link flow trace ≡ q → backlog v.link flow trace ≡ []
        by [] e = e
        by (p ∷ q) e =
            let some : 0 < length (backlog v.link flow trace) = let l = ap (λ (x : List Accepted). length x) e in omega arith in
            let h = a.homes_are flow (is_flow flow v.link some) in
            let here = home-here flow h.0 h.2 (at_home flow v.link some) in
            absurd (none h.0.slot (here.1 pipe is))

    pub schedule-at : (pipe : ℕ) → v.link ≡ shared pipe → IsScheduleAt v.link trace v.schedule v.slots
    schedule-at pipe is = (a.views_are k v there).schedule_is pipe is

    own_waits : (pipe flow : ℕ) → v.link ≡ own pipe flow → 0 < v.waits → 0 < length (backlog v.link flow trace)
    own_waits pipe flow is some = elim (cases_lt 0 (length (backlog v.link flow trace))) [
      | inl h ↦ h
      | inr none ↦ absurd
          (let z = total-zero (flow_bound trace) (λ g. backlog v.link g trace) (λ g. empty g (cases_eq g flow) (omega arith)) in let w = (a.views_are k v there).waits_are in omega arith)
    ]
      where
        empty : (g : ℕ) → (g ≡ flow) ⊎ (g ≡ flow → ⊥) → length (backlog v.link flow trace) ≡ 0 → length (backlog v.link g trace) ≡ 0
        empty g (inl same) none = ap {B = ℕ} (λ m. length (backlog v.link m trace)) same ∙ none
        empty g (inr other) none = ap {B = ℕ} (λ (q : List Accepted). length q)
            (a.elsewhere g v.link
            (⊎_elim (λ here. absurd (other (sym (own-home keys g pipe flow (link_eq-true (home keys g) v.link here ∙ is))))) (λ away. away) (true_or_false (link_eq (home keys g) v.link))))

    shared_picks : (pipe : ℕ) → v.link ≡ shared pipe → 0 < v.waits → (h : Stamped) × (pick v.schedule.virtual_time (heads_of v.schedule.flows) ≡ Some h)
    shared_picks pipe is some = by (pick v.schedule.virtual_time (heads_of v.schedule.flows)) refl
      where
        some_heads : 0 < length (link_heads v.link trace)
        some_heads = elim (cases_lt 0 (length (link_heads v.link trace))) [
          | inl h ↦ h
          | inr none ↦
              let w = (a.views_are k v there).waits_are in
              let same = length-map (heads (flow_bound trace) (λ flow. backlog v.link flow trace)) (λ (p : Accepted). p.stamped) in
              let z = heads-none (flow_bound trace) (λ flow. backlog v.link flow trace) (omega arith) in
              absurd (omega arith)
        ]

        there_is : is_some (pick (virtual_time v.link trace) (link_heads v.link trace)) ≡ true
        there_is = pick-some (virtual_time v.link trace) (link_heads v.link trace) some_heads

        by : (o : Option Stamped) → pick v.schedule.virtual_time (heads_of v.schedule.flows) ≡ o → (h : Stamped) × (pick v.schedule.virtual_time (heads_of v.schedule.flows) ≡ Some h)
        by (Some h) e = (h, e)
        by None e =
            let none : pick (virtual_time v.link trace) (link_heads v.link trace) ≡ None = none-agree v.link trace v.schedule v.slots (schedule-at pipe is)
            (a.views_are k v there).ascends (listed pipe is) e in
            let t : true ≡ false = sym there_is ∙ ap (λ (o : Option Stamped). is_some o) none in
            absurd cc

    -- A link for which packets wait can send.
    pub can_send : 0 < v.waits → CanSend v v.link
    can_send some = by v.link refl
      where
        by : (l : Link) → v.link ≡ l → CanSend v l
        by (own pipe flow) is = tt
        by (shared pipe) is =
            let h = shared_picks pipe is some in
            let f = flow-picked v.link trace v.schedule v.slots (schedule-at pipe is) (a.views_are k v there).ascends (listed pipe is) h.0 h.1 in
            (h.0, f.0, h.1, f.1)

    -- The flow that it takes has the next packet at the front of its queue.
    taken_by : (flow : ℕ) (l : Link) → v.link ≡ l → 0 < v.waits → Takes flow v l → (p : Accepted) × (next_packet v.link trace ≡ Some p) × (slice_get (backlog v.link flow trace) 0 ≡ Some p)
    taken_by flow (own pipe f) is some e =
        let first = some_first (backlog v.link f trace) (own_waits pipe f is some) in
        let at_own : slice_get (backlog (own pipe f) f trace) 0 ≡ Some first.0 = ap (λ (l : Link). slice_get (backlog l f trace) 0) (sym is) ∙ first.1 in
        (first.0, ap (λ (l : Link). next_packet l trace) is ∙ at_own, ap (λ g. slice_get (backlog v.link g trace) 0) e ∙ first.1)
    taken_by flow (shared pipe) is some h =
        let s = schedule-at pipe is in
        let up = (a.views_are k v there).ascends in
        let p = packet-picked v.link trace v.schedule v.slots s up (listed pipe is) h.0 h.1 flow h.2 in
        let x = pick-flow v.link trace v.schedule v.slots s up (listed pipe is) h.0 h.1 flow h.2 in
        let next : next_packet (shared pipe) trace ≡ Some p.0 =
        ap (λ (l : Link). option_and_then (λ (y : Stamped). slice_get (backlog l y.flow trace) 0) (pick (virtual_time l trace) (link_heads l trace))) (sym is)
        ∙ ap (option_and_then (λ (y : Stamped). slice_get (backlog v.link y.flow trace) 0)) x.1
        ∙ ap (λ g. slice_get (backlog v.link g trace) 0) x.2
        ∙ p.1 in
        (p.0, ap (λ (l : Link). next_packet l trace) is ∙ next, p.1)

    pub taken : (flow : ℕ) (v' : LinkView) → 0 < v.waits → IsNextToSend flow v v' v.link → (p : Accepted) × (next_packet v.link trace ≡ Some p) × (slice_get (backlog v.link flow trace) 0 ≡ Some p)
    taken flow v' some sends = by v.link refl sends
      where
        by : (l : Link) → v.link ≡ l → IsNextToSend flow v v' l → (p : Accepted) × (next_packet v.link trace ≡ Some p) × (slice_get (backlog v.link flow trace) 0 ≡ Some p)
        by (own pipe f) is e = taken_by flow (own pipe f) is some e
        by (shared pipe) is h = taken_by flow (shared pipe) is some (h.0, h.1, h.2)

    pub next_exists : 0 < v.waits → (p : Accepted) × (next_packet v.link trace ≡ Some p)
    next_exists some = by v.link refl (can_send some)
      where
        by : (l : Link) → v.link ≡ l → CanSend v l → (p : Accepted) × (next_packet v.link trace ≡ Some p)
        by (own pipe f) is h = let t = taken_by f (own pipe f) is some refl in (t.0, t.1)
        by (shared pipe) is h = let t = taken_by h.1 (shared pipe) is some (h.0, h.2, h.3) in (t.0, t.1)

    none_waits : v.waits ≤ 0 → next_packet v.link trace ≡ None
    none_waits none = go (next_packet v.link trace) refl
      where
        go : (o : Option Accepted) → next_packet v.link trace ≡ o → next_packet v.link trace ≡ None
        go None e = e
        go (Some p) e =
            let first = next_packet-first v.link trace p e in
            let fewer = waiting-start v.link first.0 (record { packet = p; moment = 0; transmission = 0; delay = 0 }) trace first.1 in
            let w = (a.views_are k v there).waits_are in
            absurd (omega arith)

    nexts_is : next_start_of v ≡ moment_of_next trace v.link
    nexts_is = by (cases_lt 0 v.waits)
      where
        by : (0 < v.waits) ⊎ (v.waits ≤ 0) → next_start_of v ≡ moment_of_next trace v.link
        by (inl some) =
            let p = next_exists some in
            ap {B = Option ℕ} (λ b. cond b (Some v.value.free) None) (lt-ltb 0 v.waits some) ∙ ap (λ m. Some m) (a.views_are k v there).free_is
            ∙ sym (ap (option_map (λ (p : Accepted). free v.link trace)) p.1)
        by (inr none) = ap {B = Option ℕ} (λ b. cond b (Some v.value.free) None) (le-ltb 0 v.waits none) ∙ sym (ap (option_map (λ (p : Accepted). free v.link trace)) (none_waits none))

    -- And the flow's queue in the table has it there too.
    pub front : (flow : ℕ) (p : Accepted) → slice_get (backlog v.link flow trace) 0 ≡ Some p →
        (slice_get (flow_at flows flow).backlog 0 ≡ Some (as_queued p)) × (flow < length flows) × (home keys flow ≡ v.link) × (p.stamped.flow ≡ flow)
    front flow p e =
        let some = not_empty (backlog v.link flow trace) p e in
        let here = at_home flow v.link some in
        let lt = is_flow flow v.link some in
        let many = a.as_many in (
          ap (λ (ws : List Waiting). slice_get ws 0) ((a.flows_are flow).backlog_is ∙ ap (λ (l : Link). map as_queued (backlog l flow trace)) here)
              ∙ first-map as_queued (backlog v.link flow trace) p e,
          omega arith,
          here,
          backlog-flow v.link flow trace p 0 e,
        )

  -- The next starts are those of the trace.
  pub nexts-agree : next_starts views ≡ map (moment_of_next trace) (link_names views)
  nexts-agree = nexts-from (moment_of_next trace) views (λ k v there. nexts_is k v there)
