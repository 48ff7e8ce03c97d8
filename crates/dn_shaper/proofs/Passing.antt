-- A packet starts at once on its link, which is idle. The parts between its arrival and its start are told here alone: neither its
-- flow's queue nor the scheduler of a shared link ever holds it.
use Rattle.dn_shaper.proofs.Words.{Accepted, Agrees, ArrivesAt, Box, CanPass, CanStart, Carries, Delivery, FlowState, Global, HasFlowAt, Heap, Home, IsAlone, IsHomeOf, IsIdleAt, Joins, Link}
use Rattle.dn_shaper.proofs.Words.{LinkParts, LinkState, LinkView, List, MayAccept, NextStart, Own, Parts, PassesLink, Settings, Shared, SharedLink, Some, StartsOn, TakesNext, Waiting, Within, []}
use Rattle.dn_shaper.proofs.Words.{ap, arith, as_queued, backlog, cond, due_by, eq-yes, flow_after_set, flow_at, get-below, get-map, get-read, get-set, get_or, home, homes_of, in_order, length}
use Rattle.dn_shaper.proofs.Words.{length-set, map, own, popped, pushed, queue_lengths, refl, set, set-set, shared, slice_get, slice_set, subst, sym, transmission_time, true, view_of, views_of}
use Rattle.dn_shaper.proofs.Words.{with_item, with_value, ℕ, ◌*◌, ◌++◌, ◌+◌, ◌<◌, ◌^◌, ◌∙◌, ◌∷◌, ◌≡◌, ◌≤◌}
use Rattle.dn_wf2q.specs.Schedule.{IsIdle, KeepsRoom, Passes as PassesIn, arrived, room_at}
use Rattle.dn_shaper.proofs.Accepted.{idle-is, mid-agrees, mid-all}
use Rattle.dn_shaper.proofs.Accepting.{can-join, home-at, may-agree}
use Rattle.dn_shaper.proofs.Alone.{one-more-at, push-longer, set-seen}
use Rattle.dn_shaper.proofs.HomesOf.{homes-set, popped-home}
use Rattle.dn_shaper.proofs.HomeRead.{home-alone, in-table, is-home}
use Rattle.dn_shaper.proofs.Scheduled.{waits_forgotten}
use Rattle.dn_shaper.proofs.Starting.{alone-at}
use Rattle.dn_shaper.proofs.Taking.{sends-on, sent}
use Rattle.dn_shaper.proofs.Waiting.{empty-all}

-- What is read at a place is what stands there.
pub stands : (xs : List LinkParts) (i : ℕ) {x y : LinkParts} → slice_get xs i ≡ Some x → y ≡ get_or xs i y → y ≡ x
stands xs i {x = x} {y = y} there read =
    let both : Some y ≡ Some x = sym (get-read xs i y (get-below xs i x there) read) ∙ there in
    cc

-- ---- A packet passes the link, by what the link carries

pub own-passes : {l : LinkParts} {f : ℕ} → l.carries ≡ Own f → {slot len weight : ℕ} → PassesLink slot len weight l l
own-passes {l = l} {f = f} on {slot = slot} {len = len} {weight = weight} =
    subst
    (λ (k : Carries). PassesLink slot len weight (record { pipe = l.pipe; times = l.times; carries = k }) (record { pipe = l.pipe; times = l.times; carries = k })) (sym on)
    (record {
      mid = record { pipe = l.pipe; times = l.times; carries = Own f };
      joins = λ before after more. record { link = refl; value = refl; slots = refl; waits = more; arrives = refl };
      takes = λ flow before after has. record { link = refl; value = refl; slots = refl; sends = has };
      keeps = λ before after. record { room = λ n. omega arith; arrivals = refl };
    })

module _ (l : LinkParts) {s : Box SharedLink Global} (on : l.carries ≡ Shared s) (slot : ℕ) where
  pub can-shared : (queues : ℕ → ℕ) × CanPass slot (view_of queues l) →
      IsIdle s.value.sched.flows × ((0 < room_at s.value.sched.room slot) × (s.value.sched.arrivals < 2 ^ 62))
  can-shared can = subst (λ (k : Carries). CanPass slot (view_of can.0 (record { pipe = l.pipe; times = l.times; carries = k }))) on can.1

  pub shared-passes : {len weight : ℕ} (b : Box SharedLink Global) → PassesIn slot len weight s.value.sched b.value.sched → KeepsRoom s.value.sched b.value.sched → b.value.flows ≡ s.value.flows →
      PassesLink slot len weight l (record { pipe = l.pipe; times = l.times; carries = Shared b })
  shared-passes {len = len} {weight = weight} b passes keeps flows-are =
      subst
      (λ (k : Carries). PassesLink slot len weight (record { pipe = l.pipe; times = l.times; carries = k }) (record { pipe = l.pipe; times = l.times; carries = Shared b })) (sym on)
      (record {
        mid = record {
          pipe = l.pipe;
          times = l.times;
          carries = Shared (with_value s (record { sched = arrived slot len weight s.value.sched b.value.sched; flows = s.value.flows }));
        };
        joins = λ before after more. record {
          link = refl;
          value = refl;
          slots = refl;
          waits = passes.one_more;
          arrives = record { flows = refl; virtual_time = refl; one_more = passes.one_more ∙ ap (λ n. n + 1) (sym (waits_forgotten s.value.sched.flows)); arrivals = refl; room = λ other ne. keeps other };
        };
        takes = λ flow before after has. record {
          link = refl;
          value = refl;
          slots = ap (λ v. v.items) flows-are;
          sends = (passes.packet, passes.picked, ap (λ n. slice_get s.value.flows.items n) passes.here ∙ has, passes.picks);
        };
        keeps = λ before after. record { room = λ n. omega arith; arrivals = passes.arrivals };
      })

-- ---- A flow that no packet waits in

pub few-started : {settings : Settings} {at flow : ℕ} {old : Parts} {heap : Heap NextStart} → MayAccept settings at flow old heap → (flow_at old.flows.flows flow).started < 2 ^ 62
few-started {flow = flow} may = let lt = may.few.1 in let c = (may.few.2.flows_are flow).2 in omega arith

-- One packet joins it and leaves it.
module _ (flows : List FlowState) (flow : ℕ) (w : Waiting) where
  abbrev came : FlowState
  came = pushed w (flow_at flows flow)

  abbrev joined : List FlowState
  joined = slice_set flows flow came

  module _ (inside : flow < length flows) where
    in-joined : flow < length joined
    in-joined = let e = length-set flows flow came in omega arith

    now : flow_at joined flow ≡ came
    now = flow_after_set flows flow flow came inside ∙ ap (λ b. cond b came (flow_at flows flow)) (eq-yes flow flow refl)

    first-joined : length (flow_at flows flow).backlog ≡ 0 → slice_get (flow_at joined flow).backlog 0 ≡ Some w
    first-joined none = ap (λ (s : FlowState). slice_get s.backlog 0) now ∙ first (flow_at flows flow).backlog none
      where
        first : (ws : List Waiting) → length ws ≡ 0 → slice_get (ws ++ w ∷ []) 0 ≡ Some w
        first [] e = refl
        first (x ∷ ws) e = absurd (omega arith)

    left-then : {after : List FlowState} → after ≡ slice_set flows flow (popped came) → after ≡ slice_set joined flow (popped (flow_at joined flow))
    left-then is = is ∙ sym (set-set flows flow came (popped came)) ∙ ap (λ (s : FlowState). slice_set joined flow (popped s)) (sym now)

-- The flow that came and left keeps its home.
pub homes-passed : (flows : List FlowState) (flow : ℕ) (w : Waiting) {after : List FlowState} → after ≡ slice_set flows flow (popped (pushed w (flow_at flows flow)))
    → homes_of after ≡ homes_of (slice_set flows flow (pushed w (flow_at flows flow)))
homes-passed flows flow w is =
    ap homes_of is ∙ homes-set flows flow (popped (pushed w (flow_at flows flow))) (popped-home (pushed w (flow_at flows flow)))
    ∙ sym (homes-set flows flow (pushed w (flow_at flows flow)) refl)

-- ---- The link at the flow's home is idle

module _ {settings : Settings} {at : ℕ} {h : Home} {flow : ℕ} {old : Parts} {heap : Heap NextStart} (may : MayAccept settings at flow old heap)
    (read : h ≡ (flow_at old.flows.flows flow).home) (is : IsIdleAt at h.place old) where
  inside : flow < length old.flows.flows
  inside = in-table old (may-agree may) may.within

  abbrev before : ℕ → ℕ
  before = queue_lengths old.flows.flows

  abbrev seen : LinkView
  seen = view_of before is.link

  there : slice_get (views_of old) h.place ≡ Some seen
  there = get-map (view_of before) old.links.items h.place is.link is.there

  -- No packet waits for it, and it is free.
  pub calm : (seen.waits ≡ 0) × (is.link.times.free ≤ at)
  calm = idle-is at seen is.idle

  alone : IsAlone flow h.place (views_of old)
  alone = home-alone old (may-agree may) may.within read

  -- The flow is at home here, at its slot if the link is shared.
  at-home : IsHomeOf flow (home old.flows.keys flow) (views_of old) h
  at-home = is-home old (may-agree may) may.within read

  home-seen : at-home.view ≡ seen
  home-seen = let both : Some at-home.view ≡ Some seen = sym at-home.there ∙ there in cc

  home-is : home old.flows.keys flow ≡ seen.link
  home-is = sym at-home.link_is ∙ ap (λ (v : LinkView). v.link) home-seen

  has : HasFlowAt flow h.slot seen.slots seen.link
  has = by seen.link refl
    where
      by : (l : Link) → seen.link ≡ l → HasFlowAt flow h.slot seen.slots l
      by (own pipe f) e = sym ((alone h.place seen pipe f there e).1 refl)
      by (shared pipe) e = ap (λ (v : LinkView). slice_get v.slots h.slot) (sym home-seen) ∙ at-home.slot_is pipe (home-is ∙ e)

  -- So none of the flow's packets waits.
  pub none : length (flow_at old.flows.flows flow).backlog ≡ 0
  none =
      let trace = may.settled.1 in
      let a = may.settled.2 in
      let empty = empty-all seen.link trace (sym (a.views_are h.place seen there).waits_are ∙ calm.0) flow in
      ap (λ (q : List Waiting). length q) (a.flows_are flow).backlog_is
      ∙ ap (λ (l : Link). length (map as_queued (backlog l flow trace))) home-is
      ∙ ap (λ (q : List Accepted). length (map as_queued q)) empty

  pub can-pass : {l : LinkParts} → l ≡ get_or old.links.items h.place l → (queues : ℕ → ℕ) × CanPass h.slot (view_of queues l)
  can-pass read-link =
      let same = stands old.links.items h.place is.there read-link in
      (before, (ap {B = ℕ} (λ (x : LinkParts). (view_of before x).waits) same ∙ calm.0, can-join may read read-link))

  -- ---- The packet has passed it

  module _ {len weight : ℕ} {new : LinkParts} (p : PassesLink h.slot len weight is.link new) where
    abbrev w : Waiting
    w = record { packet = old.accepted; len = len; weight = weight }

    -- The parts once the packet has arrived.
    abbrev pub mid : Parts
    mid = record old {
      flows = record { keys = old.flows.keys; flows = joined old.flows.flows flow w; spare = old.flows.spare };
      links = with_item old.links h.place p.mid;
      accepted = old.accepted + 1;
      waiting = old.waiting + 1;
    }

    abbrev between : ℕ → ℕ
    between = queue_lengths mid.flows.flows

    pub joins : Joins h.slot len weight true seen (view_of between p.mid)
    joins = p.joins before between
        (one-more-at flow h.place (views_of old) alone seen there before between (push-longer old.flows.flows flow w inside mid.flows.flows refl) (view_of between is.link).link refl)

    pub arrives : ArrivesAt at h flow len weight true old mid
    arrives = record {
      view = seen;
      view' = view_of between p.mid;
      there = there;
      idle_is = sym is.idle;
      views_are = set-seen old flow h.place alone inside mid.flows.flows (came old.flows.flows flow w) refl p.mid;
      joins = joins;
      flows_are = refl;
      rule = refl;
      accepted = refl;
      keys = refl;
      homes = homes-set old.flows.flows flow (came old.flows.flows flow w) refl;
      line = refl;
      waiting = refl;
    }

    pub agrees : Agrees mid
    agrees = mid-agrees may (home-at may read) arrives

    pub within : Within (2 ^ 62) mid
    within = mid-all may (home-at may read) arrives

    abbrev pub can : CanStart mid h.place at
    can = record {
      view = view_of between p.mid;
      there = get-map (view_of between) (set old.links.items h.place p.mid) h.place p.mid (get-set old.links.items h.place is.link p.mid is.there);
      some = let more = joins.waits in omega arith;
      soon = let same = ap {B = ℕ} (λ (t : LinkState). t.free) joins.value in let free = calm.1 in omega arith;
    }

    takes : (after : ℕ → ℕ) → TakesNext flow (view_of between p.mid) (view_of after new)
    takes after = p.takes flow between after has

    pub free-by : new.times.free ≤ at
    free-by =
        let one = ap {B = ℕ} (λ (t : LinkState). t.free) joins.value in
        let two = ap {B = ℕ} (λ (t : LinkState). t.free) (takes between).value in
        let free = calm.1 in
        omega arith

    module _ (flows : List FlowState) (is-now : flows ≡ slice_set old.flows.flows flow (popped (came old.flows.flows flow w))) (t : LinkState) where
      abbrev gone : LinkParts
      gone = record { pipe = new.pipe; times = t; carries = new.carries }

      flows-then : flows ≡ slice_set mid.flows.flows flow (popped (flow_at mid.flows.flows flow))
      flows-then = left-then old.flows.flows flow w inside is-now

      pub views : map (view_of (queue_lengths flows)) (set old.links.items h.place gone) ≡ set (views_of mid) h.place (view_of (queue_lengths flows) gone)
      views =
          let sends = sends-on flow (view_of between p.mid) (view_of (queue_lengths flows) new) (view_of (queue_lengths flows) gone) refl
          (view_of between p.mid).link (takes (queue_lengths flows)).sends in
          ap (λ (ls : List LinkParts). map (view_of (queue_lengths flows)) ls) (sym (set-set old.links.items h.place p.mid gone))
          ∙ set-seen mid flow h.place (alone-at within agrees can flow (view_of (queue_lengths flows) gone) sends) (in-joined old.flows.flows flow w inside) flows
          (popped (flow_at mid.flows.flows flow)) flows-then gone

      pub starts : {bandwidth delay : ℕ} {pending : List Delivery} → t.free ≡ at + transmission_time bandwidth len →
          t.last_due ≡ due_by old.rule (at + transmission_time bandwidth len + delay * 1000000) new.times.last_due →
          pending ≡ in_order (record { due = t.last_due; packet = old.accepted; flow = flow; start = at }) old.line.pending →
          StartsOn old.rule bandwidth delay at p.mid mid.flows.flows old.line.pending gone flows pending
      starts free last pending =
          sent p.mid new mid.flows.flows flows t (takes (queue_lengths flows)) (in-joined old.flows.flows flow w inside)
          (first-joined old.flows.flows flow w inside none) flows-then free last pending
