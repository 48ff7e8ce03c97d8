-- A link takes the flow that it sends next.
use Rattle.dn_shaper.proofs.Words.{Box, CanPick, CanSend, Carries, Delivery, FlowState, Global, HasQueues, HoldsQueues, IfSome, IsNextToSend, IsSome, KeepsSchedule, Link, LinkParts, LinkState}
use Rattle.dn_shaper.proofs.Words.{LinkView, List, None, Option, Own, Picks, PicksFlow, Rule, Schedule, Shared, SharedLink, Some, Stamped, StartsOn, TakesNext, Waiting, [], ap, arith}
use Rattle.dn_shaper.proofs.Words.{backlog_after_pop, carried_link, carried_waits, cond, cost_of, drop, due_by, eq-yes, flow_at, get-below, get_or, heads_of, in_order, length, map, next_of}
use Rattle.dn_shaper.proofs.Words.{option_map, own, pick, popped, queue_lengths, refl, shared, slice_get, slice_set, stamped_cost_of, subst, suc, sym, transmission_time, view_of, zero, ℕ, ◌*◌}
use Rattle.dn_shaper.proofs.Words.{◌+◌, ◌<◌, ◌∙◌, ◌∷◌, ◌≡◌}
use Rattle.dn_wf2q.specs.Schedule.{KeepsRoom}

pub some-is : {X : Type 0} (o : Option X) (x : X) → o ≡ Some x → IsSome o
some-is None x e = absurd cc
some-is (Some y) x e = refl

read-is : (xs : List ℕ) (i d x : ℕ) → slice_get xs i ≡ Some x → get_or xs i d ≡ x
read-is [] i d x e = absurd cc
read-is (y ∷ xs) zero d x e = let same : y ≡ x = cc in same
read-is (y ∷ xs) (suc i) d x e = read-is xs i d x e

-- What is behind the first packet of a flow's queue is behind the first at its slot.
pub behind-slot : (ps : List Stamped) (ws : List Waiting) → map stamped_cost_of ps ≡ map cost_of ws → option_map cost_of (slice_get ws 1) ≡ next_of (drop 1 ps)
behind-slot ps ws same = in-queue ws ∙ ap (λ (cs : List (ℕ × ℕ)). slice_get cs 1) (sym same) ∙ at-slot ps
  where
    in-queue : (ws : List Waiting) → option_map cost_of (slice_get ws 1) ≡ slice_get (map cost_of ws) 1
    in-queue [] = refl
    in-queue (w ∷ []) = refl
    in-queue (w ∷ v ∷ ws) = refl

    at-slot : (ps : List Stamped) → slice_get (map stamped_cost_of ps) 1 ≡ next_of (drop 1 ps)
    at-slot [] = refl
    at-slot (p ∷ []) = refl
    at-slot (p ∷ q ∷ ps) = refl

-- The scheduler's answer is the slot of the flow that can be picked.
module _ (slots : List ℕ) (old : Schedule) (can : CanPick slots old) (slot : ℕ)
    (answer : Some slot ≡ option_map (λ (h : Stamped). h.flow) (pick old.virtual_time (heads_of old.flows))) where
  slot-is : slot ≡ (can.0).flow
  slot-is = let one : Some slot ≡ Some (can.0).flow = answer ∙ ap (option_map (λ (h : Stamped). h.flow)) can.2 in cc

  slot-there : slice_get slots slot ≡ Some can.1
  slot-there = ap (slice_get slots) slot-is ∙ can.3

  pub slot-within : slot < length slots
  slot-within = get-below slots slot can.1 slot-there

  pub flow-there : (flow : ℕ) → flow ≡ get_or slots slot flow → slice_get slots slot ≡ Some flow
  flow-there flow read = slot-there ∙ ap (λ n. Some n) (sym (read ∙ read-is slots slot flow can.1 slot-there))

  pub picks-flow : (flow : ℕ) (new : Schedule) → slice_get slots slot ≡ Some flow → IfSome (pick old.virtual_time (heads_of old.flows)) (λ h. Picks h old new) → PicksFlow flow slots old new
  picks-flow flow new at some = (can.0, can.2, ap (slice_get slots) (sym slot-is) ∙ at, subst (λ (o : Option Stamped). IfSome o (λ x. Picks x old new)) can.2 some)

-- A link that carries what is in a block, from which a flow's packet may be sent.
module _ (pipe : ℕ) (value : LinkState) (carries : Carries) (s : Box SharedLink Global) (d : SharedLink) (is : carries ≡ Shared s) (at : d ≡ s.value) where
  abbrev with_carries : (ℕ → ℕ) → Carries → LinkView
  with_carries queues x = view_of queues (record { pipe = pipe; times = value; carries = x })

  pub picks-of : (queues : ℕ → ℕ) × CanSend (with_carries queues carries) (with_carries queues carries).link → CanPick d.flows.items d.sched
  picks-of can =
      subst (λ (x : SharedLink). CanPick x.flows.items x.sched) (sym at)
      (subst (λ (x : Carries). CanSend (with_carries can.0 x) (with_carries can.0 x).link) is can.1)

  pub queues-of : (flows : List FlowState) → (queues : ℕ → ℕ) × HasQueues (with_carries queues carries) flows (with_carries queues carries).link → HoldsQueues d.flows.items d.sched flows
  queues-of flows has =
      subst (λ (x : SharedLink). HoldsQueues x.flows.items x.sched flows) (sym at)
      (subst (λ (x : Carries). HasQueues (with_carries has.0 x) flows (with_carries has.0 x).link) is has.1)

  pub takes-of : (t : Box SharedLink Global) (flow : ℕ) → t.value.flows ≡ d.flows → PicksFlow flow d.flows.items d.sched t.value.sched →
      (before after : ℕ → ℕ) → TakesNext flow (with_carries before carries) (with_carries after (Shared t))
  takes-of t flow kept sends before after =
      subst (λ (x : Carries). TakesNext flow (with_carries before x) (with_carries after (Shared t))) (sym is) (record {
        link = refl;
        value = refl;
        slots = ap (λ v. v.items) kept ∙ ap (λ (x : SharedLink). x.flows.items) at;
        sends = subst (λ (x : SharedLink). PicksFlow flow x.flows.items x.sched t.value.sched) at sends;
      })

  pub keeps-of : (t : Box SharedLink Global) → t.value.sched.arrivals ≡ d.sched.arrivals → KeepsRoom d.sched t.value.sched →
      (before after : ℕ → ℕ) → KeepsSchedule (with_carries before carries) (with_carries after (Shared t))
  keeps-of t arrivals room before after =
      subst (λ (x : Carries). KeepsSchedule (with_carries before x) (with_carries after (Shared t))) (sym is) (record {
        room = subst (λ (x : SharedLink). KeepsRoom x.sched t.value.sched) at room;
        arrivals = arrivals ∙ ap (λ (x : SharedLink). x.sched.arrivals) at;
      })

-- What is sent rests on the schedules alone.
pub sends-on : (flow : ℕ) (old new new' : LinkView) → new'.schedule ≡ new.schedule → (l : Link) → IsNextToSend flow old new l → IsNextToSend flow old new' l
sends-on flow old new new' same (own pipe f) sends = sends
sends-on flow old new new' same (shared pipe) sends = (sends.0, sends.1, sends.2, subst (λ (s : Schedule). Picks sends.0 old.schedule s) (sym same) sends.3)

-- One packet fewer waits for the link that sends one, if one fewer waits in the flow's queue.
pub waits-fewer : (before after : ℕ → ℕ) (flow : ℕ) (l l' : LinkParts) → TakesNext flow (view_of before l) (view_of after l') → after flow + 1 ≡ before flow →
    carried_waits after l'.carries + 1 ≡ carried_waits before l.carries
waits-fewer before after flow l l' takes fewer = by l.carries l'.carries takes.link takes.sends
  where
    by : (c c' : Carries) → carried_link l'.pipe c' ≡ carried_link l.pipe c →
        IsNextToSend flow (view_of before (record { pipe = l.pipe; times = l.times; carries = c }))
        (view_of after (record { pipe = l'.pipe; times = l'.times; carries = c' })) (carried_link l.pipe c) →
        carried_waits after c' + 1 ≡ carried_waits before c
    by (Own f) (Own g) link sends =
        let same : g ≡ f = cc in
        ap (λ n. after n + 1) (same ∙ sym sends) ∙ fewer ∙ ap before sends
    by (Own f) (Shared t) link sends = absurd cc
    by (Shared s) (Own g) link sends = absurd cc
    by (Shared s) (Shared t) link sends = sends.3.one_fewer

-- A list without its first has one fewer.
pub drop-fewer : (ws : List Waiting) (w : Waiting) → slice_get ws 0 ≡ Some w → length (drop 1 ws) + 1 ≡ length ws
drop-fewer [] w e = absurd cc
drop-fewer (x ∷ ws) w e = omega arith

-- One packet fewer waits in a queue whose first packet leaves.
pub pops-fewer : (flows : List FlowState) (flow : ℕ) (w : Waiting) → flow < length flows → slice_get (flow_at flows flow).backlog 0 ≡ Some w →
    queue_lengths (slice_set flows flow (popped (flow_at flows flow))) flow + 1 ≡ queue_lengths flows flow
pops-fewer flows flow w within first =
    let e = ap (λ (ws : List Waiting). length ws)
    (backlog_after_pop flows flow flow within ∙ ap (λ b. cond b (drop 1 (flow_at flows flow).backlog) (flow_at flows flow).backlog) (eq-yes flow flow refl)) in
    let r = drop-fewer (flow_at flows flow).backlog w first in
    omega arith

-- The packet at the front of the queue of the flow that a link took is sent.
pub sent : {rule : Rule} {bandwidth delay moment flow : ℕ} {w : Waiting} {ds ds' : List Delivery} (l l' : LinkParts) (fs fs' : List FlowState) (t : LinkState) →
    TakesNext flow (view_of (queue_lengths fs) l) (view_of (queue_lengths fs') l') → flow < length fs → slice_get (flow_at fs flow).backlog 0 ≡ Some w →
    fs' ≡ slice_set fs flow (popped (flow_at fs flow)) → t.free ≡ moment + transmission_time bandwidth w.len →
    t.last_due ≡ due_by rule (moment + transmission_time bandwidth w.len + delay * 1000000) l'.times.last_due →
    ds' ≡ in_order (record { due = t.last_due; packet = w.packet; flow = flow; start = moment }) ds →
    StartsOn rule bandwidth delay moment l fs ds (record { pipe = l'.pipe; times = t; carries = l'.carries }) fs' ds'
sent {rule = rule} {bandwidth = bandwidth} {delay = delay} {moment = moment} {flow = flow} {w = w} l l' fs fs' t takes inside front gone free last given =
    let fewer = ap (λ (x : List FlowState). queue_lengths x flow + 1) gone ∙ pops-fewer fs flow w inside front in
    record {
      flow = flow;
      packet = w;
      front = front;
      link = takes.link;
      slots = takes.slots;
      sends = sends-on flow (view_of (queue_lengths fs) l) (view_of (queue_lengths fs') l') (view_of (queue_lengths fs') (record { pipe = l'.pipe; times = t; carries = l'.carries })) refl
          (view_of (queue_lengths fs) l).link takes.sends;
      free = free;
      last_due = last ∙ ap (λ (x : LinkState). due_by rule (moment + transmission_time bandwidth w.len + delay * 1000000) x.last_due) takes.value;
      waits = waits-fewer (queue_lengths fs) (queue_lengths fs') flow l l' takes fewer;
      flows_are = gone;
      pending_is = given;
    }

pub at-some : {X : Type 0} (P : X → Type 0) (o : Option X) (x : X) → o ≡ Some x → IfSome o P → P x
at-some P o x e h = subst (λ r. IfSome r P) e h
