use Rattle.dn_flows.proofs.Words.{FlowQueue, None, Packets, TakesFront, Waiting, ap, arith, common_steps, flow_at, length-set, popped, refl, rules, sym, ◌+◌, ◌∙◌, ◌≡◌}
use Rattle.dn_flows.proofs.Entries.{SameFlags, listed-after}
use Rattle.dn_flows.proofs.Tables.{After, IsAt, as-many-flows, first-held, first-short, popping, front, none-waits, reads, resting, same-reserved, seen, there}
use Rattle.dn_flows.proofs.flows.Flows.pop_front.Goals.{After-index_mut-queue, In_ok-first}
use Rattle.dn_flows.proofs.flows.Flows.pop_front.Goals as goal

same-flags : {old new : Packets} {first : Waiting} {q q' : FlowQueue} → TakesFront first old q new q' → SameFlags q q'
same-flags t = (
  ap (λ (x : FlowQueue). x.on_pipe) t.queue_is.2,
  ap (λ (x : FlowQueue). x.of_queue) t.queue_is.2,
  ap (λ (x : FlowQueue). x.reserved) t.queue_is.2,
  ap (λ (x : FlowQueue). x.active) t.queue_is.2,
)

-- the start is counted, and nothing else
counts-after : {old new : Packets} {first : Waiting} {q q' : FlowQueue} → TakesFront first old q new q' → (q'.reserved ≡ q.reserved) × (q'.started + 1 ≡ q.started + 1) × (q'.active ≡ q.active) × (q'.home ≡ q.home)
counts-after t = (ap (λ (x : FlowQueue). x.reserved) t.queue_is.2, ap (λ (x : FlowQueue). x.started + 1) t.queue_is.2, ap (λ (x : FlowQueue). x.active) t.queue_is.2, ap (λ (x : FlowQueue). x.home) t.queue_is.2)

-- The queue that was read is the flow's.
here : (c : After-index_mut-queue) → IsAt c.self.inside.packets c.self.inside.queues.items c.self.inside.unsent.items c.args.flow c.index_mut-queue.result.now
here c = record { are = c.self.invariant.2; within = rw (← c.self.view_is) at c.requires.within; read = c.index_mut-queue.ensures.value }

pub pop_front-requires-clause-held : goal.pop_front-requires-clause-held
pop_front-requires-clause-held c = first-held (here (goal.at.pop_front-requires-clause-held c).After-index_mut-queue)

pub pop_front-requires-clause-bytes : goal.pop_front-requires-clause-bytes
pop_front-requires-clause-bytes c = first-short (here (goal.at.pop_front-requires-clause-bytes c).After-index_mut-queue)

-- The first packet leaves the flow's chain.
module _ (c : In_ok-first) (at : IsAt c.self.inside.packets c.self.inside.queues.items c.self.inside.unsent.items c.args.flow c.index_mut-queue.result.now) where
  abbrev left : FlowQueue
  left = record c.pop_front.new.self { started = c.pop_front.new.self.started + 1 }

  leaves : After at c.pop_front.new.store left (popped (flow_at (seen at) c.args.flow))
  leaves = popping at c.pop_front.new.store c.in_ok-first.first c.pop_front.new.self left c.in_ok-first.ensures.takes (refl, refl, refl, refl) (counts-after c.in_ok-first.ensures.takes)

pub invariant_of-self-2 : goal.invariant_of-self-2
invariant_of-self-2 c =
    let w = goal.at.invariant_of-self-2 c in
    let at = here w.After-index_mut-queue in
    let t = c.self.inside in
    let q' = record c.pop_front.new.self { started = c.pop_front.new.self.started + 1 } in
    let room = c.self.invariant.1.1 in
    let len = c.in_ok-first.ensures.len in
    let capacity = c.in_ok-first.ensures.capacity in (
      c.self.invariant.0 ∙ sym (length-set t.queues.items c.args.flow _),
      (c.self.invariant.1.0 ∙ sym (same-reserved at q' (counts-after c.in_ok-first.ensures.takes).0), omega arith),
      (leaves w.In_ok-first at).stored,
      c.self.invariant.3 ∙ sym (length-set t.queues.items c.args.flow _),
      listed-after t.keys.keys t.queues.items t.members c.args.flow c.index_mut-queue.result.now q' c.self.invariant.4 (there at) (same-flags c.in_ok-first.ensures.takes),
    )

pub returns-clause-front : goal.returns-clause-front
returns-clause-front c =
    rw (← c.self.view_is)
    (sym (front (here (goal.at.returns-clause-front c).After-index_mut-queue) c.pop_front.new.store c.in_ok-first.first c.pop_front.new.self c.in_ok-first.ensures.takes))

pub returns-clause-flows : goal.returns-clause-flows
returns-clause-flows c =
    let w = goal.at.returns-clause-flows c in
    rw (← c.self.view_is) (leaves w.In_ok-first (here w.After-index_mut-queue)).states

pub index_mut-queue-requires : goal.index_mut-queue-requires
index_mut-queue-requires c =
    let many = as-many-flows c.self.inside.packets c.self.inside.queues.items c.self.inside.unsent.items in
    grind (arith, common_steps)

pub overflow_add-queue : goal.overflow_add-queue
overflow_add-queue c =
    let count = rw (← c.self.view_is) at c.requires.count in
    let before = (reads (here (goal.at.overflow_add-queue c).After-index_mut-queue)).started in
    let after = ap (λ (x : FlowQueue). x.started) c.in_ok-first.ensures.takes.queue_is.2 in
    omega arith

-- No packet waits.
pub returns-in_err-first-clause-front : goal.returns-in_err-first-clause-front
returns-in_err-first-clause-front c =
    let none : c.from_residual.result ≡ None = search rules in
    rw (← c.self.view_is) (none ∙ sym (none-waits (here (goal.at.returns-in_err-first-clause-front c).After-index_mut-queue) c.in_err-first.ensures.none))

pub returns-in_err-first-clause-flows : goal.returns-in_err-first-clause-flows
returns-in_err-first-clause-flows c =
    rw (← c.self.view_is) (resting (here (goal.at.returns-in_err-first-clause-flows c).After-index_mut-queue)
    c.pop_front.new.store c.pop_front.new.self c.in_err-first.ensures.keeps_store c.in_err-first.ensures.keeps_queue
    c.in_err-first.ensures.none).states
