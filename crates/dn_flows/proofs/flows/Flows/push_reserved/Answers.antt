use Rattle.dn_flows.proofs.Words.{FlowQueue, ap, arith, common_steps, false, flow_at, inl, length-set, pushed, refl, reservations, set, sym, true, ◌+◌, ◌∙◌, ◌≡◌}
use Rattle.dn_flows.proofs.Entries.{listed-q, listed-set}
use Rattle.dn_flows.proofs.Tables.{After, IsAt, as-many-flows, few, fits, last-held, reads, one-less, pushing, seen, there}
use Rattle.dn_flows.proofs.flows.Flows.push_reserved.Goals.{After-index_mut-queue, After-push_back}
use Rattle.dn_flows.proofs.flows.Flows.push_reserved.Goals as goal

-- The queue that was read is the flow's.
here : (c : After-index_mut-queue) → IsAt c.self.inside.packets c.self.inside.queues.items c.self.inside.unsent.items c.args.flow c.index_mut-queue.result.now
here c = record { are = c.self.invariant.2; within = rw (← c.self.view_is) at c.requires.within; read = c.index_mut-queue.ensures.value }

had : (c : After-index_mut-queue) → c.index_mut-queue.result.now.reserved ≡ true
had c = sym (reads (here c)).reserved ∙ (rw (← c.self.view_is) at c.requires.reserved)

-- The place that was reserved is the flow's.
less : (c : After-index_mut-queue) (q' : FlowQueue) → q'.reserved ≡ false → reservations (set c.self.inside.queues.items c.args.flow q') + 1 ≡ c.self.inside.reserved
less c q' has = one-less (here c) q' (had c) has ∙ sym c.self.invariant.1.0

pub push_back-requires-clause-room : goal.push_back-requires-clause-room
push_back-requires-clause-room c =
    let fewer = less (goal.at.push_back-requires-clause-room c).After-index_mut-queue (record c.index_mut-queue.result.now { reserved = false }) refl in
    omega arith

-- A packet has at least one byte, so there are fewer packets than bytes.
pub push_back-requires-clause-few : goal.push_back-requires-clause-few
push_back-requires-clause-few c = few (here (goal.at.push_back-requires-clause-few c).After-index_mut-queue)

pub push_back-requires-clause-bytes : goal.push_back-requires-clause-bytes
push_back-requires-clause-bytes c =
    fits (here (goal.at.push_back-requires-clause-bytes c).After-index_mut-queue) c.args.waiting.len (rw (← c.self.view_is) at c.requires.bytes)

pub push_back-requires-clause-held : goal.push_back-requires-clause-held
push_back-requires-clause-held c = last-held (here (goal.at.push_back-requires-clause-held c).After-index_mut-queue)

pub overflow_sub-self : goal.overflow_sub-self
overflow_sub-self c =
    let fewer = less (goal.at.overflow_sub-self c).After-index_mut-queue (record c.index_mut-queue.result.now { reserved = false }) refl in
    omega arith

-- The packet joins the end of the flow's chain, in the room that was there.
joins : (c : After-push_back) (at : IsAt c.self.inside.packets c.self.inside.queues.items c.self.inside.unsent.items c.args.flow c.index_mut-queue.result.now)
    → After at c.push_back.new.store c.push_back.new.self (pushed c.args.waiting (flow_at (seen at) c.args.flow))
joins c at = pushing at c.push_back.new.store c.args.waiting c.push_back.new.self c.push_back.ensures.appends (omega arith) (omega arith) (rw (← c.self.view_is) at c.requires.bytes)

pub invariant_of-self : goal.invariant_of-self
invariant_of-self c =
    let w = goal.at.invariant_of-self c in
    let at = here w.After-index_mut-queue in
    let is = c.push_back.ensures.appends.queue_is in
    let fewer = less w.After-index_mut-queue c.push_back.new.self (ap (λ (x : FlowQueue). x.reserved) is) in
    let capacity = c.push_back.ensures.capacity in
    let t = c.self.inside in
    let q = c.index_mut-queue.result.now in
    let q' = c.push_back.new.self in (
      c.self.invariant.0 ∙ sym (length-set t.queues.items c.args.flow q'),
      (omega arith, omega arith),
      (joins w.After-push_back at).stored,
      c.self.invariant.3 ∙ sym (length-set t.queues.items c.args.flow q'),
      listed-set t.keys.keys t.queues.items t.members c.args.flow q q' c.self.invariant.4 (there at) (ap (λ (x : FlowQueue). x.on_pipe) is) (ap (λ (x : FlowQueue). x.of_queue) is)
          (listed-q q q' (c.self.invariant.4.listed c.args.flow q (there at)) (ap (λ (x : FlowQueue). x.on_pipe) is) (ap (λ (x : FlowQueue). x.of_queue) is)
          (λ h. let wrong : false ≡ true = sym (ap (λ (x : FlowQueue). x.reserved) is) ∙ h in absurd cc) (λ h. inl (had w.After-index_mut-queue))),
    )

pub returns-clause-flows : goal.returns-clause-flows
returns-clause-flows c =
    let w = goal.at.returns-clause-flows c in
    rw (← c.self.view_is) (joins w.After-push_back (here w.After-index_mut-queue)).states

pub index_mut-queue-requires : goal.index_mut-queue-requires
index_mut-queue-requires c =
    let many = as-many-flows c.self.inside.packets c.self.inside.queues.items c.self.inside.unsent.items in
    grind (arith, common_steps)
