use Rattle.dn_flows.proofs.Words.{AreStored, FlowQueue, FlowState, List, Unsent, Waiting, all_with_unsent, ap, arith, common_steps, emptied, false, flow_at, length, length-map, length-set, map}
use Rattle.dn_flows.proofs.Words.{refl, set, state_of, sym, ◌+◌, ◌∙◌, ◌≡◌}
use Rattle.dn_flows.proofs.Counted.{within-unsent, read-counts}
use Rattle.dn_flows.proofs.Entries.{listed-q, listed-set}
use Rattle.dn_flows.proofs.Tables.{IsAt, as-many-flows, queue-is, reads, same-reserved, emptying, lies-here, seen, there}
use Rattle.dn_flows.proofs.flows.Flows.discard.Goals.{After-index_mut-queue, After-index_mut-unsent}
use Rattle.dn_flows.proofs.flows.Flows.discard.Goals as goal

-- The queue that was read is the flow's.
here : (c : After-index_mut-queue) → IsAt c.self.inside.packets c.self.inside.queues.items c.self.inside.unsent.items c.args.flow c.index_mut-queue.result.now
here c = record { are = c.self.invariant.2; within = rw (← c.self.view_is) at c.requires.within; read = c.index_mut-queue.ensures.value }

pub clear-requires : goal.clear-requires
clear-requires c = lies-here (here (goal.at.clear-requires c).After-index_mut-queue)

-- As many counts as queues are kept.
as-many : (c : After-index_mut-queue) → length c.self.inside.unsent.items ≡ length (map (state_of c.self.inside.packets) c.self.inside.queues.items)
as-many c = c.self.invariant.3 ∙ sym (length-map c.self.inside.queues.items (state_of c.self.inside.packets))

pub index_mut-unsent-requires : goal.index_mut-unsent-requires
index_mut-unsent-requires c =
    let w = (goal.at.index_mut-unsent-requires c).After-index_mut-queue in
    let within = within-unsent (map (state_of c.self.inside.packets) c.self.inside.queues.items) c.self.inside.unsent.items c.args.flow (as-many w) (here w).within in
    grind (arith, common_steps)

-- As many packets are discarded as the queue counts.
pub overflow_add-unsent : goal.overflow_add-unsent
overflow_add-unsent c =
    let w = (goal.at.overflow_add-unsent c).After-index_mut-queue in
    let many = (queue-is (here w)).counts.many in
    let count = rw (← c.self.view_is) at c.requires.count in
    let discarded =
    ap (λ (s : FlowState). s.discarded) (read-counts (map (state_of c.self.inside.packets) c.self.inside.queues.items)
    c.self.inside.unsent.items c.args.flow c.index_mut-unsent.result.now (as-many w) (here w).within c.index_mut-unsent.ensures.value) in
    let waits = ap (λ (ws : List Waiting). length ws) (reads (here w)).backlog in
    omega arith

-- The flow's chain is empty, and the others stay.
module _ (c : After-index_mut-unsent) (at : IsAt c.self.inside.packets c.self.inside.queues.items c.self.inside.unsent.items c.args.flow c.index_mut-queue.result.now) where
  abbrev left : FlowQueue
  left = record c.clear.new.self { active = false }

  abbrev counted : Unsent
  counted = record c.index_mut-unsent.result.now { discarded = c.index_mut-unsent.result.now.discarded + c.index_mut-queue.result.now.len }

  empty : AreStored c.clear.new.store (set c.self.inside.queues.items c.args.flow left)
      × (all_with_unsent (map (state_of c.clear.new.store) (set c.self.inside.queues.items c.args.flow left)) (set c.self.inside.unsent.items c.args.flow counted)
      ≡ set (seen at) c.args.flow (emptied (flow_at (seen at) c.args.flow)))
  empty = emptying at c.clear.new.store c.clear.new.self left c.index_mut-unsent.result.now c.clear.ensures.shortens refl c.clear.ensures.none c.self.invariant.3 c.index_mut-unsent.ensures.value

pub invariant_of-self : goal.invariant_of-self
invariant_of-self c =
    let w = goal.at.invariant_of-self c in
    let at = here w.After-index_mut-queue in
    let room = c.self.invariant.1.1 in
    let len = c.clear.ensures.shortens.len in
    let capacity = c.clear.ensures.shortens.capacity in
    let none = c.clear.ensures.none in
    let t = c.self.inside in
    let q = c.index_mut-queue.result.now in
    let q' = record c.clear.new.self { active = false } in
    let flags = c.clear.ensures.shortens.flags in
    let counts = c.clear.ensures.shortens.counts in (
      c.self.invariant.0 ∙ sym (length-set t.queues.items c.args.flow _),
      (c.self.invariant.1.0 ∙ sym (same-reserved at q' counts.0), omega arith),
      (empty w.After-index_mut-unsent at).0,
      length-set t.unsent.items c.args.flow _ ∙ c.self.invariant.3 ∙ sym (length-set t.queues.items c.args.flow _),
      listed-set t.keys.keys t.queues.items t.members c.args.flow q q' c.self.invariant.4 (there at) flags.1 flags.2
          (listed-q q q' (c.self.invariant.4.listed c.args.flow q (there at)) flags.1 flags.2 (λ h. sym counts.0 ∙ h) (λ h. absurd cc)),
    )

pub returns-clause-flows : goal.returns-clause-flows
returns-clause-flows c =
    let w = goal.at.returns-clause-flows c in
    rw (← c.self.view_is) (empty w.After-index_mut-unsent (here w.After-index_mut-queue)).1

pub index_mut-queue-requires : goal.index_mut-queue-requires
index_mut-queue-requires c =
    let many = as-many-flows c.self.inside.packets c.self.inside.queues.items c.self.inside.unsent.items in
    grind (arith, common_steps)
