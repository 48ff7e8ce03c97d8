use Rattle.dn_flows.proofs.Words.{FlowState, ap, arith, common_steps, length, length-map, map, state_of, status_of, sym, with_unsent, ◌∙◌, ◌≡◌}
use Rattle.dn_flows.proofs.Counted.{within-unsent, read-counts}
use Rattle.dn_flows.proofs.Tables.{IsAt, as-many-flows, read-state, queue-is}
use Rattle.dn_flows.proofs.flows.Flows.status.Goals.{After-index-queue}
use Rattle.dn_flows.proofs.flows.Flows.status.Goals as goal

-- The queue that was read is the flow's.
here : (c : After-index-queue) → IsAt c.self.inside.packets c.self.inside.queues.items c.self.inside.unsent.items c.args.flow c.index-queue.result.now
here c = record { are = c.self.invariant.2; within = rw (← c.self.view_is) at c.requires; read = c.index-queue.ensures }

-- As many counts as queues are kept.
as-many : (c : After-index-queue) → length c.self.inside.unsent.items ≡ length (map (state_of c.self.inside.packets) c.self.inside.queues.items)
as-many c = c.self.invariant.3 ∙ sym (length-map c.self.inside.queues.items (state_of c.self.inside.packets))

pub index-unsent-requires : goal.index-unsent-requires
index-unsent-requires c =
    let w = (goal.at.index-unsent-requires c).After-index-queue in
    let within = within-unsent (map (state_of c.self.inside.packets) c.self.inside.queues.items) c.self.inside.unsent.items c.args.flow (as-many w) (here w).within in
    grind (arith, common_steps)

-- The queue counts the packets that wait, and their bytes, and the other counts lie beside it.
pub returns-clause-value : goal.returns-clause-value
returns-clause-value c =
    let w = (goal.at.returns-clause-value c).After-index-queue in
    let is = queue-is (here w) in
    let states = map (state_of c.self.inside.packets) c.self.inside.queues.items in
    let u = c.index-unsent.result.now in
    rw (← c.self.view_is) ((λ i. record {
      flow = c.args.flow;
      key = c.key-key.result;
      queued = is.counts.many i;
      bytes = (c.from.ensures ∙ is.counts.counted) i;
      lost = u.lost;
      full = u.full;
      started = c.index-queue.result.now.started;
      discarded = u.discarded;
    }) ∙ ap (status_of c.args.flow c.key-key.result) (sym (read-counts states c.self.inside.unsent.items c.args.flow u (as-many w) (here w).within c.index-unsent.ensures
    ∙ ap (λ (s : FlowState). with_unsent u s) (read-state (here w)))))

pub index-queue-requires : goal.index-queue-requires
index-queue-requires c =
    let many = as-many-flows c.self.inside.packets c.self.inside.queues.items c.self.inside.unsent.items in
    grind (arith, common_steps)
