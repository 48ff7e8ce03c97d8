use Rattle.dn_flows.proofs.Words.{FlowQueue, arith, common_steps, flow_at, length-set, refl, sym, with_home, ◌∙◌}
use Rattle.dn_flows.proofs.Entries.{listed-after}
use Rattle.dn_flows.proofs.Tables.{After, IsAt, as-many-flows, counting, same-reserved, seen, there}
use Rattle.dn_flows.proofs.flows.Flows.set_home.Goals.{After-index_mut-queue}
use Rattle.dn_flows.proofs.flows.Flows.set_home.Goals as goal

pub index_mut-queue-requires : goal.index_mut-queue-requires
index_mut-queue-requires c =
    let many = as-many-flows c.self.inside.packets c.self.inside.queues.items c.self.inside.unsent.items in
    grind (arith, common_steps)

module _ (c : After-index_mut-queue) where
  -- The queue that was read is the flow's.
  here : IsAt c.self.inside.packets c.self.inside.queues.items c.self.inside.unsent.items c.args.flow c.index_mut-queue.result.now
  here = record { are = c.self.invariant.2; within = rw (← c.self.view_is) at c.requires; read = c.index_mut-queue.ensures.value }

  -- It is left with its home.
  abbrev left : FlowQueue
  left = record c.index_mut-queue.result.now { home = c.args.home }

  -- No packet moves.
  housed : After here c.self.inside.packets left (with_home c.args.home (flow_at (seen here) c.args.flow))
  housed = counting here c.self.inside.packets left (with_home c.args.home) (λ u s. refl) (λ key. refl) (refl, refl, refl, refl) refl

pub invariant_of-self : goal.invariant_of-self
invariant_of-self c =
    let w = (goal.at.invariant_of-self c).After-index_mut-queue in
    let t = c.self.inside in (
      c.self.invariant.0 ∙ sym (length-set t.queues.items c.args.flow _),
      (c.self.invariant.1.0 ∙ sym (same-reserved (here w) (left w) refl), c.self.invariant.1.1),
      (housed w).stored,
      c.self.invariant.3 ∙ sym (length-set t.queues.items c.args.flow _),
      listed-after t.keys.keys t.queues.items t.members c.args.flow c.index_mut-queue.result.now (left w) c.self.invariant.4 (there (here w)) (refl, refl, refl, refl),
    )

pub returns-clause-flows : goal.returns-clause-flows
returns-clause-flows c = rw (← c.self.view_is) (housed (goal.at.returns-clause-flows c).After-index_mut-queue).states
