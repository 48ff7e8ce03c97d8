use Rattle.dn_flows.proofs.Words.{FlowState, ap, arith, common_steps, one_lost, refl, ◌+◌}
use Rattle.dn_flows.proofs.Noted.{counts-there, counts-read, counts-noted}
use Rattle.dn_flows.proofs.flows.Flows.note_lost.Goals as goal

pub index_mut-unsent-requires : goal.index_mut-unsent-requires
index_mut-unsent-requires c =
    let t = c.self.inside in
    let there = counts-there t.packets t.queues.items t.unsent.items c.args.flow c.self.invariant.3 (rw (← c.self.view_is) at c.requires.within) in
    grind (arith, common_steps)

pub overflow_add-unsent : goal.overflow_add-unsent
overflow_add-unsent c =
    let t = c.self.inside in
    let within = rw (← c.self.view_is) at c.requires.within in
    let count = rw (← c.self.view_is) at c.requires.count in
    let read = counts-read t.packets t.queues.items t.unsent.items c.args.flow c.self.invariant.3 within c.index_mut-unsent.result.now c.index_mut-unsent.ensures.value in
    let same = ap (λ (s : FlowState). s.lost) read in
    omega arith

-- one count changes, and no queue does
pub returns-clause-flows : goal.returns-clause-flows
returns-clause-flows c =
    let t = c.self.inside in
    let u = c.index_mut-unsent.result.now in
    rw (← c.self.view_is) (counts-noted t.packets t.queues.items t.unsent.items c.args.flow c.self.invariant.3 (rw (← c.self.view_is) at c.requires.within)
    u (record u { lost = u.lost + 1 }) one_lost c.index_mut-unsent.ensures.value refl)
