use Rattle.dn_flows.proofs.Words.{List, Waiting, ap, arith, common_steps, lengths, sum, sym, verdict_of, ◌∙◌}
use Rattle.dn_flows.proofs.Tables.{IsAt, as-many-flows, reads, queue-is}
use Rattle.dn_flows.proofs.flows.Flows.verdict.Goals.{After-index}
use Rattle.dn_flows.proofs.flows.Flows.verdict.Goals as goal

-- The queue that was read is the flow's.
here : (c : After-index) → IsAt c.self.inside.packets c.self.inside.queues.items c.self.inside.unsent.items c.args.flow c.index.result.now
here c = record { are = c.self.invariant.2; within = rw (← c.self.view_is) at c.requires; read = c.index.ensures }

-- The queue counts the packets that wait, and their bytes.
pub returns-clause-value : goal.returns-clause-value
returns-clause-value c =
    let at = here (goal.at.returns-clause-value c).After-index in
    rw (← c.self.view_is) (c.verdict.ensures.value _ (queue-is at).counts
    ∙ ap (verdict_of c.args.rule.now.loss c.args.rule.now.limit c.args.packet.now.word) (sym (reads at).backlog))

pub returns-clause-fits : goal.returns-clause-fits
returns-clause-fits c = λ taken.
    let at = here (goal.at.returns-clause-fits c).After-index in
    let fits = c.verdict.ensures.fits _ (queue-is at).counts taken in
    rw (← c.self.view_is) (let same = ap (λ (ws : List Waiting). sum (lengths ws)) (reads at).backlog in omega arith)

pub index-requires : goal.index-requires
index-requires c =
    let many = as-many-flows c.self.inside.packets c.self.inside.queues.items c.self.inside.unsent.items in
    grind (arith, common_steps)
