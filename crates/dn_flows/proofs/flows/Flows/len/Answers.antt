use Rattle.dn_flows.proofs.Words.{arith}
use Rattle.dn_flows.proofs.Tables.{as-many-flows}
use Rattle.dn_flows.proofs.flows.Flows.len.Goals as goal

pub returns-clause-flows : goal.returns-clause-flows
returns-clause-flows c =
    let many = as-many-flows c.self.inside.packets c.self.inside.queues.items c.self.inside.unsent.items in
    rw (← c.self.view_is) (omega arith)
