use Rattle.dn_flows.proofs.Words.{arith}
use Rattle.dn_flows.proofs.Tables.{as-many-flows}
use Rattle.dn_flows.proofs.flows.Flows.find_by_hash_or_make.Goals as goal

-- a flow has the number of its key
pub returns-in-Some-clause-within : goal.returns-in-Some-clause-within
returns-in-Some-clause-within c =
    let many = as-many-flows c.self.inside.packets c.self.inside.queues.items c.self.inside.unsent.items in
    let within = c.in-Some.ensures.within in
    rw (← c.self.view_is) (omega arith)
