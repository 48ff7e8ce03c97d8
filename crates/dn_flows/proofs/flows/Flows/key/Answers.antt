use Rattle.dn_flows.proofs.Words.{arith}
use Rattle.dn_flows.proofs.Tables.{as-many-flows}
use Rattle.dn_flows.proofs.flows.Flows.key.Goals as goal

-- there are as many keys as flows
pub unwrap-requires : goal.unwrap-requires
unwrap-requires c =
    let many = as-many-flows c.self.inside.packets c.self.inside.queues.items c.self.inside.unsent.items in
    let within = rw (← c.self.view_is) at c.requires in
    c.get_index.ensures.found.1 (omega arith)
