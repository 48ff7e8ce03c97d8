use Rattle.dn_flows.proofs.Words.{arith, common_steps, sym}
use Rattle.dn_flows.proofs.Tables.{IsAt, as-many-flows, reads}
use Rattle.dn_flows.proofs.flows.Flows.home.Goals as goal

pub index-requires : goal.index-requires
index-requires c =
    let many = as-many-flows c.self.inside.packets c.self.inside.queues.items c.self.inside.unsent.items in
    grind (arith, common_steps)

-- The queue that was read is the flow's.
pub returns : goal.returns
returns c =
    let here : IsAt c.self.inside.packets c.self.inside.queues.items c.self.inside.unsent.items c.args.flow c.index.result.now = record {
      are = c.self.invariant.2;
      within = rw (← c.self.view_is) at c.requires;
      read = c.index.ensures;
    } in
    rw (← c.self.view_is) (sym (reads here).home)
