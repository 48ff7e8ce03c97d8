use Rattle.dn_flows.proofs.Words.{AreListed, AreStored, FlowKey, FlowQueue, List, rules, subst}
use Rattle.dn_flows.proofs.Entries.{none-are-listed}
use Rattle.dn_flows.proofs.Tables.{none-stored}
use Rattle.dn_flows.proofs.flows.Flows.with_key.Goals as goal

pub invariant_of-result : goal.invariant_of-result
invariant_of-result c = (
  search rules,
  search rules,
  subst (AreStored c.new-4.result) (search rules) (none-stored c.new-4.result),
  search rules,
  subst (λ (x : List FlowKey × List FlowQueue). AreListed x.0 x.1 c.new-5.result) (search rules) (none-are-listed c.new-5.result),
)
