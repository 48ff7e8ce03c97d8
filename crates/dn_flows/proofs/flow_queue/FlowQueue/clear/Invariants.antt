use Rattle.dn_flows.proofs.Words.{Lies, Shortens}
use Rattle.dn_flows.proofs.flow_queue.FlowQueue.clear.Given as goal

abbrev pub invariant-loop-self : goal.invariant-loop-self
invariant-loop-self l = record {
  lies : Lies l.store l.self;
  shortens : Shortens l.initial.store l.initial.self l.store l.self;
}

abbrev pub decreases-loop-self : goal.decreases-loop-self
decreases-loop-self l = l.self.len
