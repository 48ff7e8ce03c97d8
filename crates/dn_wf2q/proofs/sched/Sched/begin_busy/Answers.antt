use Rattle.dn_wf2q.proofs.Stored.{begun}
use Rattle.dn_wf2q.proofs.sched.Sched.begin_busy.Goals as goal

pub invariant_of-self : goal.invariant_of-self
invariant_of-self c = record {
  stored = rw c.begin_busy.ensures.flows (begun c.self.inside.heads.flows c.self.inside.queues.items c.self.invariant.stored);
  rooms = c.begin_busy.ensures.rooms;
}
