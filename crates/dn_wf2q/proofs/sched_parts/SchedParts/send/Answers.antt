use Rattle.dn_wf2q.proofs.Words.{flows_of, heads_of, raised}
use Rattle.dn_wf2q.proofs.Calm.{picked_sends}
use Rattle.dn_wf2q.proofs.sched_parts.SchedParts.send.Goals as goal

pub returns-clause-some : goal.returns-clause-some
returns-clause-some c =
    picked_sends c.args.self.now c.make_eligible.new.self c.send_eligible.new.self c.promote.new.self
    (raised c.args.self.now.virtual_time (heads_of (flows_of c.args.self.now))) c.make_eligible.ensures.same c.promote.ensures.same c.send_eligible.ensures.some
