use Rattle.dn_wf2q.proofs.Words.{flows_of}
use Rattle.dn_wf2q.proofs.Rooms.{keeps-set}
use Rattle.dn_wf2q.proofs.head_sched.HeadSched.discard.Goals as goal

pub invariant_of-self : goal.invariant_of-self
invariant_of-self c = record { kept = c.discard.ensures.kept; none_due = c.discard.ensures.none_due }

pub returns-clause-keeps_room : goal.returns-clause-keeps_room
returns-clause-keeps_room c = rw (← c.self.view_is) (keeps-set (flows_of c.self.inside.parts) _ c.args.slot _ c.discard.ensures.discarded.flows)
