use Rattle.dn_wf2q.proofs.Words.{ap, flows_of, one_each, ◌∙◌}
use Rattle.dn_wf2q.proofs.Rooms.{rooms-forgotten}
use Rattle.dn_wf2q.proofs.head_sched.HeadSched.begin_busy.Goals as goal

pub invariant_of-self : goal.invariant_of-self
invariant_of-self c = record { kept = c.begin_busy.ensures.kept; none_due = c.begin_busy.ensures.none_due }

pub returns-clause-keeps_room : goal.returns-clause-keeps_room
returns-clause-keeps_room c = rw (← c.self.view_is) (ap one_each c.begin_busy.ensures.begun.flows ∙ rooms-forgotten (flows_of c.self.inside.parts))
