use Rattle.dn_wf2q.proofs.Words.{flows_of, heads_of, raised}
use Rattle.dn_wf2q.proofs.Calm.{raises}
use Rattle.dn_wf2q.proofs.head_sched.HeadSched.first.Goals as goal

pub invariant_of-self : goal.invariant_of-self
invariant_of-self c = record { kept = c.first.ensures.kept; none_due = c.first.ensures.none_due }

pub returns-clause-raised : goal.returns-clause-raised
returns-clause-raised c =
    let p = c.self.inside.parts in
    rw (← c.self.view_is) (raises (raised p.virtual_time (heads_of (flows_of p))) p c.first.new.self c.first.ensures.same)
