use Rattle.dn_link.proofs.Collected.{least-value, least-due}
use Rattle.dn_link.proofs.delay_line.DelayLine.first_due.Goals as goal

pub returns-in-Some-clause-value : goal.returns-in-Some-clause-value
returns-in-Some-clause-value c = rw (← c.self.view_is) (least-value c.in-Some.first.now c.self.inside.heap.keys c.in-Some.ensures.held c.in-Some.ensures.least)

pub returns-in-Some-clause-least : goal.returns-in-Some-clause-least
returns-in-Some-clause-least c = rw (← c.self.view_is) (least-due c.in-Some.first.now c.self.inside.heap.keys c.in-Some.ensures.held c.in-Some.ensures.least)
