use Rattle.std.proofs.Common.{sym, ◌∙◌}
use Rattle.dn_link.specs.Line.{all_in_order}
use Rattle.dn_link.proofs.Collected.{IsInOrder-all_in_order, later-none}
use Rattle.dn_link.proofs.InOrder.{pop_gives}
use Rattle.dn_link.proofs.delay_line.DelayLine.pop_due.Goals as goal

pub returns-then-is_due-clause-value : goal.returns-then-is_due-clause-value
returns-then-is_due-clause-value c =
    rw (← c.self.view_is)
    (pop_gives c.args.at c.pop.result c.self.inside.heap.keys c.pop.new.self.keys (sym c.is_due.ensures ∙ c.if-is_due.true) c.pop.ensures.some.1 c.pop.ensures.keys c.pop.ensures.least).0

pub returns-then-is_due-clause-pending : goal.returns-then-is_due-clause-pending
returns-then-is_due-clause-pending c =
    rw (← c.self.view_is)
    (pop_gives c.args.at c.pop.result c.self.inside.heap.keys c.pop.new.self.keys (sym c.is_due.ensures ∙ c.if-is_due.true) c.pop.ensures.some.1 c.pop.ensures.keys c.pop.ensures.least).1

pub returns-else-is_due-clause-none_due : goal.returns-else-is_due-clause-none_due
returns-else-is_due-clause-none_due c =
    rw (← c.self.view_is) (later-none c.args.at (all_in_order c.self.inside.heap.keys) (IsInOrder-all_in_order c.self.inside.heap.keys) (sym c.is_due.ensures ∙ c.if-is_due.false))
