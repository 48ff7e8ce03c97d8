use Rattle.std.proofs.Common.{sym, ◌∷◌}
use Rattle.dn_link.proofs.InOrder.{all_in_order_permuted}
use Rattle.dn_link.proofs.delay_line.DelayLine.push_reserved.Goals as goal

pub returns-clause-pending : goal.returns-clause-pending
returns-clause-pending c = rw (← c.self.view_is) (sym (all_in_order_permuted (c.args.delivery ∷ c.self.inside.heap.keys) c.push_reserved.new.self.keys c.push_reserved.ensures.keys))
