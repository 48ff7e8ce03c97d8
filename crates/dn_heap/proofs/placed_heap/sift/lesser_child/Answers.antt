use Rattle.dn_heap.proofs.Words.{arith, back, back_total, ◌*◌, ◌+◌}
use Rattle.std_alloc.proofs.HeapSift as sifts
use Rattle.dn_heap.proofs.placed_heap.sift.lesser_child.Goals as goal

pub returns-then-len-left-clause-least : goal.returns-then-len-left-clause-least
returns-then-len-left-clause-least g c = sifts.only_child (back g.K.Ord.cmp) (back_total g.met.K.Ord.total) _ c.args.at (2 * c.args.at + 1) c.args.len (omega arith) (omega arith)

pub returns-clause-least : goal.returns-clause-least
returns-clause-least g c = (sifts.either_child (back g.K.Ord.cmp)
    (back_total g.met.K.Ord.total) _ c.args.at (2 * c.args.at + 1) c.args.len c.is_less-is_left.result (omega arith) c.is_less-is_left.ensures).1
