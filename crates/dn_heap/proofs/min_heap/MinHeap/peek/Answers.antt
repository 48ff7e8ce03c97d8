use Rattle.dn_heap.proofs.Keys.{least_from_greatest}
use Rattle.dn_heap.proofs.min_heap.MinHeap.peek.Goals as goal

pub returns-in-Some-clause-least : goal.returns-in-Some-clause-least
returns-in-Some-clause-least g c =
    rw (← c.self.view_is) (least_from_greatest g.K.Ord.cmp _ _ (c.in-Some.ensures.greatest c.self.invariant.1))
