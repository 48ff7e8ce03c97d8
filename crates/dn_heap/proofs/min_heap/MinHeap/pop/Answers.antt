use Rattle.dn_heap.proofs.Keys.{keys_permuted, least_from_greatest}
use Rattle.dn_heap.proofs.min_heap.MinHeap.pop.Goals as goal

pub returns-clause-keys : goal.returns-clause-keys
returns-clause-keys g c = rw (← c.self.view_is) (keys_permuted _ _ c.in-Some.ensures.permutation)

pub returns-clause-least : goal.returns-clause-least
returns-clause-least g c =
    rw (← c.self.view_is) (least_from_greatest g.K.Ord.cmp _ _ (c.in-Some.ensures.heap_order c.self.invariant.1).1)
