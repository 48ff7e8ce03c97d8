use Rattle.dn_heap.proofs.Falls.{first_is_least}
use Rattle.dn_heap.proofs.placed_heap.PlacedHeap.pop.Goals as goal

pub returns-clause-least : goal.returns-clause-least
returns-clause-least g c = rw (← c.self.view_is) (first_is_least g.K.Ord.cmp g.met.K.Ord.total _ _ c.take_at-key.ensures.value c.self.invariant.3)
