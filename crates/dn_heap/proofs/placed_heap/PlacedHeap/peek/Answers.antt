use Rattle.dn_heap.proofs.Words.{IfSome, IfSome_then, get_or, subst, ◌≡◌}
use Rattle.dn_heap.proofs.Falls.{first_is_least}
use Rattle.dn_heap.proofs.placed_heap.PlacedHeap.peek.Goals as goal

pub returns-clause-least : goal.returns-clause-least
returns-clause-least g c =
    let lookup = subst (λ l. IfSome c.first.result (λ x. x.now ≡ get_or l 0 x.now)) c.as_slice.ensures.value c.first.ensures.item.1 in
    rw (← c.self.view_is) (IfSome_then c.first.result lookup (λ x e. first_is_least g.K.Ord.cmp g.met.K.Ord.total _ x.now e c.self.invariant.3))
