use Rattle.dn_heap.proofs.Words.{ap, arith, back_total, empty, length}
use Rattle.dn_heap.proofs.placed_heap.PlacedHeap.new.Goals as goal

pub invariant_of-result : goal.invariant_of-result
invariant_of-result g c =
    let none = ap length c.new.ensures.items in
    (omega (arith, c.new.ensures.len), omega (arith, c.new.ensures.len), omega (arith, c.new.ensures.len), empty (back_total g.met.K.Ord.total) _ c.new.ensures.items, λ d k lt. absurd (omega (arith, lt, none)))
