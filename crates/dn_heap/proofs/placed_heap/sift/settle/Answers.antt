use Rattle.dn_heap.proofs.Words.{IsHeap, IsMoved, arith, back, length, length-set, set, subst, sym}
use Rattle.dn_heap.proofs.Falls.{lands}
use Rattle.dn_heap.proofs.Places.{as_it_is, moved_again, ordered}
use Rattle.dn_heap.proofs.placed_heap.sift.settle.Goals as goal

pub returns-clause-ordered : goal.returns-clause-ordered
returns-clause-ordered g c =
    let number = g.K.Numbered.number in
    let keys = c.args.keys.now in
    let key = c.index-keys-from.result in
    let fell = c.fall-leaf.new in
    let rose = c.rise-to.new in
    let moved = moved_again number (set keys c.args.from key) (set fell.keys c.fall-leaf.result key) (set rose.keys c.rise-to.result key) c.args.places.now fell.places rose.places
    c.fall-leaf.result c.rise-to.result c.fall-leaf.ensures.moved c.rise-to.ensures.moved in
    let here = subst (λ l. IsMoved number l (set rose.keys c.rise-to.result key) c.args.places.now rose.places c.rise-to.result) (as_it_is number keys c.args.from key c.index-keys-from.is) moved in
    let there = subst (λ l. IsMoved number keys l c.args.places.now rose.places c.rise-to.result) (sym c.fill.ensures.keys) here in
    ordered number keys c.fill.new.keys c.args.places.now rose.places c.fill.new.places c.rise-to.result there c.fill.ensures.numbers c.fill.ensures.placed

pub returns-clause-heap : goal.returns-clause-heap
returns-clause-heap g c =
    let fell = c.fall-leaf.ensures in
    let key = c.index-keys-from.result in
    let ys = set c.fall-leaf.new.keys c.fall-leaf.result key in
    let zs = set c.rise-to.new.keys c.rise-to.result key in
    let n = length c.args.keys.now in
    let long = length-set c.fall-leaf.new.keys c.fall-leaf.result key in
    let long' = length-set c.rise-to.new.keys c.rise-to.result key in
    let len = fell.len in
    let len' = c.rise-to.ensures.len in
    subst (λ l. IsHeap (back g.K.Ord.cmp) l) (sym c.fill.ensures.keys)
    (lands (back g.K.Ord.cmp) ys zs n c.fall-leaf.result fell.leaf (omega (arith, fell.moved.within, len, long)) (omega (arith, len, len', long')) fell.hole c.rise-to.ensures.rises)
