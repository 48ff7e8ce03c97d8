use Rattle.dn_heap.proofs.Words.{IsHeap, SiftsUp, arith, back, length-set, set, subst, sym}
use Rattle.dn_heap.proofs.Falls.{lifted}
use Rattle.dn_heap.proofs.Places.{as_it_is}
use Rattle.dn_heap.proofs.placed_heap.sift.lift.Goals as goal

pub returns-clause-heap : goal.returns-clause-heap
returns-clause-heap g c =
    let keys = c.args.keys.now in
    let key = c.index-keys-last.result in
    let zs = set c.rise-to.new.keys c.rise-to.result key in
    let long = length-set c.rise-to.new.keys c.rise-to.result key in
    let len = c.rise-to.ensures.len in
    let rises = subst (λ l. SiftsUp (back g.K.Ord.cmp) l c.args.last zs) (as_it_is g.K.Numbered.number keys c.args.last key c.index-keys-last.is) c.rise-to.ensures.rises in
    subst (λ l. IsHeap (back g.K.Ord.cmp) l) (sym c.fill.ensures.keys) (lifted (back g.K.Ord.cmp) keys zs c.args.last (omega (arith, c.requires.at, len, long)) c.requires.heap rises)
