use Rattle.dn_heap.proofs.Words.{IsHeapWithHole, IsMoved, arith, back, length, length-set, lt_by_cmp, set, subst, sym, ◌∙◌, ◌≡◌}
use Rattle.dn_heap.proofs.Falls.{beside_hole, falls}
use Rattle.dn_heap.proofs.Places.{moved_again}
use Rattle.dn_heap.proofs.placed_heap.sift.fall.Goals as goal

pub loop-at-preserved : goal.loop-at-preserved
loop-at-preserved g c =
    let l = c.loop-at in
    let key = c.args.key in
    let was = set c.args.keys.now c.args.at key in
    let ys = set l.keys l.at key in
    let child = c.lesser_child-child.ensures in
    let to = c.lesser_child-child.result in
    let step = c.move_hole-at.ensures in
    let new = c.move_hole-at.new in
    let is = l.invariant.0 in
    let long = length-set l.keys l.at key in
    subst (λ k. (length new.keys ≡ length c.args.keys.now) × IsMoved g.K.Numbered.number was (set new.keys k key) c.args.places.now new.places k
    × IsHeapWithHole (lt_by_cmp (back g.K.Ord.cmp)) (set new.keys k key) k (length c.args.keys.now)) (sym step.place) (
      step.len ∙ is,
      moved_again g.K.Numbered.number was ys (set new.keys to key) c.args.places.now l.places new.places l.at to l.invariant.1 step.moved,
      falls (back g.K.Ord.cmp) ys (set new.keys to key) (length c.args.keys.now) l.at to child.child child.next child.within (omega (arith, child.within, is, long)) step.items
          (beside_hole (back g.K.Ord.cmp) l.keys key l.at to (length c.args.keys.now) child.child child.least) l.invariant.2,
    )
