use Rattle.dn_heap.proofs.Words.{IsMoved, arith, as_swapped, back, back_total, length, length-set, lt_by_cmp, refl, set, subst, sym, ◌-◌, ◌/◌, ◌<◌, ◌∙◌, ◌≡◌, ◌≤◌}
use Rattle.std_alloc.proofs.HeapSift as sifts
use Rattle.dn_heap.proofs.Places.{compared, moved_again, unmoved}
use Rattle.dn_heap.proofs.placed_heap.sift.rise.Goals as goal

pub loop-at-init : goal.loop-at-init
loop-at-init g c =
    let was = set c.args.keys.now c.args.at c.args.key in (
      refl,
      unmoved g.K.Numbered.number was c.args.places.now c.args.at (omega (arith, c.requires.at, length-set c.args.keys.now c.args.at c.args.key)) c.requires.placed,
      omega arith,
      sifts.rise_begins (back g.K.Ord.cmp) (back_total g.met.K.Ord.total) was c.args.at,
    )

pub loop-at-preserved : goal.loop-at-preserved
loop-at-preserved g c =
    let l = c.loop-at in
    let to = (l.at - 1) / 2 in
    let up = c.loop-at-test.true in
    let key = c.args.key in
    let was = set c.args.keys.now c.args.at key in
    let ys = set l.keys l.at key in
    let within = l.invariant.1.within in
    let step = c.move_hole-at.ensures in
    let new = c.move_hole-at.new in
    let order = back_total g.met.K.Ord.total in
    let at : l.at < length l.keys = omega (arith, within, length-set l.keys l.at key) in
    let less = compared g.K.Numbered.number (lt_by_cmp (back g.K.Ord.cmp)) l.keys key l.at to _ at (omega arith) c.if-precedes.ensures in
    subst (λ k. (length new.keys ≡ length c.args.keys.now) × IsMoved g.K.Numbered.number was (set new.keys k key) c.args.places.now new.places k
    × (k ≤ c.args.at) × sifts.Rising (back g.K.Ord.cmp) order was c.args.at (set new.keys k key) k) (sym step.place) (
      step.len ∙ l.invariant.0,
      moved_again g.K.Numbered.number was ys (set new.keys to key) c.args.places.now l.places new.places l.at to l.invariant.1 step.moved,
      omega (arith, l.invariant.2),
      sifts.rise_steps (back g.K.Ord.cmp) order was ys (set new.keys to key) c.args.at l.at up l.invariant.2
          (omega (arith, within)) (step.items ∙ as_swapped ys l.at to (omega (arith, within))) less l.invariant.3,
    )

pub returns-else-precedes-clause-rises : goal.returns-else-precedes-clause-rises
returns-else-precedes-clause-rises g c =
    let l = c.loop-at in
    let key = c.args.key in
    let at : l.at < length l.keys = omega (arith, l.invariant.1.within, length-set l.keys l.at key) in
    let less = compared g.K.Numbered.number (lt_by_cmp (back g.K.Ord.cmp)) l.keys key l.at ((l.at - 1) / 2) _ at (omega arith) c.if-precedes.ensures in
    sifts.rise_rests (back g.K.Ord.cmp) (back_total g.met.K.Ord.total) _ _ c.args.at l.at less l.invariant.3

pub returns-after-loop-at-clause-rises : goal.returns-after-loop-at-clause-rises
returns-after-loop-at-clause-rises g c = sifts.rise_tops (back g.K.Ord.cmp) (back_total g.met.K.Ord.total) _ _ c.args.at c.loop-at.at (omega (arith, c.loop-at-test.false)) c.loop-at.invariant.3
