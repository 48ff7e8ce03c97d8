use Rattle.dn_heap.proofs.Words.{IsHeapWithHole, IsMoved, back, length, lt_by_cmp, set, ◌-◌, ◌≡◌}
use Rattle.dn_heap.proofs.placed_heap.sift.fall.Given as goal

abbrev pub invariant-loop-at : goal.invariant-loop-at
invariant-loop-at g l =
    (length l.keys ≡ length l.initial.keys)
    × IsMoved g.K.Numbered.number (set l.initial.keys l.initial.at l.key) (set l.keys l.at l.key) l.initial.places l.places l.at
    × IsHeapWithHole (lt_by_cmp (back g.K.Ord.cmp)) (set l.keys l.at l.key) l.at (length l.initial.keys)

abbrev pub decreases-loop-at : goal.decreases-loop-at
decreases-loop-at g l = length l.initial.keys - l.at
