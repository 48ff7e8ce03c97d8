use Rattle.dn_heap.proofs.Words.{IsMoved, back, back_total, length, set, ◌≡◌, ◌≤◌}
use Rattle.std_alloc.proofs.HeapSift as sifts
use Rattle.dn_heap.proofs.placed_heap.sift.rise.Given as goal

abbrev pub invariant-loop-at : goal.invariant-loop-at
invariant-loop-at g l =
    (length l.keys ≡ length l.initial.keys)
    × IsMoved g.K.Numbered.number (set l.initial.keys l.initial.at l.key) (set l.keys l.at l.key) l.initial.places l.places l.at
    × (l.at ≤ l.initial.at)
    × sifts.Rising (back g.K.Ord.cmp) (back_total g.met.K.Ord.total) (set l.initial.keys l.initial.at l.key) l.initial.at (set l.keys l.at l.key) l.at

abbrev pub decreases-loop-at : goal.decreases-loop-at
decreases-loop-at g l = l.at
