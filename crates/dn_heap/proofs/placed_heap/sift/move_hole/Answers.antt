use Rattle.dn_heap.proofs.Places.{hole_moved, hole_step}
use Rattle.dn_heap.proofs.placed_heap.sift.move_hole.Goals as goal

pub returns-clause-items : goal.returns-clause-items
returns-clause-items g c =
    hole_moved g.K.Numbered.number c.args.keys.now c.args.key c.index-keys-to.result c.args.at c.args.to c.requires.at c.requires.to c.requires.apart c.index-keys-to.is

pub returns-clause-moved : goal.returns-clause-moved
returns-clause-moved g c =
    hole_step g.K.Numbered.number c.args.keys.now c.args.places.now c.args.key c.index-keys-to.result c.args.at c.args.to c.number-number.result
    c.requires.at c.requires.to c.requires.apart c.index-keys-to.is c.number-number.ensures c.requires.placed
