-- There are no more moments than places.
use Rattle.dn_shaper.proofs.Words.{arith}
use Rattle.dn_shaper.proofs.Accepting.{backlogged-le}
use Rattle.dn_shaper.proofs.links.emptied.Emptied.note.Goals as goal

pub overflow_add-self : goal.overflow_add-self
overflow_add-self c =
    let few = backlogged-le c.self.inside.moments.items in
    let is = c.self.invariant in
    let len = c.self.inside.moments.ok.0 in
    omega arith
