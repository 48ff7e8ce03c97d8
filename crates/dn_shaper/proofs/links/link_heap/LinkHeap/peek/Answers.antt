-- The first key of all counts.
use Rattle.dn_shaper.proofs.Words.{refl}
use Rattle.dn_shaper.proofs.LeftKeys.{top-held, top-least, top-some}
use Rattle.dn_shaper.proofs.links.link_heap.LinkHeap.peek.Goals as goal

pub returns-in-Some-clause-some : goal.returns-in-Some-clause-some
returns-in-Some-clause-some c =
    rw (← c.self.view_is)
    (λ e. top-some c.self.inside.emptied c.self.inside.heap.keys c.self.invariant.first c.in-Some.key.now c.in-Some.ensures.held c.in-Some.ensures.least, λ l. refl)

pub returns-in-Some-clause-held : goal.returns-in-Some-clause-held
returns-in-Some-clause-held c =
    rw (← c.self.view_is)
    (top-held c.self.inside.emptied c.self.inside.heap.keys c.self.invariant.first c.in-Some.key.now c.in-Some.ensures.held c.in-Some.ensures.least)

pub returns-in-Some-clause-least : goal.returns-in-Some-clause-least
returns-in-Some-clause-least c = rw (← c.self.view_is) (top-least c.self.inside.emptied c.self.inside.heap.keys c.in-Some.key.now c.in-Some.ensures.least)
