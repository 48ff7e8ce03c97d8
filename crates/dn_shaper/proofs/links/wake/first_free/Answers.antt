use Rattle.dn_shaper.proofs.Waking.{first-some, first-none}
use Rattle.dn_shaper.proofs.links.wake.first_free.Goals as goal

pub returns-in-Some : goal.returns-in-Some
returns-in-Some c nexts h = first-some nexts c.args.heap.now.keys h c.in-Some.first.now c.in-Some.ensures.held c.in-Some.ensures.least

pub returns-in-None : goal.returns-in-None
returns-in-None c nexts h = first-none nexts c.args.heap.now.keys h c.in-None.ensures.some.1
