-- After all keys that were left have gone, none is at the place.
use Rattle.dn_shaper.proofs.LeftKeys.{none-at}
use Rattle.dn_shaper.proofs.LeftSteps.{keeps-none, none-of}
use Rattle.dn_shaper.proofs.links.leaving.make_way.Goals as goal

pub returns-then-has-clause-none : goal.returns-then-has-clause-none
returns-then-has-clause-none c = none-at c.drop_all.new.emptied c.drop_all.ensures.none c.args.place

pub returns-else-has-clause-keeps : goal.returns-else-has-clause-keeps
returns-else-has-clause-keeps c = keeps-none c.args.heap.now c.args.emptied.now

pub returns-else-has-clause-none : goal.returns-else-has-clause-none
returns-else-has-clause-none c = none-of c.args.emptied.now c.args.place c.has.result c.has.ensures c.if-has.false
