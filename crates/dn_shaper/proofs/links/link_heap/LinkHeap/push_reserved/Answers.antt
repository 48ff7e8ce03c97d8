-- No link left a key, and the new one counts.
use Rattle.dn_shaper.proofs.LeftKeys.{with-keys}
use Rattle.dn_shaper.proofs.LeftSteps.{counts-of-empty, pushed-tidy}
use Rattle.dn_shaper.proofs.links.link_heap.LinkHeap.push_reserved.Goals as goal

pub invariant_of-self : goal.invariant_of-self
invariant_of-self c =
    pushed-tidy c.self.inside.heap c.self.inside.emptied c.args.key c.push_reserved.new.self
    (counts-of-empty c.self.inside.emptied c.is_empty.result c.is_empty.ensures c.if-is_empty.true c.args.key) c.self.invariant
    c.push_reserved.ensures.keys c.push_reserved.ensures.room

pub returns-then-is_empty-clause-keys : goal.returns-then-is_empty-clause-keys
returns-then-is_empty-clause-keys c =
    rw (← c.self.view_is)
    (with-keys c.self.inside.emptied c.args.key c.self.inside.heap.keys c.push_reserved.new.self.keys
    (counts-of-empty c.self.inside.emptied c.is_empty.result c.is_empty.ensures c.if-is_empty.true c.args.key) c.push_reserved.ensures.keys)
