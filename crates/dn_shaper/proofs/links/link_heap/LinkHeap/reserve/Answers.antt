-- There is a place for each key that is in or has room.
use Rattle.dn_shaper.proofs.Words.{arith}
use Rattle.dn_shaper.proofs.LeftSteps.{reserved-most, reserved-tidy}
use Rattle.dn_shaper.proofs.links.link_heap.LinkHeap.reserve.Goals as goal

pub invariant_of-self-2 : goal.invariant_of-self-2
invariant_of-self-2 c =
    let r = c.reserve.ensures in
    reserved-tidy c.self.inside.heap c.reserve.new.self c.self.inside.emptied c.extend.new.self c.args.n c.saturating_add-places.result c.self.invariant
    c.in_ok-extend.ensures.same r.keeps_keys (reserved-most c.reserve.result c.self.inside.heap c.reserve.new.self c.args.n r.ok r.err)
    (λ small. omega (arith, small, c.saturating_add-places.ensures, c.len.ensures.value, c.room.ensures.value, c.max.ensures)) c.in_ok-extend.ensures.places c.in_ok-extend.ensures.few
