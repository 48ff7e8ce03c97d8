-- Each turn of the loop answers one call more.
use Rattle.dn_shaper.proofs.Words.{List, Reply, ap, arith, length, length-more}
use Rattle.dn_shaper.proofs.Replying.{stands-next, told-next}
use Rattle.dn_shaper.proofs.runs.answer_all.Goals as goal

pub loop-call-preserved : goal.loop-call-preserved
loop-call-preserved c =
    let inv = c.loop-call.invariant in
    let so_far = inv.so_far in
    let room = inv.room in
    let more = c.push_reserved.ensures.items in
    let cap = c.push_reserved.ensures.capacity in
    let count = ap (λ (rs : List Reply). length rs) more in
    let one = length-more c.loop-call.replies.items c.in_ok-apply.field-0 in
    record {
      stands = λ new. stands-next c.args.calls.now c.loop-call.call-index c.call-item.result c.loop-call-test.true c.call-item.is c.loop-call.shaper
          c.apply.new.self c.in_ok-apply.field-0 c.in_ok-apply.ensures.ok
          (inv.stands new);
      told = λ new. told-next c.args.calls.now c.loop-call.call-index c.call-item.result c.loop-call-test.true c.call-item.is c.loop-call.shaper
          c.apply.new.self c.in_ok-apply.field-0 c.in_ok-apply.ensures.ok
          (inv.stands new) c.loop-call.replies.items c.push_reserved.new.self.items more (inv.told new);
      so_far = omega arith;
      room = omega arith;
    }
