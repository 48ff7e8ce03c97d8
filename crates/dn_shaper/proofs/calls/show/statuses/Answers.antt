-- Each turn of the loop tells one flow more.
use Rattle.dn_shaper.proofs.Words.{FlowStatus, List, ap, arith, length, length-more, ◌∙◌}
use Rattle.dn_shaper.proofs.Showing.{told-next}
use Rattle.dn_shaper.proofs.calls.show.statuses.Goals as goal

pub loop-flow-preserved : goal.loop-flow-preserved
loop-flow-preserved c =
    let inv = c.loop-flow.invariant in
    let so_far = inv.so_far in
    let room = inv.room in
    let e = ap (λ (xs : List FlowStatus). length xs) c.push_reserved.ensures.items in
    let l = length-more c.loop-flow.list.items c.status.result in
    let cap = c.push_reserved.ensures.capacity in
    record {
      told = told-next c.args.flows.now.keys c.args.flows.now.flows c.loop-flow.list.items c.push_reserved.new.self.items c.loop-flow.flow c.status.result
          c.push_reserved.ensures.items c.status.ensures.key c.status.ensures.value
          ∙ inv.told;
      so_far = omega arith;
      room = omega arith;
    }
