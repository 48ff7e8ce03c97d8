-- What is due after the settling is given.
use Rattle.dn_shaper.proofs.Words.{Delivery, List, ap, arith, filter, max, nat_le, refl, ◌++◌, ◌+◌, ◌∙◌}
use Rattle.dn_shaper.proofs.Rooms.{keeps-room, with-line}
use Rattle.dn_shaper.proofs.Standing.{collects, collects-sound}
use Rattle.dn_shaper.proofs.calls.collect.gather.Goals as goal

pub overflow_add-len : goal.overflow_add-len
overflow_add-len c = let a = c.requires.sound.within.sums in let b = c.len.ensures in let f = c.requires.few in omega arith

pub returns-clause-does : goal.returns-clause-does
returns-clause-does c = collects c.args.state.now c.settle.new.parts c.settle.new.heap c.max-at.result c.args.moment
    (c.max-at.ensures
    ∙ ap
    (λ n. max c.args.state.now.now n) c.get.ensures.value) c.settle.ensures.settled c.settle.ensures.only c.give.new.line c.give.ensures.rest
    c.give.ensures.keeps_room c.give.ensures.pushed c.give.new.list.items
    (c.give.ensures.given
    ∙ ap (λ (ds : List Delivery). ds ++ filter (λ d. nat_le d.due c.max-at.result) c.settle.new.parts.line.pending) (c.reserve.ensures.items ∙ c.clear.ensures.items))

pub returns-clause-sound : goal.returns-clause-sound
returns-clause-sound c = collects-sound c.args.state.now c.settle.new.parts c.settle.new.heap c.max-at.result c.args.moment
    (c.max-at.ensures
    ∙ ap
    (λ n. max c.args.state.now.now n) c.get.ensures.value) c.settle.ensures.settled c.settle.ensures.only c.give.new.line c.give.ensures.rest
    c.give.ensures.keeps_room c.give.ensures.pushed c.requires.sound c.settle.ensures.kept
    (let v = c.get.ensures.value in let r = c.get.ensures.in_range in omega arith)

pub returns-clause-leaves : goal.returns-clause-leaves
returns-clause-leaves c =
    let p = c.settle.new.parts in
    keeps-room c.args.state.now
    (record {
      parts = record { rule = p.rule; accepted = p.accepted; flows = p.flows; links = p.links; waiting = p.waiting; line = c.give.new.line };
      heap = c.settle.new.heap;
      shared = c.args.state.now.shared;
      configured = c.args.state.now.configured;
      now = c.max-at.result;
      calls = c.args.state.now.calls + 1;
    })
    refl c.settle.ensures.only.keys (λ flow ready. with-line p c.give.new.line flow (c.settle.ensures.only.ready flow ready))
