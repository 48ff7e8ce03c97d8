-- One active flow is discarded, or there is none.
use Rattle.dn_shaper.proofs.Words.{DiscardsSome, FlowKey, List, arith, subst, ◌∙◌}
use Rattle.dn_shaper.proofs.Reached.{keeps-more, one-done, room-done, room-keeps, then-done}
use Rattle.dn_shaper.proofs.Reserved.{reserves-kept, reserves-within}
use Rattle.dn_shaper.proofs.calls.configure.discard_next.Goals as goal

pub discard_flow-requires-clause-kept : goal.discard_flow-requires-clause-kept
discard_flow-requires-clause-kept c = reserves-kept c.args.parts.now c.next_reached.new.parts c.next_reached.ensures.only c.args.heap.now c.requires.kept

pub discard_flow-requires-clause-within : goal.discard_flow-requires-clause-within
discard_flow-requires-clause-within c =
    let many = (reserves-kept c.args.parts.now c.next_reached.new.parts c.next_reached.ensures.only c.args.heap.now c.requires.kept).agrees.2.as_many in
    let lt = c.in-Some.ensures.within in
    omega arith

pub returns-in-Some-clause-discards : goal.returns-in-Some-clause-discards
returns-in-Some-clause-discards c =
    let old = c.args.parts.now in
    let mid = c.next_reached.new.parts in
    let new = c.discard_flow.new.parts in
    let r = c.in-Some.ensures.reached in
    let keys = c.next_reached.ensures.only.keys in
    then-done c.args.command.now old.flows.keys old mid new (room-done c.args.command.now old.flows.keys old mid c.next_reached.ensures.only)
    (subst (λ (ks : List FlowKey). DiscardsSome c.args.command.now ks mid new) keys (one-done c.args.command.now mid.flows.keys c.in-Some.flow r.0 mid new r.1 r.2 c.discard_flow.ensures.discards))

pub returns-in-Some-clause-fewer : goal.returns-in-Some-clause-fewer
returns-in-Some-clause-fewer c = λ t. c.discard_flow.ensures.fewer c.in-Some.ensures.active ∙ c.next_reached.ensures.count

pub returns-in-Some-clause-within : goal.returns-in-Some-clause-within
returns-in-Some-clause-within c = λ n w. c.discard_flow.ensures.within n (reserves-within c.args.parts.now c.next_reached.new.parts c.next_reached.ensures.only n w)

pub returns-in-Some-clause-moves : goal.returns-in-Some-clause-moves
returns-in-Some-clause-moves c =
    let a = c.next_reached.ensures.only.waiting in
    let b = c.discard_flow.ensures.waiting in
    let m = c.discard_flow.ensures.moves in
    omega arith

pub returns-in-Some-clause-keeps : goal.returns-in-Some-clause-keeps
returns-in-Some-clause-keeps c =
    keeps-more c.args.parts.now c.next_reached.new.parts c.discard_flow.new.parts (room-keeps c.args.parts.now c.next_reached.new.parts c.next_reached.ensures.only)
    c.discard_flow.ensures.keeps

pub returns-in-None-clause-discards : goal.returns-in-None-clause-discards
returns-in-None-clause-discards c = room-done c.args.command.now c.args.parts.now.flows.keys c.args.parts.now c.next_reached.new.parts c.next_reached.ensures.only

pub returns-in-None-clause-kept : goal.returns-in-None-clause-kept
returns-in-None-clause-kept c = reserves-kept c.args.parts.now c.next_reached.new.parts c.next_reached.ensures.only c.args.heap.now c.requires.kept

pub returns-in-None-clause-within : goal.returns-in-None-clause-within
returns-in-None-clause-within c = reserves-within c.args.parts.now c.next_reached.new.parts c.next_reached.ensures.only

pub returns-in-None-clause-moves : goal.returns-in-None-clause-moves
returns-in-None-clause-moves c = let a = c.next_reached.ensures.only.waiting in omega arith

pub returns-in-None-clause-keeps : goal.returns-in-None-clause-keeps
returns-in-None-clause-keeps c = room-keeps c.args.parts.now c.next_reached.new.parts c.next_reached.ensures.only
