-- The settling is all that the call makes happen.
use Rattle.dn_shaper.proofs.Words.{ap, arith, max, refl, ◌+◌, ◌∙◌}
use Rattle.dn_shaper.proofs.Rooms.{keeps-room}
use Rattle.dn_shaper.proofs.Standing.{advanced, advanced-sound}
use Rattle.dn_shaper.proofs.calls.advance.advance.Goals as goal

pub returns-clause-does : goal.returns-clause-does
returns-clause-does c = advanced c.args.state.now c.settle.new.parts c.settle.new.heap c.max-at.result c.args.moment
    (c.max-at.ensures ∙ ap (λ n. max c.args.state.now.now n) c.get.ensures.value) c.settle.ensures.settled c.settle.ensures.only

pub returns-clause-sound : goal.returns-clause-sound
returns-clause-sound c = advanced-sound c.args.state.now c.settle.new.parts c.settle.new.heap c.max-at.result c.args.moment
    (c.max-at.ensures ∙ ap (λ n. max c.args.state.now.now n) c.get.ensures.value) c.settle.ensures.settled c.settle.ensures.only c.requires.sound c.settle.ensures.kept
    (let v = c.get.ensures.value in let r = c.get.ensures.in_range in omega arith)

pub returns-clause-leaves : goal.returns-clause-leaves
returns-clause-leaves c = keeps-room c.args.state.now (record {
  parts = c.settle.new.parts;
  heap = c.settle.new.heap;
  shared = c.args.state.now.shared;
  configured = c.args.state.now.configured;
  now = c.max-at.result;
  calls = c.args.state.now.calls + 1;
})
    refl c.settle.ensures.only.keys c.settle.ensures.only.ready
