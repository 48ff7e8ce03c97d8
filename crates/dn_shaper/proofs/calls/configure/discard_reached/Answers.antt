-- Active flows are discarded one after another, until none is left.
use Rattle.dn_shaper.proofs.Words.{DiscardsSome, FlowKey, List, arith, subst, ◌∙◌}
use Rattle.dn_shaper.proofs.Reached.{all-done, keeps-more, keeps-none, none-done, then-done}
use Rattle.dn_shaper.proofs.calls.configure.discard_reached.Goals as goal

pub loop-init : goal.loop-init
loop-init c = record {
  kept = c.requires.kept;
  within = λ n h. h;
  moves = omega arith;
  keeps = keeps-none c.args.parts.now;
  discards = none-done c.args.command.now c.args.parts.now.flows.keys c.args.parts.now;
}

pub loop-preserved : goal.loop-preserved
loop-preserved c =
    let old = c.args.parts.now in
    let before = c.loop.invariant in
    let mid = c.loop.parts in
    let new = c.discard_next.new.parts in
    let done = c.discard_next.ensures in
    record {
      kept = done.kept;
      within = λ n h. done.within n (before.within n h);
      moves = let a = before.moves in let b = done.moves in omega arith;
      keeps = keeps-more old mid new before.keeps done.keeps;
      discards = then-done c.args.command.now old.flows.keys old mid new before.discards
          (subst (λ (ks : List FlowKey). DiscardsSome c.args.command.now ks mid new) before.keeps.keys done.discards);
    }

-- None is left, and only room changed since the last.
pub returns-clause-discards : goal.returns-clause-discards
returns-clause-discards c =
    let old = c.args.parts.now in
    let mid = c.loop.parts in
    let new = c.discard_next.new.parts in
    let keys = c.loop.invariant.keeps.keys in
    all-done c.args.command.now old new (c.discard_next.ensures.keeps.keys ∙ keys)
    (then-done c.args.command.now old.flows.keys old mid new c.loop.invariant.discards
    (subst (λ (ks : List FlowKey). DiscardsSome c.args.command.now ks mid new) keys c.discard_next.ensures.discards)) (c.discard_next.ensures.none c.loop-test.false)

pub returns-clause-within : goal.returns-clause-within
returns-clause-within c = λ n h. c.discard_next.ensures.within n (c.loop.invariant.within n h)

pub returns-clause-moves : goal.returns-clause-moves
returns-clause-moves c = let a = c.loop.invariant.moves in let b = c.discard_next.ensures.moves in omega arith

pub returns-clause-keeps : goal.returns-clause-keeps
returns-clause-keeps c = keeps-more c.args.parts.now c.loop.parts c.discard_next.new.parts c.loop.invariant.keeps c.discard_next.ensures.keeps
