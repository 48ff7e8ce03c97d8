-- Each new place has none under it.
use Rattle.dn_shaper.proofs.Words.{ap, arith, at_number, unboxed, ◌∙◌}
use Rattle.dn_shaper.proofs.Numbered.{one-place}
use Rattle.dn_shaper.proofs.settings.commands.Commands.extend.Goals as goal

pub loop-self-preserved : goal.loop-self-preserved
loop-self-preserved c = record {
  same = λ n. ap (λ places. at_number (unboxed places) n) c.push_reserved.ensures.items ∙ one-place c.loop-self.self-inside.places.items n ∙ c.loop-self.invariant.same n;
  room = let capacity = c.push_reserved.ensures.capacity in let room = c.loop-self.invariant.room in omega arith;
}

pub returns-after-loop-self-clause-same : goal.returns-after-loop-self-clause-same
returns-after-loop-self-clause-same c n =
    c.loop-self.invariant.same n ∙ ap (λ places. at_number (unboxed places) n) c.reserve.ensures.items ∙ ap (λ kept. at_number kept n) c.self.view_is
