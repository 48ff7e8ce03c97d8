-- Keys go until the first one counts.
use Rattle.dn_shaper.proofs.LeftSteps.{keeps-more, keeps-none}
use Rattle.dn_shaper.proofs.links.leaving.drop_first.Goals as goal

pub loop-init : goal.loop-init
loop-init c = record { kept = c.requires.kept; keeps = keeps-none c.args.heap.now c.args.emptied.now }

pub loop-preserved : goal.loop-preserved
loop-preserved c = record {
  kept = c.drop_one.ensures.kept;
  keeps = keeps-more c.args.heap.now c.loop.heap c.drop_one.new.heap c.args.emptied.now c.loop.emptied c.drop_one.new.emptied c.loop.invariant.keeps c.drop_one.ensures.keeps;
}

pub returns-clause-keeps : goal.returns-clause-keeps
returns-clause-keeps c =
    keeps-more c.args.heap.now c.loop.heap c.drop_one.new.heap c.args.emptied.now c.loop.emptied c.drop_one.new.emptied c.loop.invariant.keeps c.drop_one.ensures.keeps
