-- The loop makes the starts of the settling, one by one, until none is due.
use Rattle.dn_shaper.proofs.Words.{Parts, settings_of, subst, sym}
use Rattle.dn_shaper.proofs.Settles.{Reaches}
use Rattle.dn_shaper.proofs.Settles.{only-none, only-more, reaches-start, reaches-one, reaches-none}
use Rattle.dn_shaper.proofs.links.settle.settle_due.Goals as goal

pub loop-init : goal.loop-init
loop-init c = record { kept = c.requires.kept; only = only-none c.args.parts.now c.args.heap.now; reached = reaches-start (settings_of c.args.configured.now) c.args.at c.args.parts.now }

pub loop-preserved : goal.loop-preserved
loop-preserved c = record {
  kept = c.settle_one.ensures.kept;
  only = only-more c.args.parts.now c.loop.parts c.settle_one.new.parts c.args.heap.now c.loop.heap c.settle_one.new.heap c.loop.invariant.only c.settle_one.ensures.only;
  reached = reaches-one (settings_of c.args.configured.now) c.args.at c.args.parts.now c.loop.parts c.settle_one.new.parts c.loop.invariant.reached (c.settle_one.ensures.one c.loop-test.true);
}

pub returns-clause-only : goal.returns-clause-only
returns-clause-only c = only-more c.args.parts.now c.loop.parts c.settle_one.new.parts c.args.heap.now c.loop.heap c.settle_one.new.heap c.loop.invariant.only c.settle_one.ensures.only

pub returns-clause-settled : goal.returns-clause-settled
returns-clause-settled c =
    reaches-none (settings_of c.args.configured.now) c.args.at c.args.parts.now c.settle_one.new.parts
    (subst (λ (p : Parts). Reaches (settings_of c.args.configured.now) c.args.at c.args.parts.now p) (sym (c.settle_one.ensures.same c.loop-test.false)) c.loop.invariant.reached)
    (c.settle_one.ensures.none c.loop-test.false)
