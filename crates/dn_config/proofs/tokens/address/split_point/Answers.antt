use Rattle.dn_config.proofs.Vocabulary.{refl, take_rest, ◌+◌, ◌∙◌}
use Rattle.dn_config.proofs.Points.{here, later, not_point, nowhere}
use Rattle.dn_config.proofs.tokens.address.split_point.Goals as goal

pub returns-then-byte-eq46 : goal.returns-then-byte-eq46
returns-then-byte-eq46 c =
    rw (take_rest c.args.text.now (c.loop-i.i + 1)) (here c.args.text.now c.loop-i.i c.loop-i-test.true c.if-byte-eq46.true c.loop-i.invariant)

pub loop-i-preserved : goal.loop-i-preserved
loop-i-preserved c = c.loop-i.invariant ∙ later c.args.text.now c.loop-i.i _ c.loop-i-test.true refl (not_point _ c.if-byte-eq46.false)

pub returns : goal.returns
returns c = nowhere c.args.text.now c.loop-i.i c.loop-i-test.false c.loop-i.invariant
