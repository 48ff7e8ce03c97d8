use Rattle.dn_config.proofs.Vocabulary.{arith, common_steps, is_hash}
use Rattle.dn_config.proofs.Prefixes.{no_position}
use Rattle.dn_config.proofs.line.before_comment.Goals as goal

pub returns-clause-value : goal.returns-clause-value
returns-clause-value c =
    let e = no_position is_hash c.args.line.now _ c.loop-i-test.false c.loop-i.auto.i-end c.loop-i.invariant in
    grind (arith, common_steps, e)
