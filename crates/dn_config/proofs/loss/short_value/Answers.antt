use Rattle.dn_config.proofs.Vocabulary.{arith, ◌∙◌}
use Rattle.dn_config.proofs.Ranges.{short_ok, short_err, short_bound}
use Rattle.dn_config.proofs.loss.short_value.Goals as goal

pub returns-in-Ok-clause-value : goal.returns-in-Ok-clause-value
returns-in-Ok-clause-value c = c.from.ensures ∙ short_ok c.args.digits.now _ c.in-Ok.value c.in-Ok.ensures.value

pub returns-in-Ok-clause-bound : goal.returns-in-Ok-clause-bound
returns-in-Ok-clause-bound c =
    let value = returns-in-Ok-clause-value c in
    rw value (short_bound c.args.digits.now c.requires.digits c.requires.short)

pub returns-in-Err-clause-value : goal.returns-in-Err-clause-value
returns-in-Err-clause-value c = short_err c.args.digits.now _ _ c.requires.digits c.requires.short (omega arith) c.in-Err.ensures.value
