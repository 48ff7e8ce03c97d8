use Rattle.dn_config.proofs.Vocabulary.{arith, sym}
use Rattle.dn_config.proofs.OptionSteps.{options_ok, options_err, options_done}
use Rattle.dn_config.proofs.options.read_options.Goals as goal

pub returns-in-Err : goal.returns-in-Err
returns-in-Err c = sym (options_err _ c.args.kind c.loop-word.options c.loop-word.words.position _ c.loop-word.invariant.0 _ _ _ _ _ c.in-Some.ensures.0 c.option_named-name.ensures
    c.is_left_out-left_out.ensures c.in-Err.ensures.reads)

pub loop-word-preserved : goal.loop-word-preserved
loop-word-preserved c = (
  rw c.with-options.ensures
      (options_ok _ c.args.kind c.loop-word.options c.loop-word.words.position _ c.loop-word.invariant.0 _ _ _ _ _ _ _ c.in-Some.ensures.0 c.option_named-name.ensures
      c.is_left_out-left_out.ensures c.in-Ok.ensures.reads),
  omega (arith, c.loop-word.invariant.1, c.in-Some.ensures.1, c.in-Some.ensures.2, c.in-Ok.ensures.behind),
)

pub returns : goal.returns
returns c = sym (options_done _ c.args.kind c.loop-word.options c.loop-word.words.position _ c.loop-word.invariant.0 c.in_default.ensures)
