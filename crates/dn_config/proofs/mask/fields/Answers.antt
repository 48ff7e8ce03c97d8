use Rattle.dn_config.proofs.Vocabulary.{arith, err_from_is_err_and, left, sym, ◌∙◌}
use Rattle.dn_config.proofs.MaskSteps.{fields_ok, fields_err, fields_stop, fields_left, fields_done}
use Rattle.dn_config.proofs.mask.fields.Goals as goal

pub returns-in_err-mask : goal.returns-in_err-mask
returns-in_err-mask c =
    let p = err_from_is_err_and c.from_residual.result c.from_residual.ensures.1 in
    rw (p.1, p.2) (record {
      reads = fields_err _ c.loop-word.mask c.loop-word.words.position _ c.loop-word.invariant.0 _ _ _ _ c.in-Some.ensures.0 c.in-Some-field_named.ensures
          c.in_err-mask.ensures.reads;
      behind = tt;
    })

pub loop-word-preserved : goal.loop-word-preserved
loop-word-preserved c = (
  fields_ok _ c.loop-word.mask c.loop-word.words.position _ c.loop-word.invariant.0 c.in-Some.word.now
      (left c.in-Some.behind) c.in-Some-field_named.named c.in_ok-mask.field-0-0 c.in_ok-mask.field-0-1.position
      (left c.in_ok-mask.field-0-1) c.in-Some.ensures.0 c.in-Some-field_named.ensures c.in_ok-mask.ensures.reads,
  (
    omega (arith, c.loop-word.invariant.1, c.in-Some.ensures.2, c.in_ok-mask.ensures.behind),
    omega
        (arith, c.loop-word.invariant.1, c.in-Some.ensures.1, c.in-Some.ensures.2, c.in_ok-mask.ensures.behind),
  ),
  omega (arith, c.loop-word.invariant.2, c.in-Some.ensures.1, c.in-Some.ensures.2, c.in_ok-mask.ensures.behind),
)

pub returns-then-is_left_out-clause-reads : goal.returns-then-is_left_out-clause-reads
returns-then-is_left_out-clause-reads c =
    fields_left _ c.loop-word.mask c.loop-word.words.position _ c.loop-word.invariant.0 c.in-Some.word.now (left c.in-Some.behind) c.in-Some.ensures.0 c.in_default-field_named.ensures
    (sym c.is_left_out.ensures ∙ c.if-is_left_out.true)

pub returns-else-is_left_out-clause-reads : goal.returns-else-is_left_out-clause-reads
returns-else-is_left_out-clause-reads c =
    fields_stop _ c.loop-word.mask c.loop-word.words.position _ c.loop-word.invariant.0 c.in-Some.word.now (left c.in-Some.behind) c.in-Some.ensures.0 c.in_default-field_named.ensures
    (sym c.is_left_out.ensures ∙ c.if-is_left_out.false)

pub returns-clause-reads : goal.returns-clause-reads
returns-clause-reads c = fields_done _ c.loop-word.mask c.loop-word.words.position _ c.loop-word.invariant.0 c.in_default.ensures
