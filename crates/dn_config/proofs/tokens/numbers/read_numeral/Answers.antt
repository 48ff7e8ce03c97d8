use Rattle.dn_config.proofs.Vocabulary.{ap, arith, below_more, digit_value, eqb-false, sym, ◌+◌, ◌∙◌}
use Rattle.dn_config.proofs.Capping.{value_more, whole_above, whole_in, step_fits}
use Rattle.dn_config.proofs.tokens.numbers.read_numeral.Goals as goal

pub overflow_mul-value : goal.overflow_mul-value
overflow_mul-value c =
    let fits = step_fits c.loop-byte.value (c.from-beyond.result + 1) c.from-in-loop-byte.result 0 (omega (arith, c.loop-byte.invariant.1)) (omega arith) (omega arith) (omega arith) in
    omega arith

pub overflow_add-value : goal.overflow_add-value
overflow_add-value c =
    let fits = step_fits c.loop-byte.value (c.from-beyond.result + 1) c.from-in-loop-byte.result c.from-in-loop-byte-2.result (omega (arith, c.loop-byte.invariant.1)) (omega arith) (omega arith)
    (omega (arith, c.in-Some.ensures.value)) in
    omega arith

pub loop-byte-preserved : goal.loop-byte-preserved
loop-byte-preserved c = (
  below_more _ _ c.loop-byte.invariant.0 (rw c.from.ensures at c.in-Some.ensures.value.0),
  rw (c.min-value.ensures, c.from-in-loop-byte.ensures, c.from-in-loop-byte-2.ensures)
      (value_more c.args.radix (c.from-beyond.result + 1) c.args.text.now c.loop-byte.byte-index c.loop-byte.value c.in-Some.digit (omega arith) c.loop-byte-test.true c.loop-byte.invariant.1
      (c.in-Some.ensures.value.1 ∙ ap digit_value c.from.ensures)),
)

pub returns-then-value-beyond-clause-value : goal.returns-then-value-beyond-clause-value
returns-then-value-beyond-clause-value c =
    let nonempty = eqb-false _ _ (sym c.is_empty.ensures ∙ c.if-is_empty.false) in
    whole_above c.args.radix c.args.greatest c.args.text.now c.loop-byte.byte-index c.loop-byte.value c.loop-byte-test.false
    c.loop-byte.auto.byte-index-end (omega (arith, nonempty)) c.loop-byte.invariant.0
    (rw c.from-beyond.ensures at c.loop-byte.invariant.1) (rw c.from-beyond.ensures at c.if-value-beyond.true)

pub returns-clause-value : goal.returns-clause-value
returns-clause-value c =
    let nonempty = eqb-false _ _ (sym c.is_empty.ensures ∙ c.if-is_empty.false) in
    whole_in c.args.radix c.args.greatest c.args.text.now c.loop-byte.byte-index c.loop-byte.value c.loop-byte-test.false
    c.loop-byte.auto.byte-index-end (omega (arith, nonempty)) c.loop-byte.invariant.0
    (rw c.from-beyond.ensures at c.loop-byte.invariant.1) (rw c.from-beyond.ensures at c.if-value-beyond.false)
