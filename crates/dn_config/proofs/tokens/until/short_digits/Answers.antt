use Rattle.dn_config.proofs.Vocabulary.{ap, arith, below_more, get_or, get_or-take, is_ascii_digit, length-take, sym, take, ◌∙◌}
use Rattle.dn_config.proofs.Shorts.{below_power, counted, digit_small, step_is_small, value_grows, valued}
use Rattle.dn_config.proofs.tokens.until.short_digits.Goals as goal

pub overflow_mul-value : goal.overflow_mul-value
overflow_mul-value c =
    let count = length-take c.args.most c.args.text.now in
    let small = step_is_small c.loop-i.value 0 c.loop-i.i c.loop-i.invariant.2 (omega arith) (omega arith) in
    omega arith

pub overflow_add-value : goal.overflow_add-value
overflow_add-value c =
    let count = length-take c.args.most c.args.text.now in
    let digit = digit_small (get_or (take c.args.most c.args.text.now) c.loop-i.i 0) c.in-Some.ensures.0 in
    let is = c.in-Some.ensures.1 in
    let small = step_is_small c.loop-i.value c.in-Some.digit c.loop-i.i c.loop-i.invariant.2 (omega arith) (omega arith) in
    omega arith

pub loop-i-preserved : goal.loop-i-preserved
loop-i-preserved c =
    let digit = digit_small (get_or (take c.args.most c.args.text.now) c.loop-i.i 0) c.in-Some.ensures.0 in
    let is = c.in-Some.ensures.1 in (
      below_more _ _ c.loop-i.invariant.0 c.in-Some.ensures.0,
      value_grows (take c.args.most c.args.text.now) c.loop-i.i c.loop-i.value c.in-Some.digit c.loop-i-test.true c.in-Some.ensures.0 c.loop-i.invariant.1 is,
      below_power c.loop-i.value c.in-Some.digit c.loop-i.i c.loop-i.invariant.2 (omega arith),
    )

pub returns-in_default-clause-count : goal.returns-in_default-clause-count
returns-in_default-clause-count c =
    let count = length-take c.args.most c.args.text.now in
    counted c.args.text.now c.args.most c.loop-i.i c.loop-i.auto.i-end c.loop-i.invariant.0
    (λ l. ap is_ascii_digit (sym (get_or-take c.args.most c.args.text.now c.loop-i.i 0 (omega arith))) ∙ c.in_default.ensures)

pub returns-in_default-clause-value : goal.returns-in_default-clause-value
returns-in_default-clause-value c =
    let count = length-take c.args.most c.args.text.now in
    valued c.args.text.now c.args.most c.loop-i.i c.loop-i.auto.i-end c.loop-i.invariant.0
    (λ l. ap is_ascii_digit (sym (get_or-take c.args.most c.args.text.now c.loop-i.i 0 (omega arith))) ∙ c.in_default.ensures) c.loop-i.value c.loop-i.invariant.1
