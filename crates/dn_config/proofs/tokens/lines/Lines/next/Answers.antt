use Rattle.dn_config.proofs.Vocabulary.{ap, arith, drop, eqb-false, eqb-true, length-drop, refl, sym, take, ◌∙◌}
use Rattle.dn_config.proofs.LineCuts.{no_lines, next_line}
use Rattle.dn_config.proofs.tokens.lines.Lines.next.Goals as goal

pub returns-then-is_empty : goal.returns-then-is_empty
returns-then-is_empty c = no_lines c.args.self.now.rest.now (eqb-true _ _ (sym c.is_empty.ensures ∙ c.if-is_empty.true))

pub returns : goal.returns
returns c =
    let some = eqb-false _ _ (sym c.is_empty.ensures ∙ c.if-is_empty.false) in
    let text = c.args.self.now.rest.now in (
      rw c.without_first.ensures (next_line text c.split_at.result.0.now c.split_at.result.1.now (omega (arith, some, c.split_at.ensures.front_len, c.split_at.ensures.back_len))
          (c.split_at.ensures.front ∙ ap (λ n. take n text) c.line_len.ensures.value) (c.split_at.ensures.back ∙ ap (λ n. drop n text) c.line_len.ensures.value)),
      refl,
      rw c.without_first.ensures (omega (arith, some, length-drop 1 c.split_at.result.1.now, c.split_at.ensures.back_len)),
    )
