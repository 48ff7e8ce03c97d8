use Rattle.dn_records.proofs.Words.{Decides-eqb, None, Some, [], strip_prefix_is, sym, ◌∙◌, ◌∷◌}
use Rattle.dn_records.proofs.PlainLines.{at-end, at-front, at-mark, behind-front}
use Rattle.dn_records.proofs.records.line_start.Goals as goal

pub returns-in_default : goal.returns-in_default
returns-in_default c = at-end c.args.text.now c.in_default.len_below

pub returns-then-is_line_end : goal.returns-then-is_line_end
returns-then-is_line_end c = behind-front c.args.text.now c.in-len1-up.len_at_least (sym c.is_line_end.ensures ∙ c.if-is_line_end.true)

pub returns-in-Some : goal.returns-in-Some
returns-in-Some c =
    at-mark c.args.text.now c.in-Some.rest.now (strip_prefix_is Decides-eqb c.args.text.now (239 ∷ 187 ∷ 191 ∷ []) (Some c.in-Some.rest) c.in-Some.ensures.cases)

pub returns : goal.returns
returns c = at-front c.args.text.now (strip_prefix_is Decides-eqb c.args.text.now (239 ∷ 187 ∷ 191 ∷ []) None c.in_default-strip_prefix.ensures.cases)
