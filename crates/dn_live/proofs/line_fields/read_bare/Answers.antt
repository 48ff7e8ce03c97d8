use Rattle.dn_live.proofs.Words.{Decides-eqb, IfOk-weaker, Some, [], strip_suffix_is, ◌∷◌}
use Rattle.dn_live.proofs.LineReturns.{returned}
use Rattle.dn_live.proofs.line_fields.read_bare.Goals as goal

pub returns-in-Some-clause-read : goal.returns-in-Some-clause-read
returns-in-Some-clause-read c =
    let is = strip_suffix_is Decides-eqb c.args.line.now (13 ∷ []) (Some c.in-Some.front) c.in-Some.ensures.cases in
    IfOk-weaker c.read_before_return.result _ _ (λ plain read yes. rw (returned c.args.line.now c.in-Some.front.now is, is) (read yes)) c.read_before_return.ensures

pub returns-in-Some-clause-left : goal.returns-in-Some-clause-left
returns-in-Some-clause-left c =
    let is = strip_suffix_is Decides-eqb c.args.line.now (13 ∷ []) (Some c.in-Some.front) c.in-Some.ensures.cases in
    IfOk-weaker c.read_before_return.result _ _ (λ plain read other. returned c.args.line.now c.in-Some.front.now is) c.read_before_return.ensures
