-- What is answered of a shaper before its first call is answered of the new one.
use Rattle.dn_shaper.proofs.Words.{IfOk-weaker}
use Rattle.dn_shaper.proofs.runs.run.Goals as goal

pub returns : goal.returns
returns c = IfOk-weaker c.answer_all-replies.result _ _ (λ list told. told c.new-shaper.ensures) c.answer_all-replies.ensures
