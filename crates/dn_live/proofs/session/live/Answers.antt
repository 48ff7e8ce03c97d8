use Rattle.dn_live.proofs.Words.{IfOk-weaker}
use Rattle.dn_live.proofs.Transcripts.{transcript, untyped}
use Rattle.dn_live.proofs.session.live.Goals as goal

pub returns-clause-ok : goal.returns-clause-ok
returns-clause-ok g c = IfOk-weaker c.serve-served.result _ _ (λ served h. untyped _ _ _ served h) c.serve-served.ensures.ok

pub returns-clause-lawful : goal.returns-clause-lawful
returns-clause-lawful g c = IfOk-weaker c.serve-served.result _ _ (λ served h. transcript _ _ _ served h) c.serve-served.ensures.ok
