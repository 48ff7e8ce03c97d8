use Rattle.dn_history.proofs.Words.{IfErr-weaker, on_ok_weaker, refl}
use Rattle.dn_history.proofs.file_audit.file_audit.FileAudit.read.Goals as goal

pub returns-clause-ok : goal.returns-clause-ok
returns-clause-ok g c =
    on_ok_weaker c.feed_all.result (λ came. let (text, is, come) = came in (text, is, (come c.args.self.now.limit (c.requires.come, refl)).0)) c.feed_all.ensures.ok

pub returns-clause-limit : goal.returns-clause-limit
returns-clause-limit g c = on_ok_weaker c.feed_all.result (λ came. let (text, is, come) = came in (come c.args.self.now.limit (c.requires.come, refl)).1) c.feed_all.ensures.ok

pub returns-clause-err : goal.returns-clause-err
returns-clause-err g c = IfErr-weaker c.feed_all.result _ _ (λ fault refused. refused c.args.self.now.limit (c.requires.come, refl)) c.feed_all.ensures.err
