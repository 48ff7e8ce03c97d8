use Rattle.dn_history.proofs.Words.{◌++◌}
use Rattle.dn_history.proofs.AuditSteps.{on_ok}
use Rattle.dn_history.proofs.file_audit.parts_audit.PartsAudit.take.Goals as goal

pub returns : goal.returns
returns c = on_ok c.audit_given.result (λ audits text so_far. audits (text ++ c.args.part.now) (record {
  entries = so_far.entries;
  read = c.in_ok-feed.ensures.ok text so_far.entries so_far.read;
  audited = rw c.feed.ensures.version so_far.audited;
})) c.audit_given.ensures
