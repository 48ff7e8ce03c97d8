use Rattle.dn_history.proofs.Words.{rule_of, ◌++◌, ◌∙◌}
use Rattle.dn_history.proofs.AuditSteps.{on_ok}
use Rattle.dn_history.proofs.file_audit.parts_audit.PartsAudit.audit_given.Goals as goal

pub returns : goal.returns
returns c = on_ok c.compare_all.result (λ audits text so_far. record {
  entries = so_far.entries ++ c.in_ok-entries.entries.items;
  read = c.in_ok-entries.ensures.ok text so_far.entries so_far.read;
  audited = rw (c.take.ensures.version, ← c.as_slice.ensures.value) (audits (rule_of c.args.self.now.parts.version) so_far.entries so_far.audited (c.given-first.ensures ∙ so_far.read.count));
}) c.compare_all.ensures.ok
