use Rattle.dn_history.proofs.Words.{rule_of, sym, ◌∙◌}
use Rattle.dn_history.proofs.FileAuditSteps.{of_history, of_left}
use Rattle.dn_history.proofs.file_audit.parts_audit.PartsAudit.end.Goals as goal

pub returns-in-Ok-clause-ok : goal.returns-in-Ok-clause-ok
returns-in-Ok-clause-ok c = λ text so_far.
    let rule = rule_of c.args.self.now.parts.version in
    let reader = c.finish-reader.result in
    let audited = c.in-Ok.ensures.ok rule so_far.entries so_far.audited (c.finish-reader.ensures.given ∙ so_far.read.count) in
    of_history text so_far.entries reader rule c.audit_entries.new.audit c.verdict.result c.given.result c.audit_entries.new.reader.given
    (c.finish-reader.ensures.left text so_far.entries so_far.read) (sym c.finish-reader.ensures.rule) audited c.verdict.ensures c.given.ensures

pub returns-clause-err : goal.returns-clause-err
returns-clause-err c = λ text so_far. of_left text so_far.entries c.finish-reader.result c.in-Err.fault (c.finish-reader.ensures.left text so_far.entries so_far.read) c.in-Err.ensures.err
