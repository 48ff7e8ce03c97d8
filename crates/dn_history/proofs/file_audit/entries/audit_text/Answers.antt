use Rattle.dn_history.proofs.Words.{[]}
use Rattle.dn_history.proofs.FileAuditSteps.{of_history}
use Rattle.dn_history.proofs.file_audit.entries.audit_text.Goals as goal

pub returns-in-Ok-outcome-clause-ok : goal.returns-in-Ok-outcome-clause-ok
returns-in-Ok-outcome-clause-ok c =
    let audited = c.in-Ok-outcome.ensures.ok c.rule-rule.result [] c.new-audit.ensures c.in-Ok.ensures.given in
    of_history c.args.text.now [] c.in-Ok.reader c.rule-rule.result c.audit_entries-outcome.new.audit c.verdict-verdict.result c.given.result c.audit_entries-outcome.new.reader.given
    c.in-Ok.ensures.ok c.rule-rule.ensures audited c.verdict-verdict.ensures c.given.ensures
