use Rattle.dn_history.proofs.Words.{[], refl}
use Rattle.dn_history.proofs.Found.{found-lawful}
use Rattle.dn_history.proofs.history_audit.audit_with_key.Goals as goal

pub returns-in-Ok-clause-ok : goal.returns-in-Ok-clause-ok
returns-in-Ok-clause-ok c = rw c.verdict-verdict.ensures (c.in-Ok.ensures.ok c.args.rule [] c.new-audit.ensures refl).found

pub returns-in-Ok-clause-lawful : goal.returns-in-Ok-clause-lawful
returns-in-Ok-clause-lawful c lawful =
    found-lawful c.args.rule c.args.entries.now c.verdict-verdict.result lawful (rw c.verdict-verdict.ensures (c.in-Ok.ensures.ok c.args.rule [] c.new-audit.ensures refl).found)

pub returns-in-Err-clause-err : goal.returns-in-Err-clause-err
returns-in-Err-clause-err c = c.in-Err.ensures.err c.args.rule [] c.new-audit.ensures refl
