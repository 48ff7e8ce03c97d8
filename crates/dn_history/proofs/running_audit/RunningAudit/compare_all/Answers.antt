use Rattle.dn_history.proofs.Words.{Entry, HasAudited, List, append-nil, on_err, subst, sym}
use Rattle.dn_history.proofs.AuditSteps.{all-audited, counted-on, next-audited, wants-later}
use Rattle.dn_history.proofs.running_audit.RunningAudit.compare_all.Goals as goal

pub loop-place-init : goal.loop-place-init
loop-place-init c = λ rule front audited is. subst (λ (es : List Entry). HasAudited rule c.args.self.now es) (sym (append-nil front)) audited

-- Memory was refused for the call of an entry.
pub returns-in_err-compare-clause-err : goal.returns-in_err-compare-clause-err
returns-in_err-compare-clause-err c = on_err c.from_residual.result (λ rule front audited is.
    wants-later rule front c.args.entries.now c.loop-place.place c.index-entries-place.result c.loop-place-test.true c.index-entries-place.is
    (c.in_err-compare.ensures.err rule _ (c.loop-place.invariant rule front audited is)))

pub loop-place-preserved : goal.loop-place-preserved
loop-place-preserved c = λ rule front audited is.
    let at = counted-on rule front c.args.entries.now c.loop-place.place c.index-entries-place.result c.loop-place-test.true c.index-entries-place.is c.args.first is in
    next-audited rule front c.args.entries.now c.loop-place.place c.index-entries-place.result c.loop-place-test.true c.index-entries-place.is c.compare.new.self
    (c.in_ok-compare.ensures.ok rule _ (c.loop-place.invariant rule front audited is) at)

pub returns-clause-ok : goal.returns-clause-ok
returns-clause-ok c = λ rule front audited is. all-audited rule front c.args.entries.now c.loop-place.place c.loop-place.self c.loop-place-test.false (c.loop-place.invariant rule front audited is)
