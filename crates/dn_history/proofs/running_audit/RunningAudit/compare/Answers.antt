use Rattle.dn_history.proofs.Words.{[], calls_of, on_err, sym, ◌∙◌, ◌∷◌}
use Rattle.dn_history.proofs.AuditSteps.{after-difference, alike, differing, is-lawful, wants}
use Rattle.dn_history.proofs.SameReplies.{other-reply, same-reply}
use Rattle.dn_history.proofs.running_audit.RunningAudit.compare.Goals as goal
use Rattle.dn_history.proofs.running_audit.RunningAudit.compare.Goals.{then-ne, else-ne}

-- An entry differs already.
pub returns-in-Differs-clause-ok : goal.returns-in-Differs-clause-ok
returns-in-Differs-clause-ok c = λ rule history audited counted. after-difference rule history (c.args.entry.now ∷ []) c.args.self.now c.in-Differs.field-0 c.in-Differs.is audited

-- The shaper was refused memory.
pub returns-in_err-reply-clause-err : goal.returns-in_err-reply-clause-err
returns-in_err-reply-clause-err c = on_err c.from_residual.result (λ rule history audited.
    let none = is-lawful c.args.self.now.verdict c.in_default.not-Differs in
    wants rule history c.args.entry.now (rw none at audited.found) (c.in_err-reply.ensures.needs rule (calls_of history) (audited.stands none)))

pub returns-clause-ok : goal.returns-clause-ok
returns-clause-ok c = λ rule history audited counted.
    let e = c.args.entry.now in
    let none = is-lawful c.args.self.now.verdict c.in_default.not-Differs in
    let lawful = rw none at audited.found in
    let step = c.in_ok-reply.ensures.ok rule (calls_of history) (audited.stands none) in
    elim c.if-ne.branch [
      | then-ne w ↦
          rw (w.self-is, counted) (differing rule history e c.apply.new.self lawful (λ is. other-reply c.in_ok-reply.reply e.reply c.ne.result c.ne.ensures w.if-ne.true (step.0 ∙ sym is)))
      | else-ne w ↦
          rw (w.self-is, none) (alike rule history e c.apply.new.self lawful (sym (same-reply c.in_ok-reply.reply e.reply c.ne.result c.ne.ensures w.if-ne.false) ∙ step.0) step.1)
    ]
