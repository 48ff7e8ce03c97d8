use Rattle.dn_history.proofs.Words.{[], arith, refl, ◌++◌, ◌∙◌, ◌∷◌}
use Rattle.dn_history.proofs.HistoryReading.{bad_entry, begins, entry_read}
use Rattle.dn_history.proofs.AuditSteps.{when_ok}
use Rattle.dn_history.proofs.FileAuditSteps.{all-audited, counted-behind, counted-more, one-behind, none-behind}
use Rattle.dn_history.proofs.file_audit.entries.audit_entries.Goals as goal

pub loop-entry-init : goal.loop-entry-init
loop-entry-init c = ([], begins c.args.reader.now.entries, omega arith, refl, λ rule before audited is. none-behind rule c.args.audit.now before audited)

pub loop-entry-preserved : goal.loop-entry-preserved
loop-entry-preserved c =
    let (front, so_far, counted, same, audited) = c.loop-entry.invariant in
    let e = c.in-Ok-Some.entry in
    let start = c.args.reader.now.given in
    let taken = rw c.in-Ok-Some.field-0-is at c.in-Ok-Some.ensures.ok in
    let after = rw c.in-Ok-Some.field-0-is at c.in-Ok-Some.ensures.after in (
      front ++ e ∷ [],
      entry_read front c.loop-entry.reader.entries c.next.new.self.entries e c.args.reader.now.entries taken so_far,
      counted-more front e start c.loop-entry.reader.given c.next.new.self.given after.0 counted,
      c.in-Ok-Some.ensures.rule ∙ same,
      λ rule before new is. one-behind rule before front e c.compare-outcome.new.self
          (when_ok c.compare-outcome.result c.if-is_err.ensures.negation c.compare-outcome.ensures.ok rule (before ++ front) (audited rule before new is)
          (c.given-index.ensures ∙ counted-behind before front start c.loop-entry.reader.given counted is)),
    )

pub loop-entry-smaller : goal.loop-entry-smaller
loop-entry-smaller c = (rw c.in-Ok-Some.field-0-is at c.in-Ok-Some.ensures.after).1

pub returns-in-Ok-None-clause-ok : goal.returns-in-Ok-None-clause-ok
returns-in-Ok-None-clause-ok c = λ rule before new is.
    let (front, so_far, counted, same, audited) = c.loop-entry.invariant in
    let none = rw c.in-Ok-None.field-0-is at c.in-Ok-None.ensures.ok in
    let after = rw c.in-Ok-None.field-0-is at c.in-Ok-None.ensures.after in
    all-audited rule before front c.loop-entry.reader.entries c.args.reader.now.entries c.loop-entry.audit c.next.new.self.given
    (after.0 ∙ counted-behind before front c.args.reader.now.given c.loop-entry.reader.given counted is) none so_far (audited rule before new is)

pub returns-in-Ok-None-clause-rule : goal.returns-in-Ok-None-clause-rule
returns-in-Ok-None-clause-rule c = let (front, so_far, counted, same, audited) = c.loop-entry.invariant in c.in-Ok-None.ensures.rule ∙ same

pub returns-in-Err-clause-err : goal.returns-in-Err-clause-err
returns-in-Err-clause-err c =
    let (front, so_far, counted, same, audited) = c.loop-entry.invariant in
    bad_entry front c.loop-entry.reader.entries c.in-Err.fault c.args.reader.now.entries c.in-Err.ensures.err so_far
