use Rattle.dn_history.proofs.Words.{is_ok, refl, true, ◌∙◌, ◌≡◌}
use Rattle.dn_history.proofs.HistoryReading.{bad_entry, begins, end_read, entry_read}
use Rattle.dn_history.proofs.read.history.entries_left.Goals as goal

pub loop-entry-init : goal.loop-entry-init
loop-entry-init c = rw c.new-entries.ensures.items (begins c.args.reader.now.entries, refl)

pub loop-entry-preserved : goal.loop-entry-preserved
loop-entry-preserved c =
    let good : is_ok c.push.result ≡ true = c.if-is_err.ensures.negation in
    let taken = rw c.in-Ok-Some.field-0-is at c.in-Ok-Some.ensures.ok in
    let front = entry_read c.loop-entry.entries.items c.loop-entry.reader.entries c.next.new.self.entries c.in-Ok-Some.entry c.args.reader.now.entries taken c.loop-entry.invariant.0 in
    (rw (rw good at c.push.ensures.items) front, c.in-Ok-Some.ensures.rule ∙ c.loop-entry.invariant.1)

pub loop-entry-smaller : goal.loop-entry-smaller
loop-entry-smaller c = (rw c.in-Ok-Some.field-0-is at c.in-Ok-Some.ensures.after).1

pub returns-in-Ok-None-clause-ok : goal.returns-in-Ok-None-clause-ok
returns-in-Ok-None-clause-ok c =
    let ended = rw c.in-Ok-None.field-0-is at c.in-Ok-None.ensures.ok in
    end_read c.loop-entry.entries.items c.loop-entry.reader.entries c.args.reader.now.entries ended c.loop-entry.invariant.0

pub returns-in-Err-clause-err : goal.returns-in-Err-clause-err
returns-in-Err-clause-err c = bad_entry c.loop-entry.entries.items c.loop-entry.reader.entries c.in-Err.fault c.args.reader.now.entries c.in-Err.ensures.err c.loop-entry.invariant.0
