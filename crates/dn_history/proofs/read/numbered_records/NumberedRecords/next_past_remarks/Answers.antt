use Rattle.dn_history.proofs.Words.{ahead, arith, fields_of, has_remarks}
use Rattle.dn_history.proofs.HistoryReading.{missing, took, wide}
use Rattle.dn_history.proofs.read.numbered_records.NumberedRecords.next_past_remarks.Goals as goal

pub returns-then-not-found-clause-err : goal.returns-then-not-found-clause-err
returns-then-not-found-clause-err c =
    rw (← c.self.view_is) (missing c.self.inside.number (ahead (has_remarks c.args.version) c.self.inside.records) c.read_past_remarks.new.records (fields_of c.read_past_remarks.new.fields)
    (rw c.if-not-found.true at c.in-Ok.ensures.ok))

pub returns-then-len-ge-TOO_MANY-clause-err : goal.returns-then-len-ge-TOO_MANY-clause-err
returns-then-len-ge-TOO_MANY-clause-err c =
    rw (← c.self.view_is) (wide c.self.inside.number (ahead (has_remarks c.args.version) c.self.inside.records) c.read_past_remarks.new.records (fields_of c.read_past_remarks.new.fields)
    (rw c.if-not-found.false at c.in-Ok.ensures.ok) (omega (arith, c.if-len-ge-TOO_MANY.true, c.len.ensures)))

pub returns-clause-ok : goal.returns-clause-ok
returns-clause-ok c =
    rw (← c.self.view_is) (took c.self.inside.number (ahead (has_remarks c.args.version) c.self.inside.records) c.read_past_remarks.new.records (fields_of c.read_past_remarks.new.fields)
    (rw c.if-not-found.false at c.in-Ok.ensures.ok) (omega (arith, c.if-len-ge-TOO_MANY.false, c.len.ensures)))
