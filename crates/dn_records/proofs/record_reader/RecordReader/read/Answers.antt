use Rattle.dn_records.proofs.Words.{fields_of, records_left, refl}
use Rattle.dn_records.proofs.RecordSteps.{reads, shorter}
use Rattle.dn_records.proofs.record_reader.RecordReader.read.Goals as goal

pub returns-then-self-clause-ok : goal.returns-then-self-clause-ok
unfolding records_left
returns-then-self-clause-ok c = rw (← c.self.view_is, c.if-self.true) (refl, refl)

pub returns-in_default-clause-err : goal.returns-in_default-clause-err
unfolding records_left
returns-in_default-clause-err c = refl

pub invariant_of-self-2 : goal.invariant_of-self-2
invariant_of-self-2 c =
    let a = c.self.inside.reader in
    let reading = c.self.invariant c.if-self.false in
    let e = c.in-Ok.ensures in
    (reads a c.read_byte_record.new.self c.in-Ok.found (fields_of c.read_byte_record.new.row) reading (e.ready reading.plain) e.flexible (e.reads reading.plain reading.ready)).1

pub returns-clause-ok : goal.returns-clause-ok
returns-clause-ok c =
    let a = c.self.inside.reader in
    let reading = c.self.invariant c.if-self.false in
    let e = c.in-Ok.ensures in
    rw (← c.self.view_is, c.if-self.false)
    ((reads a c.read_byte_record.new.self c.in-Ok.found (fields_of c.read_byte_record.new.row) reading (e.ready reading.plain) e.flexible (e.reads reading.plain reading.ready)).0)

pub returns-clause-shorter : goal.returns-clause-shorter
returns-clause-shorter c = shorter c.args.self.now _ c.in-Ok.found (fields_of c.read_byte_record.new.row) (returns-clause-ok c)
