use Rattle.dn_records.proofs.Words.{records_left, refl}
use Rattle.dn_records.proofs.ReadBack.{read-back}
use Rattle.dn_records.proofs.record_reader.RecordReader.new.Goals as goal

pub returns-clause-records : goal.returns-clause-records
unfolding records_left
returns-clause-records c =
    let made = c.from_reader-reader.ensures in
    rw (made.source, made.state) refl

pub returns-clause-reads_back : goal.returns-clause-reads_back
unfolding records_left
returns-clause-reads_back c = λ rows text filled plain.
    let made = c.from_reader-reader.ensures in
    rw (made.source, made.state) (rw text (read-back rows filled (rw text at plain)))
