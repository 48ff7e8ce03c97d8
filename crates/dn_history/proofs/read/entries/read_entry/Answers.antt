use Rattle.dn_history.proofs.NarrowRecords.{narrow-entry}
use Rattle.dn_history.proofs.read.entries.read_entry.Goals as goal

pub returns-in-Err-clause-err : goal.returns-in-Err-clause-err
returns-in-Err-clause-err c = narrow-entry c.args.version c.args.count c.args.records.now c.in-Err.fault c.in-Err.ensures.err
