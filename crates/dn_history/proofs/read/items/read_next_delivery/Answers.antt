use Rattle.dn_history.proofs.Words.{delivery_item}
use Rattle.dn_history.proofs.NarrowRecords.{narrow-item, wide-delivery}
use Rattle.dn_history.proofs.read.items.read_next_delivery.Goals as goal

pub returns-in-Err-clause-err : goal.returns-in-Err-clause-err
returns-in-Err-clause-err c = narrow-item delivery_item wide-delivery c.args.records.now c.in-Err.fault c.in-Err.ensures.err
