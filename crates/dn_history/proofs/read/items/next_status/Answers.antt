use Rattle.dn_history.proofs.Words.{status_item}
use Rattle.dn_history.proofs.NarrowRecords.{narrow-item, wide-status}
use Rattle.dn_history.proofs.read.items.next_status.Goals as goal

pub returns-in-Err-clause-err : goal.returns-in-Err-clause-err
returns-in-Err-clause-err c =
    narrow-item (status_item c.args.version) (λ fields many. wide-status fields many c.args.version) c.args.records.now c.in-Err.fault c.in-Err.ensures.err
