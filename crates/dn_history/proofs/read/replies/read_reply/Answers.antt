use Rattle.dn_history.proofs.NarrowRecords.{narrow-reply}
use Rattle.dn_history.proofs.read.replies.read_reply.Goals as goal

pub returns-in-Err-clause-err : goal.returns-in-Err-clause-err
returns-in-Err-clause-err c = narrow-reply c.args.version c.args.records.now c.in-Err.fault c.in-Err.ensures.err
