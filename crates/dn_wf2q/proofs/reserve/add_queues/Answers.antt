use Rattle.dn_wf2q.proofs.Words.{arith}
use Rattle.dn_wf2q.proofs.Reserved.{one_added}
use Rattle.dn_wf2q.proofs.reserve.add_queues.Goals as goal

pub blanks-preserved : goal.blanks-preserved
blanks-preserved c =
    let i = c.blanks.invariant in
    let i2 = i.2 in
    (rw c.push_reserved.ensures.items (one_added _ _ _ i.0 c.new.ensures.blank), omega arith, omega arith)

pub returns-clause-extended : goal.returns-clause-extended
returns-clause-extended c = rw c.push_reserved-2.ensures.items (one_added _ _ _ c.blanks.invariant.0 c.new-2.ensures.blank)
