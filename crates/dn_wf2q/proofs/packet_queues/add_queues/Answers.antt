use Rattle.dn_wf2q.proofs.Words.{arith}
use Rattle.dn_wf2q.proofs.Stored.{one_more}
use Rattle.dn_wf2q.proofs.packet_queues.add_queues.Goals as goal

pub blanks-preserved : goal.blanks-preserved
blanks-preserved c =
    let i = c.blanks.invariant in
    let i2 = i.2 in
    (rw c.push_reserved.ensures.items (one_more _ _ _ i.0 c.new.ensures.items), omega arith, omega arith)

pub returns-clause-more : goal.returns-clause-more
returns-clause-more c = rw c.push_reserved-2.ensures.items (one_more _ _ _ c.blanks.invariant.0 c.requires.empty)
