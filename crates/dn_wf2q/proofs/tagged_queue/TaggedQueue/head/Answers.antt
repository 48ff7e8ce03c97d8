use Rattle.dn_wf2q.proofs.Queues.{head_payable}
use Rattle.dn_wf2q.proofs.tagged_queue.TaggedQueue.head.Goals as goal

pub cost-cost-requires : goal.cost-cost-requires
cost-cost-requires c = record { some = (head_payable _ c.in_ok-head.head c.in_ok-head.was _ _ c.requires.payable).0 }
