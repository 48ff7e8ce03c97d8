use Rattle.dn_wf2q.proofs.Queues.{headed, head_payable, behind_payable}
use Rattle.dn_wf2q.proofs.tagged_queue.TaggedQueue.take_head.Goals as goal

pub next_head-requires-clause-finish_tag : goal.next_head-requires-clause-finish_tag
next_head-requires-clause-finish_tag c = (head_payable _ c.unwrap-sent.result c.unwrap-sent.ensures _ _ c.requires.payable).1

pub next_head-requires-clause-payable : goal.next_head-requires-clause-payable
next_head-requires-clause-payable c = behind_payable _ c.unwrap-sent.result c.unwrap-sent.ensures _ _ c.requires.payable

pub returns-clause-sent : goal.returns-clause-sent
returns-clause-sent c = rw c.next_head.ensures.packets (headed _ c.unwrap-sent.result c.unwrap-sent.ensures _ _)
