use Rattle.dn_wf2q.proofs.Queues.{first_and_rest, next_payable, no_next, none_behind, none_chained}
use Rattle.dn_wf2q.proofs.tagged_queue.TaggedQueue.next_head.Goals as goal

pub cost-requires : goal.cost-requires
cost-requires c = record {
  some =
      (next_payable c.args.self.now.finish_tag _ _ _ c.in_ok-next.next
      (first_and_rest _ c.then-self.result.packets c.args.next c.requires.next c.then-self.ensures) c.in_ok-next.was c.requires.payable).0;
}

-- No packet waits behind.
pub returns-in_err-next-clause-packets : goal.returns-in_err-next-clause-packets
returns-in_err-next-clause-packets c =
    no_next c.args.self.now.finish_tag _ _ _ (first_and_rest _ c.then-self.result.packets c.args.next c.requires.next c.then-self.ensures)
    c.in_err-next.was (none_behind _ c.then-self.result.packets c.args.next c.requires.next c.then-self.ensures)

pub returns-in_err-next-clause-kept : goal.returns-in_err-next-clause-kept
returns-in_err-next-clause-kept c =
    λ b _. none_chained c.args.self.now.finish_tag _ _ _ (first_and_rest _ c.then-self.result.packets c.args.next c.requires.next c.then-self.ensures)
    c.in_err-next.was (none_behind _ c.then-self.result.packets c.args.next c.requires.next c.then-self.ensures) b _
