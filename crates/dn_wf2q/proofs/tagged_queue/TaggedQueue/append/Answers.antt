use Rattle.dn_wf2q.proofs.Words.{sym, ◌∙◌}
use Rattle.dn_wf2q.proofs.Queues.{joined, joined_chained, joined_last}
use Rattle.dn_wf2q.proofs.tagged_queue.TaggedQueue.append.Goals as goal

-- Packets wait already.
pub returns-then-is_some-clause-packets : goal.returns-then-is_some-clause-packets
returns-then-is_some-clause-packets c =
    let q = c.args.self.now in
    rw c.then-self.ensures (joined c.args.busy_from q.arrived q.finish_tag c.args.virtual_time q.behind.packets q.head _
    (sym c.is_some.ensures ∙ c.if-is_some.true) c.requires.kept)

pub returns-then-is_some-clause-last_finish_tag : goal.returns-then-is_some-clause-last_finish_tag
returns-then-is_some-clause-last_finish_tag c =
    let q = c.args.self.now in
    rw c.then-self.ensures (joined_last c.args.busy_from q.arrived q.finish_tag c.args.virtual_time q.behind.packets q.head _
    (sym c.is_some.ensures ∙ c.if-is_some.true) c.requires.kept)

pub returns-then-is_some-clause-kept : goal.returns-then-is_some-clause-kept
returns-then-is_some-clause-kept c =
    let q = c.args.self.now in
    rw c.then-self.ensures
    (joined_chained c.args.busy_from q.arrived c.args.arrivals q.behind.packets q.head _ (sym c.is_some.ensures ∙ c.if-is_some.true) c.requires.later c.requires.kept)
