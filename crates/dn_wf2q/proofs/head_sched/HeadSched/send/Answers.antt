use Rattle.dn_wf2q.proofs.Words.{IsFirst, SendsHead, drop, flow_at, flows_of, heads_of, raised, ◌∙◌}
use Rattle.dn_wf2q.proofs.Rooms.{keeps-set}
use Rattle.dn_wf2q.proofs.Sending.{at_first, from_first}
use Rattle.dn_wf2q.proofs.head_sched.HeadSched.send.Goals as goal

pub invariant_of-self : goal.invariant_of-self
invariant_of-self c = record { kept = c.send.ensures.kept; none_due = c.send.ensures.none_due }

pub send-requires-clause-next : goal.send-requires-clause-next
send-requires-clause-next c =
    let p = c.self.inside.parts in
    from_first (λ slot. IsFirst c.of-next.result (drop 1 (flow_at (flows_of p) slot).backlog)) c.args.slot _
    (rw (← c.self.view_is) at c.requires.first) (c.of-next.ensures ∙ rw (← c.self.view_is) at c.requires.next)

pub returns-clause-keeps_room : goal.returns-clause-keeps_room
returns-clause-keeps_room c =
    let p = c.self.inside.parts in
    let s = at_first (λ h. SendsHead h (raised p.virtual_time (heads_of (flows_of p))) p c.send.new.self) c.args.slot _ (rw (← c.self.view_is) at c.requires.first) c.send.ensures.some in
    rw (← c.self.view_is) (keeps-set (flows_of p) _ _ _ s.flows)
