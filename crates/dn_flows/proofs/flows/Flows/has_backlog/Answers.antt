-- The queue counts the packets that wait.
use Rattle.dn_flows.proofs.Words.{FlowQueue, FlowState, List, Waiting, all_with_unsent, ap, arith, get_or_past, length, map, nat_lt, new_flow, slice_index_or, state_of, sym, ℕ, ◌∙◌, ◌≡◌}
use Rattle.dn_flows.proofs.Tables.{IsAt, as-many-flows, queue-is, reads}
use Rattle.dn_flows.proofs.flows.Flows.has_backlog.Goals.{After-get}
use Rattle.dn_flows.proofs.flows.Flows.has_backlog.Goals as goal

-- There are as many flows as the slice has queues.
as-long : (c : After-get) → length (all_with_unsent (map (state_of c.self.inside.packets) c.self.inside.queues.items) c.self.inside.unsent.items) ≡ length c.deref.result.now
as-long c = as-many-flows c.self.inside.packets c.self.inside.queues.items c.self.inside.unsent.items ∙ sym (ap {B = ℕ} (λ (qs : List FlowQueue). length qs) c.deref.ensures.value)

pub returns-in-Some : goal.returns-in-Some
returns-in-Some c =
    let found = c.in-Some.ensures.lookup in
    let long = as-long (goal.at.returns-in-Some c).After-get in
    let at : IsAt c.self.inside.packets c.self.inside.queues.items c.self.inside.unsent.items c.args.flow c.in-Some.queue.now = record {
      are = c.self.invariant.2;
      within = omega arith;
      read = found.1 ∙ ap (λ (qs : List FlowQueue). slice_index_or qs c.args.flow c.in-Some.queue.now) c.deref.ensures.value;
    } in
    rw (← c.self.view_is) (ap (nat_lt 0) ((queue-is at).counts.many ∙ ap (λ (ws : List Waiting). length ws) (sym (reads at).backlog)))

-- No queue is there, and a new flow has no packet.
pub returns-in-None : goal.returns-in-None
returns-in-None c =
    let past = c.in-None.ensures.lookup.3 in
    let long = as-long (goal.at.returns-in-None c).After-get in
    rw (← c.self.view_is) (ap (λ (s : FlowState). nat_lt 0 (length s.backlog))
    (sym (get_or_past (all_with_unsent (map (state_of c.self.inside.packets) c.self.inside.queues.items) c.self.inside.unsent.items) c.args.flow new_flow (omega arith))))
