-- The queue that is read is the flow's.
use Rattle.dn_flows.proofs.Words.{FlowQueue, FlowState, List, Packets, Unsent, Waiting, all_with_unsent, ap, arith, get_or_past, length, map, new_flow, slice_get, slice_index_or, state_of, sym, ℕ}
use Rattle.dn_flows.proofs.Words.{◌∙◌, ◌≡◌}
use Rattle.dn_flows.proofs.Tables.{IsAt, as-many-flows, lies-here, reads}
use Rattle.dn_flows.proofs.flows.Flows.second.Goals.{In-Some}
use Rattle.dn_flows.proofs.flows.Flows.second.Goals as goal

-- There are as many flows as the slice has queues.
as-long : (store : Packets) (queues : List FlowQueue) (unsent : List Unsent) (slice : List FlowQueue) → slice ≡ queues → length (all_with_unsent (map (state_of store) queues) unsent) ≡ length slice
as-long store queues unsent slice same = as-many-flows store queues unsent ∙ sym (ap {B = ℕ} (λ (qs : List FlowQueue). length qs) same)

here : (c : In-Some) → IsAt c.self.inside.packets c.self.inside.queues.items c.self.inside.unsent.items c.args.flow c.in-Some.queue.now
here c =
    let found = c.in-Some.ensures.lookup in
    let long = as-long c.self.inside.packets c.self.inside.queues.items c.self.inside.unsent.items c.deref.result.now c.deref.ensures.value in
    record {
      are = c.self.invariant.2;
      within = omega arith;
      read = found.1 ∙ ap (λ (qs : List FlowQueue). slice_index_or qs c.args.flow c.in-Some.queue.now) c.deref.ensures.value;
    }

pub second-requires : goal.second-requires
second-requires c = lies-here (here (goal.at.second-requires c).In-Some)

pub returns-in-Some : goal.returns-in-Some
returns-in-Some c =
    rw (← c.self.view_is) (c.second.ensures ∙ ap (λ (ws : List Waiting). slice_get ws 1) (sym (reads (here (goal.at.returns-in-Some c).In-Some)).backlog))

-- No queue is there, and a new flow has no packet.
pub returns-in-None : goal.returns-in-None
returns-in-None c =
    let past = c.in-None.ensures.lookup.3 in
    let long = as-long c.self.inside.packets c.self.inside.queues.items c.self.inside.unsent.items c.deref.result.now c.deref.ensures.value in
    rw (← c.self.view_is) (ap (λ (s : FlowState). slice_get s.backlog 1)
    (sym (get_or_past (all_with_unsent (map (state_of c.self.inside.packets) c.self.inside.queues.items) c.self.inside.unsent.items) c.args.flow new_flow (omega arith))))
