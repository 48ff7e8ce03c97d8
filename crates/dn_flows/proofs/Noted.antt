-- What every call that notes a packet which is never sent shows: the flow's counts are there, and a change of one of them
-- is a change of what callers see of the flow.
use Rattle.dn_flows.proofs.Words.{FlowQueue, FlowState, List, Packets, Unsent, all_with_unsent, flow_at, get_or, length, length-map, map, set, state_of, sym, with_unsent, ℕ, ◌<◌, ◌∙◌, ◌≡◌}
use Rattle.dn_flows.proofs.Counted.{within-unsent, read-counts, noted}

module _ (packets : Packets) (queues : List FlowQueue) (unsent : List Unsent) (flow : ℕ) (same : length unsent ≡ length queues)
    (within : flow < length (all_with_unsent (map (state_of packets) queues) unsent)) where
  abbrev states : List FlowState
  states = map (state_of packets) queues

  as-many : length unsent ≡ length states
  as-many = same ∙ sym (length-map queues (state_of packets))

  pub counts-there : flow < length unsent
  counts-there = within-unsent states unsent flow as-many within

  pub counts-read : (u : Unsent) → u ≡ get_or unsent flow u → flow_at (all_with_unsent states unsent) flow ≡ with_unsent u (flow_at states flow)
  counts-read u read = read-counts states unsent flow u as-many within read

  pub counts-noted : (u u' : Unsent) (f : FlowState → FlowState) → u ≡ get_or unsent flow u → f (with_unsent u (flow_at states flow)) ≡ with_unsent u' (flow_at states flow)
      → all_with_unsent states (set unsent flow u') ≡ set (all_with_unsent states unsent) flow (f (flow_at (all_with_unsent states unsent) flow))
  counts-noted u u' f read is = noted states unsent flow u as-many within read f u' is
