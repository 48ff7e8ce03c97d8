-- The flow table as callers see it: the keys of the flows in order of first sight, and the state of each flow. A flow's
-- number is its place in both lists.
use Rattle.std.specs.Prelude.{ℕ, ◌+◌, ◌≡◌, Bool, true, false, cond, nat_eq, List, [], ◌∷◌, ◌++◌, map, sum, length, slice_index_or}
use Rattle.std.specs.List.{list_any, sum_by}
use Rattle.dn_types.specs.Configuration.{target_eq}
use Rattle.dn_types.specs.Drops.{is_lost, is_full}
use Rattle.dn_types.specs.Flows.{key_eq}
use Rattle.dn_types.specs.declared.flow_key.FlowKey.{FlowKey}
use Rattle.dn_types.specs.declared.flow_status.FlowStatus.{FlowStatus}
use Rattle.dn_types.specs.declared.limit.Limit.{Limit}
use Rattle.dn_types.specs.declared.target.Target.{Target}
use Rattle.dn_types.specs.declared.target.Target.TheVariants.{Pipe as ToPipe, Queue as ToQueue}
use Rattle.dn_flows.specs.declared.home.Home.{Home}
use Rattle.dn_flows.specs.declared.waiting.Waiting.{Waiting}
use Rattle.dn_flows.specs.declared.verdict.Verdict.{Verdict}
use Rattle.dn_flows.specs.declared.verdict.Verdict.TheVariants.{Take, Lost, Full}

-- One flow: the packets that wait, in order, whether a place for one more is reserved, and the counts of its packets
-- that were lost, refused by a full queue, started, and discarded by a delete. It is active where a packet joined since its
-- packets were last discarded. Its home is what the caller gave it.
pub record FlowState : Type 0 where
  pub backlog : List Waiting
  pub reserved : Bool
  pub active : Bool
  pub lost : ℕ
  pub full : ℕ
  pub started : ℕ
  pub discarded : ℕ
  pub home : Home

-- So many new flows find room in the table. Of the room for their packets, and in the lists that a delete goes through, it says nothing.
pub record Table : Type 0 where
  pub keys : List FlowKey
  pub flows : List FlowState
  pub spare : ℕ

-- The home of a flow that was given none.
abbrev pub no_home : Home
no_home = record { place = 0; slot = 0 }

-- A flow without a packet and with no count.
abbrev pub new_flow : FlowState
new_flow = record { backlog = []; reserved = false; active = false; lost = 0; full = 0; started = 0; discarded = 0; home = no_home }

-- The flow with a number, which for a number that no flow has is a new flow.
abbrev pub flow_at : List FlowState → ℕ → FlowState
flow_at flows flow = slice_index_or flows flow new_flow

-- How many flows have a reserved place.
abbrev pub place_of : FlowState → ℕ
place_of s = cond s.reserved 1 0

abbrev pub places : List FlowState → ℕ
places flows = sum_by place_of flows

-- Whether a flow has the key.
abbrev pub is_known : FlowKey → List FlowKey → Bool
is_known key keys = list_any (key_eq key) keys

-- The flows of the table with one more at the end, unless the key is known.
abbrev pub flows_with : FlowKey → Table → List FlowState
flows_with key t = cond (is_known key t.keys) t.flows (t.flows ++ new_flow ∷ [])

-- The flow holds no packet and has counted none.
abbrev pub IsUnused : FlowState → Type 0
IsUnused s = (s.backlog ≡ []) × (s.lost ≡ 0) × (s.full ≡ 0) × (s.started ≡ 0) × (s.discarded ≡ 0)

-- The lengths of the packets that wait, in bytes.
abbrev pub lengths : List Waiting → List ℕ
lengths backlog = map (λ w. w.len) backlog

-- A packet is lost by its word. One that isn't lost is refused where the queue is full, and else taken.
abbrev pub verdict_of : ℕ → Limit → ℕ → List Waiting → Verdict
verdict_of loss limit word backlog = cond (is_lost loss word) Lost (cond (is_full limit (lengths backlog)) Full Take)

-- The flow with a place reserved.
abbrev pub with_place : FlowState → FlowState
with_place s = record { backlog = s.backlog; reserved = true; active = s.active; lost = s.lost; full = s.full; started = s.started; discarded = s.discarded; home = s.home }

-- The flow after a packet joined its queue, in the place that was reserved.
abbrev pub pushed : Waiting → FlowState → FlowState
pushed w s = record { backlog = s.backlog ++ w ∷ []; reserved = false; active = true; lost = s.lost; full = s.full; started = s.started; discarded = s.discarded; home = s.home }

-- The flow after the start of its first packet. Where none waits it is as it was.
abbrev pub popped_from : List Waiting → FlowState → FlowState
popped_from [] s = s
popped_from (w ∷ ws) s = record { backlog = ws; reserved = s.reserved; active = s.active; lost = s.lost; full = s.full; started = s.started + 1; discarded = s.discarded; home = s.home }

abbrev pub popped : FlowState → FlowState
popped s = popped_from s.backlog s

-- The flow after one more of its packets was lost, or refused by its full queue.
abbrev pub one_lost : FlowState → FlowState
one_lost s = record { backlog = s.backlog; reserved = s.reserved; active = s.active; lost = s.lost + 1; full = s.full; started = s.started; discarded = s.discarded; home = s.home }

abbrev pub one_full : FlowState → FlowState
one_full s = record { backlog = s.backlog; reserved = s.reserved; active = s.active; lost = s.lost; full = s.full + 1; started = s.started; discarded = s.discarded; home = s.home }

-- The flow after a delete discarded all packets that waited.
abbrev pub emptied : FlowState → FlowState
emptied s = record { backlog = []; reserved = s.reserved; active = false; lost = s.lost; full = s.full; started = s.started; discarded = s.discarded + length s.backlog; home = s.home }

-- The flow with another home.
abbrev pub with_home : Home → FlowState → FlowState
with_home h s = record { backlog = s.backlog; reserved = s.reserved; active = s.active; lost = s.lost; full = s.full; started = s.started; discarded = s.discarded; home = h }

-- What is told of the flow with a number and a key.
abbrev pub status_of : ℕ → FlowKey → FlowState → FlowStatus
status_of flow key s = record { flow = flow; key = key; queued = length s.backlog; bytes = sum (lengths s.backlog); lost = s.lost; full = s.full; started = s.started; discarded = s.discarded }

-- Whether the flow with the key is on the pipe, and whether it is one of the queue.
abbrev pub is_on : ℕ → FlowKey → Bool
is_on pipe key = nat_eq key.pipe pipe

abbrev pub is_of : ℕ → FlowKey → Bool
is_of queue key = target_eq key.target (ToQueue queue)

-- Whether the flow with the key is at a target: on the pipe, or of the queue.
abbrev pub is_at : Target → FlowKey → Bool
is_at (ToPipe pipe) key = is_on pipe key
is_at (ToQueue queue) key = is_of queue key

-- The flow is the same, except that it may have lost a reserved place if it isn't active.
pub record OnlyUnreserves (old new : FlowState) : Type 0 where
  pub backlog : new.backlog ≡ old.backlog
  pub active : new.active ≡ old.active
  pub lost : new.lost ≡ old.lost
  pub full : new.full ≡ old.full
  pub started : new.started ≡ old.started
  pub discarded : new.discarded ≡ old.discarded
  pub home : new.home ≡ old.home
  pub reserved : old.active ≡ true → new.reserved ≡ old.reserved
