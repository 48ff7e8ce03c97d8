-- The lists of the flows that a delete goes through: one for each pipe and one for each queue. Each flow that is active is in
-- those of its pipe and its queue.
use Rattle.std.specs.Prelude.{◌≡◌, ◌≢◌, ◌⊎◌, ℕ, ◌-◌, Bool, true, false, nat_eq, List, [], Option, Some, length, slice_get, slice_index_or}
use Rattle.std.specs.List.{list_any}
use Rattle.dn_types.specs.Flows.{key_eq}
use Rattle.dn_types.specs.declared.flow_key.FlowKey.{FlowKey}
use Rattle.dn_types.specs.declared.target.Target.{Target}
use Rattle.dn_types.specs.declared.target.Target.TheVariants.{Pipe as ToPipe, Queue as ToQueue}
use Rattle.dn_flows.specs.declared.flow_queue.FlowQueue.{FlowQueue}
use Rattle.dn_flows.specs.declared.members.Members.{Members}
use Rattle.dn_flows.specs.Store.{without_list}
use Rattle.dn_flows.specs.Table.{is_at}

-- The list of a number. A number beyond the lists has none.
abbrev pub list_at : List (List ℕ) → ℕ → List ℕ
list_at lists number = slice_index_or lists number []

-- The list of a target, its last flow, and whether a flow is in it.
abbrev pub list_of : Target → Members → List ℕ
list_of (ToPipe pipe) m = list_at m.on_pipes pipe
list_of (ToQueue queue) m = list_at m.of_queues queue

abbrev pub last_of : List ℕ → Option ℕ
last_of flows = slice_get flows (length flows - 1)

abbrev pub IsMember : Target → ℕ → Members → Type 0
IsMember target flow m = list_any (nat_eq flow) (list_of target m) ≡ true

-- Every flow but one is in the lists in which it was.
abbrev pub KeepsOthers : ℕ → Members → Members → Type 0
KeepsOthers flow old new = (target : Target) (other : ℕ) → other ≢ flow → IsMember target other old → IsMember target other new

-- Every flow is in the lists in which it was.
abbrev pub KeepsMembers : Members → Members → Type 0
KeepsMembers old new = (target : Target) (flow : ℕ) → IsMember target flow old → IsMember target flow new

-- Whether a flow's queue says that it is in the list of such a target.
abbrev pub is_listed : Target → FlowQueue → Bool
is_listed (ToPipe pipe) q = q.on_pipe
is_listed (ToQueue queue) q = q.of_queue

-- A flow that is active or has a reserved place is listed.
pub record IsListed (q : FlowQueue) : Type 0 where
  pub reserved : q.reserved ≡ true → (q.on_pipe ≡ true) × (q.of_queue ≡ true)
  pub active : q.active ≡ true → (q.on_pipe ≡ true) × (q.of_queue ≡ true)

-- No key is that of two flows.
abbrev pub HasDistinctKeys : List FlowKey → Type 0
HasDistinctKeys keys = (i j : ℕ) (k l : FlowKey) → slice_get keys i ≡ Some k → slice_get keys j ≡ Some l → key_eq k l ≡ true → i ≡ j

-- No key is that of two flows, each flow is in the lists of which its queue says so, and it is listed where it has to be.
pub record AreListed (keys : List FlowKey) (queues : List FlowQueue) (m : Members) : Type 0 where
  pub distinct : HasDistinctKeys keys
  pub members : (flow : ℕ) (q : FlowQueue) (key : FlowKey) (target : Target) → slice_get queues flow ≡ Some q → slice_get keys flow ≡ Some key → is_at target key ≡ true → is_listed target q ≡ true → IsMember target flow m
  pub listed : (flow : ℕ) (q : FlowQueue) → slice_get queues flow ≡ Some q → IsListed q

-- The flow leaves the list of the target unless it is active, and all other queues stay.
pub record LetsGo (target : Target) (flow : ℕ) (old new : List FlowQueue) : Type 0 where
  pub others : (other : ℕ) → other ≢ flow → slice_get new other ≡ slice_get old other
  pub here : (q' : FlowQueue) → slice_get new flow ≡ Some q' → (q : FlowQueue) × (slice_get old flow ≡ Some q) × (((q.active ≡ true) × (q' ≡ q)) ⊎ ((q.active ≡ false) × (q' ≡ without_list target q)))
  pub many : length new ≡ length old

-- The queue has the same packets and is as active as before.
pub record KeepsQueue (q q' : FlowQueue) : Type 0 where
  pub front : q'.front ≡ q.front
  pub back : q'.back ≡ q.back
  pub len : q'.len ≡ q.len
  pub bytes : q'.bytes ≡ q.bytes
  pub active : q'.active ≡ q.active
  pub started : q'.started ≡ q.started
  pub home : q'.home ≡ q.home
  pub reserved : q.active ≡ true → q'.reserved ≡ q.reserved

pub record KeepQueues (old new : List FlowQueue) : Type 0 where
  pub each : (flow : ℕ) (q' : FlowQueue) → slice_get new flow ≡ Some q' → (q : FlowQueue) × (slice_get old flow ≡ Some q) × KeepsQueue q q'
  pub many : length new ≡ length old
