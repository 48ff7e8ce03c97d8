-- What one start does to a link, the flow table and the delay line.
use Rattle.std.specs.Prelude.{◌≡◌, ℕ, ◌+◌, ◌*◌, ◌<◌, ◌≤◌, ◌^◌, true, List, length, Some, slice_get, slice_set}
use Rattle.dn_types.specs.Deliveries.{in_order}
use Rattle.dn_types.specs.Links.{transmission_time, due_by}
use Rattle.dn_types.specs.Trace.{shared}
use Rattle.dn_types.specs.declared.delivery.Delivery.{Delivery}
use Rattle.dn_types.specs.declared.rule.Rule.{Rule}
use Rattle.dn_flows.specs.Table.{FlowState, flow_at, places, popped}
use Rattle.dn_flows.specs.declared.waiting.Waiting.{Waiting}
use Rattle.dn_wf2q.specs.Schedule.{room_at}
use Rattle.dn_flows.specs.declared.home.Home.{Home}
use Rattle.dn_shaper.specs.declared.links.link_parts.LinkParts.{LinkParts}
use Rattle.dn_shaper.specs.declared.links.parts.Parts.{Parts}
use Rattle.dn_shaper.specs.Refinement.Views.{homes_of, LinkView, queue_lengths, view_of, views_of, waits_in_all, TakesNext, IsNextToSend}

-- The flow that the link takes next has a packet at the front of its queue.
abbrev pub HasFront : LinkView → List FlowState → Type 0
HasFront v flows = (flow : ℕ) (v' : LinkView) → TakesNext flow v v' → (w : Waiting) × (slice_get (flow_at flows flow).backlog 0 ≡ Some w) × (flow < length flows) × ((flow_at flows flow).started < 2 ^ 62)

-- The packet at the front of the flow that the link takes next is sent at the moment.
pub record Starts (rule : Rule) (bandwidth delay moment : ℕ) (old : LinkView) (flows : List FlowState) (pending : List Delivery) (new : LinkView) (flows' : List FlowState) (pending' : List Delivery) : Type 0 where
  pub flow : ℕ
  pub packet : Waiting
  pub front : slice_get (flow_at flows flow).backlog 0 ≡ Some packet
  pub link : new.link ≡ old.link
  pub slots : new.slots ≡ old.slots
  pub sends : IsNextToSend flow old new old.link
  pub free : new.value.free ≡ moment + transmission_time bandwidth packet.len
  pub last_due : new.value.last_due ≡ due_by rule (moment + transmission_time bandwidth packet.len + delay * 1000000) old.value.last_due
  pub waits : new.waits + 1 ≡ old.waits
  pub flows_are : flows' ≡ slice_set flows flow (popped (flow_at flows flow))
  pub pending_is : pending' ≡ in_order (record { due = new.value.last_due; packet = packet.packet; flow = flow; start = moment }) pending

-- The same, as the backlogs of the flows show the link.
abbrev pub StartsOn : Rule → ℕ → ℕ → ℕ → LinkParts → List FlowState → List Delivery → LinkParts → List FlowState → List Delivery → Type 0
StartsOn rule bandwidth delay moment old flows pending new flows' pending' =
    Starts rule bandwidth delay moment (view_of (queue_lengths flows) old) flows pending (view_of (queue_lengths flows') new) flows' pending'

-- No slot has less room than before, and no packet has arrived.
pub record KeepsSchedule (old new : LinkView) : Type 0 where
  pub room : (slot : ℕ) → room_at old.schedule.room slot ≤ room_at new.schedule.room slot
  pub arrivals : new.schedule.arrivals ≡ old.schedule.arrivals

-- None of the flow's counts is above n.
abbrev pub AreCountsWithin : ℕ → FlowState → Type 0
AreCountsWithin n s = (s.lost ≤ n) × (s.full ≤ n) × (s.started + s.discarded + length s.backlog ≤ n)

-- The delay line has room for each packet that waits and for a packet of each flow with a reserved place.
abbrev pub HoldsPlaces : Parts → Type 0
HoldsPlaces p = p.waiting + places p.flows.flows ≤ p.line.room

-- No count anywhere is above n, and there is room in the delay line.
pub record Within (n : ℕ) (p : Parts) : Type 0 where
  pub waiting_is : p.waiting ≡ waits_in_all (views_of p)
  pub room : p.waiting + places p.flows.flows ≤ p.line.room
  pub pushed : p.line.pushed + p.waiting ≤ n
  pub sums : length p.line.pending + p.waiting ≤ n
  pub flows_are : (flow : ℕ) → AreCountsWithin n (flow_at p.flows.flows flow)
  pub arrivals : (k : ℕ) (v : LinkView) → slice_get (views_of p) k ≡ Some v → v.schedule.arrivals ≤ n
  pub accepted : p.accepted ≤ n

-- Room is reserved for one more packet of the flow: a place in its queue, and with it one in the delay line (`HoldsPlaces`), and
-- room at its slot if its link is shared.
pub record IsReady (flow : ℕ) (p : Parts) : Type 0 where
  pub place : (flow_at p.flows.flows flow).reserved ≡ true
  pub slot : (h : Home) (v : LinkView) (pipe : ℕ) → slice_get (homes_of p.flows.flows) flow ≡ Some h → slice_get (views_of p) h.place ≡ Some v → v.link ≡ shared pipe → 0 < room_at v.schedule.room h.slot

-- Each flow that had room has it still, or each flow but one.
abbrev pub KeepsReady : Parts → Parts → Type 0
KeepsReady old new = (flow : ℕ) → IsReady flow old → IsReady flow new

abbrev pub KeepsOthersReady : ℕ → Parts → Parts → Type 0
KeepsOthersReady flow old new = (other : ℕ) → (other ≡ flow → ⊥) → IsReady other old → IsReady other new

-- A packet waits for the link at the place, which is free by the moment.
pub record CanStart (p : Parts) (place moment : ℕ) : Type 0 where
  pub view : LinkView
  pub there : slice_get (views_of p) place ≡ Some view
  pub some : 0 < view.waits
  pub soon : view.value.free ≤ moment

-- One start of the link at a place, seen by all parts.
pub record StartsAt (place moment bandwidth delay : ℕ) (old new : Parts) : Type 0 where
  pub view : LinkView
  pub view' : LinkView
  pub there : slice_get (views_of old) place ≡ Some view
  pub views_are : views_of new ≡ slice_set (views_of old) place view'
  pub starts : Starts old.rule bandwidth delay moment view old.flows.flows old.line.pending view' new.flows.flows new.line.pending
  pub keeps : KeepsSchedule view view'
  pub rule : new.rule ≡ old.rule
  pub accepted : new.accepted ≡ old.accepted
  pub keys : new.flows.keys ≡ old.flows.keys
  pub homes : homes_of new.flows.flows ≡ homes_of old.flows.flows
  pub waiting : new.waiting + 1 ≡ old.waiting
  pub room : new.line.room + 1 ≡ old.line.room
  pub pushed : new.line.pushed ≡ old.line.pushed + 1
