-- What is reserved and made for a packet before the call that sends it changes anything.
use Rattle.std.specs.Prelude.{◌≡◌, ℕ, ◌<◌, ◌≤◌, true, List, [], length, Option, Some, None, slice_get}
use Rattle.dn_types.specs.Trace.{Link, own, shared, Event}
use Rattle.dn_flows.specs.Table.{FlowState, flow_at}
use Rattle.dn_wf2q.specs.Schedule.{Schedule, flow_at as slot_at, room_at}
use Rattle.dn_shaper.specs.declared.links.parts.Parts.{Parts}
use Rattle.dn_shaper.specs.declared.state.State.{State}
use Rattle.dn_shaper.specs.Refinement.Agreement.{AgreesWith}
use Rattle.dn_shaper.specs.Refinement.Starting.{HoldsPlaces}
use Rattle.dn_shaper.specs.Refinement.Submitting.{IsMade}
use Rattle.dn_shaper.specs.Refinement.Views.{homes_of, LinkView, views_of}

-- Only room is made in the schedule.
pub record OnlyRoom (old new : Schedule) : Type 0 where
  pub virtual_time : new.virtual_time ≡ old.virtual_time
  pub flows : (slot : ℕ) → slot_at new.flows slot ≡ slot_at old.flows slot
  pub room : (slot : ℕ) → room_at old.room slot ≤ room_at new.room slot
  pub arrivals : new.arrivals ≡ old.arrivals

-- Only room is made for the link.
pub record KeepsLink (old new : LinkView) : Type 0 where
  pub link : new.link ≡ old.link
  pub value : new.value ≡ old.value
  pub waits : new.waits ≡ old.waits
  pub slots : new.slots ≡ old.slots
  pub schedule : OnlyRoom old.schedule new.schedule

-- A shared link has room for a packet at the slot.
abbrev pub HasSlotRoom : ℕ → LinkView → Link → Type 0
HasSlotRoom slot v (own pipe flow) = Unit {0}
HasSlotRoom slot v (shared pipe) = 0 < room_at v.schedule.room slot

-- The flow has the same packets and counts.
pub record SameFlow (old new : FlowState) : Type 0 where
  pub backlog : new.backlog ≡ old.backlog
  pub lost : new.lost ≡ old.lost
  pub full : new.full ≡ old.full
  pub started : new.started ≡ old.started
  pub discarded : new.discarded ≡ old.discarded
  pub active : new.active ≡ old.active

-- Each flow that had a reserved place has it still.
abbrev pub KeepsPlaces : List FlowState → List FlowState → Type 0
KeepsPlaces old new = (flow : ℕ) → (flow_at old flow).reserved ≡ true → (flow_at new flow).reserved ≡ true

-- The links at a place are the same but for room.
abbrev pub KeepsAt : Option LinkView → Option LinkView → Type 0
KeepsAt None None = Unit {0}
KeepsAt (Some v) (Some w) = KeepsLink v w
KeepsAt None (Some w) = ⊥
KeepsAt (Some v) None = ⊥

-- Only room is made.
pub record OnlyMakesRoom (old new : Parts) : Type 0 where
  pub rule : new.rule ≡ old.rule
  pub accepted : new.accepted ≡ old.accepted
  pub keys : new.flows.keys ≡ old.flows.keys
  pub homes : homes_of new.flows.flows ≡ homes_of old.flows.flows
  pub waiting : new.waiting ≡ old.waiting
  pub pending : new.line.pending ≡ old.line.pending
  pub pushed : new.line.pushed ≡ old.line.pushed
  pub room : old.line.room ≤ new.line.room
  pub holds : HoldsPlaces old → HoldsPlaces new
  pub flows : (flow : ℕ) → SameFlow (flow_at old.flows.flows flow) (flow_at new.flows.flows flow)
  pub many : length new.flows.flows ≡ length old.flows.flows
  pub views : (place : ℕ) → KeepsAt (slice_get (views_of old) place) (slice_get (views_of new) place)

-- Whatever trace the parts agreed with, they agree with it still, and the flow's link is seen or made.
abbrev pub Prepares : ℕ → Parts → Parts → Type 0
Prepares flow old new = (trace : List Event) → AgreesWith old [] trace → (more : List Link) × AgreesWith new more trace × IsMade flow new trace

-- The clock, the settings and the count of calls stay.
pub record KeepsCalls (old new : State) : Type 0 where
  pub rule : new.parts.rule ≡ old.parts.rule
  pub configured : new.configured ≡ old.configured
  pub now : new.now ≡ old.now
  pub calls : new.calls ≡ old.calls
