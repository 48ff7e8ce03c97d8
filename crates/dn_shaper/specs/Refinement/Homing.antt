-- The home that a new flow gets: the next slot of the link that its pipe's queues share, or the first of a new link.
use Rattle.std.specs.Prelude.{◌≡◌, ℕ, ◌+◌, ◌-◌, ◌<◌, ◌≤◌, take, List, [], ◌∷◌, ◌++◌, length, map, Option, Some, None, slice_get, slice_set}
use Rattle.dn_heap.specs.Heap.{Heap}
use Rattle.dn_types.specs.Calls.{link_of}
use Rattle.dn_types.specs.Trace.{Link, shared}
use Rattle.dn_types.specs.declared.flow_key.FlowKey.{FlowKey}
use Rattle.dn_types.specs.declared.target.Target.{Target}
use Rattle.dn_types.specs.declared.target.Target.TheVariants.{Pipe as ToPipe, Queue as ToQueue}
use Rattle.dn_flows.specs.Table.{flow_at, places, with_home, with_place}
use Rattle.dn_wf2q.specs.Schedule.{room_at}
use Rattle.dn_shaper.specs.declared.links.next_start.NextStart.{NextStart}
use Rattle.dn_flows.specs.declared.home.Home.{Home}
use Rattle.dn_shaper.specs.declared.links.link_parts.LinkParts.{LinkParts}
use Rattle.dn_shaper.specs.declared.state.State.{State}
use Rattle.dn_shaper.specs.Refinement.Agreement.{link_names}
use Rattle.dn_shaper.specs.Refinement.Making.{HasSlotRoom, KeepsAt, KeepsCalls, KeepsPlaces, OnlyRoom, OnlyMakesRoom}
use Rattle.dn_shaper.specs.Refinement.Views.{LinkView, no_schedule, view_of, views_of}
use Rattle.dn_shaper.specs.Refinement.Settings.{Sets, at_number}

-- The place of the link that a flow with the key shares, where the key is one of a queue and the link is noted.
abbrev pub shared_only : Target → Option ℕ → Option ℕ
shared_only (ToPipe number) place = None
shared_only (ToQueue number) place = place

abbrev pub place_for : FlowKey → List (Option ℕ) → Option ℕ
place_for key noted = shared_only key.target (at_number noted key.pipe)

-- The place of a new link is noted for its pipe, where it is one that the queues on the pipe share.
abbrev pub NotesFor : Target → ℕ → ℕ → List (Option ℕ) → List (Option ℕ) → Type 0
NotesFor (ToPipe number) pipe place old new = new ≡ old
NotesFor (ToQueue number) pipe place old new = Sets pipe (Some place) old new

-- A flow takes the next slot of a shared link, with room for a packet.
pub record TakesSlot (flow : ℕ) (old new : LinkView) : Type 0 where
  pub link : new.link ≡ old.link
  pub value : new.value ≡ old.value
  pub waits : new.waits ≡ old.waits
  pub slots : new.slots ≡ old.slots ++ flow ∷ []
  pub schedule : OnlyRoom old.schedule new.schedule
  pub room : 0 < room_at new.schedule.room (length old.slots)

-- On the link nothing has started and nothing waits. The flow has its first slot, with room for a packet.
pub record IsNewLink (link : Link) (flow : ℕ) (v : LinkView) : Type 0 where
  pub link_is : v.link ≡ link
  pub free : v.value.free ≡ 0
  pub last_due : v.value.last_due ≡ 0
  pub waits : v.waits ≡ 0
  pub slots : v.slots ≡ flow ∷ []
  pub schedule : OnlyRoom no_schedule v.schedule
  pub room : HasSlotRoom 0 v v.link

-- The home is the next slot of the link at the place.
pub record Shares (flow place : ℕ) (h : Home) (old new : List LinkView) : Type 0 where
  pub view : LinkView
  pub view' : LinkView
  pub there : slice_get old place ≡ Some view
  pub views_are : new ≡ slice_set old place view'
  pub takes : TakesSlot flow view view'
  pub place_is : h.place ≡ place
  pub slot_is : h.slot ≡ length view.slots

-- The home is a new link at the end, and there is room for it among the links with a backlog.
pub record Opens (link : Link) (flow : ℕ) (h : Home) (old new : List LinkView) (heap : Heap NextStart) : Type 0 where
  pub view : LinkView
  pub views_are : new ≡ old ++ view ∷ []
  pub is_new : IsNewLink link flow view
  pub place_is : h.place ≡ length old
  pub slot_is : h.slot ≡ 0
  pub room : length old + 1 ≤ heap.room

-- A flow with the key gets a home, by the place of the link that is noted for it.
abbrev pub Houses : Option ℕ → FlowKey → ℕ → Home → List LinkView → List LinkView → Heap NextStart → List (Option ℕ) → List (Option ℕ) → Type 0
Houses (Some place) key flow h old new heap noted noted' = Shares flow place h old new × (noted' ≡ noted)
Houses None key flow h old new heap noted noted' = Opens (link_of key.target flow key.pipe) flow h old new heap × NotesFor key.target key.pipe h.place noted noted'

-- The place that is noted for a flow with the key is that of the link which the queues on its pipe share.
abbrev pub IsNotedAmong : FlowKey → List (Option ℕ) → List LinkView → Type 0
IsNotedAmong key noted views = (place : ℕ) → place_for key noted ≡ Some place → slice_get (link_names views) place ≡ Some (shared key.pipe)

-- The home of a flow with the key is a new link at the end, as these queues show the links.
abbrev pub OpensFor : FlowKey → ℕ → Home → List LinkParts → List LinkParts → Heap NextStart → (ℕ → ℕ) → Type 0
OpensFor key flow home old new heap queues = Opens (link_of key.target flow key.pipe) flow home (map (view_of queues) old) (map (view_of queues) new) heap

-- A flow with the key gets a home, as these queues show the links, by the place that is noted for it.
abbrev pub HousesFor : FlowKey → ℕ → Home → List LinkParts → List LinkParts → Heap NextStart → List (Option ℕ) → List (Option ℕ) → (ℕ → ℕ) → Type 0
HousesFor key flow home old new heap noted noted' queues = Houses (place_for key noted) key flow home (map (view_of queues) old) (map (view_of queues) new) heap noted noted'

-- Only room is made among the links with a backlog.
pub record KeepsHeap (old new : Heap NextStart) : Type 0 where
  pub keys : new.keys ≡ old.keys
  pub moves : new.moves ≡ old.moves
  pub room : old.room ≤ new.room

-- Each link is the same but for room.
abbrev pub KeepsLinks : List LinkView → List LinkView → Type 0
KeepsLinks old new = (place : ℕ) → KeepsAt (slice_get old place) (slice_get new place)

-- The last flow, which had no home, has one and room for a packet. All else stays.
pub record GivesHome (key : FlowKey) (flow : ℕ) (old new : State) : Type 0 where
  pub home : Home
  pub houses : Houses (place_for key old.shared) key flow home (views_of old.parts) (views_of new.parts) new.heap old.shared new.shared
  pub flows : new.parts.flows.flows ≡ slice_set old.parts.flows.flows flow (with_home home (with_place (flow_at old.parts.flows.flows flow)))
  pub accepted : new.parts.accepted ≡ old.parts.accepted
  pub keys : new.parts.flows.keys ≡ old.parts.flows.keys
  pub waiting : new.parts.waiting ≡ old.parts.waiting
  pub pending : new.parts.line.pending ≡ old.parts.line.pending
  pub pushed : new.parts.line.pushed ≡ old.parts.line.pushed
  pub room : old.parts.line.room ≤ new.parts.line.room
  pub line : old.parts.waiting + places new.parts.flows.flows ≤ new.parts.line.room
  pub heap : KeepsHeap old.heap new.heap
  pub keeps : KeepsCalls old new

-- The shaper without its last flow.
abbrev pub without_last : State → State
without_last s =
    record s {
      parts = record s.parts {
        flows = record {
          keys = take (length s.parts.flows.keys - 1) s.parts.flows.keys;
          flows = take (length s.parts.flows.flows - 1) s.parts.flows.flows;
          spare = s.parts.flows.spare;
        };
      };
    }

-- Only room is made, in all that is kept, and none is lost.
pub record OnlyReserves (old new : State) : Type 0 where
  pub parts : OnlyMakesRoom old.parts new.parts
  pub placed : KeepsPlaces old.parts.flows.flows new.parts.flows.flows
  pub heap : KeepsHeap old.heap new.heap
  pub shared : new.shared ≡ old.shared
  pub keeps : KeepsCalls old new
