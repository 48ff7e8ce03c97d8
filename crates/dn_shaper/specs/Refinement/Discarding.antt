-- What the discarding of a flow's packets does to its link and to all parts.
use Rattle.std.specs.Prelude.{◌≡◌, ℕ, ◌+◌, List, ◌∷◌, length, slice_get, Some, slice_set}
use Rattle.dn_types.specs.Trace.{Link, own, shared, Event, discarded}
use Rattle.dn_flows.specs.Table.{flow_at, emptied}
use Rattle.dn_wf2q.specs.Schedule.{after_discard, flow_at as slot_at}
use Rattle.dn_flows.specs.declared.home.Home.{Home}
use Rattle.dn_shaper.specs.declared.links.link_parts.LinkParts.{LinkParts}
use Rattle.dn_shaper.specs.declared.links.parts.Parts.{Parts}
use Rattle.dn_shaper.specs.Refinement.Views.{homes_of, LinkView, view_of, views_of}
use Rattle.dn_shaper.specs.Refinement.Agreement.{AgreesWith}

-- So many packets of a flow no longer wait: in its queue where the link is its own, and at its slot of a shared one.
abbrev pub LosesCount : ℕ → ℕ → (ℕ → ℕ) → (ℕ → ℕ) → LinkView → Link → Type 0
LosesCount slot count before after v (own pipe f) = after f + count ≡ before f
LosesCount slot count before after v (shared pipe) = length (slot_at v.schedule.flows slot).backlog ≡ count

-- Where the link is shared, so many packets of a flow wait at its slot.
abbrev pub HoldsCount : ℕ → ℕ → LinkView → Link → Type 0
HoldsCount slot count v (own pipe f) = Unit {0}
HoldsCount slot count v (shared pipe) = length (slot_at v.schedule.flows slot).backlog ≡ count

abbrev pub DiscardsOn : ℕ → LinkView → LinkView → Link → Type 0
DiscardsOn slot old new (own pipe f) = new.schedule ≡ old.schedule
DiscardsOn slot old new (shared pipe) = (new.schedule.flows ≡ after_discard old.schedule.flows slot) × (new.schedule.virtual_time ≡ old.schedule.virtual_time) × (new.schedule.arrivals ≡ old.schedule.arrivals)

-- So many packets no longer wait for the link.
pub record LeavesLink (slot count : ℕ) (old new : LinkView) : Type 0 where
  pub link : new.link ≡ old.link
  pub value : new.value ≡ old.value
  pub slots : new.slots ≡ old.slots
  pub waits : new.waits + count ≡ old.waits
  pub discards : DiscardsOn slot old new old.link

-- As many packets leave the link as leave the queue of its flow, or as wait at the slot of a shared link.
abbrev pub LeavesAtSlot : ℕ → LinkParts → LinkParts → Type 0
LeavesAtSlot slot old new =
    (before after : ℕ → ℕ) (count : ℕ) → LosesCount slot count before after (view_of before old) (view_of before old).link → LeavesLink slot count (view_of before old) (view_of after new)

-- The packets of a flow leave, seen by all parts.
pub record DiscardsAt (h : Home) (flow : ℕ) (old new : Parts) : Type 0 where
  pub view : LinkView
  pub view' : LinkView
  pub there : slice_get (views_of old) h.place ≡ Some view
  pub views_are : views_of new ≡ slice_set (views_of old) h.place view'
  pub leaves : LeavesLink h.slot (length (flow_at old.flows.flows flow).backlog) view view'
  pub flows_are : new.flows.flows ≡ slice_set old.flows.flows flow (emptied (flow_at old.flows.flows flow))
  pub rule : new.rule ≡ old.rule
  pub accepted : new.accepted ≡ old.accepted
  pub keys : new.flows.keys ≡ old.flows.keys
  pub homes : homes_of new.flows.flows ≡ homes_of old.flows.flows
  pub line : new.line ≡ old.line
  pub waiting : new.waiting + length (flow_at old.flows.flows flow).backlog ≡ old.waiting

-- Whatever trace the parts agree with, they agree with it and the flow discarded.
abbrev pub DiscardsFlow : ℕ → Parts → Parts → Type 0
DiscardsFlow flow old new = (more : List Link) (trace : List Event) → AgreesWith old more trace → AgreesWith new more (discarded flow ∷ trace)
