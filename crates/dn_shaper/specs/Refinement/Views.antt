-- The parts of a shaper as lists: for each link its name, its moments, how many packets wait for it, the flow number of
-- each slot, and where it is shared its schedule.
use Rattle.std.specs.Prelude.{◌≡◌, ◌↔◌, ℕ, cond, List, [], ◌∷◌, map, length, Option, Some, None, nat_lt, slice_get}
use Rattle.std.specs.List.{sum_by}
use Rattle.dn_types.specs.Trace.{Link, own, shared, Accepted}
use Rattle.dn_types.specs.Calls.{link_of}
use Rattle.dn_types.specs.Wf2q.{Stamped, pick}
use Rattle.dn_types.specs.declared.flow_key.FlowKey.{FlowKey}
use Rattle.dn_link.specs.LinkState.{LinkState}
use Rattle.dn_flows.specs.declared.home.Home.{Home}
use Rattle.dn_flows.specs.Table.{FlowState, flow_at}
use Rattle.dn_flows.specs.declared.waiting.Waiting.{Waiting}
use Rattle.dn_wf2q.specs.Schedule.{Schedule, heads_of, waiting_of as waiting_in, Picks}
use Rattle.dn_shaper.specs.declared.links.link_parts.Carries.{Carries}
use Rattle.dn_shaper.specs.declared.links.link_parts.Carries.TheVariants.{Own, Shared}
use Rattle.dn_shaper.specs.declared.links.link_parts.LinkParts.{LinkParts}
use Rattle.dn_shaper.specs.declared.links.parts.Parts.{Parts}

pub record LinkView : Type 0 where
  pub link : Link
  pub value : LinkState
  pub waits : ℕ
  pub schedule : Schedule
  pub slots : List ℕ

-- A schedule without a flow. It stands for that of a link which isn't shared.
abbrev pub no_schedule : Schedule
no_schedule = record { flows = []; virtual_time = 0; room = []; arrivals = 0; picks = 0; moves = 0 }

abbrev pub carried_link : ℕ → Carries → Link
carried_link pipe (Own flow) = own pipe flow
carried_link pipe (Shared s) = shared pipe

abbrev pub carried_schedule : Carries → Schedule
carried_schedule (Own flow) = no_schedule
carried_schedule (Shared s) = s.value.sched

abbrev pub carried_slots : Carries → List ℕ
carried_slots (Own flow) = flow ∷ []
carried_slots (Shared s) = s.value.flows.items

-- The homes of the flows, by number.
abbrev pub homes_of : List FlowState → List Home
homes_of flows = map (λ (s : FlowState). s.home) flows

-- How many packets wait in each flow's queue.
abbrev pub queue_lengths : List FlowState → ℕ → ℕ
queue_lengths flows flow = length (flow_at flows flow).backlog

-- How many packets wait for the link: in its flow's queue, or in the schedule of the flows that share it.
abbrev pub carried_waits : (ℕ → ℕ) → Carries → ℕ
carried_waits queues (Own flow) = queues flow
carried_waits queues (Shared s) = waiting_in s.value.sched.flows

-- A link, where the queues of the flows are so long.
abbrev pub view_of : (ℕ → ℕ) → LinkParts → LinkView
view_of queues s = record { link = carried_link s.pipe s.carries; value = s.times; waits = carried_waits queues s.carries; schedule = carried_schedule s.carries; slots = carried_slots s.carries }

abbrev pub views_of : Parts → List LinkView
views_of p = map (view_of (queue_lengths p.flows.flows)) p.links.items

-- How many packets wait for the links.
abbrev pub waits_in_all : List LinkView → ℕ
waits_in_all views = sum_by (λ v. v.waits) views

-- The moment from which the link is free, where a packet waits for it.
abbrev pub next_start_of : LinkView → Option ℕ
next_start_of v = cond (nat_lt 0 v.waits) (Some v.value.free) None

abbrev pub next_starts : List LinkView → List (Option ℕ)
next_starts views = map next_start_of views

-- The link of a flow, by its key. A flow without a key has none; the link that stands for it is no pipe's.
abbrev pub home_by : ℕ → Option FlowKey → Link
home_by flow None = own 0 flow
home_by flow (Some key) = link_of key.target flow key.pipe

abbrev pub home : List FlowKey → ℕ → Link
home keys flow = home_by flow (slice_get keys flow)

-- A packet as its flow's queue holds it.
abbrev pub as_queued : Accepted → Waiting
as_queued p = record { packet = p.packet; len = p.stamped.len; weight = p.stamped.weight }

abbrev pub stamped_of : List Accepted → List Stamped
stamped_of ps = map (λ p. p.stamped) ps

-- A packet as its shared link's schedule holds it, by slot.
abbrev pub slotted : ℕ → Stamped → Stamped
slotted slot s = record { flow = slot; len = s.len; weight = s.weight; start_tag = s.start_tag; finish_tag = s.finish_tag }

-- The flow is the next to send on the link, and on a shared link it is the one that is picked.
abbrev pub IsNextToSend : ℕ → LinkView → LinkView → Link → Type 0
IsNextToSend flow old new (own pipe f) = flow ≡ f
IsNextToSend flow old new (shared pipe) = (h : Stamped) × (pick old.schedule.virtual_time (heads_of old.schedule.flows) ≡ Some h) × (slice_get old.slots h.flow ≡ Some flow) × Picks h old.schedule new.schedule

pub record TakesNext (flow : ℕ) (old new : LinkView) : Type 0 where
  pub link : new.link ≡ old.link
  pub value : new.value ≡ old.value
  pub slots : new.slots ≡ old.slots
  pub sends : IsNextToSend flow old new old.link

-- The flow's own link stands at the place, or the flow shares the link there, and no other link is its own.
abbrev pub IsAlone : ℕ → ℕ → List LinkView → Type 0
IsAlone flow place views = (k : ℕ) (v : LinkView) (pipe f : ℕ) → slice_get views k ≡ Some v → v.link ≡ own pipe f → (f ≡ flow) ↔ (k ≡ place)

-- A shared link has a flow to send.
abbrev pub CanSend : LinkView → Link → Type 0
CanSend v (own pipe f) = Unit {0}
CanSend v (shared pipe) = (h : Stamped) × (flow : ℕ) × (pick v.schedule.virtual_time (heads_of v.schedule.flows) ≡ Some h) × (slice_get v.slots h.flow ≡ Some flow)
