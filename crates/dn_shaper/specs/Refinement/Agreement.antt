-- When the parts agree with a trace: each reading of the trace stands in its part.
use Rattle.std.specs.Prelude.{◌≡◌, ℕ, ◌*◌, ◌<◌, ◌≤◌, ◌||◌, Bool, false, cond, nat_eq, List, [], ◌∷◌, ◌++◌, map, length, Some, slice_get}
use Rattle.std.specs.List.{count_by, list_any}
use Rattle.dn_types.specs.Configuration.{Settings}
use Rattle.dn_types.specs.Deliveries.{undelivered}
use Rattle.dn_types.specs.Links.{free, last_due}
use Rattle.dn_types.specs.SharedLinks.{waiting, virtual_time, last_finish_tag}
use Rattle.dn_types.specs.Starts.{bandwidth_of, delay_of}
use Rattle.dn_types.specs.Trace.{Link, shared, link_eq, Event, arrived, discarded, backlog, links, flow_bound, is_loss_of, is_refusal_of, is_start_of, discarded_count, accepted_count}
use Rattle.dn_types.specs.declared.delivery.Delivery.{Delivery}
use Rattle.dn_types.specs.declared.flow_key.FlowKey.{FlowKey}
use Rattle.dn_types.specs.declared.rule.Rule.{Rule}
use Rattle.dn_types.specs.declared.target.Target.TheVariants.{Pipe as ToPipe}
use Rattle.dn_flows.specs.Table.{FlowState, flow_at}
use Rattle.dn_wf2q.specs.Schedule.{Flow, Schedule, flow_at as slot_at, no_packets}
use Rattle.dn_flows.specs.declared.home.Home.{Home}
use Rattle.dn_shaper.specs.declared.links.parts.Parts.{Parts}
use Rattle.dn_shaper.specs.Refinement.Slots.{Ascends, top}
use Rattle.dn_shaper.specs.Refinement.Views.{homes_of, LinkView, views_of, home, as_queued, stamped_of, slotted}

-- The settings give the pipe this bandwidth in bit/s and this delay in milliseconds.
pub record GivesRates (settings : Settings) (pipe bandwidth delay : ℕ) : Type 0 where
  pub bandwidth_is : bandwidth_of (settings (ToPipe pipe)) ≡ bandwidth
  pub delay_is : delay_of (settings (ToPipe pipe)) ≡ delay * 1000000

-- A slot of a schedule holds the backlog and the last finish tag of a flow.
pub record IsSlotAt (link : Link) (flow slot : ℕ) (trace : List Event) (s : Flow) : Type 0 where
  pub backlog_is : s.backlog ≡ map (slotted slot) (stamped_of (backlog link flow trace))
  pub last_finish_is : s.last_finish_tag ≡ last_finish_tag link flow trace

pub record IsScheduleAt (link : Link) (trace : List Event) (s : Schedule) (slots : List ℕ) : Type 0 where
  pub virtual_time_is : s.virtual_time ≡ virtual_time link trace
  pub slots_are : (slot flow : ℕ) → slice_get slots slot ≡ Some flow → IsSlotAt link flow slot trace (slot_at s.flows slot)
  pub beyond : (slot : ℕ) → length slots ≤ slot → slot_at s.flows slot ≡ no_packets

-- A link, where there are so many flows.
pub record IsLinkAt (rule : Rule) (flows : ℕ) (trace : List Event) (v : LinkView) : Type 0 where
  pub free_is : v.value.free ≡ free v.link trace
  pub last_due_is : v.value.last_due ≡ last_due rule v.link trace
  pub waits_are : v.waits ≡ waiting v.link trace
  pub schedule_is : (pipe : ℕ) → v.link ≡ shared pipe → IsScheduleAt v.link trace v.schedule v.slots
  pub ascends : Ascends 0 v.slots
  pub below : top 0 v.slots ≤ flows

-- Whether a packet of the flow was accepted since a delete last reached it.
abbrev pub is_active : ℕ → List Event → Bool
is_active flow [] = false
is_active flow (arrived p ∷ trace) = nat_eq p.stamped.flow flow || is_active flow trace
is_active flow (discarded f ∷ trace) = cond (nat_eq f flow) false (is_active flow trace)
is_active flow (_ ∷ trace) = is_active flow trace

-- A flow at home on a link: its queue and its counts.
pub record IsFlowAt (link : Link) (flow : ℕ) (trace : List Event) (s : FlowState) : Type 0 where
  pub backlog_is : s.backlog ≡ map as_queued (backlog link flow trace)
  pub lost_is : s.lost ≡ count_by (is_loss_of flow) trace
  pub full_is : s.full ≡ count_by (is_refusal_of flow) trace
  pub started_is : s.started ≡ count_by (is_start_of flow) trace
  pub discarded_is : s.discarded ≡ discarded_count link flow trace
  pub active_is : s.active ≡ is_active flow trace

-- The home of a flow: the place of its link, and on a shared link the flow's slot.
pub record IsHomeOf (flow : ℕ) (link : Link) (views : List LinkView) (h : Home) : Type 0 where
  pub view : LinkView
  pub there : slice_get views h.place ≡ Some view
  pub link_is : view.link ≡ link
  pub slot_is : (pipe : ℕ) → link ≡ shared pipe → slice_get view.slots h.slot ≡ Some flow

-- Nothing has started on the link.
pub record HasSentNothing (rule : Rule) (trace : List Event) (link : Link) : Type 0 where
  pub free_is : free link trace ≡ 0
  pub last_due_is : last_due rule link trace ≡ 0
  pub virtual_time_is : virtual_time link trace ≡ 0

abbrev pub AreDistinct : List Link → Type 0
AreDistinct ls = (i j : ℕ) (l m : Link) → slice_get ls i ≡ Some l → slice_get ls j ≡ Some m → (i ≡ j → ⊥) → link_eq l m ≡ false

abbrev pub link_names : List LinkView → List Link
link_names views = map (λ v. v.link) views

-- The flows of a link's slots are at home there.
abbrev pub AreSlotsAtHome : List FlowKey → List LinkView → Type 0
AreSlotsAtHome keys views = (k : ℕ) (v : LinkView) → slice_get views k ≡ Some v → (slot flow : ℕ) → slice_get v.slots slot ≡ Some flow → home keys flow ≡ v.link

-- All parts. The links are those of the trace and then those that were made for a packet whose event is still to come.
pub record IsAt (rule : Rule) (accepted : ℕ) (keys : List FlowKey) (homes : List Home) (views : List LinkView) (flows : List FlowState) (pending : List Delivery) (more : List Link) (trace : List Event) : Type 0 where
  pub links_are : link_names views ≡ links trace ++ more
  pub distinct : AreDistinct (link_names views)
  pub views_are : (k : ℕ) (v : LinkView) → slice_get views k ≡ Some v → IsLinkAt rule (length keys) trace v
  pub untouched : (link : Link) → list_any (link_eq link) (links trace) ≡ false → HasSentNothing rule trace link
  pub flows_are : (flow : ℕ) → IsFlowAt (home keys flow) flow trace (flow_at flows flow)
  pub as_many : length flows ≡ length keys
  pub elsewhere : (flow : ℕ) (link : Link) → link_eq (home keys flow) link ≡ false → backlog link flow trace ≡ []
  pub bound : flow_bound trace ≤ length keys
  pub homes_are : (flow : ℕ) → flow < length keys → (h : Home) × (slice_get homes flow ≡ Some h) × IsHomeOf flow (home keys flow) views h
  pub as_many_homes : length homes ≡ length keys
  pub slots_home : AreSlotsAtHome keys views
  pub pending_is : pending ≡ undelivered rule trace
  pub accepted_is : accepted ≡ accepted_count trace

abbrev pub AgreesWith : Parts → List Link → List Event → Type 0
AgreesWith p more trace = IsAt p.rule p.accepted p.flows.keys (homes_of p.flows.flows) (views_of p) p.flows.flows p.line.pending more trace

-- The parts agree with some trace.
abbrev pub Agrees : Parts → Type 0
Agrees p = (more : List Link) × (trace : List Event) × AgreesWith p more trace
