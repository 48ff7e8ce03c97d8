-- What the arrival of one packet does to its link, the flow table and the counts.
use Rattle.std.specs.Prelude.{◌≡◌, ◌&&◌, ℕ, ◌+◌, ◌<◌, ◌≤◌, ◌^◌, Bool, cond, List, [], None, Some, nat_eq, nat_le, slice_get, slice_set}
use Rattle.dn_types.specs.Calls.{accept, join}
use Rattle.dn_types.specs.Configuration.{Settings}
use Rattle.dn_types.specs.Flows.{Treatment}
use Rattle.dn_types.specs.SharedLinks.{opening}
use Rattle.dn_types.specs.Starts.{next_start}
use Rattle.dn_types.specs.Trace.{Link, own, shared, Event, links, with_link}
use Rattle.dn_types.specs.declared.packet.Packet.{Packet}
use Rattle.dn_flows.specs.Table.{flow_at, pushed}
use Rattle.dn_wf2q.specs.Schedule.{Flow, Schedule, room_at, waiting_of, forgotten, after_arrival}
use Rattle.dn_flows.specs.declared.home.Home.{Home}
use Rattle.dn_shaper.specs.declared.links.parts.Parts.{Parts}
use Rattle.dn_shaper.specs.Refinement.Views.{homes_of, LinkView, views_of, home}
use Rattle.dn_shaper.specs.Refinement.Agreement.{AgreesWith, link_names}

-- The scheduler of a shared link can take a packet at the slot.
abbrev pub CanJoin : ℕ → LinkView → Link → Type 0
CanJoin slot v (own pipe f) = Unit {0}
CanJoin slot v (shared pipe) = (0 < room_at v.schedule.room slot) × (v.schedule.arrivals < 2 ^ 62)

-- Whether no packet waits for the link and it is free by the moment.
abbrev pub is_idle : ℕ → LinkView → Bool
is_idle at v = nat_eq v.waits 0 && nat_le v.value.free at

-- The flows and virtual time after a busy period began, if one does.
abbrev pub begun_flows : Bool → Schedule → List Flow
begun_flows idle s = cond idle (forgotten s.flows) s.flows

abbrev pub begun_time : Bool → Schedule → ℕ
begun_time idle s = cond idle 0 s.virtual_time

pub record ArrivesInSchedule (slot len weight : ℕ) (idle : Bool) (old new : Schedule) : Type 0 where
  pub flows : new.flows ≡ after_arrival (begun_flows idle old) slot (begun_time idle old) len weight
  pub virtual_time : new.virtual_time ≡ begun_time idle old
  pub one_more : waiting_of new.flows ≡ waiting_of (begun_flows idle old) + 1
  pub arrivals : new.arrivals ≡ old.arrivals + 1
  pub room : (other : ℕ) → (other ≡ slot → ⊥) → room_at old.room other ≤ room_at new.room other

-- Where the link is one flow's own, one packet more waits in that flow's queue.
abbrev pub HasOneMore : (ℕ → ℕ) → (ℕ → ℕ) → Link → Type 0
HasOneMore before after (own pipe f) = after f ≡ before f + 1
HasOneMore before after (shared pipe) = Unit {0}

abbrev pub ArrivesOn : ℕ → ℕ → ℕ → Bool → LinkView → LinkView → Link → Type 0
ArrivesOn slot len weight idle old new (own pipe f) = new.schedule ≡ old.schedule
ArrivesOn slot len weight idle old new (shared pipe) = ArrivesInSchedule slot len weight idle old.schedule new.schedule

-- One more packet waits for the link.
pub record Joins (slot len weight : ℕ) (idle : Bool) (old new : LinkView) : Type 0 where
  pub link : new.link ≡ old.link
  pub value : new.value ≡ old.value
  pub slots : new.slots ≡ old.slots
  pub waits : new.waits ≡ old.waits + 1
  pub arrives : ArrivesOn slot len weight idle old new old.link

-- One packet more waits in a flow's queue. The links are left as they are.
pub record JoinsQueue (flow len weight : ℕ) (old new : Parts) : Type 0 where
  pub flows_are : new.flows.flows ≡ slice_set old.flows.flows flow (pushed (record { packet = old.accepted; len = len; weight = weight }) (flow_at old.flows.flows flow))
  pub links : new.links ≡ old.links
  pub rule : new.rule ≡ old.rule
  pub accepted : new.accepted ≡ old.accepted + 1
  pub keys : new.flows.keys ≡ old.flows.keys
  pub homes : homes_of new.flows.flows ≡ homes_of old.flows.flows
  pub line : new.line ≡ old.line
  pub waiting : new.waiting ≡ old.waiting + 1

-- One arrival at a flow, seen by all parts. `idle` says whether the link was idle at the moment.
pub record ArrivesAt (at : ℕ) (h : Home) (flow len weight : ℕ) (idle : Bool) (old new : Parts) : Type 0 where
  pub view : LinkView
  pub view' : LinkView
  pub there : slice_get (views_of old) h.place ≡ Some view
  pub idle_is : idle ≡ is_idle at view
  pub views_are : views_of new ≡ slice_set (views_of old) h.place view'
  pub joins : Joins h.slot len weight idle view view'
  pub flows_are : new.flows.flows ≡ slice_set old.flows.flows flow (pushed (record { packet = old.accepted; len = len; weight = weight }) (flow_at old.flows.flows flow))
  pub rule : new.rule ≡ old.rule
  pub accepted : new.accepted ≡ old.accepted + 1
  pub keys : new.flows.keys ≡ old.flows.keys
  pub homes : homes_of new.flows.flows ≡ homes_of old.flows.flows
  pub line : new.line ≡ old.line
  pub waiting : new.waiting ≡ old.waiting + 1

-- Whatever trace the parts agree with where nothing is due on the flow's link, they agree with it and the packet accepted.
abbrev pub Accepts : Settings → ℕ → ℕ → ℕ → ℕ → Parts → Parts → Type 0
Accepts settings at flow len weight old new =
    (more : List Link) (trace : List Event) (packet : Packet) (how : Treatment) → packet.len ≡ len → how.weight ≡ weight →
    link_names (views_of old) ≡ with_link (home old.flows.keys flow) (links trace) → next_start settings at (home old.flows.keys flow) trace ≡ None → AgreesWith old more trace →
    AgreesWith new [] (join settings at (accept (home old.flows.keys flow) packet flow how (opening (home old.flows.keys flow) at trace)) (opening (home old.flows.keys flow) at trace))

-- There is a trace that the parts agree with, in which the flow's link is seen or made for this packet and has nothing due.
abbrev pub CanAccept : Settings → ℕ → ℕ → Parts → Type 0
CanAccept settings at flow p =
    (more : List Link) × (trace : List Event) × AgreesWith p more trace × (link_names (views_of p) ≡ with_link (home p.flows.keys flow) (links trace)) × (next_start settings at (home p.flows.keys flow) trace ≡ None)

-- The flows and the links that there are stay.
pub record KeepsFlows (old new : Parts) : Type 0 where
  pub rule : new.rule ≡ old.rule
  pub keys : new.flows.keys ≡ old.flows.keys
  pub homes : homes_of new.flows.flows ≡ homes_of old.flows.flows
  pub names : link_names (views_of new) ≡ link_names (views_of old)
