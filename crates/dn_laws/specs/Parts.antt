-- The part of some links: what is left of calls and of their trace where other links carry no packet.
-- Its flows and its packets are numbered among themselves.
use Rattle.std.specs.Prelude.{ℕ, zero, suc, Bool, true, false, cond, ◌&&◌, List, [], ◌∷◌, nat_eq, Option, Some, None, slice_get}
use Rattle.std.specs.List.{list_any}
use Rattle.dn_types.specs.Calls.{trace_of}
use Rattle.dn_types.specs.Configuration.{settings}
use Rattle.dn_types.specs.Flows.{Treatment, treatment, key_of, keys}
use Rattle.dn_types.specs.Trace.{Link, own, shared, Accepted, Start, Event, opened, arrived, started, lost, refused, discarded, collected}
use Rattle.dn_types.specs.Wf2q.{Stamped}
use Rattle.dn_types.specs.declared.call.Call.{Call}
use Rattle.dn_types.specs.declared.call.Call.TheVariants.{Submit, Advance}
use Rattle.dn_types.specs.declared.five_tuple.FiveTuple.{FiveTuple}
use Rattle.dn_types.specs.declared.flow_key.FlowKey.{FlowKey}
use Rattle.dn_types.specs.declared.target.Target.{Target}
use Rattle.dn_types.specs.declared.target.Target.TheVariants.{Pipe as ToPipe, Queue as ToQueue}

-- Some of the links: flows with a link of their own by their keys, and shared links by their pipes.
pub record Choice : Type 0 where
  pub own_flow : FlowKey → Bool
  pub shared_link : ℕ → Bool

-- All links of a pipe.
abbrev pub of_pipe : ℕ → Choice
of_pipe pipe = record { own_flow = λ key. nat_eq key.pipe pipe; shared_link = λ number. nat_eq number pipe }

-- Whether the flow with the key is on a chosen link.
abbrev pub is_flow_of : Choice → Target → FlowKey → Bool
is_flow_of chosen (ToPipe number) key = chosen.own_flow key
is_flow_of chosen (ToQueue number) key = chosen.shared_link key.pipe

abbrev pub is_key_on : Choice → FlowKey → Bool
is_key_on chosen key = is_flow_of chosen key.target key

-- Whether a chosen link carries the packet to the target, which is treated so.
abbrev pub is_carried : Choice → Target → FiveTuple → Option Treatment → Bool
is_carried chosen target tuple None = false
is_carried chosen target tuple (Some how) = is_key_on chosen (key_of target tuple how)

-- The call where other links carry no packet: a packet that none of the chosen links carries is an Advance to its
-- moment, and each other call stays.
abbrev pub call_on : Choice → List Call → Call → Call
call_on chosen calls (Submit target packet moment) = cond (is_carried chosen target packet.tuple (treatment (settings calls target))) (Submit target packet moment) (Advance moment)
call_on chosen calls c = c

abbrev pub calls_on : Choice → List Call → List Call
calls_on chosen [] = []
calls_on chosen (c ∷ calls) = call_on chosen calls c ∷ calls_on chosen calls

-- How many numbers below `n` pass the test: the place of `n` among those that do.
abbrev pub place : (ℕ → Bool) → ℕ → ℕ
place test zero = 0
place test (suc n) = cond (test n) (suc (place test n)) (place test n)

abbrev pub is_some_key_on : Choice → Option FlowKey → Bool
is_some_key_on chosen None = false
is_some_key_on chosen (Some key) = is_key_on chosen key

-- Whether the flow with the number is on a chosen link.
abbrev pub is_flow_on : Choice → List FlowKey → ℕ → Bool
is_flow_on chosen known flow = is_some_key_on chosen (slice_get known flow)

-- Whether a link is chosen, where the flows that pass the test are.
abbrev pub is_link_on : Choice → (ℕ → Bool) → Link → Bool
is_link_on chosen is_flow (own pipe flow) = is_flow flow
is_link_on chosen is_flow (shared pipe) = chosen.shared_link pipe

-- Whether the event is the arrival of the packet with the number, on a chosen link.
abbrev pub is_arrival_on : Choice → (ℕ → Bool) → ℕ → Event → Bool
is_arrival_on chosen is_flow number (arrived p) = nat_eq p.packet number && is_link_on chosen is_flow p.link
is_arrival_on chosen is_flow number _ = false

-- Whether the packet with the number was accepted on a chosen link.
abbrev pub is_packet_on : Choice → (ℕ → Bool) → List Event → ℕ → Bool
is_packet_on chosen is_flow trace number = list_any (is_arrival_on chosen is_flow number) trace

abbrev pub link_by : (ℕ → ℕ) → Link → Link
link_by flows (own pipe flow) = own pipe (flows flow)
link_by flows (shared pipe) = shared pipe

abbrev pub stamped_by : (ℕ → ℕ) → Stamped → Stamped
stamped_by flows h = record { flow = flows h.flow; len = h.len; weight = h.weight; start_tag = h.start_tag; finish_tag = h.finish_tag }

abbrev pub accepted_by : (ℕ → ℕ) → (ℕ → ℕ) → Accepted → Accepted
accepted_by flows packets p = record { packet = packets p.packet; link = link_by flows p.link; stamped = stamped_by flows p.stamped }

abbrev pub start_by : (ℕ → ℕ) → (ℕ → ℕ) → Start → Start
start_by flows packets s = record { packet = accepted_by flows packets s.packet; moment = s.moment; transmission = s.transmission; delay = s.delay }

abbrev pub event_by : (ℕ → ℕ) → (ℕ → ℕ) → Event → Event
event_by flows packets (opened link) = opened (link_by flows link)
event_by flows packets (arrived p) = arrived (accepted_by flows packets p)
event_by flows packets (started s) = started (start_by flows packets s)
event_by flows packets (lost link flow) = lost (link_by flows link) (flows flow)
event_by flows packets (refused link flow) = refused (link_by flows link) (flows flow)
event_by flows packets (discarded flow) = discarded (flows flow)
event_by flows packets (collected at) = collected at

-- Whether an event is on a chosen link, or of a flow on one. A Collect is of all links.
abbrev pub is_event_on : Choice → (ℕ → Bool) → Event → Bool
is_event_on chosen is_flow (opened link) = is_link_on chosen is_flow link
is_event_on chosen is_flow (arrived p) = is_link_on chosen is_flow p.link
is_event_on chosen is_flow (started s) = is_link_on chosen is_flow s.packet.link
is_event_on chosen is_flow (lost link flow) = is_link_on chosen is_flow link
is_event_on chosen is_flow (refused link flow) = is_link_on chosen is_flow link
is_event_on chosen is_flow (discarded flow) = is_flow flow
is_event_on chosen is_flow (collected at) = true

-- The events on the chosen links in the same order, where flows and packets that pass a test are theirs.
abbrev pub part : Choice → (ℕ → Bool) → (ℕ → Bool) → List Event → List Event
part chosen is_flow is_packet [] = []
part chosen is_flow is_packet (e ∷ trace) =
    cond (is_event_on chosen is_flow e) (event_by (place is_flow) (place is_packet) e ∷ part chosen is_flow is_packet trace) (part chosen is_flow is_packet trace)

-- The part of what the calls make happen.
abbrev pub part_of : Choice → List Call → List Event
part_of chosen calls =
    let is_flow = is_flow_on chosen (keys calls) in
    part chosen is_flow (is_packet_on chosen is_flow (trace_of calls)) (trace_of calls)
