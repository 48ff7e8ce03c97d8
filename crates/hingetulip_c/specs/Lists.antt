-- What a reply's list is in C's words, and how much room is asked for it.
use Rattle.std.specs.Prelude.{ℕ, List, [], map, length}
use Rattle.dn_types.specs.Calls.{trace_of}
use Rattle.dn_types.specs.Clock.{counted}
use Rattle.dn_types.specs.Flows.{keys}
use Rattle.dn_types.specs.declared.call.Call.{Call}
use Rattle.dn_types.specs.declared.delivery.Delivery.{Delivery}
use Rattle.dn_types.specs.declared.flow_status.FlowStatus.{FlowStatus}
use Rattle.dn_types.specs.declared.reply.Reply.{Reply}
use Rattle.dn_types.specs.declared.reply.Reply.TheVariants.{Delivered, Status}
use Rattle.dn_types.specs.declared.rule.Rule.{Rule}
use Rattle.dn_types.specs.declared.target.Target.{Target}
use Rattle.dn_types.specs.declared.target.Target.TheVariants.{Pipe, Queue}
use Rattle.dn_shaper.specs.Shaper.{held}
use Rattle.hingetulip_c.specs.declared.records.c_delivery.CDelivery.{CDelivery}
use Rattle.hingetulip_c.specs.declared.records.c_flow.CFlow.{CFlow}

-- The room that a list of deliveries is asked to have: the packets that wait or are under way.
abbrev pub held_after : Rule → List Call → ℕ
held_after rule calls = held rule (trace_of (counted calls))

-- The room that a list of flows is asked to have: one place a flow.
abbrev pub flows_after : List Call → ℕ
flows_after calls = length (keys (counted calls))

-- A delivery as C reads it.
abbrev pub c_delivery : Delivery → CDelivery
c_delivery d = record { due = d.due; packet = d.packet; flow = d.flow; start = d.start; reserved = 0 }

-- A target as C reads it: 0 for a pipe and 1 for a queue, and the number.
abbrev pub kind_of : Target → ℕ
kind_of (Pipe number) = 0
kind_of (Queue number) = 1

abbrev pub number_of : Target → ℕ
number_of (Pipe number) = number
number_of (Queue number) = number

-- The state of a flow as C reads it.
abbrev pub c_flow : FlowStatus → CFlow
c_flow f = record {
  flow = f.flow;
  queued = f.queued;
  bytes = f.bytes;
  lost = f.lost;
  full = f.full;
  started = f.started;
  discarded = f.discarded;
  src = f.key.tuple.src;
  dst = f.key.tuple.dst;
  sport = f.key.tuple.sport;
  dport = f.key.tuple.dport;
  number = number_of f.key.target;
  pipe = f.key.pipe;
  kind = kind_of f.key.target;
  proto = f.key.tuple.proto;
  reserved = 0;
  reserved2 = 0;
}

-- The deliveries of a reply, and the states of flows.
abbrev pub deliveries_of : Reply → List CDelivery
deliveries_of (Delivered at list) = map c_delivery list
deliveries_of _ = []

abbrev pub flows_of : Reply → List CFlow
flows_of (Status list) = map c_flow list
flows_of _ = []
