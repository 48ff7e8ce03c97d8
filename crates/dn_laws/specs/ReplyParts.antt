-- The part of some links in a reply, with the numbers of its flows and packets among themselves.
use Rattle.std.specs.Prelude.{ℕ, Bool, true, false, cond, List, map}
use Rattle.std.specs.List.{filter}
use Rattle.dn_types.specs.Calls.{trace_of}
use Rattle.dn_types.specs.Flows.{keys}
use Rattle.dn_laws.specs.Parts.{Choice, place, is_flow_on, is_packet_on}
use Rattle.dn_types.specs.declared.call.Call.{Call}
use Rattle.dn_types.specs.declared.delivery.Delivery.{Delivery}
use Rattle.dn_types.specs.declared.flow_status.FlowStatus.{FlowStatus}
use Rattle.dn_types.specs.declared.reply.Reply.{Reply}
use Rattle.dn_types.specs.declared.reply.Reply.TheVariants.{Queued, Lost, Full, NoTarget, Advanced, Delivered, Status}

abbrev pub delivery_by : (ℕ → ℕ) → (ℕ → ℕ) → Delivery → Delivery
delivery_by flows packets d = record { due = d.due; packet = packets d.packet; flow = flows d.flow; start = d.start }

abbrev pub status_by : (ℕ → ℕ) → FlowStatus → FlowStatus
status_by flows s = record { flow = flows s.flow; key = s.key; queued = s.queued; bytes = s.bytes; lost = s.lost; full = s.full; started = s.started; discarded = s.discarded }

-- What a packet on a chosen link is answered, with its own numbers. A packet on another is an Advance. Deliveries and
-- states are those of the chosen links' flows, in the same order, and each other reply stays.
abbrev pub reply_by : (ℕ → Bool) → (ℕ → Bool) → Reply → Reply
reply_by is_flow is_packet (Queued at flow packet) = cond (is_flow flow) (Queued at (place is_flow flow) (place is_packet packet)) (Advanced at)
reply_by is_flow is_packet (Lost at flow) = cond (is_flow flow) (Lost at (place is_flow flow)) (Advanced at)
reply_by is_flow is_packet (Full at flow) = cond (is_flow flow) (Full at (place is_flow flow)) (Advanced at)
reply_by is_flow is_packet (NoTarget at) = Advanced at
reply_by is_flow is_packet (Delivered at list) = Delivered at (map (delivery_by (place is_flow) (place is_packet)) (filter (λ d. is_flow d.flow) list))
reply_by is_flow is_packet (Status list) = Status (map (status_by (place is_flow)) (filter (λ s. is_flow s.flow) list))
reply_by is_flow is_packet r = r

-- The part of a reply to one of the calls.
abbrev pub reply_on : Choice → List Call → Reply → Reply
reply_on chosen calls r =
    let is_flow = is_flow_on chosen (keys calls) in
    reply_by is_flow (is_packet_on chosen is_flow (trace_of calls)) r

-- Whether a reply is more than that the clock was moved.
abbrev pub is_told : Reply → Bool
is_told (Advanced at) = false
is_told _ = true
