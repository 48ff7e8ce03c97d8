-- Replies: what each call is answered after the calls before it.
use Rattle.std.specs.Prelude.{ℕ, ◌+◌, max, cond, List, [], ◌∷◌, map, sum, length, nat_le}
use Rattle.std.specs.List.{count_by}
use Rattle.dn_types.specs.Calls.{Verdict, no_target, loses, refuses, takes, verdict, link_of, trace_of}
use Rattle.dn_types.specs.Clock.{effective_moment, call_limit}
use Rattle.dn_types.specs.Configuration.{settings, reply_to_command}
use Rattle.dn_types.specs.Deliveries.{given}
use Rattle.dn_types.specs.Flows.{keys}
use Rattle.dn_types.specs.Starts.{settled}
use Rattle.dn_types.specs.Trace.{Event, backlog, is_start_of, is_loss_of, is_refusal_of, discarded_count, accepted_count}
use Rattle.dn_types.specs.declared.call.Call.{Call}
use Rattle.dn_types.specs.declared.call.Call.TheVariants.{Configure, Submit, Advance, Collect, Show}
use Rattle.dn_types.specs.declared.flow_key.FlowKey.{FlowKey}
use Rattle.dn_types.specs.declared.flow_status.FlowStatus.{FlowStatus}
use Rattle.dn_types.specs.declared.rule.Rule.{Rule}
use Rattle.dn_types.specs.declared.reply.Reply.{Reply}
use Rattle.dn_types.specs.declared.reply.Reply.TheVariants.{Queued, Lost, Full, NoTarget, Advanced, Delivered, Status, Exhausted}

-- The state of one flow: the packets and bytes of its backlog, and the counts of its packets.
abbrev pub status_of : ℕ → FlowKey → List Event → FlowStatus
status_of flow key trace =
    let link = link_of key.target flow key.pipe in
    let lengths = map (λ p. p.stamped.len) (backlog link flow trace) in
    record { flow = flow; key = key; queued = length lengths; bytes = sum lengths; lost = count_by (is_loss_of flow) trace; full = count_by (is_refusal_of flow) trace; started = count_by (is_start_of flow) trace; discarded = discarded_count link flow trace }

-- The state of the flows with the keys, from the flow number `flow` on.
abbrev pub statuses_from : ℕ → List FlowKey → List Event → List FlowStatus
statuses_from flow [] trace = []
statuses_from flow (key ∷ known) trace = status_of flow key trace ∷ statuses_from (flow + 1) known trace

-- How a Submit is answered at the effective moment. A packet's number is the count of packets accepted before it.
abbrev pub reply_to_verdict : ℕ → Verdict → List Event → Reply
reply_to_verdict at no_target trace = NoTarget at
reply_to_verdict at (loses link flow) trace = Lost at flow
reply_to_verdict at (refuses link flow) trace = Full at flow
reply_to_verdict at (takes link flow how) trace = Queued at flow (accepted_count trace)

-- What a call is answered that counts.
abbrev pub counted_reply : Rule → List Call → Call → Reply
counted_reply rule calls (Configure command) = reply_to_command calls command
counted_reply rule calls (Submit target packet moment) =
    let at = max (effective_moment calls) moment in
    let trace = settled (settings calls) at (trace_of calls) in
    reply_to_verdict at (verdict calls target packet trace) trace
counted_reply rule calls (Advance moment) = Advanced (max (effective_moment calls) moment)
counted_reply rule calls (Collect moment) =
    let at = max (effective_moment calls) moment in
    Delivered at (given rule at (settled (settings calls) at (trace_of calls)))
counted_reply rule calls Show = Status (statuses_from 0 (keys calls) (trace_of calls))

-- What the call is answered after the calls.
abbrev pub reply : Rule → List Call → Call → Reply
reply rule calls c = cond (nat_le call_limit (length calls)) Exhausted (counted_reply rule calls c)

-- The replies to the calls, newest first.
abbrev pub replies : Rule → List Call → List Reply
replies rule [] = []
replies rule (c ∷ calls) = reply rule calls c ∷ replies rule calls
