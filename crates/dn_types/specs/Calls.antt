-- The trace of a list of calls: what each call makes happen on the links.
use Rattle.std.specs.Prelude.{ℕ, ◌+◌, max, Bool, false, cond, List, [], ◌∷◌, map, length, nat_eq, nat_le, Option, Some, None}
use Rattle.dn_types.specs.Clock.{effective_moment}
use Rattle.dn_types.specs.Configuration.{Settings, settings, target_eq, reply_to_command}
use Rattle.dn_types.specs.Drops.{is_lost, is_full}
use Rattle.dn_types.specs.Flows.{Treatment, treatment, key_of, keys, flow_number}
use Rattle.dn_types.specs.Links.{free}
use Rattle.dn_types.specs.SharedLinks.{virtual_time, last_finish_tag, opening}
use Rattle.dn_types.specs.Starts.{start_at, settled}
use Rattle.dn_types.specs.Trace.{Link, own, shared, Accepted, Event, arrived, started, lost, refused, discarded, collected, backlog, accepted_count}
use Rattle.dn_types.specs.Wf2q.{scaled, start_tag_on_arrival}
use Rattle.dn_types.specs.declared.call.Call.{Call}
use Rattle.dn_types.specs.declared.call.Call.TheVariants.{Configure, Submit, Advance, Collect, Show}
use Rattle.dn_types.specs.declared.packet.Packet.{Packet}
use Rattle.dn_types.specs.declared.target.Target.{Target}
use Rattle.dn_types.specs.declared.target.Target.TheVariants.{Pipe as ToPipe, Queue as ToQueue}
use Rattle.dn_types.specs.declared.command.Command.{Command}
use Rattle.dn_types.specs.declared.command.Command.TheVariants.{DeletePipe, DeleteQueue}
use Rattle.dn_types.specs.declared.flow_key.FlowKey.{FlowKey}
use Rattle.dn_types.specs.declared.reply.Reply.{Reply}
use Rattle.dn_types.specs.declared.reply.Reply.TheVariants.{Deleted}

-- The link of a flow: one of its own where the target is a pipe, and the one that the pipe's queues share else.
abbrev pub link_of : Target → ℕ → ℕ → Link
link_of (ToPipe number) flow pipe = own pipe flow
link_of (ToQueue number) flow pipe = shared pipe

-- What becomes of a submitted packet.
pub data Verdict : Type 0 where
  no_target : Verdict
  loses : Link → ℕ → Verdict
  refuses : Link → ℕ → Verdict
  takes : Link → ℕ → Treatment → Verdict

-- A packet to a target without a treatment has no flow. Loss is tested first, and then whether the flow's queue is full.
abbrev pub verdict_by : List FlowKey → Target → Packet → Option Treatment → List Event → Verdict
verdict_by known target packet None trace = no_target
verdict_by known target packet (Some how) trace =
    let flow = flow_number known (key_of target packet.tuple how) in
    let link = link_of target flow how.pipe in
    cond (is_lost how.loss packet.word) (loses link flow) (cond (is_full how.limit (map (λ p. p.stamped.len) (backlog link flow trace))) (refuses link flow) (takes link flow how))

abbrev pub verdict : List Call → Target → Packet → List Event → Verdict
verdict calls target packet trace = verdict_by (keys calls) target packet (treatment (settings calls target)) trace

-- The packet as it is accepted, with its number and its tags.
abbrev pub accept : Link → Packet → ℕ → Treatment → List Event → Accepted
accept link packet flow how trace =
    let start = start_tag_on_arrival (nat_eq (length (backlog link flow trace)) 0) (last_finish_tag link flow trace) (virtual_time link trace) in
    record { packet = accepted_count trace; link = link; stamped = record { flow = flow; len = packet.len; weight = how.weight; start_tag = start; finish_tag = start + scaled packet.len how.weight } }

-- An accepted packet joins its queue, and starts at once where its link is free.
abbrev pub join : Settings → ℕ → Accepted → List Event → List Event
join settings at p trace = cond (nat_le (free p.link trace) at) (started (start_at settings p.link p at) ∷ arrived p ∷ trace) (arrived p ∷ trace)

abbrev pub after_verdict : Settings → ℕ → Packet → Verdict → List Event → List Event
after_verdict settings at packet no_target trace = trace
after_verdict settings at packet (loses link flow) trace = lost link flow ∷ trace
after_verdict settings at packet (refuses link flow) trace = refused link flow ∷ trace
after_verdict settings at packet (takes link flow how) trace =
    let before = opening link at trace in
    join settings at (accept link packet flow how before) before

-- Whether a delete reaches the flows with the key: those of the queue, or those on the pipe.
abbrev pub reaches : Command → FlowKey → Bool
reaches (DeletePipe number) key = nat_eq key.pipe number
reaches (DeleteQueue number) key = target_eq key.target (ToQueue number)
reaches _ key = false

-- The queues of the flows that a delete reaches are emptied, in order of flow numbers from `flow` on.
abbrev pub discard_reached : Command → ℕ → List FlowKey → List Event → List Event
discard_reached command flow [] trace = trace
discard_reached command flow (key ∷ known) trace = discard_reached command (flow + 1) known (cond (reaches command key) (discarded flow ∷ trace) trace)

abbrev pub after_command : Reply → Command → List FlowKey → List Event → List Event
after_command Deleted command known trace = discard_reached command 0 known trace
after_command _ command known trace = trace

-- What a call makes happen. A timed call settles first, up to its effective moment.
abbrev pub after_call : List Call → Call → List Event → List Event
after_call calls (Configure command) trace = after_command (reply_to_command calls command) command (keys calls) trace
after_call calls (Submit target packet moment) trace =
    let at = max (effective_moment calls) moment in
    let before = settled (settings calls) at trace in
    after_verdict (settings calls) at packet (verdict calls target packet before) before
after_call calls (Advance moment) trace = settled (settings calls) (max (effective_moment calls) moment) trace
after_call calls (Collect moment) trace = let at = max (effective_moment calls) moment in collected at ∷ settled (settings calls) at trace
after_call calls Show trace = trace

abbrev pub trace_of : List Call → List Event
trace_of [] = []
trace_of (c ∷ calls) = after_call calls c (trace_of calls)
