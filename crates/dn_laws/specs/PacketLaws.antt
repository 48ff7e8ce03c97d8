-- The laws of accepted packets and of discarded ones: what of a trace a caller was told.
use Rattle.std.specs.Prelude.{ℕ, ◌≡◌, ◌≢◌, ◌≤◌, ◌<◌, ◌+◌, ◌*◌, ◌^◌, Bool, true, false, cond, List, [], ◌∷◌, ◌++◌, length, nat_eq, Option, Some, None, slice_get}
use Rattle.std.specs.List.{count_by}
use Rattle.dn_types.specs.Calls.{trace_of, link_of}
use Rattle.dn_types.specs.Clock.{call_limit, effective_moment}
use Rattle.dn_types.specs.Configuration.{settings}
use Rattle.dn_types.specs.Flows.{keys}
use Rattle.dn_laws.specs.ConfiguredLaws.{StaysInForce}
use Rattle.dn_types.specs.Replies.{reply}
use Rattle.dn_types.specs.SharedLinks.{last_finish_tag}
use Rattle.dn_laws.specs.Told.{is_arrival_of, IsReached, IsCarriedBy}
use Rattle.dn_types.specs.Trace.{Link, Accepted, Start, Event, arrived, started, discarded, backlog, is_start_of, discarded_count}
use Rattle.dn_types.specs.declared.call.Call.{Call}
use Rattle.dn_types.specs.declared.call.Call.TheVariants.{Configure, Submit}
use Rattle.dn_types.specs.declared.command.Command.{Command}
use Rattle.dn_types.specs.declared.command.Command.TheVariants.{Pipe}
use Rattle.dn_types.specs.declared.flow_key.FlowKey.{FlowKey}
use Rattle.dn_types.specs.declared.limit.Limit.{Limit}
use Rattle.dn_types.specs.declared.mask.Mask.{Mask}
use Rattle.dn_types.specs.declared.packet.Packet.{Packet}
use Rattle.dn_types.specs.declared.reply.Reply.TheVariants.{Configured, Deleted, Queued}
use Rattle.dn_types.specs.declared.rule.Rule.{Rule}
use Rattle.dn_types.specs.declared.target.Target.{Target}
use Rattle.dn_types.specs.declared.target.Target.TheVariants.{Pipe as ToPipe, Queue as ToQueue}

-- The packet was accepted by the call, which submitted it and was told its flow and its number. It has its own length, and its
-- link is by the command in force for its target.
pub record IsAccepted (rule : Rule) (calls : List Call) (c : Call) (p : Accepted) : Type 0 where
  pub target : Target
  pub packet : Packet
  pub moment : ℕ
  pub submitted : c ≡ Submit target packet moment
  pub told : reply rule calls c ≡ Queued (effective_moment (c ∷ calls)) p.stamped.flow p.packet
  pub own_length : p.stamped.len ≡ packet.len
  pub command : Command
  pub in_force : settings calls target ≡ Some command
  pub carried : IsCarriedBy command p.stamped.flow p.link

abbrev pub ArrivalsAreTold : Type 0
ArrivalsAreTold = (rule : Rule) (calls : List Call) (c : Call) (later between : List Event) (p : Accepted) → length calls < call_limit →
    trace_of (c ∷ calls) ≡ later ++ arrived p ∷ between ++ trace_of calls → IsAccepted rule calls c p

-- A packet that is told to be queued arrives.
abbrev pub QueuedPacketsArrive : Type 0
QueuedPacketsArrive = (rule : Rule) (calls : List Call) (target : Target) (packet : Packet) (moment at flow number : ℕ) →
    reply rule calls (Submit target packet moment) ≡ Queued at flow number → (later between : List Event) × ((p : Accepted)
    × (trace_of (Submit target packet moment ∷ calls) ≡ later ++ arrived p ∷ between ++ trace_of calls)
    × (p.packet ≡ number) × (p.stamped.flow ≡ flow))

-- Whether a key is of a queue on the pipe.
abbrev pub is_of_queues : ℕ → Option FlowKey → Bool
is_of_queues pipe None = false
is_of_queues pipe (Some key) = elim key.target [ ToPipe number ↦ false | ToQueue number ↦ nat_eq key.pipe pipe ]

-- The bytes that start in the stretch, of all flows of the pipe's queues together.
abbrev pub sent_by_queues : ℕ → List FlowKey → List Event → ℕ
sent_by_queues pipe known [] = 0
sent_by_queues pipe known (started s ∷ stretch) = cond (is_of_queues pipe (slice_get known s.packet.stamped.flow)) s.packet.stamped.len 0 + sent_by_queues pipe known stretch
sent_by_queues pipe known (_ ∷ stretch) = sent_by_queues pipe known stretch

-- While a pipe's command stays in force, the bits that all its queues together start from one start on, and before a later
-- one, are at most the configured bandwidth by the time between the two.
abbrev pub QueuesShareTheRate : Type 0
QueuesShareTheRate =
    (after calls : List Call) (number bw delay : ℕ) (limit : Limit) (loss : ℕ) (buckets : Option ℕ) (mask : Mask) (later between earlier : List Event) (s r : Start) →
    StaysInForce (ToPipe number) (Pipe number bw delay limit loss buckets mask) after calls → 0 < bw →
    trace_of (after ++ calls) ≡ (later ++ (started s ∷ (between ++ (started r ∷ earlier)))) ++ trace_of calls →
    is_of_queues number (slice_get (keys (after ++ calls)) r.packet.stamped.flow) ≡ true →
    is_of_queues number (slice_get (keys (after ++ calls)) s.packet.stamped.flow) ≡ true →
    sent_by_queues number (keys (after ++ calls)) (between ++ started r ∷ []) * 8 * 10 ^ 9 + r.moment * bw ≤ s.moment * bw

-- The call was a delete that reaches the flow's key, and was told so.
abbrev pub IsDelete : Rule → List Call → Call → ℕ → Type 0
IsDelete rule calls (Configure command) flow = (reply rule calls (Configure command) ≡ Deleted) × ((key : FlowKey) × (slice_get (keys calls) flow ≡ Some key) × IsReached command key)
IsDelete rule calls _ flow = ⊥

-- A queue is emptied by a delete alone.
abbrev pub DiscardsAreDeletes : Type 0
DiscardsAreDeletes = (rule : Rule) (calls : List Call) (c : Call) (later between : List Event) (flow : ℕ) → length calls < call_limit →
    trace_of (c ∷ calls) ≡ later ++ discarded flow ∷ between ++ trace_of calls → IsDelete rule calls c flow

-- A command that isn't told Deleted makes nothing happen, and so leaves each queue and each last finish tag. One that is
-- refused leaves what is in force too.
abbrev pub CommandsSpare : Type 0
CommandsSpare = (rule : Rule) (calls : List Call) (command : Command) → length calls < call_limit → reply rule calls (Configure command) ≢ Deleted →
    ((link : Link) (flow : ℕ) → (backlog link flow (trace_of (Configure command ∷ calls)) ≡ backlog link flow (trace_of calls))
    × (last_finish_tag link flow (trace_of (Configure command ∷ calls)) ≡ last_finish_tag link flow (trace_of calls)))
    × (trace_of (Configure command ∷ calls) ≡ trace_of calls)
    × (reply rule calls (Configure command) ≢ Configured → (target : Target) → settings (Configure command ∷ calls) target ≡ settings calls target)

-- Of the accepted packets of a flow each has started, waits or was discarded.
abbrev pub PacketsAddUp : Type 0
PacketsAddUp = (calls : List Call) (flow : ℕ) (key : FlowKey) → slice_get (keys calls) flow ≡ Some key →
    let trace = trace_of calls in
    let link = link_of key.target flow key.pipe in
    count_by (is_arrival_of flow) trace ≡ count_by (is_start_of flow) trace + length (backlog link flow trace) + discarded_count link flow trace
