-- The laws of replies: what each call is told, by what happens and by what was told before.
use Rattle.std.specs.Prelude.{ℕ, ◌≡◌, ◌≢◌, ◌≤◌, ◌<◌, ◌+◌, ◌^◌, ◌⊎◌, List, ◌∷◌, ◌++◌, map, sum, length, nat_eq, Some, None, slice_get}
use Rattle.std.specs.List.{All, count_by}
use Rattle.dn_types.specs.Deliveries.{AreInOrder}
use Rattle.dn_types.specs.Calls.{trace_of, link_of}
use Rattle.dn_types.specs.Clock.{call_limit, moment_of, effective_moment}
use Rattle.dn_types.specs.Configuration.{Settings, settings}
use Rattle.dn_laws.specs.Explained.{IsDueBy, IsDeliveryOf}
use Rattle.dn_types.specs.Flows.{keys}
use Rattle.dn_types.specs.Links.{last_due}
use Rattle.dn_laws.specs.PartLaws.{IsTimed}
use Rattle.dn_types.specs.Replies.{reply, replies}
use Rattle.dn_laws.specs.Told.{moment_told, is_queued, is_queued_of, is_lost_of, is_full_of, times_told, HasQueue, IsThere}
use Rattle.dn_types.specs.Trace.{Link, Start, Event, started, discarded, backlog, is_start_of}
use Rattle.dn_types.specs.declared.call.Call.{Call}
use Rattle.dn_types.specs.declared.call.Call.TheVariants.{Configure, Submit, Advance, Collect, Show}
use Rattle.dn_types.specs.declared.command.Command.{Command}
use Rattle.dn_types.specs.declared.command.Command.TheVariants.{Pipe, Queue, DeletePipe, DeleteQueue}
use Rattle.dn_types.specs.declared.delivery.Delivery.{Delivery}
use Rattle.dn_types.specs.declared.flow_key.FlowKey.{FlowKey}
use Rattle.dn_types.specs.declared.flow_status.FlowStatus.{FlowStatus}
use Rattle.dn_types.specs.declared.packet.Packet.{Packet}
use Rattle.dn_types.specs.declared.reply.Reply.{Reply}
use Rattle.dn_types.specs.declared.reply.Reply.TheVariants.{Configured, NoSuchPipe, Deleted, PipeHasQueues, NoSuchQueue, Queued, Advanced, Delivered, Status, Exhausted}
use Rattle.dn_types.specs.declared.rule.Rule.{Rule}
use Rattle.dn_types.specs.declared.target.Target.{Target}
use Rattle.dn_types.specs.declared.target.Target.TheVariants.{Pipe as ToPipe, Queue as ToQueue}

-- 2^62 calls are answered, and every further one is told Exhausted.
abbrev pub LimitIsCounted : Type 0
LimitIsCounted = (rule : Rule) (calls : List Call) (c : Call) →
    (length calls < 2 ^ 62 → reply rule calls c ≢ Exhausted) × (2 ^ 62 ≤ length calls → reply rule calls c ≡ Exhausted)

-- A packet, an Advance and a Collect are told the effective moment after them, and an Advance is told nothing else.
abbrev pub RepliesTellTheClock : Type 0
RepliesTellTheClock = (rule : Rule) (calls : List Call) (c : Call) → length calls < call_limit →
    (IsTimed c → moment_told (reply rule calls c) ≡ Some (effective_moment (c ∷ calls)))
    × ((moment : ℕ) → c ≡ Advance moment → reply rule calls c ≡ Advanced (effective_moment (c ∷ calls)))

-- The effective moment is the greatest that any of the calls names, and 0 where none does.
abbrev pub ClockIsTheGreatest : Type 0
ClockIsTheGreatest = (calls : List Call) →
    ((later : List Call) (c : Call) (earlier : List Call) → calls ≡ later ++ c ∷ earlier → moment_of c ≤ effective_moment calls)
    × ((effective_moment calls ≡ 0) ⊎ ((later : List Call) × ((c : Call) × ((earlier : List Call) × (calls ≡ later ++ c ∷ earlier)
    × (moment_of c ≡ effective_moment calls)))))

-- What a command is told, by what is in force: a pipe is configured, and a queue where its pipe is. What isn't there can't be
-- deleted, nor can a pipe with a queue.
abbrev pub IsToldBy : Settings → Command → Reply → Type 0
IsToldBy in_force (Pipe number bw delay limit loss buckets mask) r = r ≡ Configured
IsToldBy in_force (Queue number pipe weight limit loss buckets mask) r =
    (IsThere (in_force (ToPipe pipe)) → r ≡ Configured) × (in_force (ToPipe pipe) ≡ None → r ≡ NoSuchPipe)
IsToldBy in_force (DeletePipe number) r =
    (in_force (ToPipe number) ≡ None → r ≡ NoSuchPipe)
    × (IsThere (in_force (ToPipe number)) → HasQueue in_force number → r ≡ PipeHasQueues)
    × (IsThere (in_force (ToPipe number)) → (HasQueue in_force number → ⊥) → r ≡ Deleted)
IsToldBy in_force (DeleteQueue number) r =
    (IsThere (in_force (ToQueue number)) → r ≡ Deleted) × (in_force (ToQueue number) ≡ None → r ≡ NoSuchQueue)

abbrev pub CommandsAreTold : Type 0
CommandsAreTold = (rule : Rule) (calls : List Call) (command : Command) → length calls < call_limit →
    IsToldBy (settings calls) command (reply rule calls (Configure command))

-- A packet that is queued is told how many were before it.
abbrev pub PacketsAreNumbered : Type 0
PacketsAreNumbered = (rule : Rule) (calls : List Call) (target : Target) (packet : Packet) (moment at flow number : ℕ) →
    reply rule calls (Submit target packet moment) ≡ Queued at flow number → number ≡ count_by is_queued (replies rule calls)

-- A Collect is told deliveries, each of a packet that started and is due by the effective moment, in order of due moments.
abbrev pub CollectsAreTold : Type 0
CollectsAreTold = (rule : Rule) (calls : List Call) (moment : ℕ) → length calls < call_limit → (list : List Delivery)
    × (reply rule calls (Collect moment) ≡ Delivered (effective_moment (Collect moment ∷ calls)) list)
    × All (λ d. (d.due ≤ effective_moment (Collect moment ∷ calls)) × IsDeliveryOf rule (trace_of (Collect moment ∷ calls)) d) list
    × AreInOrder list

-- No packet is delivered twice.
abbrev pub ToldOnce : Type 0
ToldOnce = (rule : Rule) (number : ℕ) (calls : List Call) → times_told number (replies rule calls) ≤ 1

-- And each that has started and is due by the effective moment of a Collect is delivered by then: so by the first whose
-- effective moment reaches its due moment.
abbrev pub ToldWhenDue : Type 0
ToldWhenDue = (rule : Rule) (calls : List Call) (moment due : ℕ) (later earlier : List Event) (s : Start) → length calls < call_limit →
    trace_of (Collect moment ∷ calls) ≡ later ++ started s ∷ earlier → IsDueBy rule s (last_due rule s.packet.link earlier) due →
    due ≤ effective_moment (Collect moment ∷ calls) → times_told s.packet.packet (replies rule (Collect moment ∷ calls)) ≡ 1

-- How many of the waiting packets have the number.
abbrev pub waits_as : ℕ → Link → ℕ → List Event → ℕ
waits_as number link flow trace = count_by (λ p. nat_eq p.packet number) (backlog link flow trace)

-- The packet waits, or it did when its flow's queue was emptied, or it has started.
abbrev pub Waits : ℕ → ℕ → List Event → Type 0
Waits number flow trace = (link : Link) × (0 < waits_as number link flow trace)

abbrev pub WasDiscarded : ℕ → ℕ → List Event → Type 0
WasDiscarded number flow trace = (later earlier : List Event) × ((trace ≡ later ++ discarded flow ∷ earlier) × Waits number flow earlier)

abbrev pub HasStarted : ℕ → ℕ → List Event → Type 0
HasStarted number flow trace = (later earlier : List Event) × ((s : Start) × (trace ≡ later ++ started s ∷ earlier) × (s.packet.packet ≡ number)
    × (s.packet.stamped.flow ≡ flow))

-- A packet that was queued is kept: whatever calls follow, it waits, was discarded or has started.
abbrev pub QueuedPacketsStay : Type 0
QueuedPacketsStay = (rule : Rule) (after calls : List Call) (target : Target) (packet : Packet) (moment at flow number : ℕ) →
    reply rule calls (Submit target packet moment) ≡ Queued at flow number →
    let trace = trace_of (after ++ Submit target packet moment ∷ calls) in
    Waits number flow trace ⊎ (WasDiscarded number flow trace ⊎ HasStarted number flow trace)

-- The packet has started and has a due moment. Where the clock has reached it, the packet was delivered, and once.
abbrev pub IsDelivered : Rule → ℕ → ℕ → List Call → Type 0
IsDelivered rule number flow calls = (later earlier : List Event) × ((s : Start) × ((due : ℕ) × (trace_of calls ≡ later ++ started s ∷ earlier)
    × (s.packet.packet ≡ number) × (s.packet.stamped.flow ≡ flow) × IsDueBy rule s (last_due rule s.packet.link earlier) due
    × (due ≤ effective_moment calls → times_told number (replies rule calls) ≡ 1)))

-- So after a Collect a packet that was queued waits, was discarded, or is delivered from its due moment on.
abbrev pub QueuedPacketsAreDelivered : Type 0
QueuedPacketsAreDelivered = (rule : Rule) (after calls : List Call) (target : Target) (packet : Packet) (moment at flow number collect : ℕ) →
    reply rule calls (Submit target packet moment) ≡ Queued at flow number → length (after ++ Submit target packet moment ∷ calls) < call_limit →
    let all = Collect collect ∷ after ++ Submit target packet moment ∷ calls in
    Waits number flow (trace_of all) ⊎ (WasDiscarded number flow (trace_of all) ⊎ IsDelivered rule number flow all)

-- The state of a flow: so many of its packets were told to be lost and refused, and those told to be queued have started, wait
-- or were discarded. Its bytes are those of the packets that wait.
pub record IsStateOf (rule : Rule) (calls : List Call) (flow : ℕ) (key : FlowKey) (s : FlowStatus) : Type 0 where
  pub own_number : s.flow ≡ flow
  pub own_key : s.key ≡ key
  pub lost : s.lost ≡ count_by (is_lost_of flow) (replies rule calls)
  pub full : s.full ≡ count_by (is_full_of flow) (replies rule calls)
  pub queued : count_by (is_queued_of flow) (replies rule calls) ≡ s.started + s.queued + s.discarded
  pub started : s.started ≡ count_by (is_start_of flow) (trace_of calls)
  pub waiting : s.queued ≡ length (backlog (link_of key.target flow key.pipe) flow (trace_of calls))
  pub bytes : s.bytes ≡ sum (map (λ p. p.stamped.len) (backlog (link_of key.target flow key.pipe) flow (trace_of calls)))

-- A Show is told the state of each flow, in order of flow numbers.
abbrev pub ShowsAreTold : Type 0
ShowsAreTold = (rule : Rule) (calls : List Call) → length calls < call_limit → (list : List FlowStatus) × (reply rule calls Show ≡ Status list)
    × (length list ≡ length (keys calls))
    × ((flow : ℕ) (key : FlowKey) → slice_get (keys calls) flow ≡ Some key →
    (s : FlowStatus) × (slice_get list flow ≡ Some s) × IsStateOf rule calls flow key s)

-- Each flow was named in a reply to a packet.
abbrev pub FlowsWereTold : Type 0
FlowsWereTold = (rule : Rule) (calls : List Call) (flow : ℕ) (key : FlowKey) → length calls ≤ call_limit → slice_get (keys calls) flow ≡ Some key →
    0 < count_by (is_queued_of flow) (replies rule calls) + count_by (is_lost_of flow) (replies rule calls) + count_by (is_full_of flow) (replies rule calls)
