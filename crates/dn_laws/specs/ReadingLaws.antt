-- The laws of readings and words: what other laws read off calls and events, in words of calls, replies and events alone.
use Rattle.std.specs.Prelude.{cond, ℕ, Option, ◌≡◌, ◌≢◌, ◌≤◌, ◌<◌, ◌+◌, ⊤, true, false, List, [], ◌∷◌, ◌++◌, drop, length, nat_eq, Some, None, max}
use Rattle.std.specs.List.{count_by}
use Rattle.dn_types.specs.Calls.{trace_of, after_command}
use Rattle.dn_types.specs.Clock.{call_limit, effective_moment, moment_of}
use Rattle.dn_types.specs.Configuration.{Settings, settings, subject, reply_to_command}
use Rattle.dn_types.specs.Flows.{Treatment, treatment, key_of, keys}
use Rattle.dn_types.specs.Given.{accepted_since, started_since, is_packet, start_count, given_count}
use Rattle.dn_types.specs.Deliveries.{given}
use Rattle.dn_types.specs.Links.{free}
use Rattle.dn_types.specs.Replies.{reply}
use Rattle.dn_types.specs.SharedLinks.{next_packet}
use Rattle.dn_types.specs.Starts.{next_start, settled}
use Rattle.dn_types.specs.Trace.{Link, link_eq, Accepted, Start, Event, arrived, started, discarded, collected, is_of, backlog, is_start_of}
use Rattle.dn_types.specs.declared.call.Call.{Call}
use Rattle.dn_types.specs.declared.call.Call.TheVariants.{Configure, Submit, Advance, Collect, Show}
use Rattle.dn_types.specs.declared.command.Command.{Command}
use Rattle.dn_types.specs.declared.command.Command.TheVariants.{Pipe, Queue, DeletePipe, DeleteQueue}
use Rattle.dn_types.specs.declared.delivery.Delivery.{Delivery}
use Rattle.dn_types.specs.declared.five_tuple.FiveTuple.{FiveTuple}
use Rattle.dn_types.specs.declared.limit.Limit.{Limit}
use Rattle.dn_types.specs.declared.mask.Mask.{Mask}
use Rattle.dn_types.specs.declared.packet.Packet.{Packet}
use Rattle.dn_types.specs.declared.rule.Rule.{Rule}
use Rattle.dn_types.specs.declared.target.Target.{Target}
use Rattle.dn_types.specs.declared.target.Target.TheVariants.{Pipe as ToPipe, Queue as ToQueue}
use Rattle.dn_laws.specs.FlowLaws.{IsMaskedBy, kept_by}
use Rattle.dn_laws.specs.Determined.Reports.{starts_of}
use Rattle.dn_types.specs.declared.reply.Reply.TheVariants.{Configured, Deleted}

-- The moment that a call names, and 0 for one that names none.
abbrev pub MomentsAreNamed : Type 0
MomentsAreNamed =
    ((target : Target) (packet : Packet) (moment : ℕ) → moment_of (Submit target packet moment) ≡ moment)
    × ((moment : ℕ) → moment_of (Advance moment) ≡ moment) × ((moment : ℕ) → moment_of (Collect moment) ≡ moment)
    × ((command : Command) → moment_of (Configure command) ≡ 0) × (moment_of Show ≡ 0)

-- A command is about the pipe or the queue of its number.
abbrev pub SubjectsAreNamed : Type 0
SubjectsAreNamed = (number : ℕ) →
    ((bw delay : ℕ) (limit : Limit) (loss : ℕ) (buckets : Option ℕ) (mask : Mask) → subject (Pipe number bw delay limit loss buckets mask) ≡ ToPipe number)
    × ((pipe weight : ℕ) (limit : Limit) (loss : ℕ) (buckets : Option ℕ) (mask : Mask) → subject (Queue number pipe weight limit loss buckets mask) ≡ ToQueue number)
    × (subject (DeletePipe number) ≡ ToPipe number) × (subject (DeleteQueue number) ≡ ToQueue number)

-- What the laws of deletes call the reply to a command is what it is told, and what a command makes happen is what it adds to
-- the trace.
abbrev pub CommandsAreAnswered : Type 0
CommandsAreAnswered = (rule : Rule) (calls : List Call) (command : Command) → length calls < call_limit →
    (reply rule calls (Configure command) ≡ reply_to_command calls command)
    × (trace_of (Configure command ∷ calls) ≡ after_command (reply rule calls (Configure command)) command (keys calls) (trace_of calls))

-- What is in force for a target carries its packets and masks them. A flow's key is of the bits that the mask keeps.
abbrev pub TargetsAreTreated : Type 0
TargetsAreTreated =
    ((command : Command) (mask : Mask) (carrier : ℕ) → IsMaskedBy command mask carrier →
    (how : Treatment) × (treatment (Some command) ≡ Some how) × (how.pipe ≡ carrier) × (how.mask ≡ mask))
    × (treatment None ≡ None)
    × ((target : Target) (tuple : FiveTuple) (how : Treatment) →
    key_of target tuple how ≡ record { target = target; pipe = how.pipe; mask = how.mask; tuple = kept_by how.mask tuple })

-- Two links are told apart, and so are the packets of a flow on a link from others.
abbrev pub LinksAreToldApart : Type 0
LinksAreToldApart = (link : Link) →
    ((other : Link) → (link_eq link other ≡ true → link ≡ other) × (link ≡ other → link_eq link other ≡ true))
    × ((flow : ℕ) (p : Accepted) → (is_of link flow p ≡ true → (p.link ≡ link) × (p.stamped.flow ≡ flow))
    × (p.link ≡ link → p.stamped.flow ≡ flow → is_of link flow p ≡ true))

-- The event is about no packet of the flow on the link.
abbrev pub IsElsewhere : Link → ℕ → Event → Type 0
IsElsewhere link flow (arrived p) = is_of link flow p ≡ false
IsElsewhere link flow (started s) = is_of link flow s.packet ≡ false
IsElsewhere link flow (discarded f) = f ≢ flow
IsElsewhere link flow _ = ⊤

-- A list of a flow's packets goes by its arrivals and its starts, and begins again after a delete. Nothing else moves it.
abbrev pub GoesBy : Link → ℕ → (List Accepted → Accepted → List Accepted) → (List Accepted → Accepted → List Accepted) → (List Event → List Accepted) → Type 0
GoesBy link flow arrives starts reading =
    (reading [] ≡ []) × ((trace : List Event) → reading (discarded flow ∷ trace) ≡ [])
    × ((p : Accepted) (trace : List Event) → is_of link flow p ≡ true → reading (arrived p ∷ trace) ≡ arrives (reading trace) p)
    × ((s : Start) (trace : List Event) → is_of link flow s.packet ≡ true → reading (started s ∷ trace) ≡ starts (reading trace) s.packet)
    × ((e : Event) (trace : List Event) → IsElsewhere link flow e → reading (e ∷ trace) ≡ reading trace)

-- What waits is what arrived, less the first at each start. Beside it stand all that arrived and all that started, in order.
abbrev pub QueuesAreRead : Type 0
QueuesAreRead = (link : Link) (flow : ℕ) →
    GoesBy link flow (λ ps p. ps ++ p ∷ []) (λ ps p. drop 1 ps) (backlog link flow)
    × GoesBy link flow (λ ps p. ps ++ p ∷ []) (λ ps p. ps) (accepted_since link flow)
    × GoesBy link flow (λ ps p. ps) (λ ps p. ps ++ p ∷ []) (started_since link flow)

-- A start is due on a link where a packet is next and the link is free by the moment, and then it is of that packet, as soon as
-- the link is free. An Advance leaves the links settled.
abbrev pub StartsAreDue : Type 0
StartsAreDue = (set : Settings) (at : ℕ) (link : Link) (trace : List Event) →
    ((p : Accepted) → next_packet link trace ≡ Some p → free link trace ≤ at →
    (s : Start) × (next_start set at link trace ≡ Some s) × (s.packet ≡ p) × (s.moment ≡ free link trace))
    × ((calls : List Call) (moment : ℕ) →
    trace_of (Advance moment ∷ calls) ≡ settled (settings calls) (effective_moment (Advance moment ∷ calls)) (trace_of calls))

-- The starts of the packet with a number, and the deliveries of it that Collects gave.
abbrev pub starts_as : ℕ → List Event → ℕ
starts_as number [] = 0
starts_as number (started s ∷ trace) = cond (nat_eq s.packet.packet number) 1 0 + starts_as number trace
starts_as number (_ ∷ trace) = starts_as number trace

abbrev pub given_as : ℕ → List Delivery → ℕ
given_as number [] = 0
given_as number (d ∷ list) = cond (nat_eq d.packet number) 1 0 + given_as number list

-- These are counted.
abbrev pub PacketsAreCounted : Type 0
PacketsAreCounted = (number : ℕ) →
    ((trace : List Event) → start_count number trace ≡ starts_as number trace)
    × ((list : List Delivery) → count_by (is_packet number) list ≡ given_as number list)
    × ((rule : Rule) (at : ℕ) (trace : List Event) →
    given_count rule number (collected at ∷ trace) ≡ given_as number (given rule at trace) + given_count rule number trace)
    × ((rule : Rule) (s : Start) (trace : List Event) → given_count rule number (started s ∷ trace) ≡ given_count rule number trace)

-- A command that is told Configured is in force for its pipe or queue, and none is once a delete of it was told Deleted.
abbrev pub ObeysAsTold : Type 0
ObeysAsTold = (rule : Rule) (calls : List Call) → length calls < call_limit →
    ((number bw delay : ℕ) (limit : Limit) (loss : ℕ) (buckets : Option ℕ) (mask : Mask) →
    reply rule calls (Configure (Pipe number bw delay limit loss buckets mask)) ≡ Configured →
    settings (Configure (Pipe number bw delay limit loss buckets mask) ∷ calls) (ToPipe number) ≡ Some (Pipe number bw delay limit loss buckets mask))
    × ((number pipe weight : ℕ) (limit : Limit) (loss : ℕ) (buckets : Option ℕ) (mask : Mask) →
    reply rule calls (Configure (Queue number pipe weight limit loss buckets mask)) ≡ Configured →
    settings (Configure (Queue number pipe weight limit loss buckets mask) ∷ calls) (ToQueue number) ≡ Some (Queue number pipe weight limit loss buckets mask))
    × ((number : ℕ) → reply rule calls (Configure (DeletePipe number)) ≡ Deleted → settings (Configure (DeletePipe number) ∷ calls) (ToPipe number) ≡ None)
    × ((number : ℕ) → reply rule calls (Configure (DeleteQueue number)) ≡ Deleted → settings (Configure (DeleteQueue number) ∷ calls) (ToQueue number) ≡ None)

-- A packet, an Advance and a Collect move the clock to the moment that they name, where that is later. No other call does.
abbrev pub ClockFollows : Type 0
ClockFollows = (calls : List Call) →
    ((target : Target) (packet : Packet) (moment : ℕ) → effective_moment (Submit target packet moment ∷ calls) ≡ max (effective_moment calls) moment)
    × ((moment : ℕ) → effective_moment (Advance moment ∷ calls) ≡ max (effective_moment calls) moment)
    × ((moment : ℕ) → effective_moment (Collect moment ∷ calls) ≡ max (effective_moment calls) moment)
    × ((command : Command) → effective_moment (Configure command ∷ calls) ≡ effective_moment calls)
    × (effective_moment (Show ∷ calls) ≡ effective_moment calls)

-- The starts that a Show tells are those that happened. So it tells which queued packets started and which were discarded.
abbrev pub StartsAreCounted : Type 0
StartsAreCounted = (flow : ℕ) (trace : List Event) → count_by (is_start_of flow) trace ≡ starts_of flow trace
