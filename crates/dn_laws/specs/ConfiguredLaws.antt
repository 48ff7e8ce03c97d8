-- The laws of what a user configures: loss, limit, bandwidth and delay explain what becomes of a packet, and how much a link carries.
use Rattle.std.specs.Prelude.{ℕ, ◌≡◌, ◌≢◌, ◌≤◌, ◌<◌, ◌+◌, ◌*◌, ◌%◌, ◌^◌, List, [], ◌∷◌, ◌++◌, ◌⊎◌, map, length, Option, Some, None, is_some, true}
use Rattle.std.specs.List.{All}
use Rattle.dn_types.specs.Calls.{trace_of, link_of}
use Rattle.dn_types.specs.Clock.{call_limit, effective_moment}
use Rattle.dn_types.specs.Configuration.{settings, subject, reply_to_command}
use Rattle.dn_types.specs.Deliveries.{undelivered, given}
use Rattle.dn_laws.specs.Explained.{IsJudgedBy, IsExplained, IsStartBy, sent, IsAtBandwidth, IsDeliveryOf}
use Rattle.dn_types.specs.Replies.{reply}
use Rattle.dn_types.specs.Links.{free}
use Rattle.dn_types.specs.SharedLinks.{next_packet}
use Rattle.dn_types.specs.Trace.{Start, Event, arrived, started, backlog, pipe_of}
use Rattle.dn_types.specs.declared.call.Call.{Call}
use Rattle.dn_types.specs.declared.call.Call.TheVariants.{Configure, Submit, Advance}
use Rattle.dn_types.specs.declared.command.Command.{Command}
use Rattle.dn_types.specs.declared.command.Command.TheVariants.{Queue, Pipe}
use Rattle.dn_types.specs.declared.limit.Limit.{Limit}
use Rattle.dn_types.specs.declared.mask.Mask.{Mask}
use Rattle.dn_types.specs.declared.packet.Packet.{Packet}
use Rattle.dn_types.specs.declared.reply.Reply.TheVariants.{Configured, Deleted, NoTarget}
use Rattle.dn_types.specs.declared.rule.Rule.{Rule}
use Rattle.dn_types.specs.declared.target.Target.{Target}
use Rattle.dn_types.specs.declared.target.Target.TheVariants.{Pipe as ToPipe}

-- An accepted command is what is in force for its subject, nothing is once that is deleted, and a refused one changes
-- nothing. It counts for no other.
abbrev pub CommandsCount : Type 0
CommandsCount = (calls : List Call) (command : Command) →
    (reply_to_command calls command ≡ Configured → settings (Configure command ∷ calls) (subject command) ≡ Some command)
    × (reply_to_command calls command ≡ Deleted → settings (Configure command ∷ calls) (subject command) ≡ None)
    × (reply_to_command calls command ≢ Configured → reply_to_command calls command ≢ Deleted →
    settings (Configure command ∷ calls) (subject command) ≡ settings calls (subject command))
    × ((target : Target) → target ≢ subject command → settings (Configure command ∷ calls) target ≡ settings calls target)

-- Nothing is in force at first, and nothing but a command changes what is.
abbrev pub OnlyCommandsCount : Type 0
OnlyCommandsCount = (target : Target) → (settings [] target ≡ None)
    × ((calls : List Call) (c : Call) → ((command : Command) → c ≢ Configure command) → settings (c ∷ calls) target ≡ settings calls target)

-- The pipe of a configured queue is configured.
abbrev pub QueuesHavePipes : Type 0
QueuesHavePipes = (calls : List Call) (target : Target) (number pipe weight : ℕ) (limit : Limit) (loss : ℕ) (buckets : Option ℕ) (mask : Mask) →
    settings calls target ≡ Some (Queue number pipe weight limit loss buckets mask) → is_some (settings calls (ToPipe pipe)) ≡ true

-- A packet to a configured target is lost exactly where the low 31 bits of its word are below the loss rate in force, and
-- refused exactly where it isn't lost and its flow's queue is at the limit in force, by what waits at its moment.
abbrev pub DropsAreExplained : Type 0
DropsAreExplained = (rule : Rule) (calls : List Call) (target : Target) (packet : Packet) (moment : ℕ) (command : Command) (rate : ℕ) (most : Limit) (carrier : ℕ) →
    length calls < call_limit → settings calls target ≡ Some command → IsJudgedBy command rate most carrier →
    IsExplained rate most (packet.word % 2 ^ 31) (λ flow. map (λ p. p.stamped.len) (backlog (link_of target flow carrier) flow (trace_of (Advance moment ∷ calls))))
    (reply rule calls (Submit target packet moment))

-- A packet to a target that is not configured has none.
abbrev pub NoneUnconfigured : Type 0
NoneUnconfigured = (rule : Rule) (calls : List Call) (target : Target) (packet : Packet) (moment : ℕ) → length calls < call_limit →
    settings calls target ≡ None → reply rule calls (Submit target packet moment) ≡ NoTarget (effective_moment (Advance moment ∷ calls))

-- A packet starts when its link is free of the one before it, or else on its arrival. So a link is never idle while a
-- packet waits for it, and a packet waits for nothing but its link.
abbrev pub StartsAtOnce : Type 0
StartsAtOnce = (calls : List Call) (c : Call) (later between : List Event) (s : Start) →
    trace_of (c ∷ calls) ≡ later ++ started s ∷ between ++ trace_of calls →
    (s.moment ≡ free s.packet.link (between ++ trace_of calls)) ⊎ ((s.moment ≡ effective_moment (c ∷ calls)) × ((before : List Event)
    × (between ≡ arrived s.packet ∷ before)))

-- While a packet waits, its link is busy beyond the clock.
abbrev pub IsNeverIdle : Type 0
IsNeverIdle = (calls : List Call) (target : Target) (flow pipe : ℕ) → 0 < length (backlog (link_of target flow pipe) flow (trace_of calls)) →
    effective_moment calls < free (link_of target flow pipe) (trace_of calls)

-- Each start is of the next packet of its link, which on a shared link is the pick of WF2Q+.
abbrev pub StartsTheNext : Type 0
StartsTheNext = (calls : List Call) (c : Call) (later between : List Event) (s : Start) →
    trace_of (c ∷ calls) ≡ later ++ started s ∷ between ++ trace_of calls → next_packet s.packet.link (between ++ trace_of calls) ≡ Some s.packet

-- Each start is on a link of a configured pipe, with the bandwidth and the delay in force for it.
abbrev pub StartsAsConfigured : Type 0
StartsAsConfigured = (calls : List Call) (c : Call) (later between : List Event) (s : Start) →
    trace_of (c ∷ calls) ≡ later ++ started s ∷ between ++ trace_of calls → (command : Command)
    × (settings calls (ToPipe (pipe_of s.packet.link)) ≡ Some command) × IsStartBy command s

-- Of two packets that start on a link the later does so once the earlier one's transmission has ended.
abbrev pub StartsApart : Type 0
StartsApart = (calls : List Call) (later between earlier : List Event) (s r : Start) →
    trace_of calls ≡ later ++ started s ∷ between ++ started r ∷ earlier → s.packet.link ≡ r.packet.link → r.moment + r.transmission ≤ s.moment

-- So at a bandwidth a link's bits from one start on, and before a later one, are at most the bandwidth by the time between them.
abbrev pub KeepsTheRate : Type 0
KeepsTheRate = (calls : List Call) (later between earlier : List Event) (s r : Start) (bw : ℕ) →
    trace_of calls ≡ later ++ started s ∷ between ++ started r ∷ earlier → s.packet.link ≡ r.packet.link → 0 < bw →
    IsAtBandwidth bw r.packet.link (between ++ started r ∷ []) →
    sent r.packet.link (between ++ started r ∷ []) * 8 * 10 ^ 9 + r.moment * bw ≤ s.moment * bw

-- What a Collect gives, and what is still to be given, has started, and its due moment is that of its start: so a packet is
-- delayed by its wait, its transmission, its pipe's delay and, under Ordered, the packet before it, and by nothing else.
abbrev pub DelaysAreExplained : Type 0
DelaysAreExplained = (rule : Rule) (at : ℕ) (trace : List Event) → All (IsDeliveryOf rule trace) (undelivered rule trace)
    × All (IsDeliveryOf rule trace) (given rule at trace)

-- The command is in force for the target after the calls, and after each call that follows them.
abbrev pub StaysInForce : Target → Command → List Call → List Call → Type 0
StaysInForce target command [] calls = settings calls target ≡ Some command
StaysInForce target command (c ∷ after) calls = (settings (c ∷ (after ++ calls)) target ≡ Some command) × StaysInForce target command after calls

-- While a pipe's command stays in force, the bits that a link of the pipe starts from one start on, and before a later one,
-- are at most the configured bandwidth by the time between the two.
abbrev pub KeepsTheConfiguredRate : Type 0
KeepsTheConfiguredRate =
    (after calls : List Call) (number bw delay : ℕ) (limit : Limit) (loss : ℕ) (buckets : Option ℕ) (mask : Mask) (later between earlier : List Event) (s r : Start) →
    StaysInForce (ToPipe number) (Pipe number bw delay limit loss buckets mask) after calls → 0 < bw →
    trace_of (after ++ calls) ≡ (later ++ (started s ∷ (between ++ (started r ∷ earlier)))) ++ trace_of calls → pipe_of r.packet.link ≡ number →
    s.packet.link ≡ r.packet.link →
    sent r.packet.link (between ++ started r ∷ []) * 8 * 10 ^ 9 + r.moment * bw ≤ s.moment * bw
