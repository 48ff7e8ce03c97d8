-- The laws of waiting: for what a packet that was sent to a pipe waits, and for how long at most.
use Rattle.std.specs.Prelude.{ℕ, max, cond, ◌≡◌, ◌≤◌, ◌+◌, ◌-◌, ◌*◌, List, [], ◌∷◌, ◌++◌, map, sum, length, ◌^◌, Option, ⊤}
use Rattle.std.specs.List.{All}
use Rattle.dn_types.specs.Calls.{trace_of}
use Rattle.dn_types.specs.Links.{free, transmission_time, last_due}
use Rattle.dn_laws.specs.ConfiguredLaws.{StaysInForce}
use Rattle.dn_types.specs.Replies.{reply}
use Rattle.dn_types.specs.Trace.{Link, own, link_eq, Accepted, Start, Event, started, backlog}
use Rattle.dn_types.specs.declared.call.Call.{Call}
use Rattle.dn_types.specs.declared.call.Call.TheVariants.{Submit, Advance, Collect}
use Rattle.dn_types.specs.declared.command.Command.TheVariants.{Pipe}
use Rattle.dn_types.specs.declared.delivery.Delivery.{Delivery}
use Rattle.dn_types.specs.declared.limit.Limit.{Limit}
use Rattle.dn_types.specs.declared.limit.Limit.TheVariants.{Slots, Kbytes}
use Rattle.dn_types.specs.declared.mask.Mask.{Mask}
use Rattle.dn_types.specs.declared.packet.Packet.{Packet}
use Rattle.dn_types.specs.declared.reply.Reply.TheVariants.{Queued, Delivered}
use Rattle.dn_types.specs.declared.rule.Rule.{Rule}
use Rattle.dn_types.specs.declared.target.Target.{Target}
use Rattle.dn_types.specs.declared.target.Target.TheVariants.{Pipe as ToPipe}

-- The packets that start on the link in a stretch of the trace, in order.
abbrev pub starting : Link → List Event → List Accepted
starting link [] = []
starting link (started s ∷ stretch) = cond (link_eq s.packet.link link) (starting link stretch ++ s.packet ∷ []) (starting link stretch)
starting link (_ ∷ stretch) = starting link stretch

-- The time that they take to send.
abbrev pub sending : Link → List Event → ℕ
sending link [] = 0
sending link (started s ∷ stretch) = cond (link_eq s.packet.link link) s.transmission 0 + sending link stretch
sending link (_ ∷ stretch) = sending link stretch

-- The packets that are ahead of one that is submitted to a pipe: those that wait in its flow's queue. And the moment from which
-- its link is free of the packet that it is sending.
abbrev pub ahead : ℕ → ℕ → ℕ → List Call → List Accepted
ahead pipe flow moment calls = backlog (own pipe flow) flow (trace_of (Advance moment ∷ calls))

abbrev pub free_from : ℕ → ℕ → ℕ → List Call → ℕ
free_from pipe flow moment calls = free (own pipe flow) (trace_of (Advance moment ∷ calls))

-- Before an accepted packet starts, its link sends those ahead of it, in their order and no others. It sends them without a
-- pause, so that the packet starts when its link would have been free, or at its acceptance if that is later, and the time that
-- they take to send.
abbrev pub WaitsForThoseAhead : Type 0
WaitsForThoseAhead = (rule : Rule) (after calls : List Call) (pipe : ℕ) (packet : Packet) (moment at flow number : ℕ) (later between : List Event) (s : Start) →
    reply rule calls (Submit (ToPipe pipe) packet moment) ≡ Queued at flow number →
    trace_of (after ++ Submit (ToPipe pipe) packet moment ∷ calls) ≡ later ++ started s ∷ (between ++ trace_of (Advance moment ∷ calls)) →
    s.packet.packet ≡ number →
    (starting (own pipe flow) between ≡ ahead pipe flow moment calls)
    × (s.moment ≡ max at (free_from pipe flow moment calls) + sending (own pipe flow) between)

-- And whatever its target is, its link makes no pause while it waits: of a queue's packet too the wait is what the link sends.
abbrev pub LinksMakeNoPause : Type 0
LinksMakeNoPause = (rule : Rule) (after calls : List Call) (target : Target) (packet : Packet) (moment at flow number : ℕ) (later between : List Event) (s : Start) →
    reply rule calls (Submit target packet moment) ≡ Queued at flow number →
    trace_of (after ++ Submit target packet moment ∷ calls) ≡ later ++ started s ∷ (between ++ trace_of (Advance moment ∷ calls)) →
    s.packet.packet ≡ number → s.moment ≡ max at (free s.packet.link (trace_of (Advance moment ∷ calls))) + sending s.packet.link between

-- So while the pipe's command stays in force, the start is known at the acceptance.
abbrev pub WaitIsKnown : Type 0
WaitIsKnown =
    (rule : Rule) (after calls : List Call) (pipe bw delay : ℕ) (limit : Limit) (loss : ℕ) (buckets : Option ℕ) (mask : Mask) (packet : Packet) (moment at flow number : ℕ)
    (later earlier : List Event) (s : Start) →
    StaysInForce (ToPipe pipe) (Pipe pipe bw delay limit loss buckets mask) after (Submit (ToPipe pipe) packet moment ∷ calls) →
    reply rule calls (Submit (ToPipe pipe) packet moment) ≡ Queued at flow number →
    trace_of (after ++ Submit (ToPipe pipe) packet moment ∷ calls) ≡ later ++ started s ∷ earlier → s.packet.packet ≡ number →
    s.moment ≡ max at (free_from pipe flow moment calls) + sum (map (λ p. transmission_time bw p.stamped.len) (ahead pipe flow moment calls))

-- Where a queue holds so many packets, one fewer is ahead at most.
abbrev pub SlotsBoundTheWait : Type 0
SlotsBoundTheWait =
    (rule : Rule) (after calls : List Call) (pipe bw delay slots loss : ℕ) (buckets : Option ℕ) (mask : Mask) (packet : Packet) (moment at flow number most : ℕ)
    (later earlier : List Event) (s : Start) →
    StaysInForce (ToPipe pipe) (Pipe pipe bw delay (Slots slots) loss buckets mask) after (Submit (ToPipe pipe) packet moment ∷ calls) →
    reply rule calls (Submit (ToPipe pipe) packet moment) ≡ Queued at flow number →
    trace_of (after ++ Submit (ToPipe pipe) packet moment ∷ calls) ≡ later ++ started s ∷ earlier → s.packet.packet ≡ number →
    All (λ p. p.stamped.len ≤ most) (ahead pipe flow moment calls) →
    s.moment ≤ max at (free_from pipe flow moment calls) + (slots - 1) * transmission_time bw most

-- Where it holds so many units of 1,024 bytes, these are ahead at most. Each packet's time is rounded up, by less than a
-- nanosecond.
abbrev pub KbytesBoundTheWait : Type 0
KbytesBoundTheWait =
    (rule : Rule) (after calls : List Call) (pipe bw delay kbytes loss : ℕ) (buckets : Option ℕ) (mask : Mask) (packet : Packet) (moment at flow number : ℕ) (later earlier : List Event) (s : Start) →
    StaysInForce (ToPipe pipe) (Pipe pipe bw delay (Kbytes kbytes) loss buckets mask) after (Submit (ToPipe pipe) packet moment ∷ calls) →
    reply rule calls (Submit (ToPipe pipe) packet moment) ≡ Queued at flow number →
    trace_of (after ++ Submit (ToPipe pipe) packet moment ∷ calls) ≡ later ++ started s ∷ earlier → s.packet.packet ≡ number →
    s.moment ≤ max at (free_from pipe flow moment calls) + transmission_time bw (kbytes * 1024) + length (ahead pipe flow moment calls)

-- The call submits no packet of more bytes to the pipe.
abbrev pub IsAtMost : ℕ → ℕ → Call → Type 0
IsAtMost pipe most (Submit (ToPipe number) packet moment) = number ≡ pipe → packet.len ≤ most
IsAtMost pipe most _ = ⊤

-- So on a pipe with a queue of so many slots a packet waits for so many transmissions of a longest packet at most. With its own it
-- is due after one more, and the delay. The command is in force since some calls, and what the flow sent before them is due by the
-- acceptance.
abbrev pub SlotsBoundTheDelay : Type 0
SlotsBoundTheDelay =
    (rule : Rule) (after since older : List Call) (pipe bw delay slots loss : ℕ) (buckets : Option ℕ) (mask : Mask) (packet : Packet) (moment at flow number most collect now : ℕ)
    (list : List Delivery) →
    let calls = since ++ older in
    StaysInForce (ToPipe pipe) (Pipe pipe bw delay (Slots slots) loss buckets mask) since older →
    StaysInForce (ToPipe pipe) (Pipe pipe bw delay (Slots slots) loss buckets mask) after (Submit (ToPipe pipe) packet moment ∷ calls) →
    last_due rule (own pipe flow) (trace_of older) ≤ at → All (IsAtMost pipe most) (Submit (ToPipe pipe) packet moment ∷ calls) →
    reply rule calls (Submit (ToPipe pipe) packet moment) ≡ Queued at flow number →
    reply rule (after ++ Submit (ToPipe pipe) packet moment ∷ calls) (Collect collect) ≡ Delivered now list →
    All (λ d. d.packet ≡ number → (d.start ≤ at + slots * transmission_time bw most)
    × (d.due ≤ at + (slots + 1) * transmission_time bw most + delay * 10 ^ 6)) list

-- The same for a queue of so many units of 1,024 bytes: it waits for these and for one longest packet.
abbrev pub KbytesBoundTheDelay : Type 0
KbytesBoundTheDelay =
    (rule : Rule) (after since older : List Call) (pipe bw delay kbytes loss : ℕ) (buckets : Option ℕ) (mask : Mask) (packet : Packet) (moment at flow number most collect now : ℕ)
    (list : List Delivery) →
    let calls = since ++ older in
    StaysInForce (ToPipe pipe) (Pipe pipe bw delay (Kbytes kbytes) loss buckets mask) since older →
    StaysInForce (ToPipe pipe) (Pipe pipe bw delay (Kbytes kbytes) loss buckets mask) after (Submit (ToPipe pipe) packet moment ∷ calls) →
    last_due rule (own pipe flow) (trace_of older) ≤ at → All (IsAtMost pipe most) (Submit (ToPipe pipe) packet moment ∷ calls) →
    reply rule calls (Submit (ToPipe pipe) packet moment) ≡ Queued at flow number →
    reply rule (after ++ Submit (ToPipe pipe) packet moment ∷ calls) (Collect collect) ≡ Delivered now list →
    let wait = transmission_time bw (kbytes * 1024) + length (ahead pipe flow moment calls) + transmission_time bw most in
    All (λ d. d.packet ≡ number → (d.start ≤ at + wait) × (d.due ≤ at + wait + transmission_time bw most + delay * 10 ^ 6)) list
