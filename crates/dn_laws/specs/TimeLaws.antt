-- The laws of time: that what has happened stays, between which moments a packet starts, what its delay is the sum of, and in which order deliveries come.
use Rattle.std.specs.Prelude.{max, ℕ, ◌≡◌, ◌≤◌, ◌+◌, ◌-◌, List, ◌∷◌, ◌++◌, Some}
use Rattle.std.specs.List.{All}
use Rattle.dn_types.specs.Calls.{trace_of}
use Rattle.dn_types.specs.Clock.{effective_moment}
use Rattle.dn_types.specs.Configuration.{settings}
use Rattle.dn_types.specs.Deliveries.{undelivered, given, AreInOrder}
use Rattle.dn_laws.specs.Explained.{IsStartBy}
use Rattle.dn_laws.specs.KeptLaws.{IsNoStart}
use Rattle.dn_types.specs.Links.{free, transmission_time, last_due}
use Rattle.dn_types.specs.Replies.{reply}
use Rattle.dn_types.specs.Trace.{Start, Event, started, pipe_of}
use Rattle.dn_types.specs.declared.call.Call.{Call}
use Rattle.dn_types.specs.declared.call.Call.TheVariants.{Submit, Collect}
use Rattle.dn_types.specs.declared.command.Command.{Command}
use Rattle.dn_types.specs.declared.delivery.Delivery.{Delivery}
use Rattle.dn_types.specs.declared.packet.Packet.{Packet}
use Rattle.dn_types.specs.declared.reply.Reply.TheVariants.{Queued, Delivered}
use Rattle.dn_types.specs.declared.rule.Rule.{Rule}
use Rattle.dn_types.specs.declared.rule.Rule.TheVariants.{Free, Ordered}
use Rattle.dn_types.specs.declared.target.Target.{Target}
use Rattle.dn_types.specs.declared.target.Target.TheVariants.{Pipe as ToPipe}

-- What has happened stays: a call adds to it and changes nothing of it, so that a packet keeps the tags that it arrived with.
abbrev pub EventsStay : Type 0
EventsStay = (calls : List Call) (c : Call) → (added : List Event) × (trace_of (c ∷ calls) ≡ added ++ trace_of calls)

-- What a call starts, starts no sooner than the clock before it and no later than the clock after it.
abbrev pub StartsInTime : Type 0
StartsInTime = (calls : List Call) (c : Call) (later between : List Event) (s : Start) →
    trace_of (c ∷ calls) ≡ later ++ started s ∷ between ++ trace_of calls →
    (effective_moment calls ≤ s.moment) × (s.moment ≤ effective_moment (c ∷ calls))

-- An accepted packet never starts before the moment at which it was accepted.
abbrev pub NoneStartsEarly : Type 0
NoneStartsEarly = (rule : Rule) (after calls : List Call) (target : Target) (packet : Packet) (moment at flow number : ℕ) (later earlier : List Event) (s : Start) →
    reply rule calls (Submit target packet moment) ≡ Queued at flow number →
    trace_of (after ++ Submit target packet moment ∷ calls) ≡ later ++ started s ∷ earlier →
    s.packet.packet ≡ number → at ≤ s.moment

-- It starts exactly at the later of two moments: its acceptance, and the end of the transmission before it on its link.
abbrev pub WaitsForItsLink : Type 0
WaitsForItsLink = (rule : Rule) (after calls : List Call) (target : Target) (packet : Packet) (moment at flow number : ℕ) (later earlier : List Event) (s : Start) →
    reply rule calls (Submit target packet moment) ≡ Queued at flow number →
    trace_of (after ++ Submit target packet moment ∷ calls) ≡ later ++ started s ∷ earlier →
    s.packet.packet ≡ number → s.moment ≡ max at (free s.packet.link earlier)

-- So it starts at its acceptance, or when the packet before it on its link has been sent, whichever is later.
abbrev pub StartsBehind : Type 0
StartsBehind = (rule : Rule) (after calls : List Call) (target : Target) (packet : Packet) (moment at flow number : ℕ) (later between earlier : List Event) (s r : Start) →
    reply rule calls (Submit target packet moment) ≡ Queued at flow number →
    trace_of (after ++ Submit target packet moment ∷ calls) ≡ later ++ started s ∷ (between ++ (started r ∷ earlier)) →
    s.packet.packet ≡ number → r.packet.link ≡ s.packet.link → All (IsNoStart s.packet.link) between → s.moment ≡ max at (r.moment + r.transmission)

-- At bandwidth 0, which is unlimited, a packet takes no time.
abbrev pub UnlimitedTakesNoTime : Type 0
UnlimitedTakesNoTime = (len : ℕ) → transmission_time 0 len ≡ 0

-- The start is by the command that was in force for its pipe when a call of the list made it.
pub record IsMadeBy (calls : List Call) (s : Start) : Type 0 where
  pub newer : List Call
  pub call : Call
  pub older : List Call
  pub among : calls ≡ newer ++ call ∷ older
  pub command : Command
  pub in_force : settings older (ToPipe (pipe_of s.packet.link)) ≡ Some command
  pub by_command : IsStartBy command s

-- What an arrival lacks of the due moment of the packet before it on its link: under Free nothing.
abbrev pub IsLack : Rule → ℕ → ℕ → ℕ → Type 0
IsLack Free last arrival lack = lack ≡ 0
IsLack Ordered last arrival lack = lack ≡ last - arrival

-- The time of a packet from the moment at which it was accepted to its due moment: its wait for its link, its transmission
-- and its delay by the command in force at its start, and what it then lacks, adding up exactly.
pub record IsDelayed (rule : Rule) (calls : List Call) (at : ℕ) (d : Delivery) : Type 0 where
  pub start : Start
  pub later : List Event
  pub earlier : List Event
  pub happened : trace_of calls ≡ later ++ started start ∷ earlier
  pub own : d.packet ≡ start.packet.packet
  pub made : IsMadeBy calls start
  pub wait : ℕ
  pub lack : ℕ
  pub waits : d.start ≡ at + wait
  pub busy : wait ≡ free start.packet.link earlier - at
  pub lacks : IsLack rule (last_due rule start.packet.link earlier) (d.start + start.transmission + start.delay) lack
  pub sum : d.due ≡ at + wait + start.transmission + start.delay + lack

abbrev pub DelaysAddUp : Type 0
DelaysAddUp = (rule : Rule) (after calls : List Call) (target : Target) (packet : Packet) (moment at flow number : ℕ) →
    reply rule calls (Submit target packet moment) ≡ Queued at flow number →
    All (λ d. d.packet ≡ number →
    IsDelayed rule (after ++ Submit target packet moment ∷ calls) at d) (undelivered rule (trace_of (after ++ Submit target packet moment ∷ calls)))

-- So it is for what a Collect gives.
abbrev pub DeliveredDelaysAddUp : Type 0
DeliveredDelaysAddUp = (rule : Rule) (after calls : List Call) (target : Target) (packet : Packet) (moment at flow number collect now : ℕ) (list : List Delivery) →
    reply rule calls (Submit target packet moment) ≡ Queued at flow number →
    reply rule (after ++ Submit target packet moment ∷ calls) (Collect collect) ≡ Delivered now list →
    All (λ d. d.packet ≡ number → IsDelayed rule (Collect collect ∷ after ++ Submit target packet moment ∷ calls) at d) list

-- A Collect gives its packets in this order.
abbrev pub GivesInOrder : Type 0
GivesInOrder = (rule : Rule) (at : ℕ) (trace : List Event) → AreInOrder (given rule at trace)
