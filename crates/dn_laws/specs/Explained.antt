-- Words for the laws of what is configured: how the configuration explains what becomes of a packet. They read the
-- numbers of the commands themselves.
use Rattle.std.specs.Prelude.{ℕ, ◌≡◌, ◌≤◌, ◌<◌, ◌+◌, ◌*◌, ◌/◌, max, true, cond, ⊤, List, [], ◌∷◌, ◌++◌, sum, length}
use Rattle.dn_types.specs.Links.{transmission_time, last_due}
use Rattle.dn_types.specs.SharedLinks.{virtual_time, last_finish_tag}
use Rattle.dn_types.specs.Trace.{Link, link_eq, Accepted, Start, Event, started, backlog}
use Rattle.dn_types.specs.declared.command.Command.{Command}
use Rattle.dn_types.specs.declared.command.Command.TheVariants.{Pipe, Queue}
use Rattle.dn_types.specs.declared.delivery.Delivery.{Delivery}
use Rattle.dn_types.specs.declared.limit.Limit.{Limit}
use Rattle.dn_types.specs.declared.limit.Limit.TheVariants.{Slots, Kbytes}
use Rattle.dn_types.specs.declared.reply.Reply.{Reply}
use Rattle.dn_types.specs.declared.reply.Reply.TheVariants.{Queued, Lost, Full}
use Rattle.dn_types.specs.declared.rule.Rule.{Rule}
use Rattle.dn_types.specs.declared.rule.Rule.TheVariants.{Free, Ordered}

-- The loss rate and the limit by which a pipe or a queue judges its packets, and the pipe that carries them.
abbrev pub IsJudgedBy : Command → ℕ → Limit → ℕ → Type 0
IsJudgedBy (Pipe number bw delay limit loss buckets mask) rate most carrier = (rate ≡ loss) × (most ≡ limit) × (carrier ≡ number)
IsJudgedBy (Queue number pipe weight limit loss buckets mask) rate most carrier = (rate ≡ loss) × (most ≡ limit) × (carrier ≡ pipe)
IsJudgedBy _ rate most carrier = ⊥

-- A queue with packets of these lengths holds as many as its limit, or more bytes than its limit of units of 1,024.
abbrev pub IsAtLimit : Limit → List ℕ → Type 0
IsAtLimit (Slots count) lengths = count ≤ length lengths
IsAtLimit (Kbytes count) lengths = count * 1024 < sum lengths

-- A packet is lost where its draw is below the loss rate, else refused where its flow's queue is at the limit, and else
-- accepted. So a packet that is dropped is so by the rate or by the limit, and at rate 0 by the limit alone.
abbrev pub IsExplained : ℕ → Limit → ℕ → (ℕ → List ℕ) → Reply → Type 0
IsExplained rate most draw lengths (Lost at flow) = draw < rate
IsExplained rate most draw lengths (Full at flow) = (rate ≤ draw) × IsAtLimit most (lengths flow)
IsExplained rate most draw lengths (Queued at flow number) = (rate ≤ draw) × (IsAtLimit most (lengths flow) → ⊥)
IsExplained rate most draw lengths _ = ⊥

-- A start with the bandwidth and the delay of a pipe, which is in milliseconds.
abbrev pub IsStartBy : Command → Start → Type 0
IsStartBy (Pipe number bw delay limit loss buckets mask) s = (s.transmission ≡ transmission_time bw s.packet.stamped.len)
    × (s.delay ≡ delay * 1000000)
IsStartBy _ s = ⊥

-- The bytes of the packets that start on the link in a stretch of the trace.
abbrev pub sent : Link → List Event → ℕ
sent link [] = 0
sent link (started s ∷ stretch) = cond (link_eq s.packet.link link) s.packet.stamped.len 0 + sent link stretch
sent link (_ ∷ stretch) = sent link stretch

-- All that starts on the link in the stretch does so with the bandwidth.
abbrev pub IsAtBandwidth : ℕ → Link → List Event → Type 0
IsAtBandwidth bw link [] = ⊤
IsAtBandwidth bw link (started s ∷ stretch) = (link_eq s.packet.link link ≡ true → s.transmission ≡ transmission_time bw s.packet.stamped.len)
    × IsAtBandwidth bw link stretch
IsAtBandwidth bw link (_ ∷ stretch) = IsAtBandwidth bw link stretch

-- How many packets wait in the queue of the packet's flow.
abbrev pub waiting_of : Accepted → List Event → ℕ
waiting_of p trace = length (backlog p.link p.stamped.flow trace)

-- A packet as it is tagged at its arrival: its cost is its length over the weight, in units of 1/65536, and it joins behind
-- the flow's last packet, or at virtual time where none waits and that is later.
pub record IsTagged (len weight : ℕ) (before : List Event) (p : Accepted) : Type 0 where
  pub own_length : p.stamped.len ≡ len
  pub own_weight : p.stamped.weight ≡ weight
  pub cost : p.stamped.finish_tag ≡ p.stamped.start_tag + len * 65536 / weight
  pub behind : 0 < waiting_of p before → p.stamped.start_tag ≡ last_finish_tag p.link p.stamped.flow before
  pub alone : waiting_of p before ≡ 0 → p.stamped.start_tag ≡ max (last_finish_tag p.link p.stamped.flow before) (virtual_time p.link before)

-- A delivery is of a packet that started: due once its bits and its delay have passed, and under Ordered no sooner than the
-- packet before it on its link.
abbrev pub IsDueBy : Rule → Start → ℕ → ℕ → Type 0
IsDueBy Free s last due = due ≡ s.moment + s.transmission + s.delay
IsDueBy Ordered s last due = due ≡ max last (s.moment + s.transmission + s.delay)

pub record IsDeliveryOf (rule : Rule) (trace : List Event) (d : Delivery) : Type 0 where
  pub start : Start
  pub later : List Event
  pub earlier : List Event
  pub happened : trace ≡ later ++ started start ∷ earlier
  pub number : d.packet ≡ start.packet.packet
  pub flow : d.flow ≡ start.packet.stamped.flow
  pub moment : d.start ≡ start.moment
  pub due : IsDueBy rule start (last_due rule start.packet.link earlier) d.due
