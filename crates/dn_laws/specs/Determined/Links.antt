-- What happens on a link: which packets start once the clock has reached a moment, how an accepted one joins, and what a delete empties.
use Rattle.std.specs.Prelude.{ℕ, ◌≡◌, ◌≢◌, ◌≤◌, ◌<◌, ◌+◌, ◌*◌, ◌/◌, ◌^◌, max, Bool, false, cond, List, [], ◌∷◌, nat_eq, Option, Some}
use Rattle.dn_laws.specs.Determined.Emulators.{Readings, IsFirst, IsRaised}
use Rattle.dn_types.specs.Trace.{Link, own, shared, Accepted, Start, Event, opened, arrived, started, discarded}
use Rattle.dn_types.specs.declared.command.Command.{Command}
use Rattle.dn_types.specs.declared.command.Command.TheVariants.{Pipe, DeletePipe, DeleteQueue}
use Rattle.dn_types.specs.declared.flow_key.FlowKey.{FlowKey}
use Rattle.dn_types.specs.declared.target.Target.{Target}
use Rattle.dn_types.specs.declared.target.Target.TheVariants.{Pipe as ToPipe, Queue as ToQueue}

-- The time is the least in which the bandwidth carries the bits, and no time where the bandwidth is 0, which is unlimited.
pub record IsTransmission (bw len time : ℕ) : Type 0 where
  pub unlimited : bw ≡ 0 → time ≡ 0
  pub carries : 0 < bw → len * 8 * 10 ^ 9 ≤ time * bw
  pub least : 0 < bw → (t : ℕ) → len * 8 * 10 ^ 9 ≤ t * bw → time ≤ t

-- The pipe that gives a link its bandwidth and its delay.
abbrev pub pipe_under : Link → ℕ
pipe_under (own pipe flow) = pipe
pipe_under (shared pipe) = pipe

-- The transmission time and the delay of a start are by the command in force for its pipe.
abbrev pub IsBy : Option Command → Start → Type 0
IsBy (Some (Pipe number bw delay limit loss buckets mask)) s = IsTransmission bw s.packet.stamped.len s.transmission × (s.delay ≡ delay * 10 ^ 6)
IsBy _ s = ⊥

-- The packet that starts next. WF2Q+ picks, of the firsts whose start tag the raised virtual time has reached, the one with the
-- least finish tag, and of those with that one the least flow number. On a link of its own, a flow's first is the only one.
pub record IsPick (r : Readings) (link : Link) (trace : List Event) (p : Accepted) : Type 0 where
  pub first : IsFirst r link trace p
  pub to : ℕ
  pub raised : IsRaised r link trace to
  pub eligible : p.stamped.start_tag ≤ to
  pub least : (q : Accepted) → IsFirst r link trace q → q.stamped.start_tag ≤ to →
      (p.stamped.finish_tag ≤ q.stamped.finish_tag) × (p.stamped.finish_tag ≡ q.stamped.finish_tag → p.stamped.flow ≤ q.stamped.flow)

-- A start by the clock, of the next packet, as soon as its link is free.
pub record IsStart (r : Readings) (force : Target → Option Command) (link : Link) (at : ℕ) (s : Start) (trace : List Event) : Type 0 where
  pub next : IsPick r link trace s.packet
  pub at_once : s.moment ≡ r.free link trace
  pub in_time : s.moment ≤ at
  pub by_command : IsBy (force (ToPipe (pipe_under link))) s

-- The trace with some starts more, oldest first.
abbrev pub with_starts : List Start → List Event → List Event
with_starts [] trace = trace
with_starts (s ∷ starts) trace = with_starts starts (started s ∷ trace)

-- After the last of them a packet waits only where the link is busy beyond the clock.
abbrev pub AreStarts : Readings → (Target → Option Command) → Link → ℕ → List Start → List Event → Type 0
AreStarts r force link at [] trace = (flow : ℕ) (p : Accepted) (behind : List Accepted) → r.queue link flow trace ≡ p ∷ behind → at < r.free link trace
AreStarts r force link at (s ∷ starts) trace = IsStart r force link at s trace × AreStarts r force link at starts (started s ∷ trace)

-- What has happened on the link once the clock has reached a moment.
pub record Settles (r : Readings) (force : Target → Option Command) (link : Link) (at : ℕ) (before after : List Event) : Type 0 where
  pub starts : List Start
  pub adds : after ≡ with_starts starts before
  pub are_starts : AreStarts r force link at starts before

-- A packet as it is accepted: with its number, its flow and its length, and tagged by the weight in force. Its cost is its length
-- over the weight. It joins behind the flow's last packet, or at virtual time where none waits and that is later.
pub record IsTaggedBy (r : Readings) (link : Link) (number flow len weight : ℕ) (before : List Event) (p : Accepted) : Type 0 where
  pub own_number : p.packet ≡ number
  pub on_link : p.link ≡ link
  pub own_flow : p.stamped.flow ≡ flow
  pub own_length : p.stamped.len ≡ len
  pub own_weight : p.stamped.weight ≡ weight
  pub cost : p.stamped.finish_tag ≡ p.stamped.start_tag + len * 65536 / weight
  pub behind : r.queue link flow before ≢ [] → p.stamped.start_tag ≡ r.last_finish_tag link flow before
  pub alone : r.queue link flow before ≡ [] → p.stamped.start_tag ≡ max (r.last_finish_tag link flow before) (r.virtual_time link before)

-- What happens on its link where a packet is accepted: where the link is free, a busy period begins and the packet starts at once.
-- Else it waits.
pub record Joins (r : Readings) (force : Target → Option Command) (link : Link) (at number flow len weight : ℕ) (before after : List Event) : Type 0 where
  pub packet : Accepted
  pub waits : at < r.free link before → (after ≡ arrived packet ∷ before) × IsTaggedBy r link number flow len weight before packet
  pub goes : r.free link before ≤ at → (s : Start) × ((after ≡ started s ∷ arrived packet ∷ opened link ∷ before) × IsTaggedBy r link number flow len weight (opened link ∷ before) packet
      × (s.packet ≡ packet) × (s.moment ≡ at) × IsBy (force (ToPipe (pipe_under link))) s)

-- Whether a delete reaches the flow with the key, and the flows that it reaches, as events.
abbrev pub is_reached : Command → FlowKey → Bool
is_reached (DeletePipe number) key = nat_eq key.pipe number
is_reached (DeleteQueue number) key = elim key.target [ ToPipe n ↦ false | ToQueue n ↦ nat_eq n number ]
is_reached _ key = false

abbrev pub discards : Command → ℕ → List FlowKey → List Event → List Event
discards command flow [] trace = trace
discards command flow (key ∷ known) trace = discards command (flow + 1) known (cond (is_reached command key) (discarded flow ∷ trace) trace)
