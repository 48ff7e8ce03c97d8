-- What answers calls, of which the laws are, and what is read off the events of a link.
use Rattle.std.specs.Prelude.{ℕ, zero, suc, ◌≡◌, ◌≢◌, ◌≤◌, ◌+◌, ◌*◌, ◌/◌, ◌⊎◌, ⊤, max, List, [], ◌∷◌, ◌++◌, map, sum, take, drop, Option}
use Rattle.dn_laws.specs.Explained.{IsDueBy}
use Rattle.dn_laws.specs.KeptLaws.{IsNoStart, IsNoOpening, IsApart}
use Rattle.dn_types.specs.Trace.{Link, Accepted, Start, Event, opened, arrived, started, discarded}
use Rattle.dn_types.specs.declared.call.Call.{Call}
use Rattle.dn_types.specs.declared.command.Command.{Command}
use Rattle.dn_types.specs.declared.flow_key.FlowKey.{FlowKey}
use Rattle.dn_types.specs.declared.reply.Reply.{Reply}
use Rattle.dn_types.specs.declared.rule.Rule.{Rule}
use Rattle.dn_types.specs.declared.target.Target.{Target}

-- What each call is told after the calls before it. The laws speak of four things more, of which they ask for no more than that
-- they are there: the clock, what is in force, the keys of the flows, and what has happened on each link, newest first.
pub record Emulator : Type 0 where
  pub told : List Call → Call → Reply
  pub clock : List Call → ℕ
  pub in_force : List Call → Target → Option Command
  pub flows : List Call → List FlowKey
  pub happened : List Call → Link → List Event

-- The replies to the calls, newest first.
abbrev pub answers : Emulator → List Call → List Reply
answers e [] = []
answers e (c ∷ calls) = e.told calls c ∷ answers e calls

-- An element of a list.
abbrev pub Has : {X : Type 0} → List X → X → Type 0
Has [] x = ⊥
Has (y ∷ ys) x = (y ≡ x) ⊎ Has ys x

-- What is read off that which happened on a link: what waits for it of a flow, when it is free, its last due moment, its virtual
-- time, and a flow's last finish tag.
pub record Readings : Type 0 where
  pub queue : Link → ℕ → List Event → List Accepted
  pub free : Link → List Event → ℕ
  pub last_due : Link → List Event → ℕ
  pub virtual_time : Link → List Event → ℕ
  pub last_finish_tag : Link → ℕ → List Event → ℕ

abbrev pub IsOf : Link → ℕ → Accepted → Type 0
IsOf link flow p = (p.link ≡ link) × (p.stamped.flow ≡ flow)

-- The event is about no packet of the flow on the link.
abbrev pub IsNotOf : Link → ℕ → Event → Type 0
IsNotOf link flow (arrived p) = IsOf link flow p → ⊥
IsNotOf link flow (started s) = IsOf link flow s.packet → ⊥
IsNotOf link flow (discarded f) = f ≢ flow
IsNotOf link flow _ = ⊤

-- A packet is the first that waits of its flow.
abbrev pub IsFirst : Readings → Link → List Event → Accepted → Type 0
IsFirst r link trace p = (behind : List Accepted) × (r.queue link p.stamped.flow trace ≡ p ∷ behind)

-- Virtual time as it is raised for a start: no further than so that one of those that wait is eligible.
pub record IsRaised (r : Readings) (link : Link) (trace : List Event) (to : ℕ) : Type 0 where
  pub rises : r.virtual_time link trace ≤ to
  pub no_further : (p : Accepted) → IsFirst r link trace p → to ≤ max (r.virtual_time link trace) p.stamped.start_tag
  pub far_enough : ((p : Accepted) × IsFirst r link trace p × (p.stamped.start_tag ≤ to)) ⊎ (((flow : ℕ) → r.queue link flow trace ≡ []) × (to ≡ r.virtual_time link trace))

-- The sum of the weights of the flows below a number that wait.
abbrev pub weights : (ℕ → List Accepted) → ℕ → ℕ
weights queue zero = 0
weights queue (suc flow) = weights queue flow + sum (map (λ p. p.stamped.weight) (take 1 (queue flow)))

-- Virtual time after a start: raised, and grown by the length over the sum of the weights of the flows that wait.
pub record GrowsBy (r : Readings) (link : Link) (trace : List Event) (s : Start) : Type 0 where
  pub to : ℕ
  pub raised : IsRaised r link trace to
  pub bound : ℕ
  pub all : (flow : ℕ) → bound ≤ flow → r.queue link flow trace ≡ []
  pub grown : r.virtual_time link (started s ∷ trace) ≡ to + s.packet.stamped.len * 65536 / weights (λ flow. r.queue link flow trace) bound

pub record AreReadings (rule : Rule) (r : Readings) : Type 0 where
  -- What waits is what arrived, less the first at each start, and nothing after a delete.
  pub queue_arrives : (link : Link) (flow : ℕ) (p : Accepted) (trace : List Event) → IsOf link flow p → r.queue link flow (arrived p ∷ trace) ≡ r.queue link flow trace ++ p ∷ []
  pub queue_starts : (link : Link) (flow : ℕ) (s : Start) (trace : List Event) → IsOf link flow s.packet → r.queue link flow (started s ∷ trace) ≡ drop 1 (r.queue link flow trace)
  pub queue_ends : (link : Link) (flow : ℕ) (trace : List Event) → r.queue link flow (discarded flow ∷ trace) ≡ []
  pub queue_stays : (link : Link) (flow : ℕ) (e : Event) (trace : List Event) → IsNotOf link flow e → r.queue link flow (e ∷ trace) ≡ r.queue link flow trace
  -- A link is free at the end of its last transmission, and the due moment of that packet is the last.
  pub free_begins : (link : Link) → r.free link [] ≡ 0
  pub free_starts : (s : Start) (trace : List Event) → r.free s.packet.link (started s ∷ trace) ≡ s.moment + s.transmission
  pub free_stays : (link : Link) (e : Event) (trace : List Event) → IsNoStart link e → r.free link (e ∷ trace) ≡ r.free link trace
  pub due_begins : (link : Link) → r.last_due link [] ≡ 0
  pub due_starts : (s : Start) (trace : List Event) → IsDueBy rule s (r.last_due s.packet.link trace) (r.last_due s.packet.link (started s ∷ trace))
  pub due_stays : (link : Link) (e : Event) (trace : List Event) → IsNoStart link e → r.last_due link (e ∷ trace) ≡ r.last_due link trace
  -- A busy period begins with tags of 0. A flow keeps the finish tag of its last packet, until a delete reaches it.
  pub tag_begins : (link : Link) (flow : ℕ) → r.last_finish_tag link flow [] ≡ 0
  pub tag_opens : (link : Link) (flow : ℕ) (trace : List Event) → r.last_finish_tag link flow (opened link ∷ trace) ≡ 0
  pub tag_arrives : (link : Link) (flow : ℕ) (p : Accepted) (trace : List Event) → IsOf link flow p → r.last_finish_tag link flow (arrived p ∷ trace) ≡ p.stamped.finish_tag
  pub tag_ends : (link : Link) (flow : ℕ) (trace : List Event) → r.last_finish_tag link flow (discarded flow ∷ trace) ≡ 0
  pub tag_stays : (link : Link) (flow : ℕ) (e : Event) (trace : List Event) → IsApart link flow e → r.last_finish_tag link flow (e ∷ trace) ≡ r.last_finish_tag link flow trace
  pub virtual_begins : (link : Link) → r.virtual_time link [] ≡ 0
  pub virtual_opens : (link : Link) (trace : List Event) → r.virtual_time link (opened link ∷ trace) ≡ 0
  pub virtual_stays : (link : Link) (e : Event) (trace : List Event) → IsNoStart link e → IsNoOpening link e → r.virtual_time link (e ∷ trace) ≡ r.virtual_time link trace
  pub virtual_grows : (s : Start) (trace : List Event) → GrowsBy r s.packet.link trace s
