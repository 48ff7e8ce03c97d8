-- Links: how long a packet takes, when its link is free again, and when it is due (Rizzo 1997: a queue, a bandwidth
-- and a delay for each pipe).
use Rattle.std.specs.Prelude.{ℕ, ◌+◌, ◌-◌, ◌*◌, ◌/◌, max, cond, List, [], ◌∷◌, nat_eq}
use Rattle.dn_types.specs.Trace.{Link, link_eq, Start, Event, started}
use Rattle.dn_types.specs.declared.rule.Rule.{Rule}
use Rattle.dn_types.specs.declared.rule.Rule.TheVariants.{Free, Ordered}

-- The nanoseconds that a packet takes: its bits by the bandwidth in bit/s, rounded up, and none where the bandwidth
-- is 0, which is unlimited.
abbrev pub transmission_time : ℕ → ℕ → ℕ
transmission_time bandwidth len = cond (nat_eq bandwidth 0) 0 ((len * 8000000000 + (bandwidth - 1)) / bandwidth)

-- A link is free from the end of its last transmission on. A delete leaves that as it is.
abbrev pub free : Link → List Event → ℕ
free link [] = 0
free link (started s ∷ trace) = cond (link_eq s.packet.link link) (s.moment + s.transmission) (free link trace)
free link (_ ∷ trace) = free link trace

-- When a packet's bits and its delay have passed.
abbrev pub arrival_time : Start → ℕ
arrival_time s = s.moment + s.transmission + s.delay

-- A packet is due when it arrives, and under Ordered no sooner than the one before it on its link.
abbrev pub due_by : Rule → ℕ → ℕ → ℕ
due_by Free arrival last = arrival
due_by Ordered arrival last = max last arrival

-- The due moment of the last start on the link, 0 before the first. A delete leaves it as it is.
abbrev pub last_due : Rule → Link → List Event → ℕ
last_due rule link [] = 0
last_due rule link (started s ∷ trace) = cond (link_eq s.packet.link link) (due_by rule (arrival_time s) (last_due rule link trace)) (last_due rule link trace)
last_due rule link (_ ∷ trace) = last_due rule link trace
