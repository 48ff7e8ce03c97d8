-- Starts: a settling starts, in order of time over all links, every packet whose link is free up to a moment.
use Rattle.std.specs.Prelude.{ℕ, zero, suc, ◌+◌, ◌*◌, cond, List, [], ◌∷◌, nat_lt, nat_le, Option, Some, None, option_map}
use Rattle.dn_types.specs.Configuration.{Settings}
use Rattle.dn_types.specs.Links.{transmission_time, free}
use Rattle.dn_types.specs.SharedLinks.{waiting, next_packet}
use Rattle.dn_types.specs.Trace.{Link, pipe_of, Accepted, Start, Event, started, links}
use Rattle.dn_types.specs.declared.command.Command.{Command}
use Rattle.dn_types.specs.declared.command.Command.TheVariants.{Pipe}
use Rattle.dn_types.specs.declared.target.Target.TheVariants.{Pipe as ToPipe}

-- A pipe's bandwidth in bit/s, by what is in force for it. A packet waits only where its pipe is configured, since a
-- delete of the pipe discards the packets that wait for its links.
abbrev pub bandwidth_of : Option Command → ℕ
bandwidth_of (Some (Pipe number bw delay limit loss buckets mask)) = bw
bandwidth_of _ = 0

-- A pipe's delay in nanoseconds.
abbrev pub delay_of : Option Command → ℕ
delay_of (Some (Pipe number bw delay limit loss buckets mask)) = delay * 1000000
delay_of _ = 0

-- The packet's start on the link at the moment, with the bandwidth and the delay of the link's pipe that are in force.
abbrev pub start_at : Settings → Link → Accepted → ℕ → Start
start_at settings link p moment = let pipe = settings (ToPipe (pipe_of link)) in record { packet = p; moment = moment; transmission = transmission_time (bandwidth_of pipe) p.stamped.len; delay = delay_of pipe }

-- The next start on the link up to the moment `at`: where a packet waits and the link is free by then, it starts when
-- the link is free.
abbrev pub next_start : Settings → ℕ → Link → List Event → Option Start
next_start settings at link trace = cond (nat_le (free link trace) at) (option_map (λ p. start_at settings link p (free link trace)) (next_packet link trace)) None

-- The sooner of two starts, and the first of them where both are at the same moment.
abbrev pub sooner : Option Start → Option Start → Option Start
sooner None other = other
sooner (Some s) None = Some s
sooner (Some s) (Some t) = Some (cond (nat_lt t.moment s.moment) t s)

-- The first start up to the moment on any of the links.
abbrev pub first_start : Settings → ℕ → List Link → List Event → Option Start
first_start settings at [] trace = None
first_start settings at (link ∷ others) trace = sooner (next_start settings at link trace) (first_start settings at others trace)

-- The trace with the starts up to the moment in order of time, at most `most` of them.
abbrev pub settle : ℕ → Settings → ℕ → List Event → List Event
settle zero settings at trace = trace
settle (suc most) settings at trace = elim (first_start settings at (links trace) trace) [ None ↦ trace | Some s ↦ settle most settings at (started s ∷ trace) ]

-- How many packets wait for the links.
abbrev pub waiting_all : List Link → List Event → ℕ
waiting_all [] trace = 0
waiting_all (link ∷ others) trace = waiting link trace + waiting_all others trace

-- The trace with all starts up to the moment: there are at most as many as packets that wait.
abbrev pub settled : Settings → ℕ → List Event → List Event
settled settings at trace = settle (waiting_all (links trace) trace) settings at trace
