-- Shared links: busy periods, and how virtual time and the last finish tags stand after a trace. The next packet of
-- a link is the pick of WF2Q+ where the link is shared.
use Rattle.std.specs.Prelude.{ℕ, cond, ◌&&◌, List, [], ◌∷◌, map, nat_eq, nat_le, Option, slice_get, option_and_then}
use Rattle.dn_types.specs.Links.{free}
use Rattle.dn_types.specs.Trace.{Link, own, shared, link_eq, Accepted, Event, opened, arrived, started, discarded, is_of, backlog, flow_bound}
use Rattle.dn_types.specs.Wf2q.{Stamped, heads, total, pick, grown}

-- The heads: the first packets of the link's backlogs, in order of flow numbers.
abbrev pub link_heads : Link → List Event → List Stamped
link_heads link trace = map (λ p. p.stamped) (heads (flow_bound trace) (λ flow. backlog link flow trace))

-- How many packets wait for the link.
abbrev pub waiting : Link → List Event → ℕ
waiting link trace = total (flow_bound trace) (λ flow. backlog link flow trace)

-- A busy period begins where a packet is accepted into a link that is free by then and for which none waits.
abbrev pub opening : Link → ℕ → List Event → List Event
opening link at trace = cond (nat_eq (waiting link trace) 0 && nat_le (free link trace) at) (opened link ∷ trace) trace

-- Virtual time: 0 where a busy period begins, and each start raises it and lets it grow.
abbrev pub virtual_time : Link → List Event → ℕ
virtual_time link [] = 0
virtual_time link (opened l ∷ trace) = cond (link_eq l link) 0 (virtual_time link trace)
virtual_time link (started s ∷ trace) = cond (link_eq s.packet.link link) (grown (virtual_time link trace) (link_heads link trace) s.packet.stamped.len) (virtual_time link trace)
virtual_time link (_ ∷ trace) = virtual_time link trace

-- The finish tag of the flow's last packet in this busy period: 0 where there is none, or where a delete reached the
-- flow since.
abbrev pub last_finish_tag : Link → ℕ → List Event → ℕ
last_finish_tag link flow [] = 0
last_finish_tag link flow (opened l ∷ trace) = cond (link_eq l link) 0 (last_finish_tag link flow trace)
last_finish_tag link flow (arrived p ∷ trace) = cond (is_of link flow p) p.stamped.finish_tag (last_finish_tag link flow trace)
last_finish_tag link flow (discarded f ∷ trace) = cond (nat_eq f flow) 0 (last_finish_tag link flow trace)
last_finish_tag link flow (_ ∷ trace) = last_finish_tag link flow trace

-- The packet that starts next: of a flow with its own link the first of its backlog, on a shared link the pick.
abbrev pub next_packet : Link → List Event → Option Accepted
next_packet (own pipe flow) trace = slice_get (backlog (own pipe flow) flow trace) 0
next_packet (shared pipe) trace = option_and_then (λ h. slice_get (backlog (shared pipe) h.flow trace) 0) (pick (virtual_time (shared pipe) trace) (link_heads (shared pipe) trace))
