-- What happens on the links: packets arrive, start, are lost, refused or discarded. A trace lists it newest first.
use Rattle.std.specs.Prelude.{ℕ, ◌+◌, max, Bool, true, false, cond, ◌&&◌, List, [], ◌∷◌, ◌++◌, length, drop, nat_eq}
use Rattle.std.specs.List.{count_by, list_any}
use Rattle.dn_types.specs.Wf2q.{Stamped}

-- Each flow of packets sent to a pipe has a link of its own, by the numbers of the pipe and of the flow.
-- The flows of all queues on a pipe share one further link.
pub data Link : Type 0 where
  own : ℕ → ℕ → Link
  shared : ℕ → Link

-- The pipe that gives a link its bandwidth and its delay.
abbrev pub pipe_of : Link → ℕ
pipe_of (own pipe flow) = pipe
pipe_of (shared pipe) = pipe

-- Whether two links are the same.
abbrev pub link_eq : Link → Link → Bool
link_eq (own a f) (own b g) = nat_eq a b && nat_eq f g
link_eq (shared a) (shared b) = nat_eq a b
link_eq _ _ = false

-- An accepted packet. Its number is the count of packets accepted before it.
pub record Accepted : Type 0 where
  pub packet : ℕ
  pub link : Link
  pub stamped : Stamped

-- The start of a packet on its link, with the transmission time and the delay in force then, in nanoseconds.
pub record Start : Type 0 where
  pub packet : Accepted
  pub moment : ℕ
  pub transmission : ℕ
  pub delay : ℕ

-- A busy period of a link begins, a packet arrives at a queue or starts, a packet of a flow is lost or refused, a
-- flow's queue is emptied by a delete, and a Collect takes what is due at its moment.
pub data Event : Type 0 where
  opened : Link → Event
  arrived : Accepted → Event
  started : Start → Event
  lost : Link → ℕ → Event
  refused : Link → ℕ → Event
  discarded : ℕ → Event
  collected : ℕ → Event

-- Whether a packet is of the flow on the link.
abbrev pub is_of : Link → ℕ → Accepted → Bool
is_of link flow p = link_eq p.link link && nat_eq p.stamped.flow flow

-- The backlog of a flow: its accepted packets, less those that started and those that a delete discarded, in order.
-- A start takes the first.
abbrev pub backlog : Link → ℕ → List Event → List Accepted
backlog link flow [] = []
backlog link flow (arrived p ∷ trace) = cond (is_of link flow p) (backlog link flow trace ++ p ∷ []) (backlog link flow trace)
backlog link flow (started s ∷ trace) = cond (is_of link flow s.packet) (drop 1 (backlog link flow trace)) (backlog link flow trace)
backlog link flow (discarded f ∷ trace) = cond (nat_eq f flow) [] (backlog link flow trace)
backlog link flow (_ ∷ trace) = backlog link flow trace

-- One more than the greatest number of a flow with an accepted packet.
abbrev pub flow_bound : List Event → ℕ
flow_bound [] = 0
flow_bound (arrived p ∷ trace) = max (flow_bound trace) (p.stamped.flow + 1)
flow_bound (_ ∷ trace) = flow_bound trace

-- The links with one more, unless it is among them.
abbrev pub with_link : Link → List Link → List Link
with_link link known = cond (list_any (link_eq link) known) known (known ++ link ∷ [])

-- The links of all packets seen, lost and refused ones included, in order of their first.
abbrev pub links : List Event → List Link
links [] = []
links (arrived p ∷ trace) = with_link p.link (links trace)
links (lost link flow ∷ trace) = with_link link (links trace)
links (refused link flow ∷ trace) = with_link link (links trace)
links (_ ∷ trace) = links trace

-- Whether an event is an arrival, or a start, a loss or a refusal of the flow.
abbrev pub is_arrival : Event → Bool
is_arrival (arrived p) = true
is_arrival _ = false

abbrev pub is_start_of : ℕ → Event → Bool
is_start_of flow (started s) = nat_eq s.packet.stamped.flow flow
is_start_of flow _ = false

abbrev pub is_loss_of : ℕ → Event → Bool
is_loss_of flow (lost link f) = nat_eq f flow
is_loss_of flow _ = false

abbrev pub is_refusal_of : ℕ → Event → Bool
is_refusal_of flow (refused link f) = nat_eq f flow
is_refusal_of flow _ = false

-- How many packets were accepted.
abbrev pub accepted_count : List Event → ℕ
accepted_count trace = count_by is_arrival trace

-- How many packets of the flow a delete discarded.
abbrev pub discarded_count : Link → ℕ → List Event → ℕ
discarded_count link flow [] = 0
discarded_count link flow (discarded f ∷ trace) = cond (nat_eq f flow) (length (backlog link flow trace)) 0 + discarded_count link flow trace
discarded_count link flow (_ ∷ trace) = discarded_count link flow trace
