-- Words for the laws of replies: what replies tell of the clock, of packets and of flows.
use Rattle.std.specs.Prelude.{ℕ, ◌≡◌, ◌+◌, ⊤, Bool, true, false, List, [], ◌∷◌, nat_eq, Option, Some, None}
use Rattle.std.specs.List.{count_by}
use Rattle.dn_types.specs.Configuration.{Settings}
use Rattle.dn_types.specs.Given.{is_packet}
use Rattle.dn_types.specs.Trace.{Link, own, shared, Event, arrived}
use Rattle.dn_types.specs.declared.command.Command.{Command}
use Rattle.dn_types.specs.declared.command.Command.TheVariants.{Pipe, Queue, DeletePipe, DeleteQueue}
use Rattle.dn_types.specs.declared.flow_key.FlowKey.{FlowKey}
use Rattle.dn_types.specs.declared.reply.Reply.{Reply}
use Rattle.dn_types.specs.declared.reply.Reply.TheVariants.{Queued, Lost, Full, NoTarget, Advanced, Delivered}
use Rattle.dn_types.specs.declared.target.Target.TheVariants.{Queue as ToQueue}

-- The moment that a reply tells.
abbrev pub moment_told : Reply → Option ℕ
moment_told (Queued at flow number) = Some at
moment_told (Lost at flow) = Some at
moment_told (Full at flow) = Some at
moment_told (NoTarget at) = Some at
moment_told (Advanced at) = Some at
moment_told (Delivered at list) = Some at
moment_told _ = None

-- Whether a reply says that a packet was queued, and of the flow that one was queued, lost or refused.
abbrev pub is_queued : Reply → Bool
is_queued (Queued at flow number) = true
is_queued _ = false

abbrev pub is_queued_of : ℕ → Reply → Bool
is_queued_of flow (Queued at f number) = nat_eq f flow
is_queued_of flow _ = false

abbrev pub is_lost_of : ℕ → Reply → Bool
is_lost_of flow (Lost at f) = nat_eq f flow
is_lost_of flow _ = false

abbrev pub is_full_of : ℕ → Reply → Bool
is_full_of flow (Full at f) = nat_eq f flow
is_full_of flow _ = false

-- How often a reply, and how often replies, deliver the packet with the number.
abbrev pub times_in : ℕ → Reply → ℕ
times_in number (Delivered at list) = count_by (is_packet number) list
times_in number _ = 0

abbrev pub times_told : ℕ → List Reply → ℕ
times_told number [] = 0
times_told number (r ∷ replies) = times_in number r + times_told number replies

-- Whether an event is the arrival of a packet of the flow.
abbrev pub is_arrival_of : ℕ → Event → Bool
is_arrival_of flow (arrived p) = nat_eq p.stamped.flow flow
is_arrival_of flow _ = false

-- A queue of the pipe is configured.
abbrev pub IsQueueOf : ℕ → Option Command → Type 0
IsQueueOf n (Some (Queue number pipe weight limit loss buckets mask)) = pipe ≡ n
IsQueueOf n _ = ⊥

abbrev pub HasQueue : Settings → ℕ → Type 0
HasQueue in_force n = (q : ℕ) × IsQueueOf n (in_force (ToQueue q))

abbrev pub IsThere : Option Command → Type 0
IsThere None = ⊥
IsThere (Some command) = ⊤

-- The command deletes the flows with the key: those of the queue, or those on the pipe.
abbrev pub IsReached : Command → FlowKey → Type 0
IsReached (DeletePipe number) key = key.pipe ≡ number
IsReached (DeleteQueue number) key = key.target ≡ ToQueue number
IsReached _ key = ⊥

-- The link of a flow by the command in force for its target: a packet to a pipe is on the flow's own link, and all packets
-- to the queues of a pipe are on one link.
abbrev pub IsCarriedBy : Command → ℕ → Link → Type 0
IsCarriedBy (Pipe number bw delay limit loss buckets mask) flow link = link ≡ own number flow
IsCarriedBy (Queue number pipe weight limit loss buckets mask) flow link = link ≡ shared pipe
IsCarriedBy _ flow link = ⊥
