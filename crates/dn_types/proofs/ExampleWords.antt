-- The words of the examples: a list of calls, oldest first, each with the reply that it gets.
use Rattle.dn_types.proofs.Words.{Call, Configure, Delivery, FiveTuple, FlowKey, FlowStatus, List, Mask, None, Packet, Pipe, Queue, Reply, Rule, Slots, Submit, Target, map, replies, ℕ, ◌*◌, ◌+◌}
use Rattle.dn_types.proofs.Words.{◌≡◌}
use Rattle.dn_types.specs.declared.target.Target.TheVariants.{Pipe as ToPipe, Queue as ToQueue}
use mathlib.Core.List.{reverse}

infix 26 ◌⇒◌
-- A call and its reply.
pub data Answered : Type 0 where
  ◌⇒◌ : Call → Reply → Answered

abbrev pub call_of : Answered → Call
call_of (call ⇒ reply) = call

abbrev pub reply_of : Answered → Reply
reply_of (call ⇒ reply) = reply

-- Dummynet answers the calls so, one after the other from its beginning.
abbrev pub Answers : Rule → List Answered → Type 0
Answers rule rows = replies rule (reverse (map call_of rows)) ≡ reverse (map reply_of rows)

-- ---- Values

abbrev pub tuple : ℕ → ℕ → ℕ → ℕ → ℕ → FiveTuple
tuple src dst proto sport dport = record { src = src; dst = dst; proto = proto; sport = sport; dport = dport }

abbrev pub mask : ℕ → ℕ → ℕ → ℕ → ℕ → Mask
mask src dst proto sport dport = record { src = src; dst = dst; proto = proto; sport = sport; dport = dport }

abbrev pub no_mask : Mask
no_mask = mask 0 0 0 0 0

-- The address 10.x.0.y.
abbrev pub ten : ℕ → ℕ → ℕ
ten x y = 167772160 + x * 65536 + y

abbrev pub packet : FiveTuple → ℕ → ℕ → Packet
packet t len word = record { tuple = t; len = len; word = word }

abbrev pub delivery : ℕ → ℕ → ℕ → ℕ → Delivery
delivery number flow start due = record { due = due; packet = number; flow = flow; start = start }

abbrev pub key : Target → ℕ → Mask → FiveTuple → FlowKey
key target pipe m t = record { target = target; pipe = pipe; mask = m; tuple = t }

abbrev pub status : ℕ → FlowKey → ℕ → ℕ → ℕ → ℕ → ℕ → ℕ → FlowStatus
status flow k queued bytes lost full started discarded = record { flow = flow; key = k; queued = queued; bytes = bytes; lost = lost; full = full; started = started; discarded = discarded }

-- ---- Calls

-- `pipe N config bw B delay D`, with a limit of 50 packets and no loss
abbrev pub pipe : ℕ → ℕ → ℕ → Call
pipe number bw delay = Configure (Pipe number bw delay (Slots 50) 0 None no_mask)

-- `queue N config pipe P weight W`
abbrev pub queue : ℕ → ℕ → ℕ → Call
queue number on weight = Configure (Queue number on weight (Slots 50) 0 None no_mask)

-- A packet from 10.0.0.1 to 10.0.0.2, protocol 17, ports 1000 and 2000.
abbrev pub sized : ℕ → Packet
sized len = packet (tuple (ten 0 1) (ten 0 2) 17 1000 2000) len 0

-- The same packet of 1,000 bytes with a random word.
abbrev pub worded : ℕ → Packet
worded word = packet (tuple (ten 0 1) (ten 0 2) 17 1000 2000) 1000 word

-- A packet of 1,000 bytes to a pipe or to a queue.
abbrev pub to_pipe : ℕ → ℕ → Call
to_pipe number moment = Submit (ToPipe number) (sized 1000) moment

abbrev pub to_queue : ℕ → ℕ → Call
to_queue number moment = Submit (ToQueue number) (sized 1000) moment
