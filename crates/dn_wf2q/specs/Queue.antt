-- What the queue of one flow stands for: the packets that wait, each with its tags. Kept are the head, with its finish
-- tag, and for proofs alone the length and weight of each packet behind it.
use Rattle.std.specs.Prelude.{◌≡◌, ℕ, ◌+◌, ◌-◌, ◌^◌, ◌<◌, ◌==◌, nat_lt, cond, List, [], ◌∷◌, ◌++◌, drop, length, slice_get, Option, Some, None}
use Rattle.std.specs.Option.{option_map}
use Rattle.dn_types.specs.Wf2q.{Stamped, scaled, start_tag_on_arrival}
use Rattle.dn_wf2q.specs.Schedule.{IsNext}
use Rattle.dn_wf2q.specs.declared.queued_packet.QueuedPacket.{QueuedPacket}
use Rattle.dn_wf2q.specs.declared.tagged_packet.TaggedPacket.{TaggedPacket}
use Rattle.dn_wf2q.specs.declared.behind.Change.{Change}
use Rattle.dn_wf2q.specs.declared.behind.Change.TheVariants.{FirstLeaves, Joins}
use Rattle.dn_wf2q.specs.declared.tagged_queue.TaggedQueue.{TaggedQueue}

-- What becomes of the packets behind a head: a packet joins them, or the first of them leaves.
abbrev pub changed : Change → List QueuedPacket → List QueuedPacket
changed (Joins packet) packets = packets ++ packet ∷ []
changed FirstLeaves packets = drop 1 packets

-- A packet with its tags, by its finish tag.
abbrev pub finishing : ℕ → QueuedPacket → TaggedPacket
finishing finish p = record { start_tag = finish - scaled p.len p.weight; finish_tag = finish; len = p.len; weight = p.weight }

-- A packet with its tags, by its start tag.
abbrev pub starting : ℕ → QueuedPacket → TaggedPacket
starting start p = record { start_tag = start; finish_tag = start + scaled p.len p.weight; len = p.len; weight = p.weight }

-- Packets behind one with this finish tag: each starts where the one before it finishes.
abbrev pub stamped_behind : ℕ → List QueuedPacket → List TaggedPacket
stamped_behind finish [] = []
stamped_behind finish (p ∷ ps) = starting finish p ∷ stamped_behind (finish + scaled p.len p.weight) ps

-- The finish tag of the last of such packets.
abbrev pub last_behind : ℕ → List QueuedPacket → ℕ
last_behind finish [] = finish
last_behind finish (p ∷ ps) = last_behind (finish + scaled p.len p.weight) ps

-- A head with this finish tag and those behind it. Without a head no packet waits.
abbrev pub stamped_from : Option QueuedPacket → ℕ → List QueuedPacket → List TaggedPacket
stamped_from None finish behind = []
stamped_from (Some head) finish behind = finishing finish head ∷ stamped_behind finish behind

-- The packets of a queue with their tags, oldest first.
abbrev pub packets_of : TaggedQueue → List TaggedPacket
packets_of q = stamped_from q.head q.finish_tag q.behind.packets

-- A packet's length and weight.
abbrev pub untagged : QueuedPacket → ℕ × ℕ
untagged p = (p.len, p.weight)

-- The first of these packets is this one, or there is none.
abbrev pub IsFirst : Option QueuedPacket → List Stamped → Type 0
IsFirst first packets = IsNext (option_map untagged first) packets

-- The packet behind the head, where there is one.
abbrev pub next_behind : TaggedQueue → Option QueuedPacket
next_behind q = slice_get q.behind.packets 0

-- Nothing waits behind no head, and a head arrived in this busy period.
abbrev pub IsChained : ℕ → ℕ → List QueuedPacket → Option QueuedPacket → Type 0
IsChained busy_from arrived behind None = behind ≡ []
IsChained busy_from arrived behind (Some head) = busy_from < arrived

-- The finish tag of the last packet that came: behind the head that of the last one there, and without a head the one that is kept.
abbrev pub last_tag : TaggedQueue → ℕ
last_tag q = last_behind q.finish_tag q.behind.packets

-- What holds of a queue, where the busy period began after so many arrivals.
abbrev pub IsQueueKept : ℕ → TaggedQueue → Type 0
IsQueueKept busy_from q = IsChained busy_from q.arrived q.behind.packets q.head

-- The last finish tag of a queue, where the busy period began after so many arrivals: an older tag counts for 0.
abbrev pub last_finish_tag_in : ℕ → TaggedQueue → ℕ
last_finish_tag_in busy_from q = cond (nat_lt busy_from q.arrived) (last_tag q) 0

-- The packet that a queue appends on an arrival.
abbrev pub arriving : ℕ → TaggedQueue → ℕ → ℕ → ℕ → TaggedPacket
arriving busy_from q virtual_time len weight =
    let start = start_tag_on_arrival (length (packets_of q) == 0) (last_finish_tag_in busy_from q) virtual_time in
    record { start_tag = start; finish_tag = start + scaled len weight; len = len; weight = weight }

-- The first packet of a queue.
abbrev pub first_packet : List TaggedPacket → Option TaggedPacket
first_packet [] = None
first_packet (p ∷ ps) = Some p

-- A packet has a weight, and its finish tag fits.
abbrev pub IsPayable : TaggedPacket → Type 0
IsPayable p = (0 < p.weight) × (p.finish_tag < 2 ^ 96)
