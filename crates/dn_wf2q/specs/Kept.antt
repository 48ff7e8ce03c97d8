-- What the parts of a scheduler stand for, and what holds of them between calls.
use Rattle.std.specs.Prelude.{◌≡◌, ℕ, suc, ◌+◌, ◌*◌, ◌^◌, ◌<◌, ◌≤◌, ◌==◌, cond, List, [], ◌∷◌, length, map}
use Rattle.std.specs.List.{sum_by, All}
use Rattle.dn_types.specs.Wf2q.{Stamped, weight_sum}
use Rattle.dn_heap.specs.Heap.{Heap}
use Rattle.dn_wf2q.specs.declared.tagged_packet.TaggedPacket.{TaggedPacket}
use Rattle.dn_wf2q.specs.declared.tagged_queue.TaggedQueue.{TaggedQueue}
use Rattle.dn_wf2q.specs.declared.sched_parts.SchedParts.{SchedParts}
use Rattle.dn_wf2q.specs.Rank.{RankView}
use Rattle.dn_wf2q.specs.Schedule.{Flow, Schedule, flow_at, one_each}
use Rattle.dn_wf2q.specs.Queue.{packets_of, last_finish_tag_in, IsQueueKept}

-- A packet of the queue at a slot.
abbrev pub tagged : ℕ → TaggedPacket → Stamped
tagged slot p = record { flow = slot; len = p.len; weight = p.weight; start_tag = p.start_tag; finish_tag = p.finish_tag }

-- The flow that a queue at a slot stands for.
abbrev pub seen : ℕ → ℕ → TaggedQueue → Flow
seen busy_from slot q = record { backlog = map (tagged slot) (packets_of q); last_finish_tag = last_finish_tag_in busy_from q }

-- A function of slot and element, at each element of a list.
abbrev pub by_slot : {X Y : Type 0} → (ℕ → X → Y) → List X → List Y
by_slot f [] = []
by_slot f (x ∷ xs) = f 0 x ∷ by_slot (λ slot. f (suc slot)) xs

abbrev pub flows_of : SchedParts → List Flow
flows_of p = by_slot (seen p.busy_from) p.flows.items

abbrev pub schedule_of : SchedParts → Schedule
schedule_of p = record {
  flows = flows_of p;
  virtual_time = p.virtual_time;
  room = one_each (flows_of p);
  arrivals = p.arrivals;
  picks = p.picks;
  moves = p.eligible.moves + p.waiting.moves;
}

-- 1 where a packet waits, else 0.
abbrev pub presence : List Stamped → ℕ
presence [] = 0
presence (p ∷ ps) = 1

-- How many packets wait behind the head.
abbrev pub behind : List Stamped → ℕ
behind [] = 0
behind (p ∷ ps) = length ps

-- The weight of the head, 0 where there is none.
abbrev pub head_weight : List Stamped → ℕ
head_weight [] = 0
head_weight (p ∷ ps) = p.weight

-- How often a slot stands among keys.
abbrev pub rank_at : ℕ → RankView → ℕ
rank_at slot k = cond (k.slot == slot) 1 0

abbrev pub ranks_at : ℕ → List RankView → ℕ
ranks_at slot keys = sum_by (rank_at slot) keys

-- There is a head, and P holds of it.
abbrev pub HeadIs : (Stamped → Type 0) → List Stamped → Type 0
HeadIs P [] = ⊥
HeadIs P (p ∷ ps) = P p

-- A key of the eligible heap is the finish tag of its flow's head, which is eligible.
abbrev pub IsEligible : List Flow → ℕ → RankView → Type 0
IsEligible flows virtual_time k = HeadIs (λ p. (k.tag ≡ p.finish_tag) × (p.start_tag ≤ virtual_time)) (flow_at flows k.slot).backlog

-- A key of the waiting heap is the start tag of its flow's head.
abbrev pub IsWaiting : List Flow → RankView → Type 0
IsWaiting flows k = HeadIs (λ p. k.tag ≡ p.start_tag) (flow_at flows k.slot).backlog

-- No tag is above this after so many arrivals and picks. It is below 2^96, since there are at most 2^62 arrivals and
-- twice as many picks.
abbrev pub bound : ℕ → ℕ → ℕ
bound arrivals picks = (arrivals + picks) * 4294967296

abbrev pub IsWithin : ℕ → Stamped → Type 0
IsWithin b p = (p.start_tag ≤ b) × (p.finish_tag ≤ b) × (p.len < 65536) × (0 < p.weight) × (p.weight ≤ 100)

abbrev pub AreTagsWithin : ℕ → Flow → Type 0
AreTagsWithin b flow = (flow.last_finish_tag ≤ b) × All (IsWithin b) flow.backlog

-- Each backlogged flow stands in exactly one of the two heaps, once, with its head's tag, and sums and counts are right.
-- Between two steps of a call the heads `out` are in no heap yet, and `absent` says how many of them a slot has.
pub record Kept (absent : ℕ → ℕ) (out : List Stamped) (flows : List Flow) (eligible waiting : Heap RankView) (virtual_time weights arrivals picks : ℕ) : Type 0 where
  pub placed : (slot : ℕ) → ranks_at slot eligible.keys + ranks_at slot waiting.keys + absent slot ≡ presence (flow_at flows slot).backlog
  pub ready : All (IsEligible flows virtual_time) eligible.keys
  pub waits : All (IsWaiting flows) waiting.keys
  pub weighed : weights + weight_sum out ≡ sum_by (λ flow. head_weight flow.backlog) flows
  pub counted : length eligible.keys + length waiting.keys + length out ≡ sum_by (λ flow. presence flow.backlog) flows
  pub pushed : eligible.moves + waiting.moves + length waiting.keys + 2 * length out + 2 * sum_by (λ flow. behind flow.backlog) flows ≤ 2 * arrivals
  pub picked : picks + length eligible.keys ≤ eligible.moves
  pub bounded : All (AreTagsWithin (bound arrivals picks)) flows
  pub timely : virtual_time ≤ bound arrivals picks
  pub eligible_room : length flows ≤ length eligible.keys + eligible.room
  pub waiting_room : length flows ≤ length waiting.keys + waiting.room

pub record IsKeptBut (absent : ℕ → ℕ) (out : List Stamped) (p : SchedParts) : Type 0 where
  pub kept : Kept absent out (flows_of p) p.eligible p.waiting p.virtual_time p.weights p.arrivals p.picks
  pub few : p.arrivals ≤ 2 ^ 62
  pub began : p.busy_from ≤ p.arrivals
  pub arrived : All (λ q. q.arrived ≤ p.arrivals) p.flows.items
  pub queues : All (IsQueueKept p.busy_from) p.flows.items
  pub slots : length p.flows.items ≤ 2 ^ 32

-- Every head is in a heap.
abbrev pub none_absent : ℕ → ℕ
none_absent slot = 0

abbrev pub IsSchedKept : SchedParts → Type 0
IsSchedKept p = IsKeptBut none_absent [] p

-- No head that waits is eligible: it would be in the eligible heap.
abbrev pub NoneDue : SchedParts → Type 0
NoneDue p = All (λ k. p.virtual_time < k.tag) p.waiting.keys

-- What holds between calls.
pub record IsCalm (p : SchedParts) : Type 0 where
  pub kept : IsSchedKept p
  pub none_due : NoneDue p

-- The head of the flow at a slot is in no heap yet.
abbrev pub only_absent : ℕ → ℕ → ℕ
only_absent this slot = cond (this == slot) 1 0

abbrev pub IsKeptWithout : ℕ → TaggedPacket → SchedParts → Type 0
IsKeptWithout slot head p = IsKeptBut (only_absent slot) (tagged slot head ∷ []) p × HeadIs (λ x. x ≡ tagged slot head) (flow_at (flows_of p) slot).backlog
