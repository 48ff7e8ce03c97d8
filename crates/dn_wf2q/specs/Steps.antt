-- What each step of a call changes.
use Rattle.std.specs.Prelude.{◌≡◌, ℕ, ◌+◌, ◌<◌, List, [], ◌∷◌, ◌++◌, length, slice_set, take, None}
use Rattle.std.specs.List.{All}
use Rattle.dn_types.specs.Wf2q.{Stamped, scaled, weight_sum}
use Rattle.dn_wf2q.specs.declared.tagged_queue.TaggedQueue.{TaggedQueue}
use Rattle.dn_wf2q.specs.declared.sched_parts.SchedParts.{SchedParts}
use Rattle.dn_wf2q.specs.Schedule.{flow_at, no_packets, heads_of, waiting_of, after_arrival, after_pick, after_discard, forgotten}
use Rattle.dn_wf2q.specs.Kept.{flows_of}

-- Only the heaps and the running sum of weights change.
pub record OnlyHeaps (old new : SchedParts) : Type 0 where
  pub flows : new.flows ≡ old.flows
  pub virtual_time : new.virtual_time ≡ old.virtual_time
  pub busy_from : new.busy_from ≡ old.busy_from
  pub arrivals : new.arrivals ≡ old.arrivals
  pub picks : new.picks ≡ old.picks

-- The packet h, the first at its slot, is sent at the raised virtual time v.
pub record SendsHead (h : Stamped) (v : ℕ) (old new : SchedParts) : Type 0 where
  pub head : take 1 (flow_at (flows_of old) h.flow).backlog ≡ h ∷ []
  pub flows : flows_of new ≡ after_pick (flows_of old) h.flow
  pub virtual_time : new.virtual_time ≡ v + scaled h.len (weight_sum (heads_of (flows_of old)))
  pub arrivals : new.arrivals ≡ old.arrivals
  pub picks : new.picks ≡ old.picks + 1
  pub one_fewer : waiting_of (flows_of new) + 1 ≡ waiting_of (flows_of old)

-- A packet arrives at a slot.
pub record ArrivesAtSlot (slot len weight : ℕ) (old new : SchedParts) : Type 0 where
  pub flows : flows_of new ≡ after_arrival (flows_of old) slot old.virtual_time len weight
  pub virtual_time : new.virtual_time ≡ old.virtual_time
  pub arrivals : new.arrivals ≡ old.arrivals + 1
  pub picks : new.picks ≡ old.picks
  pub one_more : waiting_of (flows_of new) ≡ waiting_of (flows_of old) + 1

-- A packet comes where none waits: a busy period begins, the packet arrives and is sent.
pub record PassesSlot (slot len weight : ℕ) (old new : SchedParts) : Type 0 where
  pub listed : slot < length (flows_of old)
  pub empty : flow_at (forgotten (flows_of old)) slot ≡ no_packets
  pub flows : flows_of new ≡ slice_set (forgotten (flows_of old)) slot (record { backlog = []; last_finish_tag = scaled len weight })
  pub virtual_time : new.virtual_time ≡ scaled len weight
  pub arrivals : new.arrivals ≡ old.arrivals + 1
  pub picks : new.picks ≡ old.picks + 1

-- The packets of a slot leave.
pub record DiscardsSlot (slot : ℕ) (old new : SchedParts) : Type 0 where
  pub flows : flows_of new ≡ after_discard (flows_of old) slot
  pub fewer : waiting_of (flows_of new) + length (flow_at (flows_of old) slot).backlog ≡ waiting_of (flows_of old)
  pub virtual_time : new.virtual_time ≡ old.virtual_time
  pub arrivals : new.arrivals ≡ old.arrivals
  pub picks : new.picks ≡ old.picks
  pub moves : new.eligible.moves + new.waiting.moves ≡ old.eligible.moves + old.waiting.moves

-- A busy period begins.
pub record Begins (old new : SchedParts) : Type 0 where
  pub flows : flows_of new ≡ forgotten (flows_of old)
  pub virtual_time : new.virtual_time ≡ 0
  pub arrivals : new.arrivals ≡ old.arrivals
  pub picks : new.picks ≡ old.picks
  pub eligible : new.eligible ≡ old.eligible
  pub waiting : new.waiting ≡ old.waiting
  pub queues : new.flows ≡ old.flows

-- A queue that has had no packet.
abbrev pub IsBlank : TaggedQueue → Type 0
IsBlank q = (q.head ≡ None) × (q.behind.packets ≡ []) × (q.finish_tag ≡ 0) × (q.arrived ≡ 0)

-- The second list is the first and then such queues.
pub record IsExtended (xs ys : List TaggedQueue) : Type 0 where
  pub more : List TaggedQueue
  pub is : ys ≡ xs ++ more
  pub blank : All IsBlank more

-- Only slots are added.
pub record AddsSlots (old new : SchedParts) : Type 0 where
  pub virtual_time : new.virtual_time ≡ old.virtual_time
  pub arrivals : new.arrivals ≡ old.arrivals
  pub picks : new.picks ≡ old.picks
  pub eligible : new.eligible.moves ≡ old.eligible.moves
  pub waiting : new.waiting.moves ≡ old.waiting.moves
