-- A scheduler as callers see it: for each slot the packets that wait, with their tags, and the last finish tag.
use Rattle.std.specs.Prelude.{◌≡◌, ℕ, ◌+◌, ◌-◌, ◌≤◌, ◌==◌, List, [], ◌∷◌, ◌++◌, length, map, take, drop, slice_index_or, slice_set, replicate, Option, Some, None}
use Rattle.dn_types.specs.Wf2q.{Stamped, scaled, start_tag_on_arrival, heads, total, grown, pick}

-- A flow: the packets that wait, oldest first, and the finish tag of the flow's last packet in this busy period (0 where
-- there is none, or where the flow was discarded since).
pub record Flow : Type 0 where
  pub backlog : List Stamped
  pub last_finish_tag : ℕ

-- The flows by slot, virtual time, for how many arrivals each flow has room, and the counts since the scheduler was made:
-- arrivals, picks that gave a flow, and pushes into the heaps.
pub record Schedule : Type 0 where
  pub flows : List Flow
  pub virtual_time : ℕ
  pub room : List ℕ
  pub arrivals : ℕ
  pub picks : ℕ
  pub moves : ℕ

-- A flow that has had no packet.
abbrev pub no_packets : Flow
no_packets = record { backlog = []; last_finish_tag = 0 }

-- The flow at a slot. A slot beyond the list is a flow that has had no packet.
abbrev pub flow_at : List Flow → ℕ → Flow
flow_at flows slot = slice_index_or flows slot no_packets

-- For how many arrivals the flow at a slot has room.
abbrev pub room_at : List ℕ → ℕ → ℕ
room_at room slot = slice_index_or room slot 0

-- Room for one arrival at each slot, which an arrival doesn't use up.
abbrev pub one_each : List Flow → List ℕ
one_each flows = map (λ flow. 1) flows

-- The first packet of each backlog, in order of slots.
abbrev pub heads_of : List Flow → List Stamped
heads_of flows = heads (length flows) (λ slot. (flow_at flows slot).backlog)

-- How many packets wait.
abbrev pub waiting_of : List Flow → ℕ
waiting_of flows = total (length flows) (λ slot. (flow_at flows slot).backlog)

-- No packet waits.
abbrev pub IsIdle : List Flow → Type 0
IsIdle flows = waiting_of flows ≡ 0

-- A packet with the tags that it gets on arrival.
abbrev pub stamped : ℕ → Flow → ℕ → ℕ → ℕ → Stamped
stamped slot flow virtual_time len weight =
    let start = start_tag_on_arrival (length flow.backlog == 0) flow.last_finish_tag virtual_time in
    record { flow = slot; len = len; weight = weight; start_tag = start; finish_tag = start + scaled len weight }

-- The packet joins the end of the backlog, and its finish tag is the flow's last one.
abbrev pub joined_by : Flow → Stamped → Flow
joined_by flow packet = record { backlog = flow.backlog ++ packet ∷ []; last_finish_tag = packet.finish_tag }

abbrev pub after_arrival : List Flow → ℕ → ℕ → ℕ → ℕ → List Flow
after_arrival flows slot virtual_time len weight =
    slice_set flows slot (joined_by (flow_at flows slot) (stamped slot (flow_at flows slot) virtual_time len weight))

-- The first packet at a slot leaves.
abbrev pub without_head : Flow → Flow
without_head flow = record flow { backlog = drop 1 flow.backlog }

abbrev pub after_pick : List Flow → ℕ → List Flow
after_pick flows slot = slice_set flows slot (without_head (flow_at flows slot))

-- All packets at a slot leave, and its last finish tag with them.
abbrev pub after_discard : List Flow → ℕ → List Flow
after_discard flows slot = slice_set flows slot no_packets

-- A busy period begins: no finish tag counts any more.
abbrev pub without_tag : Flow → Flow
without_tag flow = record flow { last_finish_tag = 0 }

abbrev pub forgotten : List Flow → List Flow
forgotten flows = map without_tag flows

-- At least so many flows, the further ones without a packet.
abbrev pub padded : List Flow → ℕ → List Flow
padded flows n = flows ++ replicate (n - length flows) no_packets

-- The packet h was picked: it was the first at its slot and has left, and virtual time was raised and has grown.
pub record Picks (h : Stamped) (old new : Schedule) : Type 0 where
  pub head : take 1 (flow_at old.flows h.flow).backlog ≡ h ∷ []
  pub flows : new.flows ≡ after_pick old.flows h.flow
  pub virtual_time : new.virtual_time ≡ grown old.virtual_time (heads_of old.flows) h.len
  pub picks : new.picks ≡ old.picks + 1
  pub one_fewer : waiting_of new.flows + 1 ≡ waiting_of old.flows

-- The packet that the schedule picks is the first at this slot.
pub record SendsFirst (slot : ℕ) (schedule : Schedule) : Type 0 where
  pub packet : Stamped
  pub picked : pick schedule.virtual_time (heads_of schedule.flows) ≡ Some packet
  pub here : packet.flow ≡ slot

-- The length and weight of the first of some packets.
abbrev pub next_of : List Stamped → Option (ℕ × ℕ)
next_of [] = None
next_of (p ∷ ps) = Some (p.len, p.weight)

-- The first of these packets has this length and weight, or there is none.
abbrev pub IsNext : Option (ℕ × ℕ) → List Stamped → Type 0
IsNext next packets = next ≡ next_of packets

-- The schedule between the arrival of a packet at an idle one, with which a busy period begins, and its pick.
abbrev pub arrived : ℕ → ℕ → ℕ → Schedule → Schedule → Schedule
arrived slot len weight old new = record { flows = after_arrival (forgotten old.flows) slot 0 len weight; virtual_time = 0; room = new.room; arrivals = old.arrivals + 1; picks = old.picks; moves = new.moves }

-- A packet came to an idle schedule and was picked at once.
pub record Passes (slot len weight : ℕ) (old new : Schedule) : Type 0 where
  pub packet : Stamped
  pub here : packet.flow ≡ slot
  pub one_more : waiting_of (arrived slot len weight old new).flows ≡ waiting_of old.flows + 1
  pub picked : pick 0 (heads_of (arrived slot len weight old new).flows) ≡ Some packet
  pub picks : Picks packet (arrived slot len weight old new) new
  pub arrivals : new.arrivals ≡ old.arrivals + 1

-- No flow has less room than before.
abbrev pub KeepsRoom : Schedule → Schedule → Type 0
KeepsRoom old new = (slot : ℕ) → room_at old.room slot ≤ room_at new.room slot

-- The counts stay.
pub record KeepsCounts (old new : Schedule) : Type 0 where
  pub arrivals : new.arrivals ≡ old.arrivals
  pub picks : new.picks ≡ old.picks
  pub moves : new.moves ≡ old.moves
