-- WF2Q+ (Bennett and Zhang 1996/97): tags, virtual time and the pick, all in units of 1/65536 byte per weight.
use Rattle.std.specs.Prelude.{ℕ, zero, suc, ◌+◌, ◌*◌, ◌/◌, max, min, Bool, cond, ◌||◌, ◌&&◌, List, [], ◌∷◌, ◌++◌, take, length, nat_eq, nat_lt, nat_le, Option, Some, None}
use Rattle.std.specs.List.{filter}

-- A packet of a flow on a shared link, with the tags that it got on arrival.
pub record Stamped : Type 0 where
  pub flow : ℕ
  pub len : ℕ
  pub weight : ℕ
  pub start_tag : ℕ
  pub finish_tag : ℕ

-- A length by a weight. It is a packet's cost by its own weight, and the growth of virtual time by the sum of weights.
abbrev pub scaled : ℕ → ℕ → ℕ
scaled len weight = len * 65536 / weight

-- The start tag on arrival: at an empty queue the greater of the flow's last finish tag and virtual time, and behind
-- a waiting packet that packet's finish tag, which is the flow's last.
abbrev pub start_tag_on_arrival : Bool → ℕ → ℕ → ℕ
start_tag_on_arrival was_empty last_finish_tag virtual_time = cond was_empty (max last_finish_tag virtual_time) last_finish_tag

-- The first packet of each backlog, in order of flow numbers. There are `flows` of them.
abbrev pub heads : {X : Type 0} → ℕ → (ℕ → List X) → List X
heads zero backlog = []
heads (suc flow) backlog = heads flow backlog ++ take 1 (backlog flow)

-- How many packets the backlogs hold.
abbrev pub total : {X : Type 0} → ℕ → (ℕ → List X) → ℕ
total zero backlog = 0
total (suc flow) backlog = total flow backlog + length (backlog flow)

-- The least start tag of the heads, at most `most`.
abbrev pub least_start_tag : ℕ → List Stamped → ℕ
least_start_tag most [] = most
least_start_tag most (h ∷ hs) = min h.start_tag (least_start_tag most hs)

-- Just before a pick virtual time is raised to the least start tag of the heads, where that is greater.
abbrev pub raised : ℕ → List Stamped → ℕ
raised virtual_time [] = virtual_time
raised virtual_time (h ∷ hs) = max virtual_time (least_start_tag h.start_tag hs)

-- Whether a packet goes before another: by finish tag, and then by flow number (the tie is this project's own rule).
abbrev pub goes_before : Stamped → Stamped → Bool
goes_before a b = nat_lt a.finish_tag b.finish_tag || nat_eq a.finish_tag b.finish_tag && nat_lt a.flow b.flow

-- The one of two packets that goes before the other.
abbrev pub earlier : Stamped → Option Stamped → Option Stamped
earlier a None = Some a
earlier a (Some b) = Some (cond (goes_before b a) b a)

-- The one of the packets that goes before all others.
abbrev pub first_to_go : List Stamped → Option Stamped
first_to_go [] = None
first_to_go (h ∷ hs) = earlier h (first_to_go hs)

-- A packet is eligible where its start tag is at most virtual time.
abbrev pub is_eligible : ℕ → Stamped → Bool
is_eligible virtual_time h = nat_le h.start_tag virtual_time

-- The pick: among the heads that are eligible at the raised virtual time, the one that goes before the others.
abbrev pub pick : ℕ → List Stamped → Option Stamped
pick virtual_time hs = first_to_go (filter (is_eligible (raised virtual_time hs)) hs)

-- The sum of the heads' weights.
abbrev pub weight_sum : List Stamped → ℕ
weight_sum [] = 0
weight_sum (h ∷ hs) = h.weight + weight_sum hs

-- Virtual time after a packet of so many bytes was picked among the heads: raised, and then grown by the length over
-- the sum of weights (the growth is this project's own rule).
abbrev pub grown : ℕ → List Stamped → ℕ → ℕ
grown virtual_time hs len = raised virtual_time hs + scaled len (weight_sum hs)
