-- What a shared link's scheduler is told as its pick leaves: a slot holds the lengths and weights that its flow's queue holds.
use Rattle.std.specs.Prelude.{◌≡◌, ℕ, List, Some, map, slice_get}
use Rattle.dn_types.specs.Trace.{Link, own, shared}
use Rattle.dn_types.specs.Wf2q.{Stamped, pick}
use Rattle.dn_flows.specs.Table.{FlowState, flow_at}
use Rattle.dn_flows.specs.declared.waiting.Waiting.{Waiting}
use Rattle.dn_wf2q.specs.Schedule.{Picks, Schedule, flow_at as slot_at, heads_of}
use Rattle.dn_shaper.specs.Refinement.Views.{LinkView}

-- A schedule picks a slot, which a flow has.
abbrev pub CanPick : List ℕ → Schedule → Type 0
CanPick slots s = (h : Stamped) × (flow : ℕ) × (pick s.virtual_time (heads_of s.flows) ≡ Some h) × (slice_get slots h.flow ≡ Some flow)

-- The packet that a schedule picks leaves, and this flow has its slot.
abbrev pub PicksFlow : ℕ → List ℕ → Schedule → Schedule → Type 0
PicksFlow flow slots old new = (h : Stamped) × (pick old.virtual_time (heads_of old.flows) ≡ Some h) × (slice_get slots h.flow ≡ Some flow) × Picks h old new

-- The length and the weight of a packet, in its flow's queue and in a schedule.
abbrev pub cost_of : Waiting → ℕ × ℕ
cost_of w = (w.len, w.weight)

abbrev pub stamped_cost_of : Stamped → ℕ × ℕ
stamped_cost_of p = (p.len, p.weight)

-- Each slot of a schedule holds packets like those of its flow's queue.
abbrev pub HoldsQueues : List ℕ → Schedule → List FlowState → Type 0
HoldsQueues slots s flows = (slot flow : ℕ) → slice_get slots slot ≡ Some flow → map stamped_cost_of (slot_at s.flows slot).backlog ≡ map cost_of (flow_at flows flow).backlog

-- So does that of a shared link.
abbrev pub HasQueues : LinkView → List FlowState → Link → Type 0
HasQueues v flows (own pipe f) = Unit {0}
HasQueues v flows (shared pipe) = HoldsQueues v.slots v.schedule flows
