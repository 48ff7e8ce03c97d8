-- What it is for a packet to start at once on an idle link: it arrives, and then its link starts one.
use Rattle.std.specs.Prelude.{◌≡◌, ℕ, true, List, Some, slice_get}
use Rattle.dn_types.specs.Trace.{Link, own, shared}
use Rattle.dn_flows.specs.declared.home.Home.{Home}
use Rattle.dn_shaper.specs.declared.links.link_parts.LinkParts.{LinkParts}
use Rattle.dn_shaper.specs.declared.links.parts.Parts.{Parts}
use Rattle.dn_shaper.specs.Refinement.Arriving.{ArrivesAt, CanJoin, HasOneMore, Joins, is_idle}
use Rattle.dn_shaper.specs.Refinement.Starting.{KeepsSchedule, StartsAt}
use Rattle.dn_shaper.specs.Refinement.Views.{LinkView, TakesNext, queue_lengths, view_of}

-- The link at the place is idle at the moment.
pub record IsIdleAt (at place : ℕ) (p : Parts) : Type 0 where
  pub link : LinkParts
  pub there : slice_get p.links.items place ≡ Some link
  pub idle : is_idle at (view_of (queue_lengths p.flows.flows) link) ≡ true

-- The link is the flow's own, or the flow has the slot there.
abbrev pub HasFlowAt : ℕ → ℕ → List ℕ → Link → Type 0
HasFlowAt flow slot slots (own pipe f) = flow ≡ f
HasFlowAt flow slot slots (shared pipe) = slice_get slots slot ≡ Some flow

-- No packet waits for the link, and its scheduler can take one at the slot.
abbrev pub CanPass : ℕ → LinkView → Type 0
CanPass slot v = (v.waits ≡ 0) × CanJoin slot v v.link

-- The link stood as `mid` once a packet had joined those that wait for it, and then it took the packet's flow as its next.
pub record PassesLink (slot len weight : ℕ) (old new : LinkParts) : Type 0 where
  pub mid : LinkParts
  pub joins : (before after : ℕ → ℕ) → HasOneMore before after (view_of after old).link → Joins slot len weight true (view_of before old) (view_of after mid)
  pub takes : (flow : ℕ) (before after : ℕ → ℕ) → HasFlowAt flow slot (view_of before old).slots (view_of before old).link → TakesNext flow (view_of before mid) (view_of after new)
  pub keeps : (before after : ℕ → ℕ) → KeepsSchedule (view_of before mid) (view_of after new)

-- The parts stood as `mid` once the packet had arrived, and then its link started.
pub record Passes (at : ℕ) (h : Home) (flow len weight bandwidth delay : ℕ) (old new : Parts) : Type 0 where
  pub mid : Parts
  pub arrives : ArrivesAt at h flow len weight true old mid
  pub starts : StartsAt h.place at bandwidth delay mid new
