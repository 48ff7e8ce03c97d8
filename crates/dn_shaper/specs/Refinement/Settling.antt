-- What the settling loop does, one start at a time.
use Rattle.std.specs.Prelude.{◌≡◌, ℕ, ◌+◌, ◌≤◌, ◌^◌, List, ◌∷◌, length, Some, None}
use Rattle.dn_heap.specs.Heap.{Heap}
use Rattle.dn_types.specs.Configuration.{Settings}
use Rattle.dn_types.specs.Starts.{first_start, settled}
use Rattle.dn_types.specs.Trace.{Link, Event, started, Start, links}
use Rattle.dn_shaper.specs.declared.links.next_start.NextStart.{NextStart}
use Rattle.dn_shaper.specs.declared.links.parts.Parts.{Parts}
use Rattle.dn_shaper.specs.Refinement.Views.{homes_of, views_of, next_starts}
use Rattle.dn_shaper.specs.Refinement.Agreement.{AgreesWith, Agrees, link_names}
use Rattle.dn_shaper.specs.Refinement.NextStarts.{Holds}
use Rattle.dn_shaper.specs.Refinement.Starting.{Within, IsReady}

-- The parts with the heap of the links that have a backlog: each of them stands in it once, with the moment from which it is
-- free, and the heap has a place for each link.
pub record AreInStep (p : Parts) (heap : Heap NextStart) : Type 0 where
  pub agrees : Agrees p
  pub within : Within (2 ^ 62) p
  pub held : Holds (next_starts (views_of p)) heap.keys
  pub places : length (views_of p) ≤ length heap.keys + heap.room

-- What starts leave as it is. Each takes one packet from those that wait, and one more is under way.
pub record OnlyStarts (old : Parts) (heap : Heap NextStart) (new : Parts) (heap' : Heap NextStart) : Type 0 where
  pub rule : new.rule ≡ old.rule
  pub accepted : new.accepted ≡ old.accepted
  pub keys : new.flows.keys ≡ old.flows.keys
  pub homes : homes_of new.flows.flows ≡ homes_of old.flows.flows
  pub names : link_names (views_of new) ≡ link_names (views_of old)
  pub moves : heap'.moves + new.waiting ≤ heap.moves + old.waiting
  pub places : length heap'.keys + heap'.room ≡ length heap.keys + heap.room
  pub under_way : length new.line.pending + new.waiting ≡ length old.line.pending + old.waiting
  pub within : (n : ℕ) → Within n old → Within n new
  pub ready : (flow : ℕ) → IsReady flow old → IsReady flow new

-- Whatever trace the parts agree with, one more start was made, the first that is due on any link.
abbrev pub StartsFirst : Settings → ℕ → Parts → Parts → Type 0
StartsFirst settings at old new =
    (more : List Link) (trace : List Event) → AgreesWith old more trace →
    (s : Start) × (first_start settings at (links trace) trace ≡ Some s) × AgreesWith new more (started s ∷ trace)

-- No start is due.
abbrev pub HasNoStart : Settings → ℕ → Parts → Type 0
HasNoStart settings at p = (more : List Link) (trace : List Event) → AgreesWith p more trace → first_start settings at (links trace) trace ≡ None

-- Whatever trace the parts agreed with, they agree with it settled up to the moment.
abbrev pub SettlesAll : Settings → ℕ → Parts → Parts → Type 0
SettlesAll settings at old new = (more : List Link) (trace : List Event) → AgreesWith old more trace → AgreesWith new more (settled settings at trace)
