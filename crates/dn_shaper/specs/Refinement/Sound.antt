-- What a shaper keeps between calls.
use Rattle.std.specs.Prelude.{◌≡◌, ℕ, ◌+◌, ◌*◌, ◌≤◌, ◌^◌, false, List, Some, None, slice_get}
use Rattle.std.specs.List.{list_any}
use Rattle.dn_types.specs.Trace.{Link, shared, link_eq}
use Rattle.dn_shaper.specs.declared.state.State.{State}
use Rattle.dn_shaper.specs.Refinement.Agreement.{link_names}
use Rattle.dn_shaper.specs.Refinement.Settling.{AreInStep}
use Rattle.dn_shaper.specs.Refinement.Starting.{Within}
use Rattle.dn_shaper.specs.Refinement.Views.{views_of}
use Rattle.dn_shaper.specs.Refinement.Settings.{at_number}

-- The place of each shared link of the list is noted, and no other.
pub record IsIndexed (s : State) (names : List Link) : Type 0 where
  pub found : (pipe place : ℕ) → at_number s.shared pipe ≡ Some place → slice_get names place ≡ Some (shared pipe)
  pub missing : (pipe : ℕ) → at_number s.shared pipe ≡ None → list_any (link_eq (shared pipe)) names ≡ false

-- No count is above the count of calls, and the clock is below its limit.
pub record IsSound (s : State) : Type 0 where
  pub kept : AreInStep s.parts s.heap
  pub within : Within s.calls s.parts
  pub moves : s.heap.moves + s.parts.waiting ≤ 2 * s.calls
  pub early : s.now ≤ 2 ^ 62
  pub indexed : IsIndexed s (link_names (views_of s.parts))
