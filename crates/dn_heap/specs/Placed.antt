-- A heap that knows where its keys are: each key has a number, and the place of a key stands under its number.
use Rattle.std.specs.Prelude.{◌≡◌, ℕ, ◌<◌, List, length, slice_index_or, slice_set, IsPermutation}
use Rattle.std.specs.declared.cmp.Ordering.{Ordering}

-- The order turned round.
abbrev pub back : {K : Type 0} → (K → K → Ordering) → K → K → Ordering
back cmp x y = cmp y x

-- The place of each key stands under its number. So no two keys have one number.
abbrev pub ArePlacedFor : {K : Type 0} → (K → ℕ) → List K → List ℕ → K → Type 0
ArePlacedFor number keys places d = (k : ℕ) → k < length keys → (number (slice_index_or keys k d) < length places) × (slice_index_or places (number (slice_index_or keys k d)) 0 ≡ k)

abbrev pub ArePlaced : {K : Type 0} → (K → ℕ) → List K → List ℕ → Type 0
ArePlaced {K} number keys places = (d : K) → ArePlacedFor number keys places d

-- So it is once the place of the key at `at` is written.
abbrev pub ArePlacedBut : {K : Type 0} → (K → ℕ) → List K → List ℕ → ℕ → Type 0
ArePlacedBut {K} number keys places at = (d : K) → ArePlacedFor number keys (slice_set places (number (slice_index_or keys at d)) at) d

-- Keys were moved, and the place of each is written, except for that of the key at `at`.
pub record IsMoved {K : Type 0} (number : K → ℕ) (old new : List K) (from to : List ℕ) (at : ℕ) : Type 0 where
  pub within : at < length new
  pub len : length new ≡ length old
  pub numbers : length to ≡ length from
  pub permutation : IsPermutation old new
  pub placed : ArePlacedBut number new to at

-- Keys were moved, and the place of each is written.
pub record IsOrdered {K : Type 0} (number : K → ℕ) (old new : List K) (from to : List ℕ) : Type 0 where
  pub len : length new ≡ length old
  pub numbers : length to ≡ length from
  pub permutation : IsPermutation old new
  pub placed : ArePlaced number new to
