-- The heap of links with the keys that emptied links left there: each by a moment at its link's place.
use Rattle.std.specs.Prelude.{◌≡◌, ℕ, ◌+◌, ◌≤◌, Bool, false, not, List, length, filter, Option, Some, None, nat_eq, IsPermutation}
use Rattle.dn_heap.specs.Heap.{Heap, IsLeast}
use Rattle.dn_shaper.specs.declared.links.next_start.NextStart.{NextStart}
use Rattle.dn_shaper.specs.Refinement.NextStarts.{next_start_cmp, next_at, backlogged, Holds}

-- Whether this is the moment, where there is one.
abbrev pub is_moment : Option ℕ → ℕ → Bool
is_moment None m = false
is_moment (Some n) m = nat_eq n m

-- Whether an emptied link left the key.
abbrev pub is_left : List (Option ℕ) → NextStart → Bool
is_left emptied k = is_moment (next_at emptied k.place) k.moment

-- The keys that count: those that no link left.
abbrev pub counting : List (Option ℕ) → List NextStart → List NextStart
counting emptied keys = filter (λ k. not (is_left emptied k)) keys

-- The heap that callers see. A key that was left takes no room there.
abbrev pub counted_heap : Heap NextStart → List (Option ℕ) → Heap NextStart
counted_heap heap emptied = record { keys = counting emptied heap.keys; room = heap.room + backlogged emptied; moves = heap.moves }

-- No least key was left.
abbrev pub IsFirstCounting : List NextStart → List (Option ℕ) → Type 0
IsFirstCounting keys emptied = (k : NextStart) → IsLeast next_start_cmp k keys → is_left emptied k ≡ false

-- Each key that was left is in the heap once, and each key has a place.
pub record HasKept (heap : Heap NextStart) (emptied : List (Option ℕ)) : Type 0 where
  pub left : Holds emptied (filter (is_left emptied) heap.keys)
  pub places : length heap.keys + heap.room ≤ length emptied

-- So it is between calls, and a least key counts.
pub record IsTidy (heap : Heap NextStart) (emptied : List (Option ℕ)) : Type 0 where
  pub kept : HasKept heap emptied
  pub first : IsFirstCounting heap.keys emptied

-- The same keys count, and callers see as much room.
pub record KeepsCounting (heap : Heap NextStart) (emptied : List (Option ℕ)) (heap' : Heap NextStart) (emptied' : List (Option ℕ)) : Type 0 where
  pub keys : IsPermutation (counting emptied heap.keys) (counting emptied' heap'.keys)
  pub room : heap'.room + backlogged emptied' ≡ heap.room + backlogged emptied
  pub moves : heap'.moves ≡ heap.moves
  pub places : length emptied' ≡ length emptied
