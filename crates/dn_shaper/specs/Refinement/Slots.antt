-- Slots: a shared link numbers its flows in order of first sight on it. A list gives the flow number of each slot.
use Rattle.std.specs.Prelude.{ℕ, ◌+◌, ◌≤◌, List, [], ◌∷◌}

-- The flow numbers of slots ascend, from `low` on.
abbrev pub Ascends : ℕ → List ℕ → Type 0
Ascends low [] = Unit {0}
Ascends low (f ∷ fs) = (low ≤ f) × Ascends (f + 1) fs

-- The least number above all flow numbers, and `low` where there is none.
abbrev pub top : ℕ → List ℕ → ℕ
top low [] = low
top low (f ∷ fs) = top (f + 1) fs
