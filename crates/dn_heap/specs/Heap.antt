-- A heap as callers see it: its keys in no promised order, and two counts.
use Rattle.std.specs.Prelude.{◌≡◌, ℕ, false, List, All}
use Rattle.std.specs.declared.cmp.Ordering.{Ordering}
use Rattle.std.specs.Ordering.{is_lt}

-- The keys, how many pushes have room reserved, and how many pushes there have been.
pub record Heap (K : Type 0) : Type 0 where
  pub keys : List K
  pub room : ℕ
  pub moves : ℕ

-- No key is less than this one.
abbrev pub IsLeast : {K : Type 0} → (K → K → Ordering) → K → List K → Type 0
IsLeast cmp least keys = All (λ key. is_lt (cmp key least) ≡ false) keys
