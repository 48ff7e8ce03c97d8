-- The run of a heap as a list of keys in ascending order.
use Rattle.std.specs.Prelude.{List, [], ◌∷◌}
use Rattle.std.specs.declared.cmp.Ordering.{Ordering}
use Rattle.dn_heap.specs.Heap.{IsLeast}

-- No key is less than one that stands before it.
abbrev pub IsAscending : {K : Type 0} → (K → K → Ordering) → List K → Type 0
IsAscending cmp [] = Unit {0}
IsAscending cmp (key ∷ keys) = IsLeast cmp key keys × IsAscending cmp keys

-- What is a least key of these is one of the others too.
abbrev pub Leads : {K : Type 0} → (K → K → Ordering) → List K → List K → Type 0
Leads {K} cmp keys others = (key : K) → IsLeast cmp key keys → IsLeast cmp key others
