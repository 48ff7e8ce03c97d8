-- The delay line as callers see it: the packets under way, in the order in which they are given.
use Rattle.std.specs.Prelude.{ℕ, cond, nat_le, List, [], ◌∷◌, Option, None, Some}
use Rattle.dn_types.specs.Deliveries.{in_order}
use Rattle.dn_types.specs.declared.delivery.Delivery.{Delivery}

-- The packets in order, for how many more there is room, and how many were pushed.
pub record Line : Type 0 where
  pub pending : List Delivery
  pub room : ℕ
  pub pushed : ℕ

-- The packets of a list, each put into its place.
abbrev pub all_in_order : List Delivery → List Delivery
all_in_order [] = []
all_in_order (d ∷ ds) = in_order d (all_in_order ds)

-- The first packet, where it is due at the moment.
abbrev pub due_first : ℕ → List Delivery → Option Delivery
due_first at [] = None
due_first at (d ∷ ds) = cond (nat_le d.due at) (Some d) None

-- The packets without the first, where that is due at the moment.
abbrev pub after_due : ℕ → List Delivery → List Delivery
after_due at [] = []
after_due at (d ∷ ds) = cond (nat_le d.due at) ds (d ∷ ds)
