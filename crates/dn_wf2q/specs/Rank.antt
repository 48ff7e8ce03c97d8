-- What a heap's key stands for: a tag of a flow's head, and the flow's slot.
use Rattle.std.specs.Prelude.{ℕ, Bool, ◌&&◌, nat_eq}
use Rattle.std.specs.declared.cmp.Ordering.{Ordering}
use Rattle.std.specs.Ordering.{nat_cmp, ordering_then}

pub record RankView : Type 0 where
  pub tag : ℕ
  pub slot : ℕ

-- By tag, and then by slot.
abbrev pub rank_cmp : RankView → RankView → Ordering
rank_cmp x y = ordering_then (nat_cmp x.tag y.tag) (nat_cmp x.slot y.slot)

abbrev pub rank_eq : RankView → RankView → Bool
rank_eq x y = nat_eq x.tag y.tag && nat_eq x.slot y.slot
