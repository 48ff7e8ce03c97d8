-- The words of the libraries and of specs/ that the proofs of this crate use.
pub use Rattle.core.proofs.slice.Lists.{any-default, swap_is}
pub use Rattle.core.specs.Cmp.{IsTotalOrder, back_total}
pub use Rattle.core.specs.Ordering.{is_lt}
pub use Rattle.core.specs.Slice.Heapsort.{IsHeapWithin}
pub use Rattle.dn_heap.specs.Heap.{IsLeast}
pub use Rattle.dn_heap.specs.Placed.{ArePlaced, ArePlacedBut, ArePlacedFor, IsMoved, IsOrdered, back}
pub use Rattle.dn_heap.specs.Run.{IsAscending, Leads}
pub use Rattle.std.proofs.Common.{All, Bool, Contains, IfSome, IsPermutation, List, None, Option, Ordering, Some, [], ap, append-nil, arith, cond, drop, drop_of_length-le, false, get_or}
pub use Rattle.std.proofs.Common.{get_or-set_other, get_or-set_same, inl, inr, length, length-set, map, refl, rules, set, subst, suc, swap, sym, take, take_all, true, vec_len, zero, ℕ, ◌*◌, ◌++◌}
pub use Rattle.std.proofs.Common.{◌+◌, ◌-◌, ◌/◌, ◌<◌, ◌∙◌, ◌∷◌, ◌≡◌, ◌≢◌, ◌≤◌}
pub use Rattle.std.proofs.lemmas.Bool.{cases_Bool, or_parts}
pub use Rattle.std.proofs.lemmas.Fn.{filter_same, says_at}
pub use Rattle.std.proofs.lemmas.List.{append_assoc, set-get_or}
pub use Rattle.std.proofs.lemmas.List.Elements.{All-append, All-cons, All-contains, All-from_recursion, All-get_or, All-head, All-map, All-nil, All-push, All-tail, All-weaker}
pub use Rattle.std.proofs.lemmas.List.Elements.{Contains-append_left, Contains-append_right, filter-append}
pub use Rattle.std.proofs.lemmas.List.Sorted.{All-permutation, IsPermutation-append, IsPermutation-cons, IsPermutation-map, IsPermutation-middle, IsPermutation-push_more, IsPermutation-refl}
pub use Rattle.std.proofs.lemmas.List.Sorted.{IsPermutation-swap, IsPermutation-swap_remove, IsPermutation-sym, IsPermutation-to_front, IsPermutation-trans, length_permutation, ranks_by}
pub use Rattle.std.proofs.lemmas.Option.{IfSome_then}
pub use Rattle.std.specs.BinaryHeap.{IsUpperBound}
pub use Rattle.std.specs.Cmp.{IsStrictWeakOrder}
pub use Rattle.std.specs.List.{items_where_true, list_any}
pub use Rattle.std.specs.List.Retain.{IsFiltered, ReturnsInTurn}
pub use Rattle.std.specs.Option.{option_to_list}
pub use Rattle.std.specs.Ordering.{is_eq, is_ge}
pub use Rattle.std.specs.Prelude.{filter}
pub use Rattle.std.specs.declared.cmp.Ordering.TheVariants.{Equal, Greater, Less}
pub use Rattle.std.specs.declared.cmp.Reverse.{Reverse}
pub use Rattle.std_alloc.proofs.HeapSift.{empty, greatest, ranks}
pub use Rattle.std_alloc.proofs.Permutation.{as_core, as_swapped, swap_places, which}
pub use Rattle.std_alloc.specs.BinaryHeap.{lt_by_cmp}
unfoldable pub use Rattle.std_alloc.specs.BinaryHeap.{IsHeap}
pub use Rattle.std_alloc.specs.BinaryHeap.Sift.{IsHeapWithHole}
unfoldable pub use Rattle.std_alloc.specs.BinaryHeap.Sift.{IsGreaterChild, SiftsUp}
