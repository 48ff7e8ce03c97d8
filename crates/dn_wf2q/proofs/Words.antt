-- The words of libraries and of specs/ that the proofs of this crate use.
pub use Rattle.dn_heap.specs.Heap.{Heap, IsLeast}
pub use Rattle.dn_types.specs.Wf2q.{Stamped, first_to_go, goes_before, grown, heads, is_eligible, least_start_tag, pick, raised, scaled, start_tag_on_arrival, total, weight_sum}
pub use Rattle.dn_wf2q.specs.Kept.{AreTagsWithin, HeadIs, IsEligible, IsKeptBut, IsKeptWithout, IsSchedKept, IsWaiting, IsWithin, Kept, NoneDue, behind, bound, by_slot, flows_of, head_weight}
pub use Rattle.dn_wf2q.specs.Kept.{none_absent, only_absent, presence, rank_at, ranks_at, schedule_of, seen, tagged}
pub use Rattle.dn_wf2q.specs.Queue.{IsChained, IsFirst, IsPayable, IsQueueKept, arriving, changed, finishing, first_packet, last_behind, last_finish_tag_in, last_tag, next_behind, packets_of}
pub use Rattle.dn_wf2q.specs.Queue.{stamped_behind, stamped_from, starting}
pub use Rattle.dn_wf2q.specs.Rank.{RankView, rank_cmp}
pub use Rattle.dn_wf2q.specs.Schedule.{Flow, IsIdle, IsNext, KeepsRoom, Passes, Picks, Schedule, SendsFirst, after_arrival, after_discard, after_pick, flow_at, forgotten, heads_of, joined_by}
pub use Rattle.dn_wf2q.specs.Schedule.{next_of, no_packets, one_each, padded, room_at, stamped, waiting_of, without_head, without_tag}
pub use Rattle.dn_wf2q.specs.Steps.{ArrivesAtSlot, DiscardsSlot, IsBlank, IsExtended, OnlyHeaps, PassesSlot, SendsHead}
pub use Rattle.dn_wf2q.specs.Stored.{AreStored, IsMore, IsStored, Queue, spare, untagged_of}
pub use Rattle.dn_wf2q.specs.contracts.behind.Behind.{the_row}
pub use Rattle.dn_wf2q.specs.declared.queued_packet.QueuedPacket.{QueuedPacket}
pub use Rattle.dn_wf2q.specs.declared.sched_parts.SchedParts.{SchedParts}
pub use Rattle.dn_wf2q.specs.declared.tagged_packet.TaggedPacket.{TaggedPacket}
pub use Rattle.dn_wf2q.specs.declared.tagged_queue.TaggedQueue.{TaggedQueue}
pub use Rattle.std.proofs.Common.{All, Bool, Contains, Err, IfNone, IfSome, IsPermutation, List, None, Ok, OnErr, OnOk, Option, Result, Some, [], ap, arith, cond, drop, false, get_or, inl, inr}
pub use Rattle.std.proofs.Common.{is_some, leb-true, length, map, max, min, nat_lt, option_to_list, refl, replicate, set, slice_get, slice_index_or, subst, suc, sum_by, sym, take, true, vec_len}
pub use Rattle.std.proofs.Common.{zero, ℕ, ◌%◌, ◌*◌, ◌++◌, ◌+◌, ◌-◌, ◌/◌, ◌<◌, ◌==◌, ◌^◌, ◌↔◌, ◌∙◌, ◌∷◌, ◌≡◌, ◌≤◌}
pub use Rattle.std.proofs.Math.Nat.{div-le_self}
pub use Rattle.std.proofs.lemmas.Bool.{cases_Bool, cases_eq, cases_lt, cases_order}
pub use Rattle.std.proofs.lemmas.Bool.Decides.{nat_tests}
pub use Rattle.std.proofs.lemmas.List.{append-nil, append_assoc, drop-map, get_or-map, get_or-set_other, get_or-set_same, get_or_past, get_or_read, length-append, length-map, length-replicate}
pub use Rattle.std.proofs.lemmas.List.{length-set, length_push, map-append, map_push, set-get_or, set-set, set_past}
pub use Rattle.std.proofs.lemmas.List.Elements.{All-append, All-cons, All-contains, All-filter, All-head, All-nil, All-push, All-replicate, All-set, All-tail, All-weaker, Contains-get_or}
pub use Rattle.std.proofs.lemmas.List.Elements.{filter_passes}
pub use Rattle.std.proofs.lemmas.List.Folds.{sum_by-replicate}
pub use Rattle.std.proofs.lemmas.List.Sorted.{All-permutation, length_permutation, sum_by_popped, sum_by_pushed}
pub use Rattle.std.proofs.lemmas.List.Sums.{get_or-le-sum_by, sum_by-append, sum_by-cons, sum_by-le, sum_by-set}
pub use Rattle.std.proofs.raw_atomic.Walks.{leaves, proved_at}
pub use Rattle.std.specs.List.{filter}
pub use Rattle.std.specs.Option.{option_map}
pub use Rattle.std.specs.Ordering.{is_lt, nat_cmp, ordering_then}
pub use Rattle.std.specs.Vec.{vec_capacity, with_item}
pub use Rattle.std.specs.VecDeque.{deque_capacity, deque_items, deque_len}
