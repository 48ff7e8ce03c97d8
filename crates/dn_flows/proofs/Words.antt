-- The words of libraries and of specs/ that the proofs of this crate use.
pub use Rattle.dn_flows.specs.Members.{AreListed, HasDistinctKeys, IsListed, IsMember, KeepQueues, KeepsMembers, KeepsOthers, KeepsQueue, LetsGo, is_listed, last_of, list_at, list_of}
pub use Rattle.dn_flows.specs.Packets.{AreFree, ContainsKey, Packets, StoredPacket, get, with_next}
pub use Rattle.dn_flows.specs.Store.{Appends, AreShort, AreStored, HasReserved, IsChain, IsCounted, IsQueue, Lies, OnlyOwnLeft, Shortens, TakesFront, all_with_unsent, key_after, new_queue}
pub use Rattle.dn_flows.specs.Store.{reservations, reserved_one, state_of, stored_at, stored_or, waiting_from, with_unsent, without_list}
pub use Rattle.dn_flows.specs.Table.{FlowState, OnlyUnreserves, Table, emptied, flow_at, is_at, is_known, lengths, new_flow, one_full, one_lost, place_of, places, popped, popped_from, pushed}
pub use Rattle.dn_flows.specs.Table.{status_of, verdict_of, with_home, with_place}
pub use Rattle.dn_flows.specs.declared.flow_queue.FlowQueue.{FlowQueue}
pub use Rattle.dn_flows.specs.declared.members.Members.{Members}
pub use Rattle.dn_flows.specs.declared.unsent.Unsent.{Unsent}
pub use Rattle.dn_flows.specs.declared.waiting.Waiting.{Waiting}
pub use Rattle.dn_types.proofs.InForce.{target_eq-true}
pub use Rattle.dn_types.proofs.Keys.{key_eq-true, target_eq-refl}
pub use Rattle.dn_types.specs.Configuration.{target_eq}
pub use Rattle.dn_types.specs.Flows.{flow_number, key_eq, with_key}
pub use Rattle.dn_types.specs.declared.flow_key.FlowKey.{FlowKey}
pub use Rattle.dn_types.specs.declared.target.Target.{Target}
pub use Rattle.std.proofs.Common.{Bool, Err, List, None, Ok, OnErr, OnOk, Option, Result, Some, [], ap, arith, cond, drop, false, get_or, get_or-set_other, get_or-set_same, inl, inr, length}
pub use Rattle.std.proofs.Common.{length-set, length-take, map, nat_eq, refl, rules, set, slice_index_or, slice_set, subst, suc, sum, sym, take, true, vec_capacity, vec_len, zero, ℕ, ◌*◌, ◌++◌}
pub use Rattle.std.proofs.Common.{◌+◌, ◌-◌, ◌<◌, ◌^◌, ◌||◌, ◌∙◌, ◌∷◌, ◌≡◌, ◌≢◌, ◌≤◌, ◌⊎◌}
pub use Rattle.std.proofs.lemmas.Bool.{cases_eq, eqb-true, or_parts}
pub use Rattle.std.proofs.lemmas.Bool.Decides.{nat_tests}
pub use Rattle.std.proofs.lemmas.Grind.{common_steps}
pub use Rattle.std.proofs.lemmas.List.{get_or-map, get_or_past, length-map, length-take-le, map-set}
pub use Rattle.std.proofs.lemmas.List.Folds.{list_any-append}
pub use Rattle.std.proofs.lemmas.List.Sorted.{IsPermutation-push_more, IsPermutation-refl, IsPermutation-sym, list_any-IsPermutation}
pub use Rattle.std.proofs.lemmas.List.Sums.{sum_by-cons}
pub use Rattle.std.proofs.lemmas.Map.Keys.{IsDistinct-IsPermutation, IsDistinct-cons, IsDistinct-head, IsDistinct-tail}
pub use Rattle.std.proofs.lemmas.Map.Steps.{length-le_from_distinct_below}
pub use Rattle.std.proofs.lemmas.Option.{same_Some}
pub use Rattle.std.specs.List.{AllByRecursion, list_any, sum_by}
unfoldable pub use Rattle.std.specs.List.{IsDistinct}
pub use Rattle.std.specs.Option.{option_map, option_map_or}
pub use Rattle.std.specs.Prelude.{IfNone, IfSome, IsPermutation, IsSome, OnSome, is_some, nat_lt, not, slice_get, vec_items}
