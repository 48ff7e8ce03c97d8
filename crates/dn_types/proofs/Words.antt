-- The words of libraries and of specs/ that the proofs of this crate use.
pub use Rattle.dn_types.specs.Bounds.{HasBoundedBytes, HasBoundedMoments, IsCommandInRange, IsInRange, IsLimitInRange}
pub use Rattle.dn_types.specs.Calls.{Verdict, accept, after_command, after_verdict, discard_reached, join, link_of, loses, no_target, reaches, refuses, takes, trace_of, verdict, verdict_by}
pub use Rattle.dn_types.specs.Clock.{call_limit, counted, effective_moment, moment_of}
pub use Rattle.dn_types.specs.Configuration.{Settings, command_reply, has_queues, is_queue_of, queue_numbers, reply_to_command, setting_after, settings, subject, target_eq}
pub use Rattle.dn_types.specs.Deliveries.{AreInOrder, delivery_of, given, in_order, is_given_before, undelivered}
pub use Rattle.dn_types.specs.Drops.{is_full, is_lost}
pub use Rattle.dn_types.specs.Flows.{Treatment, flow_number, key_eq, key_of, keys, keys_with, mask_eq, treatment, tuple_eq, with_key}
pub use Rattle.dn_types.specs.Given.{accepted_since, given_count, is_packet, is_start_with, start_count, started_since}
pub use Rattle.dn_types.specs.History.{IsLawful, IsLawfulAfter, calls_of, own_entries}
pub use Rattle.dn_types.specs.Links.{arrival_time, due_by, free, last_due, transmission_time}
pub use Rattle.dn_types.specs.Replies.{counted_reply, replies, reply, reply_to_verdict, status_of, statuses_from}
pub use Rattle.dn_types.specs.SharedLinks.{link_heads, next_packet, opening, virtual_time, waiting}
pub use Rattle.dn_types.specs.Standing.{Standing, Traffic, standing, standing_of_counted, traffic}
pub use Rattle.dn_types.specs.Starts.{bandwidth_of, delay_of, first_start, next_start, settle, settled, sooner, start_at, waiting_all}
pub use Rattle.dn_types.specs.Trace.{Accepted, Event, Link, Start, accepted_count, arrived, backlog, collected, discarded, discarded_count, flow_bound, is_arrival, is_loss_of, is_of}
pub use Rattle.dn_types.specs.Trace.{is_refusal_of, is_start_of, link_eq, links, lost, opened, own, pipe_of, refused, shared, started, with_link}
pub use Rattle.dn_types.specs.Wf2q.{Stamped, earlier, first_to_go, goes_before, grown, heads, least_start_tag, pick, raised, scaled, start_tag_on_arrival, total}
pub use Rattle.dn_types.specs.declared.call.Call.{Call}
pub use Rattle.dn_types.specs.declared.call.Call.TheVariants.{Advance, Collect, Configure, Show, Submit}
pub use Rattle.dn_types.specs.declared.command.Command.{Command}
pub use Rattle.dn_types.specs.declared.command.Command.TheVariants.{DeletePipe, DeleteQueue, Pipe, Queue}
pub use Rattle.dn_types.specs.declared.delivery.Delivery.{Delivery}
pub use Rattle.dn_types.specs.declared.entry.Entry.{Entry}
pub use Rattle.dn_types.specs.declared.five_tuple.FiveTuple.{FiveTuple}
pub use Rattle.dn_types.specs.declared.flow_key.FlowKey.{FlowKey}
pub use Rattle.dn_types.specs.declared.flow_status.FlowStatus.{FlowStatus}
pub use Rattle.dn_types.specs.declared.limit.Limit.{Limit}
pub use Rattle.dn_types.specs.declared.limit.Limit.TheVariants.{Kbytes, Slots}
pub use Rattle.dn_types.specs.declared.mask.Mask.{Mask}
pub use Rattle.dn_types.specs.declared.packet.Packet.{Packet}
pub use Rattle.dn_types.specs.declared.reply.Reply.{Reply}
pub use Rattle.dn_types.specs.declared.reply.Reply.TheVariants.{Advanced, Configured, Deleted, Delivered, Exhausted, Full, Lost, NoSuchPipe, NoSuchQueue, NoTarget, PipeHasQueues, Queued, Status}
pub use Rattle.dn_types.specs.declared.rule.Rule.{Rule}
pub use Rattle.dn_types.specs.declared.rule.Rule.TheVariants.{Free, Ordered}
pub use Rattle.dn_types.specs.declared.target.Target.{Target}
pub use Rattle.std.proofs.Common.{Bool, List, [], ap, append-nil, append_assoc, arith, cond, drop, false, get_or, inl, inr, length, length-append, length-drop, map, max, refl, subst, suc, sym}
pub use Rattle.std.proofs.Common.{take, true, zero, ℕ, ⊎_elim, ◌&&◌, ◌*◌, ◌++◌, ◌+◌, ◌-◌, ◌<◌, ◌^◌, ◌||◌, ◌∙◌, ◌∷◌, ◌≡◌, ◌≢◌, ◌≤◌, ◌⊎◌}
pub use Rattle.std.proofs.Math.Nat.{div-lt_iff_lt-mul, le-mul_of_pos_right, lt-div-mul-add, suc-mul}
pub use Rattle.std.proofs.lemmas.Bool.{and_from, and_parts, and_right, eq-eqb, eqb-true, le-leb, leb-true, lt-leb, ltb-true, or_parts, or_right}
pub use Rattle.std.proofs.lemmas.Bool.Decides.{eqb_tells, leb_tells, nat_tests}
pub use Rattle.std.proofs.lemmas.List.{length-map, map-append, reverse-append, take-map}
pub use Rattle.std.proofs.lemmas.List.Elements.{All-append, All-cons, All-drop, All-filter, All-nil, All-push, filter-append, filter_passes}
pub use Rattle.std.proofs.lemmas.List.Folds.{list_any-append}
pub use Rattle.std.proofs.lemmas.List.Recursion.{is_position_or_len}
pub use Rattle.std.proofs.lemmas.List.Sums.{sum-map, sum_by-append, sum_by-cons, sum_by-le, sum_by-take-drop, sum_by_push}
pub use Rattle.std.proofs.lemmas.Option.{slice_get_within}
pub use Rattle.std.specs.Cmp.{ranks}
pub use Rattle.std.specs.List.{All, count_by, filter, list_any, sum_by}
pub use Rattle.std.specs.Ordering.{MatchOrdering, is_lt, nat_cmp, ordering_then}
pub use Rattle.std.specs.Prelude.{None, Option, Some, is_some, nat_eq, nat_le, nat_lt, option_and_then, option_map, reverse, slice_get, sum, ⊤, ◌/◌}
pub use Rattle.std.specs.declared.cmp.Ordering.{Ordering}
pub use Rattle.std.specs.declared.cmp.Ordering.TheVariants.{Equal, Greater, Less}
