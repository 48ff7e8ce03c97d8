-- The words of libraries and of specs/ that the proofs of this crate use.
pub use Rattle.dn_flows.proofs.Places.{eq-no, eq-yes, get-below, get-below-map, get-kept, get-last, get-map, get-more, get-read, get-set, get-set-other, length-more, map-set-but, map-set-same}
pub use Rattle.dn_flows.proofs.Places.{sum-le, sum-more, sum-set, viewed}
pub use Rattle.dn_flows.proofs.Reservations.{places-before, places-same, places-set, places-take, places-used, reserved-below}
pub use Rattle.dn_flows.proofs.Views.{backlog_after_pop, flow_after_set, popped_backlog}
pub use Rattle.dn_flows.specs.Table.{FlowState, Table, emptied, flow_at, flows_with, is_known, lengths, new_flow, one_full, one_lost, places, popped, popped_from, pushed, status_of, verdict_of}
pub use Rattle.dn_flows.specs.Table.{with_home, with_place}
pub use Rattle.dn_flows.specs.declared.home.Home.{Home}
pub use Rattle.dn_flows.specs.declared.verdict.Verdict.TheVariants.{Take}
pub use Rattle.dn_flows.specs.declared.waiting.Waiting.{Waiting}
pub use Rattle.dn_heap.specs.Heap.{Heap, IsLeast}
pub use Rattle.dn_link.proofs.Collected.{IsInOrder, IsInOrder-undelivered, due-none, due_at, not_due-none, not_due_at}
pub use Rattle.dn_link.specs.Line.{Line}
pub use Rattle.dn_link.specs.LinkState.{LinkState}
pub use Rattle.dn_shaper.specs.Refinement.Agreement.{Agrees, AgreesWith, AreDistinct, AreSlotsAtHome, GivesRates, HasSentNothing, IsAt, IsFlowAt, IsHomeOf, IsLinkAt, IsScheduleAt, IsSlotAt}
pub use Rattle.dn_shaper.specs.Refinement.Agreement.{is_active, link_names}
pub use Rattle.dn_shaper.specs.Refinement.Arriving.{Accepts, ArrivesAt, ArrivesInSchedule, ArrivesOn, CanAccept, CanJoin, HasOneMore, Joins, JoinsQueue, KeepsFlows, begun_flows, begun_time}
pub use Rattle.dn_shaper.specs.Refinement.Arriving.{is_idle}
pub use Rattle.dn_shaper.specs.Refinement.Calls.{Does, StillStands, counted_at, told_from}
pub use Rattle.dn_shaper.specs.Refinement.Configuring.{DiscardsReached, IsAnswered, Lists, Puts}
pub use Rattle.dn_shaper.specs.Refinement.Discarding.{DiscardsAt, DiscardsFlow, DiscardsOn, HoldsCount, LeavesLink, LosesCount}
pub use Rattle.dn_shaper.specs.Refinement.Emptied.{HasKept, IsFirstCounting, IsTidy, KeepsCounting, counted_heap, counting, is_left, is_moment}
pub use Rattle.dn_shaper.specs.Refinement.Homing.{GivesHome, Houses, IsNewLink, KeepsHeap, NotesFor, OnlyReserves, Opens, Shares, place_for, shared_only, without_last}
pub use Rattle.dn_shaper.specs.Refinement.Making.{HasSlotRoom, KeepsAt, KeepsCalls, KeepsLink, KeepsPlaces, OnlyMakesRoom, OnlyRoom, Prepares, SameFlow}
pub use Rattle.dn_shaper.specs.Refinement.NextStarts.{Holds, backlogged, keys_at, next_at, next_start_cmp, one_at, one_backlogged}
pub use Rattle.dn_shaper.specs.Refinement.Passing.{CanPass, HasFlowAt, IsIdleAt, PassesLink}
pub use Rattle.dn_shaper.specs.Refinement.QueueCounts.{CountsQueues, count_at, named_pipe, one_for, queues_of}
unfoldable pub use Rattle.dn_shaper.specs.Refinement.QueueCounts.{count_below}
pub use Rattle.dn_shaper.specs.Refinement.Reordering.{DiscardsSome, NoneActive, ReadsSame, active_flows}
pub use Rattle.dn_shaper.specs.Refinement.Sending.{CanPick, HasQueues, HoldsQueues, PicksFlow, cost_of, stamped_cost_of}
pub use Rattle.dn_shaper.specs.Refinement.Settings.{InForce, Sets, at_number, settings_of, unboxed}
pub use Rattle.dn_shaper.specs.Refinement.Settling.{AreInStep, HasNoStart, OnlyStarts, SettlesAll, StartsFirst}
pub use Rattle.dn_shaper.specs.Refinement.Slots.{Ascends, top}
pub use Rattle.dn_shaper.specs.Refinement.Sound.{IsIndexed, IsSound}
pub use Rattle.dn_shaper.specs.Refinement.Starting.{AreCountsWithin, CanStart, HasFront, HoldsPlaces, IsReady, KeepsOthersReady, KeepsReady, KeepsSchedule, StartsAt, StartsOn, Within}
pub use Rattle.dn_shaper.specs.Refinement.Submitting.{Answers, CanSee, GoesTo, IsMade, MayAccept, Sees, treatment_of, verdict_on}
pub use Rattle.dn_shaper.specs.Refinement.Views.{CanSend, IsAlone, IsNextToSend, LinkView, TakesNext, as_queued, carried_link, carried_slots, carried_waits, home, home_by, homes_of, next_start_of}
pub use Rattle.dn_shaper.specs.Refinement.Views.{next_starts, no_schedule, queue_lengths, slotted, stamped_of, view_of, views_of, waits_in_all}
pub use Rattle.dn_shaper.specs.Room.{HasRoomOf, IsNewBy, IsNewFlow, IsOther, KeepsOthersRoom, LeavesRoom}
pub use Rattle.dn_shaper.specs.Shaper.{CanNeedMemory, StandsAfter, held, items_in}
pub use Rattle.dn_shaper.specs.Standing.{StandsAt}
pub use Rattle.dn_shaper.specs.Waking.{earliest, next_free, wake_of}
pub use Rattle.dn_shaper.specs.declared.links.link_parts.Carries.{Carries}
pub use Rattle.dn_shaper.specs.declared.links.link_parts.Carries.TheVariants.{Own, Shared}
pub use Rattle.dn_shaper.specs.declared.links.link_parts.LinkParts.{LinkParts}
pub use Rattle.dn_shaper.specs.declared.links.next_start.NextStart.{NextStart}
pub use Rattle.dn_shaper.specs.declared.links.parts.Parts.{Parts}
pub use Rattle.dn_shaper.specs.declared.links.shared_link.SharedLink.{SharedLink}
pub use Rattle.dn_shaper.specs.declared.state.State.{State}
pub use Rattle.dn_types.proofs.Conserving.{busy-link}
pub use Rattle.dn_types.proofs.Firsts.{heads-same, pick-first}
pub use Rattle.dn_types.proofs.Keys.{key_eq-true}
pub use Rattle.dn_types.proofs.Picks.{heads-none, pick-some}
pub use Rattle.dn_types.proofs.Settled.{and-left, backlog-elsewhere, backlog-unknown, free-elsewhere, last_due-elsewhere, link_eq-refl, link_eq-true, none-unknown, settled-ends, true_or_false}
pub use Rattle.dn_types.proofs.Settled.{virtual_time-elsewhere, waiting_all-first}
pub use Rattle.dn_types.proofs.Settling.{IsOwn, and-no, and-right, backlog-above, backlog-own, is_of-start, next_packet-first, waiting-start}
pub use Rattle.dn_types.proofs.StepFacts.{clear-none}
pub use Rattle.dn_types.specs.Calls.{Verdict, accept, after_command, after_verdict, discard_reached, join, link_of, loses, no_target, reaches, refuses, takes, trace_of, verdict, verdict_by}
pub use Rattle.dn_types.specs.Clock.{call_limit, counted, effective_moment}
pub use Rattle.dn_types.specs.Configuration.{Settings, command_reply, has_queues, is_queue_of, queue_numbers, reply_to_command, setting_after, settings, subject, target_eq}
pub use Rattle.dn_types.specs.Deliveries.{delivery_of, given, in_order, is_given_before, undelivered}
pub use Rattle.dn_types.specs.Drops.{is_full, is_lost}
pub use Rattle.dn_types.specs.Flows.{Treatment, flow_number, key_eq, key_of, keys, keys_with, mask_eq, treatment, tuple_eq, with_key}
pub use Rattle.dn_types.specs.Links.{arrival_time, due_by, free, last_due, transmission_time}
pub use Rattle.dn_types.specs.Replies.{counted_reply, replies, reply, reply_to_verdict, statuses_from}
pub use Rattle.dn_types.specs.SharedLinks.{last_finish_tag, link_heads, next_packet, opening, virtual_time, waiting}
pub use Rattle.dn_types.specs.Starts.{first_start, next_start, settle, settled, sooner, start_at, waiting_all}
pub use Rattle.dn_types.specs.Trace.{Accepted, Event, Link, Start, accepted_count, arrived, backlog, collected, discarded, discarded_count, flow_bound, is_arrival, is_loss_of, is_of}
pub use Rattle.dn_types.specs.Trace.{is_refusal_of, is_start_of, link_eq, links, lost, opened, own, pipe_of, refused, shared, started, with_link}
pub use Rattle.dn_types.specs.Wf2q.{Stamped, first_to_go, goes_before, grown, heads, is_eligible, least_start_tag, pick, raised, scaled, start_tag_on_arrival, total, weight_sum}
pub use Rattle.dn_types.specs.declared.call.Call.{Call}
pub use Rattle.dn_types.specs.declared.call.Call.TheVariants.{Advance, Collect, Configure, Show, Submit}
pub use Rattle.dn_types.specs.declared.command.Command.{Command}
pub use Rattle.dn_types.specs.declared.command.Command.TheVariants.{DeletePipe, DeleteQueue, Pipe, Queue}
pub use Rattle.dn_types.specs.declared.delivery.Delivery.{Delivery}
pub use Rattle.dn_types.specs.declared.five_tuple.FiveTuple.{FiveTuple}
pub use Rattle.dn_types.specs.declared.flow_key.FlowKey.{FlowKey}
pub use Rattle.dn_types.specs.declared.flow_status.FlowStatus.{FlowStatus}
pub use Rattle.dn_types.specs.declared.limit.Limit.TheVariants.{Slots}
pub use Rattle.dn_types.specs.declared.packet.Packet.{Packet}
pub use Rattle.dn_types.specs.declared.reply.Reply.{Reply}
pub use Rattle.dn_types.specs.declared.reply.Reply.TheVariants.{Advanced, Configured, Deleted, Delivered, Exhausted, NoSuchPipe, NoSuchQueue, NoTarget, PipeHasQueues, Queued, Status}
pub use Rattle.dn_types.specs.declared.rule.Rule.{Rule}
pub use Rattle.dn_types.specs.declared.rule.Rule.TheVariants.{Ordered}
pub use Rattle.dn_types.specs.declared.target.Target.{Target}
pub use Rattle.dn_wf2q.proofs.Begun.{forgotten_at}
pub use Rattle.dn_wf2q.proofs.Reserved.{on_err_always}
pub use Rattle.dn_wf2q.proofs.Sending.{backlog_first, keeps_room_first, picks_first, sends_first}
pub use Rattle.dn_wf2q.specs.Schedule.{Flow, IsIdle, Passes, Picks, Schedule, heads_of, next_of, room_at}
pub use Rattle.std.proofs.Common.{All, Bool, Box, Contains, Global, IfSome, IsPermutation, List, [], ap, append_assoc, arith, cond, drop, false, filter, get_or, get_or-set_other, get_or-set_same}
pub use Rattle.std.proofs.Common.{inl, inr, length, length-set, map, max, min, nat_eq, not, refl, reverse, set, slice_index_or, slice_set, subst, suc, sum, sum_by, sym, take, true, true≢false}
pub use Rattle.std.proofs.Common.{zero, ℕ, ⊎_elim, ◌&&◌, ◌*◌, ◌++◌, ◌+◌, ◌-◌, ◌<◌, ◌^◌, ◌||◌, ◌∙◌, ◌∷◌, ◌≡◌, ◌≤◌, ◌⊎◌}
pub use Rattle.std.proofs.Math.Seq.{take-append_seam}
pub use Rattle.std.proofs.lemmas.Bool.{and_from, and_parts, and_right, cases_Bool, cases_eq, cases_lt, cases_order, eqb-true, le-leb, le-ltb, lt-leb, lt-ltb, ltb-true, or_from, or_parts, or_right}
pub use Rattle.std.proofs.lemmas.Bool.Decides.{nat_tests}
pub use Rattle.std.proofs.lemmas.Grind.{common_steps}
pub use Rattle.std.proofs.lemmas.List.{append-nil, drop-map, get_or-take, get_or_past, length-append, length-drop, length-map, length-take-le, map-append, reverse-append, set-set, set_past}
pub use Rattle.std.proofs.lemmas.List.{take-map, take_more}
pub use Rattle.std.proofs.lemmas.List.Elements.{All-cons, All-contains, All-filter, All-head, All-nil, All-tail, All-weaker, filter_agree, filter_passes}
pub use Rattle.std.proofs.lemmas.List.Folds.{list_any-append}
pub use Rattle.std.proofs.lemmas.List.Sorted.{All-permutation, Contains-permutation, IsPermutation-cons, IsPermutation-filter_both, IsPermutation-middle, IsPermutation-refl, IsPermutation-sym}
pub use Rattle.std.proofs.lemmas.List.Sorted.{IsPermutation-trans, length_permutation, sum_by-IsPermutation, sum_by_popped, sum_by_pushed}
pub use Rattle.std.proofs.lemmas.List.Sums.{count_by-le-length, length-filter, sum_by-cons}
pub use Rattle.std.proofs.lemmas.Result.{IfOk-weaker}
pub use Rattle.std.specs.Box.{with_value}
pub use Rattle.std.specs.List.{count_by, list_any, position_or_len}
pub use Rattle.std.specs.Option.{option_map}
pub use Rattle.std.specs.Ordering.{is_lt, nat_cmp, ordering_then}
pub use Rattle.std.specs.Prelude.{Err, IfOk, IsOk, IsSome, None, Ok, OnErr, OnOk, Option, Result, Some, is_err, is_some, nat_le, nat_lt, option_and_then, slice_get}
pub use Rattle.std.specs.Vec.{vec_capacity, vec_len, with_item}
