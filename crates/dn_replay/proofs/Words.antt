-- The words of libraries and of specs/ that the proofs of this crate use.
pub use Rattle.csv.specs.Writing.{default_writer}
unfoldable pub use Rattle.csv.specs.Writing.{fields_text, is_blank}
pub use Rattle.dn_config.specs.Faults.{position_of}
pub use Rattle.dn_config.specs.Line.{answer}
pub use Rattle.dn_config.specs.Tokens.Joined.{after_end, after_mark, joined_parts}
unfoldable pub use Rattle.dn_config.specs.Tokens.Joined.{parts_from}
pub use Rattle.dn_config.specs.Tokens.Lines.{is_line_feed, without_empty_end}
unfoldable pub use Rattle.dn_config.specs.Tokens.Lines.{lines_of}
pub use Rattle.dn_config.specs.Tokens.Words.{is_nonempty}
pub use Rattle.dn_config.specs.declared.fault.LineFault.{LineFault}
pub use Rattle.dn_files.proofs.Causes.{unwritten-cases}
pub use Rattle.dn_files.proofs.Inputs.{carried, passed_on, refused_for, short}
pub use Rattle.dn_files.specs.ConfigFile.{config_limit, fault_at, said_at}
unfoldable pub use Rattle.dn_files.specs.ConfigFile.{command_at}
pub use Rattle.dn_files.specs.PacketFile.{is_header, packet_file, packet_limit, row_at, row_of, rows_of}
unfoldable pub use Rattle.dn_files.specs.PacketFile.{rows_below, rows_from}
pub use Rattle.dn_files.specs.Reading.{IsFaultOf, IsRefusal, IsRefusedFor, IsTextOf, ReadsAs, within_limit, ◌>>=◌}
pub use Rattle.dn_files.specs.Writing.{IsUnwritten}
pub use Rattle.dn_files.specs.declared.replay_fault.ReplayFault.{ReplayFault}
pub use Rattle.dn_files.specs.declared.replay_fault.ReplayFault.TheVariants.{BadCount, BadRow, ConfigText, OutOfMemory, Read, TooLong, Write}
pub use Rattle.dn_files.specs.declared.row.Row.{Row}
pub use Rattle.dn_files.specs.declared.source.Source.{Source}
pub use Rattle.dn_files.specs.declared.source.Source.TheVariants.{Config, Input, Packets, Report}
pub use Rattle.dn_history.proofs.HistoryReading.{numbered}
pub use Rattle.dn_records.proofs.Lines.{decimal_is_plain, on_err}
pub use Rattle.dn_records.proofs.TextSteps.{text-append, text-more, text-none}
pub use Rattle.dn_records.specs.Devices.{AppendsPart}
pub use Rattle.dn_records.specs.Records.{Fields, line_of, records_of}
unfoldable pub use Rattle.dn_records.specs.Records.{text_of}
pub use Rattle.dn_replay.specs.CallerReplays.{IsCount, IsHistoryOfCallers, IsReplayOfCallers, IsUnansweredByCallers, IsUnopened}
pub use Rattle.dn_replay.specs.Callers.{AllSubmitted, AreCallersOf, HasSubmitted, calls_by, calls_given, rows_at, rows_of_caller}
pub use Rattle.dn_replay.specs.Configuring.{applied, configured_by, refusal, unless}
unfoldable pub use Rattle.dn_replay.specs.Configuring.{configured_from}
pub use Rattle.dn_replay.specs.Feeding.{Submits}
pub use Rattle.dn_replay.specs.Held.{HasAnswered, HasMadeLast, HasNoted, HoldsNothing, IsUnheld, has_entries}
pub use Rattle.dn_replay.specs.InParts.{CanGoOn, Coming, HasCome, IsAskedBehind, IsLimit, calls_asked, source_of}
pub use Rattle.dn_replay.specs.Kept.{AreKnown, AreMarksOf, CanReport, HasKept, IsKeptOf, accepted_line, accepted_row, all_untargeted, are_untargeted, delivery_line, fate_line, fate_of}
pub use Rattle.dn_replay.specs.Kept.{is_accepted, is_row, is_untargeted, kept_lines, lacks_target, no_refusal, no_row, other_text, refusal_in, refusal_line, refused_row}
unfoldable pub use Rattle.dn_replay.specs.Kept.{fate_lines, rows_kept}
pub use Rattle.dn_replay.specs.OneCaller.{AnswersByOne, ReplaysByOne}
pub use Rattle.dn_replay.specs.OnePass.{AreFew, HasFed, HasTaken, IsAnswered, IsConfigSoFar, IsCutAt, IsFresh, IsLine, NoneFailed, behind, calls_with, is_mark}
pub use Rattle.dn_replay.specs.Parts.{IsUnderWay}
pub use Rattle.dn_replay.specs.Passing.{CanPass, Collects, HasPassed, IsPast, PassesBy, StandsPast, passing_limit, with_given, without_passing}
pub use Rattle.dn_replay.specs.Replays.{AskFor, AskForWithin, AsksForWithin, EitherFailed, InputFailed, IsAccepted, IsReplayed, IsUnread, IsUnreplayed, IsUnreported, TextFailed, calls_of_inputs}
pub use Rattle.dn_replay.specs.Replays.{calls_of_parts, config_calls, failed_read, read_of}
unfoldable pub use Rattle.dn_replay.specs.Replays.{calls_of_joined_within, calls_within}
pub use Rattle.dn_replay.specs.Report.{delivered, delivery_of_packet, due_of, entry_line, is_other, is_out, is_submit, line_fields, outs_in_order, packet_of, queued_line, reply_line}
pub use Rattle.dn_replay.specs.Report.{report_header, row_number, submit_lines, submits_by}
unfoldable pub use Rattle.dn_replay.specs.Report.{deliveries, lines_after, report, sorted_by, with_placed}
pub use Rattle.dn_replay.specs.Rows.{submit}
unfoldable pub use Rattle.dn_replay.specs.Rows.{submitted}
pub use Rattle.dn_replay.specs.Runs.{HasMade, entry_after, replayed}
unfoldable pub use Rattle.dn_replay.specs.Runs.{history_of}
pub use Rattle.dn_replay.specs.Tables.{counts_after}
pub use Rattle.dn_replay.specs.declared.config.config_part.ConfigPart.{ConfigPart}
pub use Rattle.dn_replay.specs.declared.config.run.Run.{Run}
pub use Rattle.dn_replay.specs.declared.replays.held.Held.TheVariants.{Entries, Given}
pub use Rattle.dn_replay.specs.declared.replays.pass.Pass.{Pass}
pub use Rattle.dn_replay.specs.declared.replays.stage.Stage.{Stage}
pub use Rattle.dn_replay.specs.declared.report.fate.Fate.{Fate}
pub use Rattle.dn_replay.specs.declared.report.fate.Fate.TheVariants.{Refused}
pub use Rattle.dn_replay.specs.declared.report.kept.Kept.{Kept}
pub use Rattle.dn_replay.specs.declared.report.kept_rows.AcceptedRow.{AcceptedRow}
pub use Rattle.dn_replay.specs.declared.report.kept_rows.RefusedRow.{RefusedRow}
pub use Rattle.dn_replay.specs.declared.report.line.ReportLine.{ReportLine}
pub use Rattle.dn_replay.specs.declared.report.line.ReportLine.TheVariants.{Out}
pub use Rattle.dn_replay.specs.declared.report.line_text.TheConstants.{LINE}
pub use Rattle.dn_replay.specs.declared.report.refusal.Refusal.{Refusal}
pub use Rattle.dn_replay.specs.declared.report.refusal.Refusal.TheVariants.{Unanswered}
pub use Rattle.dn_service.specs.Callers.{Answered, CallerView, IsAccountedFor, IsCloseFault, IsOf, IsSameCaller, ServiceView, has_number, new_callers}
pub use Rattle.dn_service.specs.Histories.{entry_of}
pub use Rattle.dn_service.specs.declared.close_fault.CloseFault.{CloseFault}
pub use Rattle.dn_service.specs.declared.close_fault.CloseFault.TheVariants.{Absent}
pub use Rattle.dn_shaper.specs.Shaper.{StandsAfter}
pub use Rattle.dn_shaper.specs.declared.state.State.{State}
pub use Rattle.dn_types.proofs.Bridge.{counted_reply-standing, settled-traffic, standing_of_counted-cons, traffic-cons}
pub use Rattle.dn_types.proofs.CallCounts.{settled-count}
pub use Rattle.dn_types.proofs.Conserving.{busy-link}
pub use Rattle.dn_types.proofs.Dues.{gives-once, gives-what-is-due}
pub use Rattle.dn_types.proofs.Giving.{count-event}
pub use Rattle.dn_types.proofs.Histories.{calls_of-more, lawful-more}
pub use Rattle.dn_types.proofs.InTurn.{gives-in-order}
pub use Rattle.dn_types.proofs.Ordered.{trace-proper}
pub use Rattle.dn_types.proofs.PacketCounts.{undelivered-below}
pub use Rattle.dn_types.proofs.Settled.{first_start-of}
pub use Rattle.dn_types.proofs.Settling.{next_packet-first, next_start-packet}
pub use Rattle.dn_types.proofs.Step.{accept_in, after_event, after_verdict_in, counted_step, counted_step_reply, first_start_in, join_in, next_start_in, opening_in, settle_in, settle_most_in}
pub use Rattle.dn_types.proofs.Step.{verdict_in, verdict_reply_in, waiting_all_in, waiting_in}
pub use Rattle.dn_types.proofs.StepFacts.{opened-count}
pub use Rattle.dn_types.specs.Calls.{Verdict, accept, after_command, after_verdict, discard_reached, join, loses, no_target, reaches, refuses, takes, trace_of, verdict}
pub use Rattle.dn_types.specs.Clock.{call_limit, effective_moment}
pub use Rattle.dn_types.specs.Configuration.{Settings, command_reply, has_queues, queue_numbers, reply_to_command, settings}
pub use Rattle.dn_types.specs.Deliveries.{AreInOrder, delivery_of, in_order, is_given_before}
pub use Rattle.dn_types.specs.Flows.{Treatment, keys, treatment}
pub use Rattle.dn_types.specs.Given.{is_packet}
pub use Rattle.dn_types.specs.History.{IsLawful, calls_of, own_entries}
pub use Rattle.dn_types.specs.Links.{free}
pub use Rattle.dn_types.specs.Replies.{counted_reply, reply, reply_to_verdict}
pub use Rattle.dn_types.specs.SharedLinks.{next_packet, opening, waiting}
pub use Rattle.dn_types.specs.Standing.{Standing, Traffic, standing_of_counted, traffic}
pub use Rattle.dn_types.specs.Starts.{first_start, next_start, settle, settled, sooner, start_at, waiting_all}
pub use Rattle.dn_types.specs.Trace.{Event, Link, Start, accepted_count, arrived, backlog, collected, discarded, is_arrival, is_loss_of, is_of, is_refusal_of, is_start_of, link_eq, links, lost}
pub use Rattle.dn_types.specs.Trace.{opened, own, refused, shared, started}
pub use Rattle.dn_types.specs.declared.call.Call.{Call}
pub use Rattle.dn_types.specs.declared.call.Call.TheVariants.{Collect, Configure, Submit}
pub use Rattle.dn_types.specs.declared.command.Command.{Command}
pub use Rattle.dn_types.specs.declared.command.Command.TheVariants.{DeletePipe, DeleteQueue, Pipe, Queue}
pub use Rattle.dn_types.specs.declared.delivery.Delivery.{Delivery}
pub use Rattle.dn_types.specs.declared.entry.Entry.{Entry}
pub use Rattle.dn_types.specs.declared.flow_key.FlowKey.{FlowKey}
pub use Rattle.dn_types.specs.declared.packet.Packet.{Packet}
pub use Rattle.dn_types.specs.declared.reply.Reply.{Reply}
pub use Rattle.dn_types.specs.declared.reply.Reply.TheVariants.{Configured, Deleted, Exhausted, NoSuchPipe, NoSuchQueue, PipeHasQueues, Queued}
pub use Rattle.dn_types.specs.declared.rule.Rule.TheVariants.{Ordered}
pub use Rattle.dn_types.specs.declared.target.Target.{Target}
pub use Rattle.std.proofs.Common.{All, Bool, Err, List, None, Ok, Option, Result, Some, [], add-one, ap, append-nil, append_assoc, arith, cond, decimal, drop, drop-cons, eq-eqb, eqb, false}
pub use Rattle.std.proofs.Common.{get_or, inl, inr, length, length-append, length-set, map, max, nat_cmp, nat_eq, nat_le, ne_eqb, refl, replicate, rules, set, subst, suc, sym, take}
pub use Rattle.std.proofs.Common.{take-append-drop, take_all, true, true≢false, zero, ℕ, ◌%◌, ◌&&◌, ◌*◌, ◌++◌, ◌+◌, ◌-◌, ◌<◌, ◌==◌, ◌^◌, ◌∙◌, ◌∷◌, ◌≡◌, ◌≢◌, ◌≤◌, ◌⊎◌}
pub use Rattle.std.proofs.KnownBytes.{Appends-nil, Appends-trans, Keeps-refl}
pub use Rattle.std.proofs.Math.ListN.{get_or-eq_default}
pub use Rattle.std.proofs.lemmas.Bool.{cases_Bool, eqb-true, false≢true}
pub use Rattle.std.proofs.lemmas.Bool.Decides.{nat_tests}
pub use Rattle.std.proofs.lemmas.Fmt.{length-decimal-le}
pub use Rattle.std.proofs.lemmas.Fn.{always_returns_same}
pub use Rattle.std.proofs.lemmas.List.{drop_all, drop_more, get_or-replicate, get_or-set_other, get_or-set_same, get_or_past, length-map, length-replicate, length-take-le, length_push, map-append}
pub use Rattle.std.proofs.lemmas.List.{take_more, take_rest}
pub use Rattle.std.proofs.lemmas.List.Elements.{All-append, All-cons, All-filter, All-head, All-nil, All-push, All-tail, filter-append}
pub use Rattle.std.proofs.lemmas.List.Folds.{find-append, list_any-append}
pub use Rattle.std.proofs.lemmas.List.Sorted.{IsNonDecreasingBy-from_sort_by_key}
pub use Rattle.std.proofs.lemmas.List.Splits.{length-slice_split}
pub use Rattle.std.proofs.lemmas.List.Sums.{count_by-le-length, count_by_more_no, count_by_more_yes, sum_by-cons}
pub use Rattle.std.proofs.lemmas.Option.{MatchOption-at_some, slice_get_within}
pub use Rattle.std.proofs.lemmas.Result.{IfErr-weaker, IfOk-weaker, err_from_is_err_and, on_ok_weaker}
pub use Rattle.std.proofs.lemmas.Slice.Eq.{bytes_eq-Decides}
pub use Rattle.std.specs.Borrow.{Bor}
pub use Rattle.std.specs.Cmp.{ranks}
pub use Rattle.std.specs.Fn.{Called, ComputesKey}
pub use Rattle.std.specs.Io.KnownBytes.{Appends}
pub use Rattle.std.specs.List.{count_by, list_any, slice_split}
pub use Rattle.std.specs.List.Sorted.{IsNonDecreasingBy, IsSortedByKey, IsStableByKey}
pub use Rattle.std.specs.Option.{is_some, option_or}
pub use Rattle.std.specs.Ordering.{MatchOrdering, is_lt, ordering_then}
pub use Rattle.std.specs.Prelude.{IfErr, IfOk, bytes_eq, codes, filter, if◌then◌else◌, is_none, nat_lt, not, option_map, option_to_list, unwrap_or, ⊤, ◌||◌}
pub use Rattle.std.specs.Str.{is_utf8}
pub use Rattle.std.specs.Vec.{vec_capacity}
pub use Rattle.std.specs.declared.cmp.Ordering.{Ordering}
pub use Rattle.std.specs.declared.cmp.Ordering.TheVariants.{Equal, Greater, Less}
