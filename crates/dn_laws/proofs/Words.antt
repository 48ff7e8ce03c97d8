-- The words of libraries and of specs/ that the proofs of this crate use.
unfoldable pub use Rattle.csv.proofs.OnLiterals.{csv_on_literals}
unfoldable pub use Rattle.csv.specs.Reading.{strip_bom}
unfoldable pub use Rattle.csv.specs.Records.{field_at}
unfoldable pub use Rattle.csv.specs.Writing.{escaped, fields_text, is_blank}
pub use Rattle.dn_config.proofs.Capping.{ok_within, within_ok}
pub use Rattle.dn_config.proofs.Config.{config_err, config_ok}
pub use Rattle.dn_config.proofs.MaskSteps.{fields_end, fields_nil, fields_out, fields_step, mask_begins, mask_nil, mask_stops}
pub use Rattle.dn_config.proofs.NumbersBack.{ascii_digits, number_back, ranged_back}
pub use Rattle.dn_config.proofs.OptionSteps.{option_bad, option_foreign, option_left, option_mask_err, option_mask_ok, option_missing, option_unknown, option_valued, options_nil, options_step}
pub use Rattle.dn_config.proofs.UntilBack.{number_digits}
pub use Rattle.dn_config.proofs.UntilParts.{is_address_byte}
pub use Rattle.dn_config.proofs.ValuesBack.{digits_front, digits_of}
pub use Rattle.dn_config.specs.Groups.{belongs, field_goes_on, field_then, fields_at, group_len, group_settings, groups_after, last_field, mask_at, mask_len_after, option_at, parameter_at}
pub use Rattle.dn_config.specs.Groups.{value_of}
unfoldable pub use Rattle.dn_config.specs.Groups.{groups, mask_len, setting_of}
pub use Rattle.dn_config.specs.Keywords.{at_word, is_among, is_query, options}
unfoldable pub use Rattle.dn_config.specs.Keywords.{field_of, is_left_out_word, option_of}
pub use Rattle.dn_config.specs.Line.{behind_ipfw, behind_kind, command_from, command_of, command_with, config_at, delete_at, deletes, queue_with, verb_at, whole_at}
unfoldable pub use Rattle.dn_config.specs.Line.{answer}
pub use Rattle.dn_config.specs.Masks.{all_bits, greatest_of, set_field}
pub use Rattle.dn_config.specs.Reading.{read_fields, read_mask}
unfoldable pub use Rattle.dn_config.specs.Reading.{read_named, read_options}
pub use Rattle.dn_config.specs.Settings.{defaults, filled, set_option}
pub use Rattle.dn_config.specs.Tokens.Addresses.{address_of}
pub use Rattle.dn_config.specs.Tokens.Numbers.{all_digits, number_within, unit}
unfoldable pub use Rattle.dn_config.specs.Tokens.Numbers.{number_of, numeral_of, within}
pub use Rattle.dn_config.specs.Tokens.Words.{is_nonempty, is_separator}
unfoldable pub use Rattle.dn_config.specs.Tokens.Words.{words_of}
pub use Rattle.dn_config.specs.Values.{behind_point, kept, limited, lower, pipe_or_queue_at, placed, rate_parts_of, rated}
unfoldable pub use Rattle.dn_config.specs.Values.{bandwidth_at, bits_at, bits_of, delay_at, limit_at, loss_at, rate_of}
pub use Rattle.dn_config.specs.Words.{is_hash}
unfoldable pub use Rattle.dn_config.specs.Words.{words}
pub use Rattle.dn_config.specs.declared.fault.LineFault.{LineFault}
pub use Rattle.dn_config.specs.declared.fault.LineFault.TheVariants.{LeftOut, MissingValue, NeedsPipe, OutOfRange, UnknownWord}
pub use Rattle.dn_config.specs.declared.kind.Kind.{Kind}
pub use Rattle.dn_config.specs.declared.mask_field.MaskField.{MaskField}
pub use Rattle.dn_config.specs.declared.mask_field.MaskWord.{MaskWord}
pub use Rattle.dn_config.specs.declared.option_group.OptionWord.{OptionWord}
pub use Rattle.dn_config.specs.declared.option_group.Parameter.{Parameter}
pub use Rattle.dn_config.specs.declared.option_group.Setting.{Setting}
pub use Rattle.dn_config.specs.declared.options.Options.{Options}
pub use Rattle.dn_config.specs.declared.tokens.number_fault.NumberFault.{NumberFault}
pub use Rattle.dn_config.specs.declared.tokens.number_fault.NumberFault.TheVariants.{Range, Shape}
pub use Rattle.dn_files.proofs.PlainFields.{AllPlain, IsPlain}
pub use Rattle.dn_files.proofs.PlainLines.{line-is, plain-field, plain_end}
pub use Rattle.dn_files.proofs.PlainRows.{address-plain, digit-plain}
pub use Rattle.dn_files.specs.ConfigFile.{config_file}
unfoldable pub use Rattle.dn_files.specs.Fields.{packet_at, target_at, tuple_at}
pub use Rattle.dn_files.specs.PacketFile.{packet_file, rows_of}
unfoldable pub use Rattle.dn_files.specs.PacketFile.{is_header, row_of, rows_below, rows_from}
pub use Rattle.dn_files.specs.PacketParts.{header, with_front}
pub use Rattle.dn_files.specs.declared.replay_fault.ReplayFault.{ReplayFault}
pub use Rattle.dn_files.specs.declared.replay_fault.ReplayFault.TheVariants.{BadRow, TooLong}
pub use Rattle.dn_files.specs.declared.row.Row.{Row}
pub use Rattle.dn_files.specs.declared.source.Source.TheVariants.{Config}
pub use Rattle.dn_history.proofs.EntriesBack.{IsPiece, Piece, piece_entries, piece_records, read_as}
pub use Rattle.dn_history.proofs.FieldsBack.{address_back}
pub use Rattle.dn_history.proofs.HistoryBack.{records-back}
pub use Rattle.dn_history.proofs.VersionLines.{version_record}
pub use Rattle.dn_history.specs.EntryRecords.{call_fields, item_records, reply_fields, status_record, target_name, target_number}
pub use Rattle.dn_history.specs.HistoryFile.{history_file, history_in}
pub use Rattle.dn_history.specs.HistoryRecords.{has_deletes, rule_of}
pub use Rattle.dn_history.specs.HistoryText.{end_record, entry_records, history_header}
unfoldable pub use Rattle.dn_history.specs.HistoryText.{history_text}
pub use Rattle.dn_history.specs.Ranges.{AreEntries, IsEntry}
pub use Rattle.dn_history.specs.declared.history_version.HistoryVersion.{HistoryVersion}
pub use Rattle.dn_history.specs.declared.history_version.HistoryVersion.TheVariants.{Live, Second, Third}
pub use Rattle.dn_laws.specs.ConfiguredLaws.{CommandsCount, DropsAreExplained, KeepsTheRate, NoneUnconfigured, QueuesHavePipes, StartsApart, StartsAsConfigured}
pub use Rattle.dn_laws.specs.Determined.Emulators.{Emulator, Has, IsNotOf}
pub use Rattle.dn_laws.specs.Determined.Laws.{ObeysTheLaws}
pub use Rattle.dn_laws.specs.Determined.Links.{is_reached, with_starts}
pub use Rattle.dn_laws.specs.Determined.Reports.{IsGiven}
pub use Rattle.dn_laws.specs.Divided.{PartsAreAlone, PartsHappenAlone, own_reply_by, own_reply_on}
pub use Rattle.dn_laws.specs.Emulated.{FalseByTheLaws, IsToldAfter}
pub use Rattle.dn_laws.specs.Explained.{IsAtBandwidth, IsDeliveryOf, sent}
pub use Rattle.dn_laws.specs.FairShare.{CostsAtMost, EachThatWaits, IsWeighted, SharesByWeight, SharesFairly, WaitsThroughout, bytes_sent, packets_sent, share}
pub use Rattle.dn_laws.specs.FlowLaws.{FlowsAreByMask, FlowsHaveTheirKeys}
pub use Rattle.dn_laws.specs.KeptLaws.{BusyPeriodsBegin, LinksAreKept, PacketsSpareTags, TagsAreKept, VirtualTimeIsKept}
pub use Rattle.dn_laws.specs.Laws.{IsFirstEligible}
pub use Rattle.dn_laws.specs.LineLaws.{DefaultsAreKnown, IsLimit, IsLoss, IsMask, IsRate, OthersAreRefused, PipesAreSet, QueuesAreSet, Says, endings, multiples, ranges, with_bits}
pub use Rattle.dn_laws.specs.LineRefusals.{AreGood, BehindKinds, Deletes, DeletesAreKnown, HeadsAreKnown, IsBare, IsWord, KindsAreKnown, Lacks, LeftOutIsTold, OptionsAreRefused}
pub use Rattle.dn_laws.specs.LineRefusals.{OtherWordsAreRefused, PipesAreNeeded, PrefixSaysNothing, WordsAreKnown, fields, later, left_out, options_of, queries, separators}
pub use Rattle.dn_laws.specs.KeptLaws.{OtherPipesChangeNothing}
pub use Rattle.dn_laws.specs.PacketLaws.{ArrivalsAreTold, CommandsSpare, DiscardsAreDeletes, PacketsAddUp, QueuedPacketsArrive, is_of_queues, sent_by_queues}
pub use Rattle.dn_laws.specs.PartLaws.{AgreeingCallsAgree, AreAlike, AreMatched, CommandsActByForce, IsUntimed, PartsAreWhole, PartsRestOnTheirPipe, ReplaysFallApart, emptied}
pub use Rattle.dn_laws.specs.Parts.{Choice, accepted_by, call_on, event_by, is_event_on, is_link_on, link_by, part, stamped_by, start_by}
pub use Rattle.dn_laws.specs.ReadingLaws.{CommandsAreAnswered, GoesBy, IsElsewhere, LinksAreToldApart, MomentsAreNamed, PacketsAreCounted, QueuesAreRead, StartsAreDue, SubjectsAreNamed}
pub use Rattle.dn_laws.specs.ReadingLaws.{TargetsAreTreated, given_as, starts_as}
pub use Rattle.dn_laws.specs.RecordLaws.{HistoriesAreRead, HistoriesAreWritten, IsRow, LimitsAreKnown, RowsAreRead, RowsHaveTenFields, Texts, aim, answered, asked, bits, columns, dotted, entry}
pub use Rattle.dn_laws.specs.RecordLaws.{file_of, listed, records, row_line, state}
pub use Rattle.dn_laws.specs.Replays.{ArePackets, IsReplay}
pub use Rattle.dn_laws.specs.ReplyLaws.{ClockIsTheGreatest, CollectsAreTold, CommandsAreTold, FlowsWereTold, HasStarted, LimitIsCounted, PacketsAreNumbered, QueuedPacketsAreDelivered}
pub use Rattle.dn_laws.specs.ReplyLaws.{QueuedPacketsStay, RepliesTellTheClock, ShowsAreTold, ToldWhenDue, Waits, WasDiscarded}
pub use Rattle.dn_laws.specs.ReplyParts.{delivery_by, status_by}
pub use Rattle.dn_laws.specs.ReservationLaws.{ChangesHaveRoom, IsOfFlow, OnlyMakersLackMemory, RoomStays}
pub use Rattle.dn_laws.specs.SharingLaws.{DroppedChangesNothing, IsDropped, PipeDeleteResets, QueueDeleteResets, TagsBeginAfresh}
pub use Rattle.dn_laws.specs.ServiceLaws.{AnswersSuffice, CallersAreLeft, CallsByTheLaws, HistoriesSuffice, IsAccounted, IsDelivered, NoneIsForeign, NoneIsOvertaken, ServicesByTheLaws, WasTold}
pub use Rattle.dn_laws.specs.SharingLaws.{CommandsMoveNothing, GrowsByWork, PacketsKeepApart, PickIsLeast, PipeDeleteEmpties, PipeDeleteSpares, QueueDeleteEmpties, QueueDeleteSpares, TagsByWeight}
pub use Rattle.dn_laws.specs.TimeLaws.{DelaysAddUp, IsLack, IsMadeBy, NoneStartsEarly, StartsBehind, StartsInTime, WaitsForItsLink}
pub use Rattle.dn_laws.specs.Told.{IsQueueOf, IsReached}
pub use Rattle.dn_laws.specs.WaitLaws.{KbytesBoundTheDelay, KbytesBoundTheWait, LinksMakeNoPause, SlotsBoundTheDelay, SlotsBoundTheWait, WaitIsKnown, WaitsForThoseAhead, sending, starting}
pub use Rattle.dn_laws.specs.ReadingLaws.{ClockFollows, ObeysAsTold, StartsAreCounted}
pub use Rattle.dn_records.proofs.ReadBack.{read-back}
pub use Rattle.dn_records.specs.Records.{AllFilled, HasNoMark, line_of, records_of}
unfoldable pub use Rattle.dn_records.specs.Records.{text_of}
pub use Rattle.dn_service.specs.Callers.{Answered, CallerView, Closes, IsAccountedFor, IsFaced, ServiceView, has_number, having_faced, having_lost, lost_to, new_caller, new_callers}
pub use Rattle.dn_shaper.specs.Refinement.Settings.{InForce, settings_of}
pub use Rattle.dn_shaper.specs.Room.{HasRoomBy, HasRoomFor, HasRoomOf, IsOther, LeavesRoom}
pub use Rattle.dn_shaper.specs.Shaper.{CanNeedMemory, StandsAfter}
pub use Rattle.dn_shaper.specs.declared.state.State.{State}
pub use Rattle.dn_types.proofs.BoundedReplies.{bounded-bytes, bounded-moments, due-moments-bounded, in_order-all}
pub use Rattle.dn_types.proofs.Bridge.{exhausted-changes-nothing, replies-by-standing}
pub use Rattle.dn_types.proofs.CallCounts.{command-count, count-none, settled-count}
pub use Rattle.dn_types.proofs.Conserving.{conserves-work}
pub use Rattle.dn_types.proofs.Dues.{due-is-last, due-moments-never-fall, gives-once, gives-what-is-due, leaves-what-is-not-due}
pub use Rattle.dn_types.proofs.ExampleWords.{delivery, key, mask, no_mask, packet, pipe, queue, sized, status, ten, to_pipe, to_queue, worded}
pub use Rattle.dn_types.proofs.Fifo.{IsProper, append-none, own-first}
pub use Rattle.dn_types.proofs.Firsts.{all-rest, first_to_go-one-of, heads-same, next-picked, stamped-first, stamped_of}
pub use Rattle.dn_types.proofs.Giving.{count-delivery, count-event, gives-started}
pub use Rattle.dn_types.proofs.Histories.{counts-up-to-the-limit, lawful-more, lawful-replies, own-entries-begin, own-entries-grow}
pub use Rattle.dn_types.proofs.InForce.{IsKept, IsOfTarget, any-of, pipe-there, settings-kept, settings-whole, target_eq-true}
pub use Rattle.dn_types.proofs.InTurn.{gives-in-order}
pub use Rattle.dn_types.proofs.Keys.{key_eq-true, keys-apart, keys-stay, one-place, target_eq-refl}
pub use Rattle.dn_types.proofs.Known.{AreKnown, StandsAt, all-known, fewer-discarded, known-flow, known-started, pipe_of-link, place-is, reached-emptied}
pub use Rattle.dn_types.proofs.Once.{starts-once}
pub use Rattle.dn_types.proofs.Ordered.{of-own, sends-one-at-a-time, settled-proper, starts-in-order, suffix-proper, trace-proper}
pub use Rattle.dn_types.proofs.Picks.{pick-some}
pub use Rattle.dn_types.proofs.Proper.{total-at}
pub use Rattle.dn_types.proofs.Settled.{and-left, backlog-elsewhere, first_start-of, free-elsewhere, last_due-elsewhere, link_eq-refl, link_eq-true, next_start-link, settle-ends, settled-ends}
pub use Rattle.dn_types.proofs.Settled.{true_or_false, virtual_time-elsewhere}
pub use Rattle.dn_types.proofs.Settling.{and-right, backlog-above, backlog-own, first-own, flow-start, is_below, next_packet-first, next_start-packet}
pub use Rattle.dn_types.proofs.StepFacts.{sooner-left, sooner-right}
pub use Rattle.dn_types.proofs.TransmissionTime.{transmission-is-least, unlimited-takes-no-time}
pub use Rattle.dn_types.specs.Bounds.{HasBoundedBytes, HasBoundedMoments, IsInRange}
pub use Rattle.dn_types.specs.Calls.{trace_of}
pub use Rattle.dn_types.specs.Clock.{call_limit, counted, effective_moment}
pub use Rattle.dn_types.specs.Configuration.{Settings, settings, subject}
pub use Rattle.dn_types.specs.Deliveries.{delivery_cmp, delivery_of, given, in_order, is_given_before, undelivered}
pub use Rattle.dn_types.specs.Flows.{Treatment, key_of, keys, treatment}
pub use Rattle.dn_types.specs.History.{IsLawfulAfter, own_entries}
pub use Rattle.dn_types.specs.Links.{arrival_time, due_by, free, last_due, transmission_time}
pub use Rattle.dn_types.specs.Replies.{reply}
pub use Rattle.dn_types.specs.SharedLinks.{last_finish_tag, link_heads, next_packet, virtual_time, waiting}
pub use Rattle.dn_types.specs.Standing.{standing}
pub use Rattle.dn_types.specs.Starts.{first_start, next_start, settle, settled, sooner, start_at, waiting_all}
pub use Rattle.dn_types.specs.Trace.{Accepted, Event, Link, Start, accepted_count, arrived, backlog, collected, discarded, flow_bound, is_arrival, is_of, link_eq, links, lost, opened, own}
pub use Rattle.dn_types.specs.Trace.{refused, shared, started, with_link}
pub use Rattle.dn_types.specs.Wf2q.{Stamped, earlier, first_to_go, goes_before, grown, heads, is_eligible, least_start_tag, pick, raised, scaled, total, weight_sum}
pub use Rattle.dn_types.specs.declared.call.Call.{Call}
pub use Rattle.dn_types.specs.declared.call.Call.TheVariants.{Advance, Collect, Configure, Show, Submit}
pub use Rattle.dn_types.specs.declared.command.Command.{Command}
pub use Rattle.dn_types.specs.declared.command.Command.TheVariants.{DeletePipe, DeleteQueue}
pub use Rattle.dn_types.specs.declared.delivery.Delivery.{Delivery}
pub use Rattle.dn_types.specs.declared.entry.Entry.{Entry}
pub use Rattle.dn_types.specs.declared.flow_key.FlowKey.{FlowKey}
pub use Rattle.dn_types.specs.declared.flow_status.FlowStatus.{FlowStatus}
pub use Rattle.dn_types.specs.declared.limit.Limit.{Limit}
pub use Rattle.dn_types.specs.declared.limit.Limit.TheVariants.{Kbytes, Slots}
pub use Rattle.dn_types.specs.declared.mask.Mask.{Mask}
pub use Rattle.dn_types.specs.declared.packet.Packet.{Packet}
pub use Rattle.dn_types.specs.declared.reply.Reply.{Reply}
pub use Rattle.dn_types.specs.declared.reply.Reply.TheVariants.{Advanced, Configured, Delivered, Queued}
pub use Rattle.dn_types.specs.declared.rule.Rule.{Rule}
pub use Rattle.dn_types.specs.declared.rule.Rule.TheVariants.{Ordered}
pub use Rattle.dn_types.specs.declared.target.Target.{Target}
pub use Rattle.std.proofs.Common.{Bool, List, [], add-mul, ap, append-nil, append_assoc, arith, cond, drop, false, get_or, inl, inr, length, length-append, map, max, min, mul-le-mul_right}
pub use Rattle.std.proofs.Common.{one-add, refl, subst, suc, suc-mul, sum, sym, take, true, true≢false, zero, ℕ, ⊎_elim, ◌&&◌, ◌*◌, ◌++◌, ◌+◌, ◌-◌, ◌/◌, ◌<◌, ◌==◌, ◌^◌, ◌||◌, ◌∙◌, ◌∷◌, ◌≡◌, ◌≢◌}
pub use Rattle.std.proofs.Common.{◌≤◌, ◌⊎◌}
pub use Rattle.std.proofs.Math.ListN.{length-drop}
pub use Rattle.std.proofs.Math.Nat.{div-lt_iff_lt-mul, div-mul-le_self, lt-div-mul-add, mul-le-mul_left, mul-lt-mul_of_pos_right, mul_assoc, mul_right_comm, pow-suc, pow-zero}
pub use Rattle.std.proofs.Math.Seq.{drop-append_seam, take-append_seam, take-length}
pub use Rattle.std.proofs.lemmas.Bool.{and_from, and_parts, and_right, eq-eqb, eqb-false, eqb-true, le-leb, leb-true, lt-leb, lt-ltb, ltb-false, ltb-true, ne_eqb}
pub use Rattle.std.proofs.lemmas.Bool.Decides.{eqb_tells, leb_tells, nat_tests}
pub use Rattle.std.proofs.lemmas.Cmp.{nat_cmp_total, on_total, then_total}
pub use Rattle.std.proofs.lemmas.Fmt.{decimal-digits_value, decimal_is_IsNumeral}
pub use Rattle.std.proofs.lemmas.Grind.{reverse_onto}
pub use Rattle.std.proofs.lemmas.List.{append_cancel_right, drop-map, length-map, length-replicate, map-append, take-map}
pub use Rattle.std.proofs.lemmas.List.Elements.{All-append, All-cons, All-contains_itself, All-drop, All-filter, All-head, All-map, All-nil, All-push, All-tail, All-take, filter_passes}
pub use Rattle.std.proofs.lemmas.List.Folds.{list_all-append}
pub use Rattle.std.proofs.lemmas.List.Sums.{sum-map, sum_by-cons, sum_by-le, sum_by_push}
pub use Rattle.std.proofs.lemmas.Nat.{pow-add}
pub use Rattle.std.proofs.lemmas.Option.{slice_get-map, slice_get_cases, slice_get_within}
pub use Rattle.std.proofs.lemmas.Slice.Eq.{bytes_eq-Decides}
pub use Rattle.std.proofs.lemmas.Str.Parse.{numerals_by_value, tells_digits}
pub use Rattle.std.specs.Char.{digit_value, is_ascii_alphabetic, is_ascii_digit, to_ascii_lowercase}
pub use Rattle.std.specs.Cmp.{IsTotalOrder, nat_cmp_is, ranks}
pub use Rattle.std.specs.List.{All, Contains, before_first, count_by, filter, join_with_byte, list_all, list_any, prefix_len, slice_split, sum_by}
pub use Rattle.std.specs.Option.{option_map}
pub use Rattle.std.specs.Ordering.{MatchOrdering, is_lt, nat_cmp, ordering_reverse, ordering_then}
pub use Rattle.std.specs.Prelude.{Err, None, Ok, Option, Result, Some, bytes_eq, codes, decimal, flat_map, is_some, nat_eq, nat_le, nat_lt, option_and_then, replicate, reverse, slice_get}
pub use Rattle.std.specs.Prelude.{slice_index, ⊤, ◌%◌}
pub use Rattle.std.specs.Str.Parse.{AllDigits, digits_value, digits_value_after}
pub use Rattle.std.specs.declared.cmp.Ordering.{Ordering}
pub use Rattle.std.specs.declared.cmp.Ordering.TheVariants.{Equal, Greater, Less}
