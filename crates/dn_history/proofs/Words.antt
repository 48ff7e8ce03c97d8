-- The words of libraries and of specs/ that the proofs of this crate use.
pub use Rattle.csv.specs.Reading.{default_config, records_next}
unfoldable pub use Rattle.csv.specs.Reading.{records_from, strip_bom}
pub use Rattle.csv.specs.Records.{fields_of}
unfoldable pub use Rattle.csv.specs.Records.{field_at}
unfoldable pub use Rattle.csv.specs.Writing.{escaped, fields_text, is_blank}
pub use Rattle.csv.specs.declared.parser.Config.{Config}
pub use Rattle.csv.specs.declared.parser.State.TheVariants.{StartRecord}
pub use Rattle.dn_config.proofs.CommandsBack.{text_back}
pub use Rattle.dn_config.proofs.NumbersBack.{ascii_digits, ranged_back}
pub use Rattle.dn_config.proofs.TextBytes.{text_utf8}
pub use Rattle.dn_config.proofs.UntilParts.{number_parts}
pub use Rattle.dn_config.specs.Commands.{AreShared, IsMask, IsTyped}
pub use Rattle.dn_config.specs.Masks.{no_bits}
unfoldable pub use Rattle.dn_config.specs.Text.{link_words, text, text_words}
pub use Rattle.dn_config.specs.Tokens.Addresses.{octet_of}
unfoldable pub use Rattle.dn_config.specs.Tokens.Addresses.{address_of, at_point}
pub use Rattle.dn_config.specs.Tokens.Numbers.{number_within}
pub use Rattle.dn_config.specs.Tokens.Until.{number_until}
pub use Rattle.dn_files.proofs.Causes.{unwritten-cases}
pub use Rattle.dn_files.proofs.Commands.{said}
pub use Rattle.dn_files.proofs.Headers.{BeginsFirst, first-read}
pub use Rattle.dn_files.proofs.Inputs.{carried, passed_on, refused}
pub use Rattle.dn_files.proofs.LastNumbers.{end_parts}
pub use Rattle.dn_files.proofs.PlainFields.{AllPlain, BeginsTarget, BeginsTuple, IsPlain}
pub use Rattle.dn_files.proofs.PlainLines.{line-begins, line-is, plain_end}
pub use Rattle.dn_files.proofs.PlainRows.{digits-write, number-field, target_read, tuple_read}
pub use Rattle.dn_files.specs.ConfigFile.{command_at}
pub use Rattle.dn_files.specs.Fields.{column, is_form, is_name, number_at, or_place}
unfoldable pub use Rattle.dn_files.specs.Fields.{packet_at, target_at, tuple_at}
pub use Rattle.dn_files.specs.LineEnd.{behind_first, number_at_end}
pub use Rattle.dn_files.specs.Reading.{IsFaultOf, IsRefusal, IsTextOf, within_limit, ◌>>=◌}
pub use Rattle.dn_files.specs.Writing.{IsUnwritten}
pub use Rattle.dn_files.specs.declared.replay_fault.ReplayFault.{ReplayFault}
pub use Rattle.dn_files.specs.declared.replay_fault.ReplayFault.TheVariants.{BadRecord, OutOfMemory, TooLong, Write}
pub use Rattle.dn_files.specs.declared.source.Source.TheVariants.{History, Report}
pub use Rattle.dn_history.specs.Audit.{CanWantMemory, HasAudited, IsLawfulUpTo, IsVerdict}
pub use Rattle.dn_history.specs.EntriesLeft.{EntriesLeft, entries_left}
pub use Rattle.dn_history.specs.EntryRecords.{call_record, delivery_record, item_records, reply_record, status_record, target_name, target_number}
pub use Rattle.dn_history.specs.FileAudit.{AreAudited, HasCome, HasVerdict, IsAuditFault, IsTold, IsUnauditedWithin, history_within, verdict_line}
pub use Rattle.dn_history.specs.HistoryFaults.{IsHistoryFault}
pub use Rattle.dn_history.specs.HistoryFile.{before, between, command_by, history_file, history_in, history_limit, nothing_in}
unfoldable pub use Rattle.dn_history.specs.HistoryFile.{call_of, delivered_from, end_by, entries_from, entry_by, entry_from, history_from, reply_by, reply_from, status_from}
pub use Rattle.dn_history.specs.HistoryItems.{status_width}
unfoldable pub use Rattle.dn_history.specs.HistoryItems.{delivery_item, key_item, mask_item, status_item}
pub use Rattle.dn_history.specs.HistoryParts.{AreRead, BeginsHistory, BeginsNoHistory, HasRead, Unread, after_entries, entries_with, history_behind, version_words, with_rule}
pub use Rattle.dn_history.specs.HistoryRecords.{caller_of, has_deletes, has_remarks, is_call, is_delete_reply, is_end, is_reply, long_at, rule_of, told_count}
unfoldable pub use Rattle.dn_history.specs.HistoryRecords.{live_of, plain_call, plain_reply, queued_of, submit_of, timed_reply, two_of, version_of}
pub use Rattle.dn_history.specs.HistoryText.{end_record, entry_records, history_header, history_records, live_header}
unfoldable pub use Rattle.dn_history.specs.HistoryText.{history_text}
pub use Rattle.dn_history.specs.PlainRecords.{BeginsCall, BeginsDelivery, BeginsReply, answered}
pub use Rattle.dn_history.specs.Ranges.{AreEntries, IsCall, IsDelivery, IsEntry, IsKey, IsLong, IsPacket, IsReply, IsStatus, IsTarget, IsTuple}
pub use Rattle.dn_history.specs.RecordsLeft.{Rest, first_record, in_record, narrow, too_many}
unfoldable pub use Rattle.dn_history.specs.RecordsLeft.{item_from, items_from, narrow_record, next_record}
pub use Rattle.dn_history.specs.Remarks.{ahead, is_remark, past_remarks, without_remarks}
pub use Rattle.dn_history.specs.declared.file_audit.file_audit.FileAudit.{FileAudit}
pub use Rattle.dn_history.specs.declared.history_version.HistoryVersion.{HistoryVersion}
pub use Rattle.dn_history.specs.declared.history_version.HistoryVersion.TheVariants.{First, Live, Second, Third}
pub use Rattle.dn_history.specs.declared.read.progress.Progress.TheVariants.{Reading}
pub use Rattle.dn_history.specs.declared.running_audit.RunningAudit.{RunningAudit}
pub use Rattle.dn_history.specs.declared.verdict.Verdict.{Verdict}
pub use Rattle.dn_history.specs.declared.verdict.Verdict.TheVariants.{Differs, Lawful}
pub use Rattle.dn_records.proofs.FirstLine.{behind-feed}
pub use Rattle.dn_records.proofs.LineEnds.{BeginsFields, Opens, Writes, feed-line, field-begins, fields-then, line-reads, plain-writes, return-line}
pub use Rattle.dn_records.proofs.Lines.{address_is_plain, decimal_is_plain, on_err}
pub use Rattle.dn_records.proofs.PlainLines.{behind-line}
pub use Rattle.dn_records.proofs.ReadBack.{read-back}
pub use Rattle.dn_records.proofs.TextSteps.{text-append, text-more, text-none, text-push, texts-more}
pub use Rattle.dn_records.proofs.WholeRecords.{records-then}
pub use Rattle.dn_records.specs.Reading.{BeginsLine, records_after}
pub use Rattle.dn_records.specs.Records.{AllFilled, Fields, HasNoMark, line_of, records_of}
unfoldable pub use Rattle.dn_records.specs.Records.{text_of}
pub use Rattle.dn_records.specs.Steps.{TakesFront}
pub use Rattle.dn_records.specs.WholeRecords.{BeginsRecords, IsWhole}
pub use Rattle.dn_records.specs.Writing.{address_text}
pub use Rattle.dn_shaper.specs.Shaper.{CanNeedMemory, StandsAfter}
pub use Rattle.dn_types.proofs.Histories.{calls_of-more, lawful-more}
pub use Rattle.dn_types.specs.Clock.{counted}
pub use Rattle.dn_types.specs.History.{IsLawful, IsLawfulAfter, calls_of}
pub use Rattle.dn_types.specs.Replies.{reply}
pub use Rattle.dn_types.specs.contracts.reply.ReplyEq.TheImpl.Laws.{laws-law}
pub use Rattle.dn_types.specs.declared.call.Call.{Call}
pub use Rattle.dn_types.specs.declared.call.Call.TheVariants.{Submit}
pub use Rattle.dn_types.specs.declared.command.Command.{Command}
pub use Rattle.dn_types.specs.declared.command.Command.TheVariants.{DeletePipe, DeleteQueue}
pub use Rattle.dn_types.specs.declared.delivery.Delivery.{Delivery}
pub use Rattle.dn_types.specs.declared.entry.Entry.{Entry}
pub use Rattle.dn_types.specs.declared.five_tuple.FiveTuple.{FiveTuple}
pub use Rattle.dn_types.specs.declared.flow_key.FlowKey.{FlowKey}
pub use Rattle.dn_types.specs.declared.flow_status.FlowStatus.{FlowStatus}
pub use Rattle.dn_types.specs.declared.limit.Limit.TheVariants.{Slots}
pub use Rattle.dn_types.specs.declared.mask.Mask.{Mask}
pub use Rattle.dn_types.specs.declared.packet.Packet.{Packet}
pub use Rattle.dn_types.specs.declared.reply.Reply.{Reply}
pub use Rattle.dn_types.specs.declared.reply.Reply.TheVariants.{Advanced, Configured, Deleted, Delivered, Exhausted, Full, Lost, NoSuchPipe, NoSuchQueue, NoTarget, PipeHasQueues, Queued, Status}
pub use Rattle.dn_types.specs.declared.rule.Rule.{Rule}
pub use Rattle.dn_types.specs.declared.rule.Rule.TheVariants.{Ordered}
pub use Rattle.dn_types.specs.declared.target.Target.{Target}
pub use Rattle.std.proofs.Common.{Bool, Err, List, None, Ok, Option, Result, Some, [], ap, append-nil, append_assoc, arith, codes, drop, false, get_or, inl, inr, length, length-append, map}
pub use Rattle.std.proofs.Common.{nat_le, nat_lt, not, refl, subst, suc, sym, take, true, true≢false, zero, ℕ, ◌%◌, ◌&&◌, ◌++◌, ◌+◌, ◌-◌, ◌/◌, ◌<◌, ◌==◌, ◌^◌, ◌∙◌, ◌∷◌, ◌≡◌, ◌≢◌, ◌≤◌}
pub use Rattle.std.proofs.KnownBytes.{Keeps-refl}
pub use Rattle.std.proofs.Math.Bool.{and-false}
pub use Rattle.std.proofs.Math.ListN.{get_or-append}
pub use Rattle.std.proofs.Math.Seq.{drop-append_seam, get_or-append_seam, take-append_seam}
pub use Rattle.std.proofs.lemmas.Bool.{and_parts, cases_Bool, eqb-true, false≢true, ne_eqb, not-false}
pub use Rattle.std.proofs.lemmas.Bool.Decides.{Decides-eqb, nat_tests}
pub use Rattle.std.proofs.lemmas.Fmt.{decimal_is_IsNumeral}
pub use Rattle.std.proofs.lemmas.List.{length-take, length-take-le, reverse-append, take-append-drop, take-append-le, take_all, take_more, take_rest}
pub use Rattle.std.proofs.lemmas.List.Concat.{flat_map-append}
pub use Rattle.std.proofs.lemmas.List.Elements.{All-cons, All-head, All-more, All-nil, All-same, All-tail}
pub use Rattle.std.proofs.lemmas.Option.{get_or_from_slice_get, slice_get_read, slice_get_within}
pub use Rattle.std.proofs.lemmas.Result.{IfErr-weaker, IfOk-weaker, err_from_is_err_and, on_ok_weaker}
pub use Rattle.std.proofs.lemmas.Slice.Eq.{strip_prefix_is}
pub use Rattle.std.specs.Char.{is_ascii_digit}
pub use Rattle.std.specs.Cmp.{first_so, second_so}
pub use Rattle.std.specs.Cmp.Lexicographic.{pointwise}
pub use Rattle.std.specs.List.{All, list_all}
pub use Rattle.std.specs.Prelude.{OnOk, bytes_eq, cond, decimal, flat_map, nat_eq, slice_get, ⊤}
pub use Rattle.std.specs.Result.{is_ok, result_ok}
