-- The words of libraries and of specs/ that the proofs of this crate use.
pub use Rattle.csv.proofs.RoundTrip.{record-same, start-same}
pub use Rattle.csv.specs.Reading.{default_config}
unfoldable pub use Rattle.csv.specs.Reading.{records_from, strip_bom}
pub use Rattle.csv.specs.Records.{fields_of}
unfoldable pub use Rattle.csv.specs.Records.{field_at}
unfoldable pub use Rattle.csv.specs.Writing.{escaped, fields_text, is_blank}
pub use Rattle.dn_config.proofs.Prefixes.{no_position}
pub use Rattle.dn_config.specs.Tokens.Lines.{is_line_feed}
pub use Rattle.dn_config.specs.Tokens.Numbers.{number_of}
unfoldable pub use Rattle.dn_config.specs.Tokens.Numbers.{within}
pub use Rattle.dn_config.specs.declared.fault.LineFault.{LineFault}
pub use Rattle.dn_config.specs.declared.tokens.number_fault.NumberFault.{NumberFault}
pub use Rattle.dn_files.proofs.Causes.{unwritten-cases}
pub use Rattle.dn_files.specs.Fields.{column, is_form, is_name, or_place}
pub use Rattle.dn_files.specs.Reading.{IsTextOf}
pub use Rattle.dn_files.specs.Writing.{IsUnwritten}
pub use Rattle.dn_files.specs.declared.replay_fault.ReplayFault.{ReplayFault}
pub use Rattle.dn_files.specs.declared.replay_fault.ReplayFault.TheVariants.{OutOfMemory, Read, TooLong, Write}
pub use Rattle.dn_files.specs.declared.source.Source.TheVariants.{History}
pub use Rattle.dn_history.proofs.EntriesBack.{IsPiece, Piece, piece_entries, piece_records, read_as}
pub use Rattle.dn_history.proofs.HistoryBack.{entry-filled, entry-plain, filled-append}
pub use Rattle.dn_history.specs.HistoryFile.{history_in}
pub use Rattle.dn_history.specs.HistoryRecords.{caller_of, is_call, plain_call}
pub use Rattle.dn_history.specs.HistoryText.{end_record, entry_records, history_header, history_records, live_header}
pub use Rattle.dn_history.specs.Ranges.{IsEntry}
pub use Rattle.dn_history.specs.Remarks.{is_remark, without_remarks}
pub use Rattle.dn_history.specs.declared.history_version.HistoryVersion.TheVariants.{Live}
pub use Rattle.dn_live.specs.Asked.{asked_by_first, asked_of, call_asked, command_in, configure_asked, is_asking, is_comment, plain_asked, said, typed_asked}
unfoldable pub use Rattle.dn_live.specs.Asked.{asked, asked_by, records_in}
pub use Rattle.dn_live.specs.LinesTaken.{HasFront, IsLine, IsNotTaken, IsOneLine, IsRead, IsTooLong, TakesLine, TakesPiece, has_none, line_limit}
pub use Rattle.dn_live.specs.Session.{IsBrokenOff, IsServed, bad_of, bad_record, bad_tail, begun, calls_after, closing, count_of, served_of, tail_answer}
unfoldable pub use Rattle.dn_live.specs.Session.{answers, bad_lines, calls_of, lines_text}
pub use Rattle.dn_live.specs.Transcripts.{IsServedTyped, IsTranscript, IsTyped}
unfoldable pub use Rattle.dn_live.specs.Transcripts.{AreTyped}
pub use Rattle.dn_live.specs.declared.asked.Asked.{Asked}
pub use Rattle.dn_live.specs.declared.asked.Asked.TheVariants.{Bad, Calls, Next, Nothing}
pub use Rattle.dn_live.specs.declared.bad_line.BadLine.{BadLine}
pub use Rattle.dn_live.specs.declared.cause.Cause.{Cause}
pub use Rattle.dn_live.specs.declared.cause.Cause.TheVariants.{NoLineFeed, NotText}
pub use Rattle.dn_live.specs.declared.served.Served.{Served}
pub use Rattle.dn_records.proofs.PlainLines.{at-front}
pub use Rattle.dn_records.proofs.ReadBack.{read-back}
pub use Rattle.dn_records.proofs.TextSteps.{text-append, text-push}
pub use Rattle.dn_records.specs.Devices.{AppendsPart}
pub use Rattle.dn_records.specs.PlainLines.{has_quotes}
pub use Rattle.dn_records.specs.Records.{AllFilled, Fields, HasNoMark, Takes, records_of}
unfoldable pub use Rattle.dn_records.specs.Records.{text_of}
pub use Rattle.dn_shaper.specs.Shaper.{StandsAfter}
pub use Rattle.dn_shaper.specs.Waking.{wake_of}
pub use Rattle.dn_shaper.specs.declared.state.State.{State}
pub use Rattle.dn_types.proofs.Histories.{calls_of-more, lawful-more}
pub use Rattle.dn_types.specs.Calls.{trace_of}
pub use Rattle.dn_types.specs.Clock.{counted}
pub use Rattle.dn_types.specs.Replies.{reply}
pub use Rattle.dn_types.specs.declared.call.Call.{Call}
pub use Rattle.dn_types.specs.declared.command.Command.{Command}
pub use Rattle.dn_types.specs.declared.entry.Entry.{Entry}
pub use Rattle.dn_types.specs.declared.reply.Reply.{Reply}
pub use Rattle.dn_types.specs.declared.rule.Rule.TheVariants.{Ordered}
pub use Rattle.memchr.specs.Find.{IsFirstByte, is_byte}
pub use Rattle.std.proofs.Common.{Bool, Err, List, None, Ok, Option, Result, Some, [], add-one, ap, append-nil, append_assoc, arith, cond, drop, drop-cons, drop-drop, false, get_or, inl, inr}
pub use Rattle.std.proofs.Common.{length, length-append, length-take, min, nat_le, not, refl, rules, subst, suc, sym, take, take-append-drop, take_all, true, vec_len, zero, ℕ, ◌&&◌, ◌++◌, ◌+◌}
pub use Rattle.std.proofs.Common.{◌-◌, ◌<◌, ◌==◌, ◌^◌, ◌∙◌, ◌∷◌, ◌≡◌, ◌≢◌, ◌≤◌}
pub use Rattle.std.proofs.KnownBytes.{Appends-trans, Consumes-trans}
pub use Rattle.std.proofs.Math.Seq.{take-append-add}
pub use Rattle.std.proofs.lemmas.Bool.{and_parts, cases_Bool, false_from_ne_true, or_parts}
pub use Rattle.std.proofs.lemmas.Bool.Decides.{Decides-eqb, nat_tests}
pub use Rattle.std.proofs.lemmas.List.{drop_all, get_or-take, take-append-le}
pub use Rattle.std.proofs.lemmas.List.Concat.{flat_map-append}
pub use Rattle.std.proofs.lemmas.List.Elements.{All-append, All-cons, All-from_get_or, All-nil, filter-append}
pub use Rattle.std.proofs.lemmas.List.Folds.{list_any-append, list_any_none}
pub use Rattle.std.proofs.lemmas.List.Sums.{fails_before_first, passes_at_first}
pub use Rattle.std.proofs.lemmas.Result.{IfErr-weaker, IfOk-weaker}
pub use Rattle.std.proofs.lemmas.Slice.Eq.{strip_suffix_is}
pub use Rattle.std.proofs.lemmas.Str.{IsUtf8-from_is_utf8, is_utf8-from_IsUtf8}
pub use Rattle.std.specs.Io.KnownBytes.{Appends, Consumes, IsAtEnd, Keeps, prepend_known}
pub use Rattle.std.specs.List.{All, list_any, onto_first, position_or_len, slice_split}
pub use Rattle.std.specs.Option.{is_some}
pub use Rattle.std.specs.Prelude.{IfOk, codes, flat_map, ⊤, ◌||◌}
pub use Rattle.std.specs.Result.{result_ok}
pub use Rattle.std.specs.Str.{IsUtf8, is_utf8}
