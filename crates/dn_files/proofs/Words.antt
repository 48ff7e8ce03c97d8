-- The words of libraries and of specs/ that the proofs of this crate use.
pub use Rattle.csv.proofs.RoundTrip.{record-same}
pub use Rattle.csv.specs.Machine.{ends_at_end, field_after, fields_after, in_field, is_end, start_field, step}
unfoldable pub use Rattle.csv.specs.Machine.{next_record}
pub use Rattle.csv.specs.Reading.{default_config, records, records_next}
unfoldable pub use Rattle.csv.specs.Reading.{records_from, strip_bom}
pub use Rattle.csv.specs.Records.{fields_of}
unfoldable pub use Rattle.csv.specs.Records.{field_at}
pub use Rattle.csv.specs.Writing.{default_writer, field_text, needs_byte}
unfoldable pub use Rattle.csv.specs.Writing.{fields_text, is_blank}
pub use Rattle.csv.specs.declared.parser.Action.{Action}
pub use Rattle.csv.specs.declared.parser.State.{State}
pub use Rattle.dn_config.proofs.Capping.{digits_are_digits}
pub use Rattle.dn_config.proofs.UntilBack.{address_back, number_back, number_digits}
pub use Rattle.dn_config.proofs.UntilParts.{address_parts, bound, is_address_byte, number_parts, some_is}
pub use Rattle.dn_config.specs.Line.{answer}
pub use Rattle.dn_config.specs.Tokens.Addresses.{address_of}
pub use Rattle.dn_config.specs.Tokens.Lines.{lines_of}
pub use Rattle.dn_config.specs.Tokens.Numbers.{digits, number_within, unit}
pub use Rattle.dn_config.specs.Tokens.Until.{address_until, behind_byte}
unfoldable pub use Rattle.dn_config.specs.Tokens.Until.{number_until}
pub use Rattle.dn_config.specs.declared.fault.LineFault.{LineFault}
pub use Rattle.dn_config.specs.declared.tokens.number_fault.NumberFault.{NumberFault}
pub use Rattle.dn_files.specs.ConfigFile.{commands_in, config_limit, numbered, said_at}
unfoldable pub use Rattle.dn_files.specs.ConfigFile.{command_at, commands_from}
pub use Rattle.dn_files.specs.Fields.{or_place}
unfoldable pub use Rattle.dn_files.specs.Fields.{packet_at, target_at, tuple_at}
pub use Rattle.dn_files.specs.InChunks.{BeginsWith, HasRows}
pub use Rattle.dn_files.specs.LineEnd.{behind_word}
unfoldable pub use Rattle.dn_files.specs.LineEnd.{behind_end, behind_first, number_at_end, number_before_return, past_mark}
pub use Rattle.dn_files.specs.PacketFile.{TakesRow, packet_limit, rows_of}
unfoldable pub use Rattle.dn_files.specs.PacketFile.{is_header, row_of, rows_below, rows_from}
pub use Rattle.dn_files.specs.PacketParts.{BeginsNext, BeginsRow, HasRead, header, returned_line, with_front}
unfoldable pub use Rattle.dn_files.specs.PacketParts.{rows_left}
unfoldable pub use Rattle.dn_files.specs.PlainRow.{kind_until, row_until, target_until, tuple_until}
unfoldable pub use Rattle.dn_files.specs.QuotedRow.{address_field, behind_name, header_until, last_field, number_field, pipe_fields, queue_fields, quoted_address, quoted_at_end, quoted_number}
unfoldable pub use Rattle.dn_files.specs.QuotedRow.{quoted_row_until, row_at_front, target_fields, tuple_fields}
pub use Rattle.dn_files.specs.Reading.{IsFaultOf, IsRefusal, IsRefusedFor, IsTextOf, within_limit}
pub use Rattle.dn_files.specs.Unread.{Unread}
pub use Rattle.dn_files.specs.WideRows.{BeginsWide, is_line_end, is_mark, missing_behind}
unfoldable pub use Rattle.dn_files.specs.WideRows.{has_commas}
pub use Rattle.dn_files.specs.Writing.{IsUnwritten, NothingWritten}
pub use Rattle.dn_files.specs.declared.replay_fault.ReplayFault.{ReplayFault}
pub use Rattle.dn_files.specs.declared.replay_fault.ReplayFault.TheVariants.{BadCount, BadRecord, BadRow, ConfigText, NoSuchPipe, NoSuchQueue, OutOfMemory, PipeHasQueues, TooLong, Write}
pub use Rattle.dn_files.specs.declared.row.Row.{Row}
pub use Rattle.dn_files.specs.declared.source.Source.{Source}
pub use Rattle.dn_files.specs.declared.source.Source.TheVariants.{Packets}
pub use Rattle.dn_records.proofs.FirstLine.{behind-feed}
pub use Rattle.dn_records.proofs.LineEnds.{BeginsFields, Opens, Writes, feed-line, field-begins, fields-then, line-reads, plain-writes, quoted-writes, return-line}
pub use Rattle.dn_records.proofs.NextRecord.{turns}
pub use Rattle.dn_records.specs.Reading.{BeginsLine, records_after}
pub use Rattle.dn_records.specs.Records.{Fields, Takes, line_of, records_of}
pub use Rattle.dn_types.specs.declared.command.Command.{Command}
pub use Rattle.dn_types.specs.declared.five_tuple.FiveTuple.{FiveTuple}
pub use Rattle.dn_types.specs.declared.packet.Packet.{Packet}
pub use Rattle.dn_types.specs.declared.target.Target.{Target}
pub use Rattle.dn_types.specs.declared.target.Target.TheVariants.{Pipe, Queue}
pub use Rattle.std.proofs.Common.{Bool, Err, List, None, Ok, Option, Result, Some, [], add-one, add-zero, ap, append_assoc, arith, cond, drop, false, get_or, inl, inr, length, length-append}
pub use Rattle.std.proofs.Common.{length-take, nat_le, refl, replicate, rules, subst, suc, sym, take, true, vec_len, zero, ℕ, ◌++◌, ◌+◌, ◌-◌, ◌<◌, ◌==◌, ◌^◌, ◌∙◌, ◌∷◌, ◌≡◌, ◌≢◌, ◌≤◌, ◌⊎◌}
pub use Rattle.std.proofs.KnownBytes.{Consumes-trans}
pub use Rattle.std.proofs.Math.ListN.{set}
pub use Rattle.std.proofs.Math.Seq.{drop-append_seam, take-append_seam}
pub use Rattle.std.proofs.lemmas.Bool.{cases_Bool, eqb-true, ltb-true, ne_eqb, or_parts}
pub use Rattle.std.proofs.lemmas.Bool.Decides.{nat_tests}
pub use Rattle.std.proofs.lemmas.List.{append-nil, drop-append-le, drop-drop, drop-set, drop_all, length-drop, length-replicate, take-append-drop, take_rest}
pub use Rattle.std.proofs.lemmas.Result.{IfErr-weaker, IfOk-weaker, err_from_is_err_and}
pub use Rattle.std.proofs.lemmas.Slice.Eq.{bytes_eq-Decides}
pub use Rattle.std.proofs.lemmas.Str.{IsUtf8-from_is_utf8, is_utf8-from_IsUtf8}
pub use Rattle.std.proofs.lemmas.Str.Parse.{digit_from_value}
pub use Rattle.std.specs.Char.{digit_value}
pub use Rattle.std.specs.Io.KnownBytes.{Consumes}
pub use Rattle.std.specs.List.{list_all, list_any}
pub use Rattle.std.specs.Option.{option_or}
pub use Rattle.std.specs.Prelude.{IfSome, OnOk, bytes_eq, codes, max, nat_lt, unwrap_or}
pub use Rattle.std.specs.Result.{is_ok, result_ok}
pub use Rattle.std.specs.Str.{IsUtf8, is_utf8}
