-- The words of libraries and of specs/ that the proofs of this crate use.
unfoldable pub use Rattle.csv.proofs.OnLiterals.{csv_on_literals}
pub use Rattle.csv.proofs.RoundTrip.{after-quote-same, field-run, quoted-run, read-write, record-same}
pub use Rattle.csv.specs.Machine.{Read, ends_at_end, ends_with, field_after, fields_after, in_field, is_end, start_field, start_record, step}
unfoldable pub use Rattle.csv.specs.Machine.{next_record}
pub use Rattle.csv.specs.Reading.{NextIs, ReadRecord, ReadsNext, default_config, is_bom, is_flexible, pending_of, reader_state, records_next, took_first}
unfoldable pub use Rattle.csv.specs.Reading.{records_from, strip_bom}
pub use Rattle.csv.specs.Records.{Row, fields_of, partial_of}
pub use Rattle.csv.specs.Writing.{default_writer, field_text, needs_byte, quoted, row_body}
unfoldable pub use Rattle.csv.specs.Writing.{escaped, fields_text, is_blank}
pub use Rattle.csv.specs.declared.parser.Action.{Action}
pub use Rattle.csv.specs.declared.parser.Config.{Config}
pub use Rattle.csv.specs.declared.reader.Reader.{Reader}
pub use Rattle.dn_records.specs.Devices.{write_fails}
pub use Rattle.dn_records.specs.PlainLines.{BeginsBare, StandsBehindLine, has_quotes}
pub use Rattle.dn_records.specs.Reading.{BeginsLine, IsReading, records_after, records_between, text_left}
unfoldable pub use Rattle.dn_records.specs.Reading.{records_left}
pub use Rattle.dn_records.specs.Records.{AllFilled, Fields, HasNoMark, Takes, line_of, records_of}
unfoldable pub use Rattle.dn_records.specs.Records.{text_of}
pub use Rattle.dn_records.specs.Steps.{BeginsFront, Holds, TakesFront, csv_state, csv_step}
pub use Rattle.dn_records.specs.WholeRecords.{BeginsRecords, IsWhole}
unfoldable pub use Rattle.dn_records.specs.WholeRecords.{state_after}
pub use Rattle.dn_records.specs.Writing.{address_text, bytes_of, record_of, with_point}
pub use Rattle.dn_records.specs.declared.field.Field.{Field}
pub use Rattle.dn_records.specs.declared.field.Field.TheVariants.{Empty}
pub use Rattle.dn_records.specs.declared.state.Step.{Step}
pub use Rattle.memchr.specs.Find.{IsFirstByte, NoneAfter, NoneBefore, Nowhere, Passes, is_byte, is_byte2}
pub use Rattle.std.proofs.Common.{Bool, Bor, Err, IsSome, List, None, Ok, Option, Result, Some, [], add-one, ap, append_assoc, arith, codes, cond, decimal, drop, false, get_or, inl, inr, length}
pub use Rattle.std.proofs.Common.{length-append, length-drop, length-take, min, not, refl, subst, suc, sym, take, true, vec_len, zero, ℕ, ◌++◌, ◌+◌, ◌-◌, ◌/◌, ◌<◌, ◌==◌, ◌^◌, ◌∙◌, ◌∷◌, ◌≡◌, ◌≢◌}
pub use Rattle.std.proofs.Common.{◌≤◌, ◌⊎◌}
pub use Rattle.std.proofs.KnownBytes.{Appends-trans}
pub use Rattle.std.proofs.Math.Seq.{drop-append_seam, get_or-append_seam, split_at, take-add, take-append_seam}
pub use Rattle.std.proofs.lemmas.Bool.{cases_Bool, eqb-true, false_from_ne_true, false≢true, ne_eqb, not-false, or_parts}
pub use Rattle.std.proofs.lemmas.Bool.Decides.{Decides-eqb, eqb_tells, nat_tests}
pub use Rattle.std.proofs.lemmas.Fmt.{decimal_is_IsNumeral_wide, decimal_nonempty, length-decimal-le}
pub use Rattle.std.proofs.lemmas.List.{append-nil, drop-set, drop_more, flat_map_more, get_or-take, map-append, map_push, take-append-drop, take-take, take_all, take_more, take_rest}
pub use Rattle.std.proofs.lemmas.List.Elements.{All-from_get_or}
pub use Rattle.std.proofs.lemmas.List.Folds.{list_any-append, list_any_at, list_any_none}
pub use Rattle.std.proofs.lemmas.List.Splits.{join_with_byte-slice_split, length-slice_split, slice_split_at, slice_split_none}
pub use Rattle.std.proofs.lemmas.List.Sums.{count_by-le-length}
pub use Rattle.std.proofs.lemmas.Result.{on_err_weaker, on_ok_weaker}
pub use Rattle.std.proofs.lemmas.Slice.Eq.{strip_prefix_is, strip_suffix_is}
pub use Rattle.std.proofs.lemmas.Str.Parse.{digit_from_value}
pub use Rattle.std.specs.Io.{StartsWith}
pub use Rattle.std.specs.Io.KnownBytes.{Appends, Consumes}
pub use Rattle.std.specs.List.{All, join_with_byte, list_any, onto_first, slice_split}
pub use Rattle.std.specs.Option.{is_some}
pub use Rattle.std.specs.Prelude.{OnErr, flat_map, map, ◌%◌, ◌&&◌, ◌||◌}
pub use Rattle.std.specs.Str.Parse.{AllDigits}
pub use Rattle.std.specs.Vec.{vec_capacity}
