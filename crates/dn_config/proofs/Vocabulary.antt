-- The words of libraries and of specs/ that the proofs of this crate use.
pub use Rattle.dn_config.specs.Commands.{AreShared, IsBetween, IsBuckets, IsLimit, IsMask, IsTyped}
pub use Rattle.dn_config.specs.Groups.{belongs, fields_at, group_len, group_settings, groups_after, mask_at, mask_len_after, option_at, value_of}
unfoldable pub use Rattle.dn_config.specs.Groups.{groups, mask_len, setting_of}
unfoldable pub use Rattle.dn_config.specs.Keywords.{field_of, is_left_out_word, option_of}
pub use Rattle.dn_config.specs.Line.{behind_kind, command_of, command_with, config_at, deletes}
unfoldable pub use Rattle.dn_config.specs.Line.{answer}
pub use Rattle.dn_config.specs.Masks.{all_bits, greatest_of, has_all_bits, has_no_bits, no_bits, set_field, with_fields}
pub use Rattle.dn_config.specs.Reading.{GoesOn, left, read_field}
unfoldable pub use Rattle.dn_config.specs.Reading.{read_fields, read_mask, read_named, read_options}
pub use Rattle.dn_config.specs.Settings.{defaults, filled, set_option}
pub use Rattle.dn_config.specs.Text.{behind_spaces, both_words, buckets_words, field_words, fields_words, limit_text, limit_words, loss_text, loss_words, mask_words, number_words, rate_up, spaced}
unfoldable pub use Rattle.dn_config.specs.Text.{link_words, share_words, text, text_words, zero_padded}
pub use Rattle.dn_config.specs.Tokens.Addresses.{octet_of}
unfoldable pub use Rattle.dn_config.specs.Tokens.Addresses.{address_of, at_point}
pub use Rattle.dn_config.specs.Tokens.Joined.{after_mark, joined_parts}
unfoldable pub use Rattle.dn_config.specs.Tokens.Joined.{parts_from}
pub use Rattle.dn_config.specs.Tokens.Lines.{is_line_feed, without_empty_end}
unfoldable pub use Rattle.dn_config.specs.Tokens.Lines.{lines_of}
pub use Rattle.dn_config.specs.Tokens.Numbers.{all_digits, number_within, unit}
unfoldable pub use Rattle.dn_config.specs.Tokens.Numbers.{number_of, numeral_of, within}
pub use Rattle.dn_config.specs.Tokens.Until.{behind_byte}
unfoldable pub use Rattle.dn_config.specs.Tokens.Until.{address_until, number_until}
pub use Rattle.dn_config.specs.Tokens.Words.{is_nonempty, is_separator}
unfoldable pub use Rattle.dn_config.specs.Tokens.Words.{words_of}
pub use Rattle.dn_config.specs.Values.{behind_point, buckets_at, kept, limited, pipe_or_queue_at, placed, rate_parts_of, times, weight_at}
unfoldable pub use Rattle.dn_config.specs.Values.{bandwidth_at, bits_at, bits_of, delay_at, limit_at, loss_at, rate_of}
pub use Rattle.dn_config.specs.Words.{is_hash}
unfoldable pub use Rattle.dn_config.specs.Words.{words}
pub use Rattle.dn_config.specs.declared.fault.LineFault.{LineFault}
pub use Rattle.dn_config.specs.declared.fault.LineFault.TheVariants.{BadNumber, LeftOut, MissingValue, NeedsPipe, OutOfRange, UnknownWord}
pub use Rattle.dn_config.specs.declared.kind.Kind.{Kind}
pub use Rattle.dn_config.specs.declared.mask_field.MaskField.{MaskField}
pub use Rattle.dn_config.specs.declared.mask_field.MaskWord.{MaskWord}
pub use Rattle.dn_config.specs.declared.option_group.OptionWord.{OptionWord}
pub use Rattle.dn_config.specs.declared.option_group.Parameter.{Parameter}
pub use Rattle.dn_config.specs.declared.option_group.Setting.{Setting}
pub use Rattle.dn_config.specs.declared.options.Options.{Options}
pub use Rattle.dn_config.specs.declared.tokens.number_fault.NumberFault.{NumberFault}
pub use Rattle.dn_config.specs.declared.tokens.number_fault.NumberFault.TheVariants.{Range}
pub use Rattle.dn_types.specs.declared.command.Command.{Command}
pub use Rattle.dn_types.specs.declared.limit.Limit.{Limit}
pub use Rattle.dn_types.specs.declared.limit.Limit.TheVariants.{Kbytes, Slots}
pub use Rattle.dn_types.specs.declared.mask.Mask.{Mask}
pub use Rattle.std.proofs.Common.{Bool, Err, List, None, Ok, Option, Result, Some, [], add-one, add-zero, ap, append-nil, append_assoc, arith, below_more, cond, drop, drop-cons, false, get_or}
pub use Rattle.std.proofs.Common.{inl, inr, length, length-append, length-drop, length-take, not, one-add, refl, subst, suc, sym, take, true, zero, ℕ, ◌%◌, ◌*◌, ◌++◌, ◌+◌, ◌-◌, ◌/◌, ◌<◌, ◌==◌}
pub use Rattle.std.proofs.Common.{◌^◌, ◌∙◌, ◌∷◌, ◌≡◌, ◌≢◌, ◌≤◌, ◌⊎◌}
pub use Rattle.std.proofs.Math.Nat.{div-le_of_le-mul, div-lt_iff_lt-mul, mod-lt, pow-le-pow_right, pow-suc, pow-zero}
pub use Rattle.std.proofs.lemmas.Bool.{and_from, and_parts, cases_Bool, cases_lt, eq-eqb, eqb-false, eqb-true, le-leb, leb-true, lt-leb, lt-ltb, ltb-true, ne_eqb}
pub use Rattle.std.proofs.lemmas.Bool.Decides.{nat_tests}
pub use Rattle.std.proofs.lemmas.Fmt.{decimal_digit, decimal_is_IsNumeral, first_decimal}
pub use Rattle.std.proofs.lemmas.Grind.{common_steps}
pub use Rattle.std.proofs.lemmas.Int.Digits.{digits_value_more, digits_value_push}
pub use Rattle.std.proofs.lemmas.List.{drop_all, drop_at, get_or-take, take-append-drop, take-take, take_all, take_at, take_more, take_rest}
pub use Rattle.std.proofs.lemmas.List.Sums.{position_or_len_is, prefix_len_is}
pub use Rattle.std.proofs.lemmas.Nat.{div-add-mod', mul-le}
pub use Rattle.std.proofs.lemmas.Result.{err_from_is_err_and}
pub use Rattle.std.proofs.lemmas.Str.{IsAscii-append, IsUtf8-from_ascii, digit_value-digit_char}
pub use Rattle.std.proofs.lemmas.Str.Ascii.{IsAscii-cons, IsAscii-nil}
pub use Rattle.std.proofs.lemmas.Str.Parse.{digit_from_value, digits_value-take-le, digits_value_short, numerals_by_value, tells_digits}
pub use Rattle.std.specs.Char.{digit_char, digit_value, is_ascii_alphabetic, is_ascii_digit}
pub use Rattle.std.specs.List.{before_first, list_all, onto_first, position_or_len, prefix_len, slice_split}
pub use Rattle.std.specs.Prelude.{IfSome, IsSome, bytes_eq, codes, decimal, filter, is_some, min, nat_eq, nat_le, nat_lt, ok_or, option_map, slice_index, ◌&&◌, ◌||◌, ◌↔◌}
pub use Rattle.std.specs.Result.{result_ok}
pub use Rattle.std.specs.Str.{IsAscii, IsUtf8}
pub use Rattle.std.specs.Str.Parse.{AllDigits, digits_value}
