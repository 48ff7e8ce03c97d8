-- Lines and their answers, computed from the definition.
use Rattle.dn_config.proofs.Vocabulary.{BadNumber, Command, Err, Kbytes, LeftOut, LineFault, MissingValue, NeedsPipe, None, Ok, Option, Options, OutOfRange, Result, Some, UnknownWord, all_bits, answer}
use Rattle.dn_config.proofs.Vocabulary.{bandwidth_at, bits_at, bits_of, codes, defaults, delay_at, field_of, groups, is_left_out_word, limit_at, loss_at, mask_len, no_bits, number_of, numeral_of}
use Rattle.dn_config.proofs.Vocabulary.{option_of, rate_of, refl, setting_of, within, words, words_of, ℕ, ◌≡◌}
use Rattle.dn_types.specs.declared.command.Command.TheVariants as c

abbrev pub pipe : ℕ → Options → Command
pipe n o = c.Pipe n o.bw o.delay o.limit o.loss o.buckets o.mask

abbrev pub queue : ℕ → ℕ → Options → Command
queue n to o = c.Queue n to o.weight o.limit o.loss o.buckets o.mask

-- what an answer is
abbrev pub Answer : Type 0
Answer = Result (Option Command) LineFault

abbrev pub canonical : Command
canonical = pipe 7 (record defaults { limit = Kbytes 20; loss = 214748364; bw = 8000000; mask = record no_bits { dst = 255; proto = 255 } })

refused_number : ◌≡◌ {A = Answer} (answer (codes "pipe 0 config")) (Err (OutOfRange 2))
unfolding answer words words_of groups setting_of mask_len option_of field_of is_left_out_word within number_of numeral_of delay_at limit_at rate_of bandwidth_at loss_at bits_of bits_at
refused_number = refl

refused_weight : ◌≡◌ {A = Answer} (answer (codes "queue 1 config weight 101 pipe 1")) (Err (OutOfRange 5))
unfolding answer words words_of groups setting_of mask_len option_of field_of is_left_out_word within number_of numeral_of delay_at limit_at rate_of bandwidth_at loss_at bits_of bits_at
refused_weight = refl

needs_its_pipe : ◌≡◌ {A = Answer} (answer (codes "queue 1 config weight 5")) (Err (NeedsPipe 1))
unfolding answer words words_of groups setting_of mask_len option_of field_of is_left_out_word within number_of numeral_of delay_at limit_at rate_of bandwidth_at loss_at bits_of bits_at
needs_its_pipe = refl

red_left_out : ◌≡◌ {A = Answer} (answer (codes "pipe 1 config red 0.002/3/7/0.1")) (Err (LeftOut 4))
unfolding answer words words_of groups setting_of mask_len option_of field_of is_left_out_word within number_of numeral_of delay_at limit_at rate_of bandwidth_at loss_at bits_of bits_at
red_left_out = refl

bandwidth_with_a_point : ◌≡◌ {A = Answer} (answer (codes "pipe 1 config bw 1.5Mbit/s")) (Err (BadNumber 5))
unfolding answer words words_of groups setting_of mask_len option_of field_of is_left_out_word within number_of numeral_of delay_at limit_at rate_of bandwidth_at loss_at bits_of bits_at
bandwidth_with_a_point = refl

device_name : ◌≡◌ {A = Answer} (answer (codes "pipe 1 config bw tun0")) (Err (LeftOut 5))
unfolding answer words words_of groups setting_of mask_len option_of field_of is_left_out_word within number_of numeral_of delay_at limit_at rate_of bandwidth_at loss_at bits_of bits_at
device_name = refl

bandwidth_missing : ◌≡◌ {A = Answer} (answer (codes "pipe 1 config bw")) (Err (MissingValue 4))
unfolding answer words words_of groups setting_of mask_len option_of field_of is_left_out_word within number_of numeral_of delay_at limit_at rate_of bandwidth_at loss_at bits_of bits_at
bandwidth_missing = refl

weight_of_a_pipe : ◌≡◌ {A = Answer} (answer (codes "ipfw pipe 1 config weight 3")) (Err (UnknownWord 5))
unfolding answer words words_of groups setting_of mask_len option_of field_of is_left_out_word within number_of numeral_of delay_at limit_at rate_of bandwidth_at loss_at bits_of bits_at
weight_of_a_pipe = refl

prefix_length : ◌≡◌ {A = Answer} (answer (codes "queue 1 config pipe 1 mask dst-ip /24")) (Err (LeftOut 8))
unfolding answer words words_of groups setting_of mask_len option_of field_of is_left_out_word within number_of numeral_of delay_at limit_at rate_of bandwidth_at loss_at bits_of bits_at
prefix_length = refl

comment_alone : ◌≡◌ {A = Answer} (answer (codes "# note")) (Ok None)
unfolding answer words words_of groups setting_of mask_len option_of field_of is_left_out_word within number_of numeral_of delay_at limit_at rate_of bandwidth_at loss_at bits_of bits_at
comment_alone = refl

greatest_bandwidth : ◌≡◌ {A = Answer} (answer (codes "pipe 1 config bw 1000G")) (Ok (Some (pipe 1 (record defaults { bw = 1000000000000 }))))
unfolding answer words words_of groups setting_of mask_len option_of field_of is_left_out_word within number_of numeral_of delay_at limit_at rate_of bandwidth_at loss_at bits_of bits_at
greatest_bandwidth = refl

greatest_bytes : ◌≡◌ {A = Answer} (answer (codes "pipe 1 config bw 125GBytes/s")) (Ok (Some (pipe 1 (record defaults { bw = 1000000000000 }))))
unfolding answer words words_of groups setting_of mask_len option_of field_of is_left_out_word within number_of numeral_of delay_at limit_at rate_of bandwidth_at loss_at bits_of bits_at
greatest_bytes = refl

too_many_bytes : ◌≡◌ {A = Answer} (answer (codes "pipe 1 config bw 126GByte/s")) (Err (OutOfRange 5))
unfolding answer words words_of groups setting_of mask_len option_of field_of is_left_out_word within number_of numeral_of delay_at limit_at rate_of bandwidth_at loss_at bits_of bits_at
too_many_bytes = refl

last_bandwidth_counts : ◌≡◌ {A = Answer} (answer (codes "pipe 1 config bw 1M bw 2M")) (Ok (Some (pipe 1 (record defaults { bw = 2000000 }))))
unfolding answer words words_of groups setting_of mask_len option_of field_of is_left_out_word within number_of numeral_of delay_at limit_at rate_of bandwidth_at loss_at bits_of bits_at
last_bandwidth_counts = refl

leading_zero : ◌≡◌ {A = Answer} (answer (codes "pipe 1 config queue 01")) (Err (BadNumber 5))
unfolding answer words words_of groups setting_of mask_len option_of field_of is_left_out_word within number_of numeral_of delay_at limit_at rate_of bandwidth_at loss_at bits_of bits_at
leading_zero = refl

point_alone : ◌≡◌ {A = Answer} (answer (codes "pipe 1 config plr .")) (Err (BadNumber 5))
unfolding answer words words_of groups setting_of mask_len option_of field_of is_left_out_word within number_of numeral_of delay_at limit_at rate_of bandwidth_at loss_at bits_of bits_at
point_alone = refl

rate_above_one : ◌≡◌ {A = Answer} (answer (codes "pipe 1 config plr 1.000000000000000001")) (Err (OutOfRange 5))
unfolding answer words words_of groups setting_of mask_len option_of field_of is_left_out_word within number_of numeral_of delay_at limit_at rate_of bandwidth_at loss_at bits_of bits_at
rate_above_one = refl

mask_without_fields : ◌≡◌ {A = Answer} (answer (codes "pipe 1 config mask")) (Err (MissingValue 4))
unfolding answer words words_of groups setting_of mask_len option_of field_of is_left_out_word within number_of numeral_of delay_at limit_at rate_of bandwidth_at loss_at bits_of bits_at
mask_without_fields = refl

ipfw_alone : ◌≡◌ {A = Answer} (answer (codes "ipfw")) (Err (MissingValue 1))
unfolding answer words words_of groups setting_of mask_len option_of field_of is_left_out_word within number_of numeral_of delay_at limit_at rate_of bandwidth_at loss_at bits_of bits_at
ipfw_alone = refl

show_left_out : ◌≡◌ {A = Answer} (answer (codes "pipe show 1")) (Err (LeftOut 2))
unfolding answer words words_of groups setting_of mask_len option_of field_of is_left_out_word within number_of numeral_of delay_at limit_at rate_of bandwidth_at loss_at bits_of bits_at
show_left_out = refl

delete_before_the_number : ◌≡◌ {A = Answer} (answer (codes "pipe delete 1")) (Ok (Some (c.DeletePipe 1)))
unfolding answer words words_of groups setting_of mask_len option_of field_of is_left_out_word within number_of numeral_of delay_at limit_at rate_of bandwidth_at loss_at bits_of bits_at
delete_before_the_number = refl

delete_behind_the_number : ◌≡◌ {A = Answer} (answer (codes "pipe 1 delete")) (Ok (Some (c.DeletePipe 1)))
unfolding answer words words_of groups setting_of mask_len option_of field_of is_left_out_word within number_of numeral_of delay_at limit_at rate_of bandwidth_at loss_at bits_of bits_at
delete_behind_the_number = refl

two_numbers_to_delete : ◌≡◌ {A = Answer} (answer (codes "queue delete 2 3")) (Err (UnknownWord 4))
unfolding answer words words_of groups setting_of mask_len option_of field_of is_left_out_word within number_of numeral_of delay_at limit_at rate_of bandwidth_at loss_at bits_of bits_at
two_numbers_to_delete = refl

word_behind_a_delete : ◌≡◌ {A = Answer} (answer (codes "queue 2 delete now")) (Err (UnknownWord 4))
unfolding answer words words_of groups setting_of mask_len option_of field_of is_left_out_word within number_of numeral_of delay_at limit_at rate_of bandwidth_at loss_at bits_of bits_at
word_behind_a_delete = refl

delete_without_a_number : ◌≡◌ {A = Answer} (answer (codes "pipe delete")) (Err (MissingValue 2))
unfolding answer words words_of groups setting_of mask_len option_of field_of is_left_out_word within number_of numeral_of delay_at limit_at rate_of bandwidth_at loss_at bits_of bits_at
delete_without_a_number = refl

delete_out_of_range : ◌≡◌ {A = Answer} (answer (codes "ipfw pipe 0 delete")) (Err (OutOfRange 3))
unfolding answer words words_of groups setting_of mask_len option_of field_of is_left_out_word within number_of numeral_of delay_at limit_at rate_of bandwidth_at loss_at bits_of bits_at
delete_out_of_range = refl

show_behind_a_number : ◌≡◌ {A = Answer} (answer (codes "pipe 1 show")) (Err (LeftOut 3))
unfolding answer words words_of groups setting_of mask_len option_of field_of is_left_out_word within number_of numeral_of delay_at limit_at rate_of bandwidth_at loss_at bits_of bits_at
show_behind_a_number = refl

keyword_as_bandwidth : ◌≡◌ {A = Answer} (answer (codes "pipe 1 config bw bw 5")) (Err (LeftOut 5))
unfolding answer words words_of groups setting_of mask_len option_of field_of is_left_out_word within number_of numeral_of delay_at limit_at rate_of bandwidth_at loss_at bits_of bits_at
keyword_as_bandwidth = refl

keyword_as_delay : ◌≡◌ {A = Answer} (answer (codes "pipe 1 config delay bw")) (Err (BadNumber 5))
unfolding answer words words_of groups setting_of mask_len option_of field_of is_left_out_word within number_of numeral_of delay_at limit_at rate_of bandwidth_at loss_at bits_of bits_at
keyword_as_delay = refl

delay_in_upper_case : ◌≡◌ {A = Answer} (answer (codes "pipe 1 config delay 5MS")) (Err (BadNumber 5))
unfolding answer words words_of groups setting_of mask_len option_of field_of is_left_out_word within number_of numeral_of delay_at limit_at rate_of bandwidth_at loss_at bits_of bits_at
delay_in_upper_case = refl

keyword_as_mask_value : ◌≡◌ {A = Answer} (answer (codes "pipe 1 config mask dst-ip red")) (Err (BadNumber 6))
unfolding answer words words_of groups setting_of mask_len option_of field_of is_left_out_word within number_of numeral_of delay_at limit_at rate_of bandwidth_at loss_at bits_of bits_at
keyword_as_mask_value = refl

left_out_in_a_mask : ◌≡◌ {A = Answer} (answer (codes "pipe 1 config mask red")) (Err (LeftOut 5))
unfolding answer words words_of groups setting_of mask_len option_of field_of is_left_out_word within number_of numeral_of delay_at limit_at rate_of bandwidth_at loss_at bits_of bits_at
left_out_in_a_mask = refl

mask_value_missing : ◌≡◌ {A = Answer} (answer (codes "pipe 1 config mask dst-ip")) (Err (MissingValue 5))
unfolding answer words words_of groups setting_of mask_len option_of field_of is_left_out_word within number_of numeral_of delay_at limit_at rate_of bandwidth_at loss_at bits_of bits_at
mask_value_missing = refl

no_mask_field : ◌≡◌ {A = Answer} (answer (codes "pipe 1 config mask foo")) (Err (MissingValue 4))
unfolding answer words words_of groups setting_of mask_len option_of field_of is_left_out_word within number_of numeral_of delay_at limit_at rate_of bandwidth_at loss_at bits_of bits_at
no_mask_field = refl

delete_show : ◌≡◌ {A = Answer} (answer (codes "pipe delete show")) (Err (BadNumber 3))
unfolding answer words words_of groups setting_of mask_len option_of field_of is_left_out_word within number_of numeral_of delay_at limit_at rate_of bandwidth_at loss_at bits_of bits_at
delete_show = refl

later_mask_begins_anew : ◌≡◌ {A = Answer} (answer (codes "pipe 1 config mask proto 1 mask dst-ip 0xff")) (Ok (Some (pipe 1 (record defaults { mask = record no_bits { dst = 255 } }))))
unfolding answer words words_of groups setting_of mask_len option_of field_of is_left_out_word within number_of numeral_of delay_at limit_at rate_of bandwidth_at loss_at bits_of bits_at
later_mask_begins_anew = refl

later_value_of_a_field : ◌≡◌ {A = Answer} (answer (codes "pipe 1 config mask all dst-ip 0 dst-ip 0xff")) (Ok (Some (pipe 1 (record defaults { mask = record all_bits { dst = 255 } }))))
unfolding answer words words_of groups setting_of mask_len option_of field_of is_left_out_word within number_of numeral_of delay_at limit_at rate_of bandwidth_at loss_at bits_of bits_at
later_value_of_a_field = refl

canonical_read : ◌≡◌ {A = Answer} (answer (codes "ipfw pipe 7 config queue 20KBYTES plr .1 bw 1MByte/s mask proto 255 dst-ip 255 # x")) (Ok (Some canonical))
unfolding answer words words_of groups setting_of mask_len option_of field_of is_left_out_word within number_of numeral_of delay_at limit_at rate_of bandwidth_at loss_at bits_of bits_at
canonical_read = refl
