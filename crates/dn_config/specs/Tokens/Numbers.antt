-- How numbers are written. A text is the list of its bytes, and a number has its mathematical value, however long it is.
use Rattle.std.specs.Prelude.{ℕ, ◌==◌, ◌&&◌, cond, nat_lt, nat_le, List, length, drop, take_while, Bool, Option, Some, None, Result, Ok, Err, slice_index}
use Rattle.std.specs.List.{list_all, prefix_len}
use Rattle.std.specs.Char.{digit_value, is_ascii_digit}
use Rattle.std.specs.Str.Parse.{digits_value}
use Rattle.dn_config.specs.declared.tokens.number_fault.NumberFault.{NumberFault}
use Rattle.dn_config.specs.declared.tokens.number_fault.NumberFault.TheVariants.{Shape, Range}

-- Whether each byte is a digit of the radix.
abbrev pub all_digits : ℕ → List ℕ → Bool
all_digits radix text = list_all (λ byte. nat_lt (digit_value byte) radix) text

-- The value of one digit or more, leading zeros allowed.
unfoldable pub numeral_of : ℕ → List ℕ → Option ℕ
numeral_of radix text = cond (nat_lt 0 (length text) && all_digits radix text) (Some (digits_value radix text)) None

-- The value of a decimal number: `0`, or a digit 1 to 9 followed by any digits.
unfoldable pub number_of : List ℕ → Option ℕ
number_of text = cond (nat_lt 1 (length text) && (slice_index text 0 == 48)) None (numeral_of 10 text)

-- A number of a range. That there is a number at all is asked before its range.
unfoldable pub within : ℕ → ℕ → Option ℕ → Result ℕ NumberFault
within least greatest None = Err Shape
within least greatest (Some n) = cond (nat_le least n && nat_le n greatest) (Ok n) (Err Range)

-- The number of a range that a text writes.
abbrev pub number_within : ℕ → ℕ → List ℕ → Result ℕ NumberFault
number_within least greatest text = within least greatest (number_of text)

-- The decimal digits that a text begins with.
abbrev pub digits : List ℕ → List ℕ
digits text = take_while is_ascii_digit text

-- What follows these digits.
abbrev pub unit : List ℕ → List ℕ
unit text = drop (prefix_len is_ascii_digit text) text
