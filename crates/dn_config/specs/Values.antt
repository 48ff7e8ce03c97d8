-- The values of options. A fault has the position of the value.
use Rattle.std.specs.Prelude.{ℕ, ◌+◌, ◌*◌, ◌-◌, ◌/◌, ◌^◌, ◌==◌, cond, ◌&&◌, ◌||◌, nat_lt, nat_le, List, [], ◌∷◌, length, drop, Option, Some, None, Result, Ok, Err, slice_index, codes, bytes_eq, map, option_map}
use Rattle.std.specs.Char.{is_ascii_alphabetic, to_ascii_lowercase}
use Rattle.std.specs.Str.Parse.{digits_value}
use Rattle.dn_types.specs.declared.limit.Limit.{Limit}
use Rattle.dn_types.specs.declared.limit.Limit.TheVariants.{Slots, Kbytes}
use Rattle.dn_config.specs.Tokens.Numbers.{numeral_of, number_of, within, number_within, digits, unit}
use Rattle.dn_config.specs.declared.tokens.number_fault.NumberFault.{NumberFault}
use Rattle.dn_config.specs.declared.tokens.number_fault.NumberFault.TheVariants.{Shape, Range}
use Rattle.dn_config.specs.Keywords.{is_among}
use Rattle.dn_config.specs.declared.fault.LineFault.{LineFault}
use Rattle.dn_config.specs.declared.fault.LineFault.TheVariants.{BadNumber, OutOfRange, LeftOut}

-- The fault of a line whose number at the position has this fault.
abbrev pub number_fault : ℕ → NumberFault → LineFault
number_fault at Shape = BadNumber at
number_fault at Range = OutOfRange at

-- A number of a line, or its fault at the position.
abbrev pub placed : ℕ → Result ℕ NumberFault → Result ℕ LineFault
placed at (Ok n) = Ok n
placed at (Err fault) = Err (number_fault at fault)

-- A word in lower case, by ASCII's letters alone.
abbrev pub lower : List ℕ → List ℕ
lower w = map to_ascii_lowercase w

-- The number of a pipe or of a queue.
abbrev pub pipe_or_queue_at : ℕ → List ℕ → Result ℕ LineFault
pipe_or_queue_at at w = placed at (number_within 1 65535 w)

-- The weight of a queue.
abbrev pub weight_at : ℕ → List ℕ → Result ℕ LineFault
weight_at at w = placed at (number_within 1 100 w)

-- The count of buckets.
abbrev pub buckets_at : ℕ → List ℕ → Result ℕ LineFault
buckets_at at w = placed at (number_within 16 65536 w)

-- A number, and then `ms` or nothing.
unfoldable pub delay_at : ℕ → List ℕ → Result ℕ LineFault
delay_at at w = cond (is_among (codes "" ∷ codes "ms" ∷ []) (unit w)) (placed at (number_within 0 3600000 (digits w))) (Err (BadNumber at))

-- A limit of one kind, made of its number.
abbrev pub limited : (ℕ → Limit) → Result ℕ LineFault → Result Limit LineFault
limited f (Ok n) = Ok (f n)
limited f (Err e) = Err e

-- A number of slots, or a number and `K`, `KB`, `Kbyte` or `Kbytes` in either case.
unfoldable pub limit_at : ℕ → List ℕ → Result Limit LineFault
limit_at at w =
    cond (is_among (codes "" ∷ []) (unit w)) (limited Slots (placed at (number_within 1 10000 (digits w))))
    (cond (is_among (codes "k" ∷ codes "kb" ∷ codes "kbyte" ∷ codes "kbytes" ∷ []) (lower (unit w)))
    (limited Kbytes (placed at (number_within 1 1024 (digits w))))
    (Err (BadNumber at)))

-- What the letter before a unit multiplies by (107 is `k`, 109 `m`, 103 `g`), and the unit behind it.
abbrev pub scaled_unit : List ℕ → ℕ × List ℕ
scaled_unit u =
    cond (slice_index u 0 == 107) (1000, drop 1 u)
    (cond (slice_index u 0 == 109) (1000000, drop 1 u)
    (cond (slice_index u 0 == 103) (1000000000, drop 1 u) (1, u)))

-- How many bits a unit has.
abbrev pub unit_bits : List ℕ → Option ℕ
unit_bits u =
    cond (is_among (codes "" ∷ codes "bit/s" ∷ codes "bits/s" ∷ []) u) (Some 1)
    (cond (is_among (codes "byte/s" ∷ codes "bytes/s" ∷ []) u) (Some 8) None)

-- The bits per second of a unit in lower case.
unfoldable pub rate_of : List ℕ → Option ℕ
rate_of u = option_map (λ bits. (scaled_unit u).0 * bits) (unit_bits (scaled_unit u).1)

-- So many times the number, if there is one.
abbrev pub times : ℕ → Option ℕ → Option ℕ
times k o = option_map (λ n. n * k) o

-- A number of units of bandwidth, where the unit is one.
abbrev pub rated : ℕ → Option ℕ → Option ℕ → Result ℕ LineFault
rated at None count = Err (BadNumber at)
rated at (Some k) count = placed at (within 0 1000000000000 (times k count))

-- A number and a unit in either case, at most 10^12 bit/s. What begins with a letter is the name of a device.
unfoldable pub bandwidth_at : ℕ → List ℕ → Result ℕ LineFault
bandwidth_at at w =
    cond (is_ascii_alphabetic (slice_index w 0)) (Err (LeftOut at))
    (rated at (rate_of (lower (unit w))) (number_of (digits w)))

-- The digits behind a point (46 is `.`), and no digits where there is no point.
abbrev pub behind_point : List ℕ → Option (List ℕ)
behind_point [] = Some []
behind_point (c ∷ fs) = cond (c == 46 && bytes_eq (unit fs) []) (Some (digits fs)) None

-- The rate, in units of 10^-18, that the digits before and behind the point write.
abbrev pub rate_parts : List ℕ → List ℕ → ℕ
rate_parts ds fs = digits_value 10 ds * 10 ^ 18 + digits_value 10 fs * 10 ^ (18 - length fs)

-- 0 to 18 digits before the point and 0 to 18 behind it, at least one digit in all.
abbrev pub rate_parts_of : List ℕ → Option (List ℕ) → Option ℕ
rate_parts_of ds None = None
rate_parts_of ds (Some fs) = cond (nat_le (length ds) 18 && (nat_le (length fs) 18 && nat_lt 0 (length ds + length fs))) (Some (rate_parts ds fs)) None

-- A rate as it is kept: in units of 2^-31, rounded down.
abbrev pub kept : Result ℕ LineFault → Result ℕ LineFault
kept (Ok n) = Ok (n * 2 ^ 31 / 10 ^ 18)
kept (Err e) = Err e

-- A loss rate, 0 to 1.
unfoldable pub loss_at : ℕ → List ℕ → Result ℕ LineFault
loss_at at w = kept (placed at (within 0 (10 ^ 18) (rate_parts_of (digits w) (behind_point (unit w)))))

-- A number, or `0x` or `0X` and hexadecimal digits (48 is `0`, 120 `x`, 88 `X`).
unfoldable pub bits_of : List ℕ → Option ℕ
bits_of w =
    cond (slice_index w 0 == 48 && (slice_index w 1 == 120 || slice_index w 1 == 88)) (numeral_of 16 (drop 2 w)) (number_of w)

-- The value of a mask field up to its greatest. A word that begins with `/` (47) is a prefix length, which is left out.
unfoldable pub bits_at : ℕ → ℕ → List ℕ → Result ℕ LineFault
bits_at at greatest w = cond (slice_index w 0 == 47) (Err (LeftOut at)) (placed at (within 0 greatest (bits_of w)))
