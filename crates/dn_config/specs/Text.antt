-- The canonical text of a command.
use Rattle.std.specs.Prelude.{ℕ, zero, suc, ◌+◌, ◌*◌, ◌-◌, ◌/◌, ◌%◌, ◌^◌, ◌==◌, cond, List, [], ◌∷◌, ◌++◌, Option, Some, None, codes, decimal}
use Rattle.std.specs.Char.{digit_char}
use Rattle.dn_types.specs.declared.limit.Limit.{Limit}
use Rattle.dn_types.specs.declared.limit.Limit.TheVariants.{Slots, Kbytes}
use Rattle.dn_types.specs.declared.mask.Mask.{Mask}
use Rattle.dn_config.specs.Masks.{has_all_bits, has_no_bits}
use Rattle.dn_types.specs.declared.command.Command.{Command}
use Rattle.dn_types.specs.declared.command.Command.TheVariants as c

-- The last so many digits of a number in a radix.
unfoldable pub zero_padded : ℕ → ℕ → ℕ → List ℕ
zero_padded radix zero n = []
zero_padded radix (suc k) n = zero_padded radix k (n / radix) ++ digit_char (n % radix) ∷ []

-- The rate t / 2^31 in units of 10^-18, rounded up.
abbrev pub rate_up : ℕ → ℕ
rate_up t = (t * 10 ^ 18 + (2 ^ 31 - 1)) / 2 ^ 31

-- A loss rate: 1, or 0 and 18 digits behind a point.
abbrev pub loss_text : ℕ → List ℕ
loss_text t = cond (t == 2 ^ 31) (codes "1") (codes "0." ++ zero_padded 10 18 (rate_up t))

-- A limit of a queue, in packets or in units of 1,024 bytes.
abbrev pub limit_text : Limit → List ℕ
limit_text (Slots n) = decimal n
limit_text (Kbytes n) = decimal n ++ codes "Kbytes"

-- The words of a canonical text, option by option, each where it differs from its default.
abbrev pub number_words : List ℕ → List ℕ → ℕ → ℕ → List (List ℕ)
number_words name unit default n = cond (n == default) [] (name ∷ (decimal n ++ unit) ∷ [])

-- 50 packets are the default; any limit in units of 1,024 bytes is written.
abbrev pub limit_words : Limit → List (List ℕ)
limit_words (Slots n) = cond (n == 50) [] (codes "queue" ∷ limit_text (Slots n) ∷ [])
limit_words (Kbytes n) = codes "queue" ∷ limit_text (Kbytes n) ∷ []

-- A loss rate, where it isn't 0.
abbrev pub loss_words : ℕ → List (List ℕ)
loss_words t = cond (t == 0) [] (codes "plr" ∷ loss_text t ∷ [])

-- A count of buckets, where there is one.
abbrev pub buckets_words : Option ℕ → List (List ℕ)
buckets_words None = []
buckets_words (Some n) = codes "buckets" ∷ decimal n ∷ []

-- A field of a mask, where it isn't 0.
abbrev pub field_words : List ℕ → ℕ → ℕ → List (List ℕ)
field_words name width n = cond (n == 0) [] (name ∷ (codes "0x" ++ zero_padded 16 width n) ∷ [])

-- The fields of a mask, each with a digit for four bits.
abbrev pub fields_words : Mask → List (List ℕ)
fields_words m =
    field_words (codes "dst-ip") 8 m.dst ++ (field_words (codes "src-ip") 8 m.src ++ (field_words (codes "dst-port") 4 m.dport
    ++ (field_words (codes "src-port") 4 m.sport ++ field_words (codes "proto") 2 m.proto)))

-- A mask, where it has bits.
abbrev pub mask_words : Mask → List (List ℕ)
mask_words m = cond (has_no_bits m) [] (codes "mask" ∷ cond (has_all_bits m) (codes "all" ∷ []) (fields_words m))

-- The options that both kinds of line have.
abbrev pub both_words : Limit → ℕ → Option ℕ → Mask → List (List ℕ)
both_words limit loss buckets mask = limit_words limit ++ (loss_words loss ++ (buckets_words buckets ++ mask_words mask))

-- The options that only the line of a pipe has.
unfoldable pub link_words : ℕ → ℕ → List (List ℕ)
link_words bw delay = number_words (codes "bw") (codes "bit/s") 0 bw ++ number_words (codes "delay") [] 0 delay

-- The options that only the line of a queue has.
unfoldable pub share_words : ℕ → ℕ → List (List ℕ)
share_words pipe weight = codes "pipe" ∷ decimal pipe ∷ number_words (codes "weight") [] 1 weight

-- The head of a `config` line.
abbrev pub head_words : List ℕ → ℕ → List (List ℕ) → List (List ℕ)
head_words kind number options = kind ∷ decimal number ∷ codes "config" ∷ options

-- The words of the canonical text of a command.
unfoldable pub text_words : Command → List (List ℕ)
text_words (c.Pipe n bw delay limit loss buckets mask) = head_words (codes "pipe") n (link_words bw delay ++ both_words limit loss buckets mask)
text_words (c.Queue n pipe weight limit loss buckets mask) = head_words (codes "queue") n (share_words pipe weight ++ both_words limit loss buckets mask)
text_words (c.DeletePipe n) = codes "pipe" ∷ codes "delete" ∷ decimal n ∷ []
text_words (c.DeleteQueue n) = codes "queue" ∷ codes "delete" ∷ decimal n ∷ []

-- The words with a space before each.
abbrev pub behind_spaces : List (List ℕ) → List ℕ
behind_spaces [] = []
behind_spaces (w ∷ ws) = 32 ∷ w ++ behind_spaces ws

-- The words with a space between each two.
abbrev pub spaced : List (List ℕ) → List ℕ
spaced [] = []
spaced (w ∷ ws) = w ++ behind_spaces ws

-- The canonical text of a command.
unfoldable pub text : Command → List ℕ
text command = spaced (text_words command)
