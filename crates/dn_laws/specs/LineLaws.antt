-- The laws of configuration lines: what a line says without options, what each option changes and leaves, and in which units.
use Rattle.std.specs.Prelude.{ℕ, ◌≡◌, ◌≤◌, ◌<◌, ◌+◌, ◌*◌, ◌-◌, ◌^◌, ◌⊎◌, true, List, [], ◌∷◌, ◌++◌, length, map, codes, decimal, Option, Some, None, Ok, Err}
use Rattle.std.specs.Char.{to_ascii_lowercase, is_ascii_digit}
use Rattle.std.specs.List.{list_all}
use Rattle.std.specs.Str.Parse.{digits_value}
use Rattle.dn_config.specs.Line.{command_of}
use Rattle.dn_config.specs.declared.fault.LineFault.TheVariants.{OutOfRange}
use Rattle.dn_laws.specs.Determined.Emulators.{Has}
use Rattle.dn_types.specs.declared.command.Command.{Command}
use Rattle.dn_types.specs.declared.command.Command.TheVariants.{Pipe, Queue}
use Rattle.dn_types.specs.declared.limit.Limit.{Limit}
use Rattle.dn_types.specs.declared.limit.Limit.TheVariants.{Slots, Kbytes}
use Rattle.dn_types.specs.declared.mask.Mask.{Mask}

-- The words of a line with a number and options say the command.
abbrev pub Says : List ℕ → ℕ → List (List ℕ) → Command → Type 0
Says kind n options command = command_of (kind ∷ decimal n ∷ codes "config" ∷ options) ≡ Ok (Some command)

-- Bits or bytes of 8 bits a second, or a thousand, a million or a billion of them, in either case. Without a unit they are bits.
abbrev pub multiples : List (List ℕ × ℕ)
multiples = (codes "", 1) ∷ (codes "k", 1000) ∷ (codes "m", 1000 * 1000) ∷ (codes "g", 1000 * 1000 * 1000) ∷ []

abbrev pub endings : List (List ℕ × ℕ)
endings = (codes "", 1) ∷ (codes "bit/s", 1) ∷ (codes "bits/s", 1) ∷ (codes "byte/s", 8) ∷ (codes "bytes/s", 8) ∷ []

abbrev pub IsRate : List ℕ → ℕ → Type 0
IsRate v rate = (count : ℕ) × (unit : List ℕ) × (multiple : List ℕ × ℕ) × (ending : List ℕ × ℕ) × Has multiples multiple × Has endings ending
    × (v ≡ decimal count ++ unit) × (map to_ascii_lowercase unit ≡ multiple.0 ++ ending.0) × (rate ≡ count * multiple.1 * ending.1)

-- A number of packets, or of units of 1,024 bytes, which have a name behind it.
abbrev pub IsLimit : List ℕ → Limit → Type 0
IsLimit v (Slots count) = (v ≡ decimal count) × (1 ≤ count) × (count ≤ 10000)
IsLimit v (Kbytes count) = (unit : List ℕ) × (v ≡ decimal count ++ unit) × (1 ≤ count) × (count ≤ 1024) × Has (codes "k" ∷ codes "kb" ∷ codes "kbyte" ∷ codes "kbytes" ∷ []) (map to_ascii_lowercase unit)

-- The rate, 1 at most, is the number of all digits over 10 for each place behind the point (46). Kept are the units of 2^-31 that it holds.
pub record IsLoss (v : List ℕ) (kept : ℕ) : Type 0 where
  pub whole : List ℕ
  pub places : List ℕ
  pub text : v ≡ whole ++ 46 ∷ places
  pub digits : list_all is_ascii_digit (whole ++ places) ≡ true
  pub few : (0 < length (whole ++ places)) × (length whole ≤ 18) × (length places ≤ 18)
  pub rate : digits_value 10 (whole ++ places) ≤ 10 ^ length places
  pub holds : kept * 10 ^ length places ≤ digits_value 10 (whole ++ places) * 2 ^ 31
  pub no_more : digits_value 10 (whole ++ places) * 2 ^ 31 < (kept + 1) * 10 ^ length places

-- One field keeps these bits alone, and `all` each bit of each field.
abbrev pub no_bits : Mask
no_bits = record { src = 0; dst = 0; proto = 0; sport = 0; dport = 0 }

abbrev pub with_bits : ℕ → List (List ℕ × ℕ × Mask)
with_bits k = (codes "dst-ip", 2 ^ 32, record no_bits { dst = k }) ∷ (codes "src-ip", 2 ^ 32, record no_bits { src = k }) ∷ (codes "dst-port", 2 ^ 16, record no_bits { dport = k })
    ∷ (codes "src-port", 2 ^ 16, record no_bits { sport = k }) ∷ (codes "proto", 2 ^ 8, record no_bits { proto = k }) ∷ []

abbrev pub IsMask : List (List ℕ) → Mask → Type 0
IsMask words mask = ((words ≡ codes "all" ∷ []) × (mask ≡ record { src = 2 ^ 32 - 1; dst = 2 ^ 32 - 1; proto = 2 ^ 8 - 1; sport = 2 ^ 16 - 1; dport = 2 ^ 16 - 1 }))
    ⊎ ((name : List ℕ) × (k below : ℕ) × (words ≡ name ∷ decimal k ∷ []) × Has (with_bits k) (name, below, mask) × (k < below))

-- Without options nothing is limited, delayed or lost, a queue has 50 slots, and its weight is 1.
pub record DefaultsAreKnown : Type 0 where
  pub pipe : (n : ℕ) → 1 ≤ n → n ≤ 65535 → Says (codes "pipe") n [] (Pipe n 0 0 (Slots 50) 0 None no_bits)
  pub queue : (n p : ℕ) → 1 ≤ n → n ≤ 65535 → 1 ≤ p → p ≤ 65535 → Says (codes "queue") n (codes "pipe" ∷ decimal p ∷ []) (Queue n p 1 (Slots 50) 0 None no_bits)

-- One option more changes its own value, and no other.
pub record OnPipes (n rate wait lost : ℕ) (most : Limit) (count : Option ℕ) (bits : Mask) (options : List (List ℕ)) : Type 0 where
  pub bw : (v : List ℕ) (k : ℕ) → IsRate v k → k ≤ 10 ^ 12 → Says (codes "pipe") n (options ++ codes "bw" ∷ v ∷ []) (Pipe n k wait most lost count bits)
  pub delay : (k : ℕ) (unit : List ℕ) → Has (codes "" ∷ codes "ms" ∷ []) unit → k ≤ 3600000 → Says (codes "pipe") n (options ++ codes "delay" ∷ (decimal k ++ unit) ∷ []) (Pipe n rate k most lost count bits)
  pub queue : (v : List ℕ) (l : Limit) → IsLimit v l → Says (codes "pipe") n (options ++ codes "queue" ∷ v ∷ []) (Pipe n rate wait l lost count bits)
  pub plr : (v : List ℕ) (k : ℕ) → IsLoss v k → Says (codes "pipe") n (options ++ codes "plr" ∷ v ∷ []) (Pipe n rate wait most k count bits)
  pub buckets : (k : ℕ) → 16 ≤ k → k ≤ 65536 → Says (codes "pipe") n (options ++ codes "buckets" ∷ decimal k ∷ []) (Pipe n rate wait most lost (Some k) bits)
  pub mask : (words : List (List ℕ)) (m : Mask) → IsMask words m → Says (codes "pipe") n (options ++ codes "mask" ∷ words) (Pipe n rate wait most lost count m)

pub record OnQueues (n carrier share lost : ℕ) (most : Limit) (count : Option ℕ) (bits : Mask) (options : List (List ℕ)) : Type 0 where
  pub pipe : (k : ℕ) → 1 ≤ k → k ≤ 65535 → Says (codes "queue") n (options ++ codes "pipe" ∷ decimal k ∷ []) (Queue n k share most lost count bits)
  pub weight : (k : ℕ) → 1 ≤ k → k ≤ 100 → Says (codes "queue") n (options ++ codes "weight" ∷ decimal k ∷ []) (Queue n carrier k most lost count bits)
  pub queue : (v : List ℕ) (l : Limit) → IsLimit v l → Says (codes "queue") n (options ++ codes "queue" ∷ v ∷ []) (Queue n carrier share l lost count bits)
  pub plr : (v : List ℕ) (k : ℕ) → IsLoss v k → Says (codes "queue") n (options ++ codes "plr" ∷ v ∷ []) (Queue n carrier share most k count bits)
  pub buckets : (k : ℕ) → 16 ≤ k → k ≤ 65536 → Says (codes "queue") n (options ++ codes "buckets" ∷ decimal k ∷ []) (Queue n carrier share most lost (Some k) bits)
  pub mask : (words : List (List ℕ)) (m : Mask) → IsMask words m → Says (codes "queue") n (options ++ codes "mask" ∷ words) (Queue n carrier share most lost count m)

abbrev pub PipesAreSet : Type 0
PipesAreSet = (n rate wait lost : ℕ) (most : Limit) (count : Option ℕ) (bits : Mask) (options : List (List ℕ)) → 1 ≤ n → n ≤ 65535 →
    Says (codes "pipe") n options (Pipe n rate wait most lost count bits) → OnPipes n rate wait lost most count bits options

abbrev pub QueuesAreSet : Type 0
QueuesAreSet = (n carrier share lost : ℕ) (most : Limit) (count : Option ℕ) (bits : Mask) (options : List (List ℕ)) → 1 ≤ n → n ≤ 65535 →
    Says (codes "queue") n options (Queue n carrier share most lost count bits) → OnQueues n carrier share lost most count bits options

-- An option whose value is a number, what may stand behind the number, and the least and the greatest one.
abbrev pub ranges : List (List ℕ × List ℕ × List ℕ × ℕ × ℕ)
ranges = (codes "pipe", codes "bw", codes "", 0, 10 ^ 12) ∷ (codes "pipe", codes "delay", codes "", 0, 3600000) ∷ (codes "pipe", codes "queue", codes "", 1, 10000)
    ∷ (codes "pipe", codes "queue", codes "K", 1, 1024) ∷ (codes "pipe", codes "buckets", codes "", 16, 65536) ∷ (codes "queue", codes "weight", codes "", 1, 100)
    ∷ (codes "queue", codes "pipe", codes "", 1, 65535) ∷ []

-- The fifth word of a line is out of range: another number, or a loss rate above 1.
pub record RangesAreKnown (n : ℕ) : Type 0 where
  pub numbers : (k : ℕ) (row : List ℕ × List ℕ × List ℕ × ℕ × ℕ) → Has ranges row → k < 2 ^ 64 → (k < row.3) ⊎ (row.4 < k)
      → command_of (row.0 ∷ decimal n ∷ codes "config" ∷ row.1 ∷ (decimal k ++ row.2) ∷ []) ≡ Err (OutOfRange 5)
  pub losses : (whole places : List ℕ) → list_all is_ascii_digit (whole ++ places) ≡ true → 0 < length (whole ++ places) → length whole ≤ 18 → length places ≤ 18
      → 10 ^ length places < digits_value 10 (whole ++ places) → command_of (codes "pipe" ∷ decimal n ∷ codes "config" ∷ codes "plr" ∷ (whole ++ 46 ∷ places) ∷ []) ≡ Err (OutOfRange 5)

abbrev pub OthersAreRefused : Type 0
OthersAreRefused = (n : ℕ) → 1 ≤ n → n ≤ 65535 → RangesAreKnown n
