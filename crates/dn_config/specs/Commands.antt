-- Which commands there are: those whose values are in the ranges of their types.
use Rattle.std.specs.Prelude.{ℕ, ◌≤◌, ◌<◌, ◌^◌, ⊤, Option, Some, None}
use Rattle.dn_types.specs.declared.limit.Limit.{Limit}
use Rattle.dn_types.specs.declared.limit.Limit.TheVariants.{Slots, Kbytes}
use Rattle.dn_types.specs.declared.mask.Mask.{Mask}
use Rattle.dn_types.specs.declared.command.Command.{Command}
use Rattle.dn_types.specs.declared.command.Command.TheVariants as c

-- A number from the least to the greatest.
abbrev pub IsBetween : ℕ → ℕ → ℕ → Type 0
IsBetween least greatest n = (least ≤ n) × (n ≤ greatest)

-- 1 to 10000 packets, or 1 to 1024 units of 1,024 bytes.
abbrev pub IsLimit : Limit → Type 0
IsLimit (Slots n) = IsBetween 1 10000 n
IsLimit (Kbytes n) = IsBetween 1 1024 n

-- No count of buckets, or 16 to 65536.
abbrev pub IsBuckets : Option ℕ → Type 0
IsBuckets None = ⊤
IsBuckets (Some n) = IsBetween 16 65536 n

-- Each field of the mask fits its type.
pub record IsMask (m : Mask) : Type 0 where
  pub src : m.src < 2 ^ 32
  pub dst : m.dst < 2 ^ 32
  pub proto : m.proto < 256
  pub sport : m.sport < 65536
  pub dport : m.dport < 65536

-- The values that both kinds of line have.
pub record AreShared (limit : Limit) (loss : ℕ) (buckets : Option ℕ) (mask : Mask) : Type 0 where
  pub limit_in_range : IsLimit limit
  pub loss_in_range : loss ≤ 2 ^ 31
  pub buckets_in_range : IsBuckets buckets
  pub mask_in_range : IsMask mask

-- The values of a command are those that its types can hold.
abbrev pub IsTyped : Command → Type 0
IsTyped (c.Pipe n bw delay limit loss buckets mask) = IsBetween 1 65535 n × (bw ≤ 1000000000000) × (delay ≤ 3600000) × AreShared limit loss buckets mask
IsTyped (c.Queue n pipe weight limit loss buckets mask) = IsBetween 1 65535 n × IsBetween 1 65535 pipe × IsBetween 1 100 weight × AreShared limit loss buckets mask
IsTyped (c.DeletePipe n) = IsBetween 1 65535 n
IsTyped (c.DeleteQueue n) = IsBetween 1 65535 n
