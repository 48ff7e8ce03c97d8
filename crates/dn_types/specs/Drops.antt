-- Drops: when a packet is lost (`plr` of ipfw(8)) and when its queue is full (`queue` of ipfw(8)).
use Rattle.std.specs.Prelude.{ℕ, ◌*◌, ◌%◌, ◌^◌, Bool, List, sum, length, nat_lt, nat_le}
use Rattle.dn_types.specs.declared.limit.Limit.{Limit}
use Rattle.dn_types.specs.declared.limit.Limit.TheVariants.{Slots, Kbytes}

-- A packet is lost where the low 31 bits of its word are below the loss rate, which is in parts of 2^31.
abbrev pub is_lost : ℕ → ℕ → Bool
is_lost loss word = nat_lt (word % 2 ^ 31) loss

-- A queue, given by the lengths of its packets, is full where it holds as many packets as its limit, or more bytes
-- than its limit of units of 1,024 bytes. The packet that asks isn't counted (this project's own rule).
abbrev pub is_full : Limit → List ℕ → Bool
is_full (Slots count) lengths = nat_le count (length lengths)
is_full (Kbytes count) lengths = nat_lt (count * 1024) (sum lengths)
