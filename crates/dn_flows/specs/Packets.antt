-- The store of all packets that wait, as its users see it: what lies under each key, how many packets there are, and how many fit.
use Rattle.std.specs.Prelude.{◌≡◌, ◌≢◌, ℕ, ◌+◌, ◌<◌, ◌≤◌, true, cond, nat_eq, List, Option, None, IsSome, slice_get}
use Rattle.std.specs.List.{IsDistinct, list_any}
use Rattle.dn_flows.specs.declared.waiting.Waiting.{Waiting}

-- A packet in the store, and the key of the packet behind it in its queue.
pub record StoredPacket : Type 0 where
  pub waiting : Waiting
  pub next : ℕ

-- Users look at it by `get` alone: the places, of which some are free, are for the proof.
pub record Packets : Type 0 where
  pub places : List StoredPacket
  pub free : List ℕ
  pub len : ℕ
  pub capacity : ℕ

-- What lies under a key: the packet at that place, unless the place is free.
abbrev pub get : Packets → ℕ → Option StoredPacket
get store key = cond (list_any (nat_eq key) store.free) None (slice_get store.places key)

abbrev pub ContainsKey : Packets → ℕ → Type 0
ContainsKey store key = IsSome (get store key)

-- So many more packets fit.
abbrev pub HasRoomFor : Packets → ℕ → Type 0
HasRoomFor store more = store.len + more ≤ store.capacity

-- Under one key lies what is told, and under each other one what lay there.
pub record Updates (old new : Packets) (key : ℕ) (packet : Option StoredPacket) : Type 0 where
  pub changed : get new key ≡ packet
  pub others : (other : ℕ) → other ≢ key → get new other ≡ get old other

-- The packet names another as the one behind it.
abbrev pub with_next : ℕ → StoredPacket → StoredPacket
with_next next stored = record { waiting = stored.waiting; next = next }

-- The free keys are those of places, and no two are the same.
pub record AreFree (free : List ℕ) (places : ℕ) : Type 0 where
  pub distinct : IsDistinct nat_eq free
  pub within : (key : ℕ) → list_any (nat_eq key) free ≡ true → key < places
