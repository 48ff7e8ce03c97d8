-- How the queues lie in the store of all packets: each is a chain, in which every packet names the key of the one behind it.
use Rattle.std.specs.Prelude.{ℕ, zero, suc, ◌≡◌, ◌≢◌, ◌⊎◌, true, false, cond, nat_eq, min, Vec, vec_capacity, ◌-◌, ◌+◌, ◌<◌, ◌≤◌, ◌^◌, ⊤, List, [], ◌∷◌, Option, Some, None, length, sum, slice_get}
use Rattle.std.specs.Global.{Global}
use Rattle.std.specs.Option.{option_map}
use Rattle.std.specs.List.{sum_by}
use Rattle.dn_flows.specs.Packets.{Packets, StoredPacket, HasRoomFor, get, with_next}
use Rattle.dn_flows.specs.declared.flow_queue.FlowQueue.{FlowQueue}
use Rattle.dn_flows.specs.declared.unsent.Unsent.{Unsent}
use Rattle.dn_flows.specs.declared.waiting.Waiting.{Waiting}
use Rattle.dn_types.specs.declared.target.Target.{Target}
use Rattle.dn_types.specs.declared.target.Target.TheVariants.{Pipe as ToPipe, Queue as ToQueue}
use Rattle.dn_flows.specs.Table.{FlowState, lengths, no_home}

-- Each packet has 1 to 65535 bytes.
abbrev pub AreShort : List Waiting → Type 0
AreShort [] = ⊤
AreShort (w ∷ ws) = (1 ≤ w.len) × (w.len ≤ 65535) × AreShort ws

-- The count of the packets that wait and of their bytes, which is below 2^32.
pub record IsCounted (backlog : List Waiting) (len bytes : ℕ) : Type 0 where
  pub many : len ≡ length backlog
  pub counted : bytes ≡ sum (lengths backlog)
  pub bounded : bytes < 2 ^ 32
  pub short : AreShort backlog

-- The packet under a key, and what it names as the next. Where the store has none, any will do.
abbrev pub stored_or : Option StoredPacket → StoredPacket
stored_or None = record { waiting = record { packet = 0; len = 1; weight = 1 }; next = 0 }
stored_or (Some stored) = stored

abbrev pub stored_at : Packets → ℕ → StoredPacket
stored_at store key = stored_or (get store key)

-- So many packets from a key on, each behind the one before.
abbrev pub waiting_from : Packets → ℕ → ℕ → List Waiting
waiting_from store key zero = []
waiting_from store key (suc n) = (stored_at store key).waiting ∷ waiting_from store ((stored_at store key).next) n

-- The key that so many steps lead to.
abbrev pub key_after : Packets → ℕ → ℕ → ℕ
key_after store key zero = key
key_after store key (suc n) = key_after store ((stored_at store key).next) n

-- The queue without a packet, and none of whose packets started.
abbrev pub new_queue : FlowQueue
new_queue = record { front = 0; back = 0; len = 0; bytes = 0; reserved = false; active = false; on_pipe = false; of_queue = false; started = 0; home = no_home }

-- What callers see of the flow with the queue, but for the counts of packets that are never sent.
abbrev pub state_of : Packets → FlowQueue → FlowState
state_of store q = record { backlog = waiting_from store q.front q.len; reserved = q.reserved; active = q.active; lost = 0; full = 0; started = q.started; discarded = 0; home = q.home }

-- What callers see of a flow with these counts, and of all flows by the counts that lie beside them.
abbrev pub with_unsent : Unsent → FlowState → FlowState
with_unsent u s = record { backlog = s.backlog; reserved = s.reserved; active = s.active; lost = u.lost; full = u.full; started = s.started; discarded = u.discarded; home = s.home }

abbrev pub all_with_unsent : List FlowState → List Unsent → List FlowState
all_with_unsent [] unsent = []
all_with_unsent (s ∷ states) [] = s ∷ states
all_with_unsent (s ∷ states) (u ∷ unsent) = with_unsent u s ∷ all_with_unsent states unsent

-- So many packets from a key on are the flow's own, by labels that only the proof knows: each packet has one owner, and a
-- count of the packets behind it. So no packet is in two queues, or twice in one.
abbrev pub IsChain : (ℕ → ℕ) → (ℕ → ℕ) → Packets → ℕ → ℕ → ℕ → Type 0
IsChain owner behind store flow key zero = ⊤
IsChain owner behind store flow key (suc n) = (stored : StoredPacket) × (get store key ≡ Some stored) × (owner key ≡ flow) × (behind key ≡ n) × IsChain owner behind store flow stored.next n

-- The queue of a flow goes from its front to its back, and counts its packets and their bytes.
pub record IsQueue (owner behind : ℕ → ℕ) (store : Packets) (flow : ℕ) (q : FlowQueue) : Type 0 where
  pub chain : IsChain owner behind store flow q.front q.len
  pub last : (n : ℕ) → q.len ≡ suc n → key_after store q.front n ≡ q.back
  pub counts : IsCounted (waiting_from store q.front q.len) q.len q.bytes

-- The queues of all flows lie in the store.
pub record AreStored (store : Packets) (queues : List FlowQueue) : Type 0 where
  pub owner : ℕ → ℕ
  pub behind : ℕ → ℕ
  pub queues_are : (flow : ℕ) (q : FlowQueue) → slice_get queues flow ≡ Some q → IsQueue owner behind store flow q

-- How many flows have a reserved place. The store has room for a packet of each.
abbrev pub reserved_one : FlowQueue → ℕ
reserved_one q = cond q.reserved 1 0

abbrev pub reservations : List FlowQueue → ℕ
reservations queues = sum_by reserved_one queues

abbrev pub HasReserved : Packets → List FlowQueue → ℕ → Type 0
HasReserved store queues reserved = (reserved ≡ reservations queues) × HasRoomFor store reserved

-- The queue of a flow that leaves the list of a target, and lets go of the place that was reserved.
abbrev pub without_list : Target → FlowQueue → FlowQueue
without_list (ToPipe pipe) q = record q { reserved = false; on_pipe = false }
without_list (ToQueue queue) q = record q { reserved = false; of_queue = false }

-- How many new flows find room: in the list of queues, in that of counts, and among the keys.
abbrev pub spare_of : Vec FlowQueue Global → Vec Unsent Global → ℕ → ℕ
spare_of queues unsent keys = min (min (vec_capacity queues - length queues.items) (vec_capacity unsent - length unsent.items)) keys

-- ---- What the calls on a queue do to the store

-- A packet joins the end of a queue: it lies under a key that was free, and the packet before it names that key.
pub record Appends (w : Waiting) (old : Packets) (q : FlowQueue) (new : Packets) (q' : FlowQueue) : Type 0 where
  pub key : ℕ
  pub next : ℕ
  pub free : get old key ≡ None
  pub put : get new key ≡ Some (record { waiting = w; next = next })
  pub named : (n : ℕ) → q.len ≡ suc n → q.back ≢ key → get new q.back ≡ option_map (with_next key) (get old q.back)
  pub others : (other : ℕ) → other ≢ key → (q.len ≡ 0) ⊎ (other ≢ q.back) → get new other ≡ get old other
  pub queue_is : q' ≡ record q { front = cond (nat_eq q.len 0) key q.front; back = key; len = q.len + 1; bytes = q.bytes + w.len; reserved = false; active = true }

-- The first packet of a queue leaves the store.
pub record TakesFront (first : Waiting) (old : Packets) (q : FlowQueue) (new : Packets) (q' : FlowQueue) : Type 0 where
  pub next : ℕ
  pub some : 0 < q.len
  pub front : get old q.front ≡ Some (record { waiting = first; next = next })
  pub others : (other : ℕ) → other ≢ q.front → get new other ≡ get old other
  pub queue_is : (q'.len + 1 ≡ q.len) × (q'.bytes + first.len ≡ q.bytes) × (q' ≡ record q { front = next; len = q'.len; bytes = q'.bytes })

-- A queue lies in the store, whatever else does.
pub record Lies (store : Packets) (q : FlowQueue) : Type 0 where
  pub owner : ℕ → ℕ
  pub behind : ℕ → ℕ
  pub flow : ℕ
  pub is : IsQueue owner behind store flow q

-- Only packets of the flow left the store, and its queue lies there with what is left.
pub record OnlyOwnLeft (owner behind : ℕ → ℕ) (flow : ℕ) (new : Packets) (q' : FlowQueue) (old : Packets) : Type 0 where
  pub is : IsQueue owner behind new flow q'
  pub others : (key : ℕ) (stored : StoredPacket) → get old key ≡ Some stored → (owner key ≡ flow → ⊥) → get new key ≡ Some stored

-- Some packets of a queue left the store, and all else that the queue keeps stays.
pub record Shortens (old : Packets) (q : FlowQueue) (new : Packets) (q' : FlowQueue) : Type 0 where
  pub leaves : (owner behind : ℕ → ℕ) (flow : ℕ) → IsQueue owner behind old flow q → OnlyOwnLeft owner behind flow new q' old
  pub len : new.len + q.len ≡ old.len + q'.len
  pub capacity : new.capacity ≡ old.capacity
  pub counts : (q'.reserved ≡ q.reserved) × (q'.started ≡ q.started)
  pub home : q'.home ≡ q.home
  pub flags : (q'.active ≡ q.active) × (q'.on_pipe ≡ q.on_pipe) × (q'.of_queue ≡ q.of_queue)
