-- The packets that a `Sched` keeps, by slot, and that they are those of its schedule.
use Rattle.std.specs.Prelude.{◌≡◌, ℕ, ◌-◌, List, [], ◌++◌, map}
use Rattle.std.specs.List.{All}
use Rattle.std.specs.Global.{Global}
use Rattle.std.specs.VecDeque.{deque_items, deque_len, deque_capacity}
use Rattle.std_alloc.specs.declared.vec.deque.VecDeque.{VecDeque}
use Rattle.dn_types.specs.Wf2q.{Stamped}
use Rattle.dn_wf2q.specs.Schedule.{Flow, Schedule, one_each}

-- The lengths and weights of packets, oldest first.
abbrev pub Queue : Type 0
Queue = VecDeque (ℕ × ℕ) Global

-- For how many more packets a queue has room.
abbrev pub spare : Queue → ℕ
spare q = deque_capacity q - deque_len q

-- A packet as it is kept, without its tags.
abbrev pub untagged : Stamped → ℕ × ℕ
untagged p = (p.len, p.weight)

abbrev pub untagged_of : Flow → List (ℕ × ℕ)
untagged_of flow = map untagged flow.backlog

-- The queue at each slot has the packets of the flow there.
abbrev pub AreStored : List Flow → List Queue → Type 0
AreStored flows queues = map untagged_of flows ≡ map deque_items queues

-- What holds between calls.
pub record IsStored (heads : Schedule) (queues : List Queue) : Type 0 where
  pub stored : AreStored heads.flows queues
  pub rooms : heads.room ≡ one_each heads.flows

-- The second list is the first and then empty queues.
pub record IsMore (xs ys : List Queue) : Type 0 where
  pub more : List Queue
  pub is : ys ≡ xs ++ more
  pub empty : All (λ q. deque_items q ≡ []) more
