-- The queues in the store: what a change of the store leaves of a chain of packets.
use Rattle.dn_flows.proofs.Words.{ContainsKey, FlowQueue, IsChain, IsCounted, IsQueue, Lies, List, None, Packets, Shortens, Some, StoredPacket, TakesFront, Waiting, ap, arith, get, is_some}
use Rattle.dn_flows.proofs.Words.{key_after, lengths, refl, slice_get, stored_at, stored_or, subst, suc, sum, sym, waiting_from, zero, ℕ, ◌+◌, ◌<◌, ◌∙◌, ◌∷◌, ◌≡◌, ◌≤◌}
use Rattle.dn_flows.proofs.Bytes.{lengths-cons}

-- A key with a packet isn't free.
pub not-free : (store : Packets) (key other : ℕ) (stored : StoredPacket) → get store key ≡ None → get store other ≡ Some stored → other ≡ key → ⊥
not-free store key other stored free held same =
    absurd cc

module _ (owner behind owner' behind' : ℕ → ℕ) (old new : Packets) (flow : ℕ) where
  -- The flow's packets with fewer than n behind them lie where they lay.
  abbrev pub Stay : ℕ → Type 0
  Stay n = (key : ℕ) (stored : StoredPacket) → get old key ≡ Some stored → owner key ≡ flow → behind key < n → (get new key ≡ Some stored) × (owner' key ≡ flow) × (behind' key ≡ behind key)

  -- The chain from a key on is as it was.
  pub record Same (key n : ℕ) : Type 0 where
    pub chain : IsChain owner' behind' new flow key n
    pub waiting : waiting_from new key n ≡ waiting_from old key n
    pub keys : (m : ℕ) → m < n → key_after new key m ≡ key_after old key m

  pub stays : (key n : ℕ) → IsChain owner behind old flow key n → Stay n → Same key n
  stays key zero c stay = record { chain = tt; waiting = refl; keys = λ m lt. absurd (omega arith) }
  stays key (suc n) c stay = step (stays (c.0).next n c.4 (λ k s e o lt. stay k s e o (omega arith)))
    where
      now : (get new key ≡ Some c.0) × (owner' key ≡ flow) × (behind' key ≡ behind key)
      now = stay key c.0 c.1 c.2 (omega arith)

      read_new : stored_at new key ≡ c.0
      read_new = ap stored_or now.0

      read_old : stored_at old key ≡ c.0
      read_old = ap stored_or c.1

      step : Same (c.0).next n → Same key (suc n)
      step rest = record {
        chain = (c.0, now.0, now.1, now.2 ∙ c.3, rest.chain);
        waiting =
            ap (λ (s : StoredPacket). s.waiting ∷ waiting_from new s.next n) read_new
            ∙ ap (λ (ws : List Waiting). (c.0).waiting ∷ ws) rest.waiting
            ∙ sym (ap (λ (s : StoredPacket). s.waiting ∷ waiting_from old s.next n) read_old);
        keys = keys;
      }
        where
          keys : (m : ℕ) → m < suc n → key_after new key m ≡ key_after old key m
          keys zero lt = refl
          keys (suc m) lt = ap (λ (s : StoredPacket). key_after new s.next m) read_new ∙ rest.keys m (omega arith) ∙ sym (ap (λ (s : StoredPacket). key_after old s.next m) read_old)

-- The last packet of a chain is the flow's own, and none is behind it.
pub record IsEnd (owner behind : ℕ → ℕ) (store : Packets) (flow last : ℕ) : Type 0 where
  pub own : owner last ≡ flow
  pub none_behind : behind last ≡ 0
  pub stored : StoredPacket
  pub held : get store last ≡ Some stored

pub chain-end : (owner behind : ℕ → ℕ) (store : Packets) (flow key n : ℕ) → IsChain owner behind store flow key (suc n) → IsEnd owner behind store flow (key_after store key n)
chain-end owner behind store flow key zero c = record { own = c.2; none_behind = c.3; stored = c.0; held = c.1 }
chain-end owner behind store flow key (suc n) c =
    subst (IsEnd owner behind store flow) (sym (ap (λ (s : StoredPacket). key_after store s.next n) (ap stored_or c.1))) (chain-end owner behind store flow (c.0).next n c.4)

-- ---- The first packet leaves a queue

module _ (owner behind : ℕ → ℕ) (old new : Packets) (first : Waiting) (q q' : FlowQueue) (flow : ℕ) (t : TakesFront first old q new q') (is : IsQueue owner behind old flow q) where
  -- The queue after its first packet left.
  pub record Taken : Type 0 where
    pub chain : IsChain owner behind new flow q'.front q'.len
    pub waiting : waiting_from old q.front q.len ≡ first ∷ waiting_from new q'.front q'.len
    pub last : (n : ℕ) → q'.len ≡ suc n → key_after new q'.front n ≡ q'.back

  many : q.len ≡ suc q'.len
  many = omega arith

  parts : IsChain owner behind old flow q.front (suc q'.len)
  parts = subst (λ n. IsChain owner behind old flow q.front n) many is.chain

  pub front-own : owner q.front ≡ flow
  front-own = parts.2

  front_is : parts.0 ≡ record { waiting = first; next = t.next }
  front_is =
      let both : Some parts.0 ≡ Some (record { waiting = first; next = t.next }) = sym parts.1 ∙ t.front in
      ap stored_or both

  next_is : q'.front ≡ (parts.0).next
  next_is = ap (λ (x : FlowQueue). x.front) t.queue_is.2 ∙ sym (ap (λ (s : StoredPacket). s.next) front_is)

  own_stay : Stay owner behind owner behind old new flow q'.len
  own_stay key stored held own lt = (t.others key (λ e. let a = ap behind e in let b = parts.3 in absurd (omega arith)) ∙ held, own, refl)

  rest : Same owner behind owner behind old new flow (parts.0).next q'.len
  rest = stays owner behind owner behind old new flow (parts.0).next q'.len parts.4 own_stay

  pub taken : Taken
  taken = record {
    chain = subst (λ k. IsChain owner behind new flow k q'.len) (sym next_is) rest.chain;
    waiting =
        ap (λ n. waiting_from old q.front n) many
        ∙ ap (λ (s : StoredPacket). s.waiting ∷ waiting_from old s.next q'.len) (ap stored_or parts.1)
        ∙ (λ i. (front_is i).waiting ∷ (sym rest.waiting ∙ ap (λ k. waiting_from new k q'.len) (sym next_is)) i);
    last =
        λ n e. ap (λ k. key_after new k n) next_is ∙ rest.keys n (omega arith)
        ∙ sym (ap (λ (s : StoredPacket). key_after old s.next n) (ap stored_or parts.1)) ∙ is.last (suc n) (many ∙ ap suc e)
        ∙ sym (ap (λ (x : FlowQueue). x.back) t.queue_is.2);
  }

  -- Any other flow's packets stay.
  pub others-stay-taken : (other n : ℕ) → (other ≡ flow → ⊥) → Stay owner behind owner behind old new other n
  others-stay-taken other n ne key stored held own lt = (t.others key (λ e. ne (sym own ∙ ap owner e ∙ parts.2)) ∙ held, own, refl)

  -- What is left is the flow's queue still.
  pub taken-queue : IsQueue owner behind new flow q'
  taken-queue = record { chain = taken.chain; last = taken.last; counts = counts }
    where
      counts : IsCounted (waiting_from new q'.front q'.len) q'.len q'.bytes
      counts =
          let before = subst (λ (ws : List Waiting). IsCounted ws q.len q.bytes) taken.waiting is.counts in
          let bytes = lengths-cons first (waiting_from new q'.front q'.len) in
          let len = t.queue_is.0 in
          let sums = t.queue_is.1 in
          let all = before.many in
          let counted = before.counted in
          let bounded = before.bounded in
          record { many = omega arith; counted = omega arith; bounded = omega arith; short = before.short.2 }

-- ---- The first packet of a queue

module _ (owner behind : ℕ → ℕ) (store : Packets) (flow : ℕ) (q : FlowQueue) (is : IsQueue owner behind store flow q) where
  pub held-first : 0 < q.len → ContainsKey store q.front
  held-first some = by q.len refl
    where
      by : (n : ℕ) → q.len ≡ n → ContainsKey store q.front
      by zero none = absurd (omega arith)
      by (suc n) e = let c = subst (λ n. IsChain owner behind store flow q.front n) e is.chain in ap is_some c.1

  pub held-last : 0 < q.len → ContainsKey store q.back
  held-last some = by q.len refl
    where
      by : (n : ℕ) → q.len ≡ n → ContainsKey store q.back
      by zero none = absurd (omega arith)
      by (suc n) e =
          let end = chain-end owner behind store flow q.front n (subst (λ n. IsChain owner behind store flow q.front n) e is.chain) in
          subst (ContainsKey store) (is.last n e) (ap is_some end.held)

  pub short-first : 0 < q.len → (stored_at store q.front).waiting.len ≤ q.bytes
  short-first some = by q.len refl
    where
      by : (n : ℕ) → q.len ≡ n → (stored_at store q.front).waiting.len ≤ q.bytes
      by zero none = absurd (omega arith)
      by (suc n) e =
          let counted : q.bytes ≡ sum (lengths (waiting_from store q.front (suc n))) = is.counts.counted ∙ ap (λ n. sum (lengths (waiting_from store q.front n))) e in
          let first = lengths-cons (stored_at store q.front).waiting (waiting_from store (stored_at store q.front).next n) in
          omega arith

  -- The packet that the first one names is held too.
  pub held-second : (first : StoredPacket) → 2 ≤ q.len → get store q.front ≡ Some first → ContainsKey store first.next
  held-second first two here = by q.len refl
    where
      by : (n : ℕ) → q.len ≡ n → ContainsKey store first.next
      by zero few = absurd (omega arith)
      by (suc zero) few = absurd (omega arith)
      by (suc (suc n)) e =
          let c = subst (λ n. IsChain owner behind store flow q.front n) e is.chain in
          let same : c.0 ≡ first = ap stored_or (sym c.1 ∙ here) in
          subst (λ (s : StoredPacket). ContainsKey store s.next) same (ap is_some (c.4).1)

-- ---- The second packet of so many from a key on

pub second-waits : (store : Packets) (key n : ℕ) (first second : StoredPacket) → 2 ≤ n → get store key ≡ Some first → get store first.next ≡ Some second
    → slice_get (waiting_from store key n) 1 ≡ Some second.waiting
second-waits store key zero first second two here there = absurd (omega arith)
second-waits store key (suc zero) first second two here there = absurd (omega arith)
second-waits store key (suc (suc n)) first second two here there =
    ap (λ (s : StoredPacket). Some (stored_at store s.next).waiting) (ap stored_or here) ∙ ap (λ (s : StoredPacket). Some s.waiting) (ap stored_or there)

-- A queue with the same packets, whatever it counted.
abbrev pub SamePackets : FlowQueue → FlowQueue → Type 0
SamePackets q q' = (q'.front ≡ q.front) × (q'.back ≡ q.back) × (q'.len ≡ q.len) × (q'.bytes ≡ q.bytes)

pub same-queue : (owner behind : ℕ → ℕ) (store : Packets) (flow : ℕ) (q q' : FlowQueue) → SamePackets q q' → IsQueue owner behind store flow q → IsQueue owner behind store flow q'
same-queue owner behind store flow q q' same is = record {
  chain = subst (λ (k : ℕ × ℕ). IsChain owner behind store flow k.0 k.1) (λ i. (sym same.0 i, sym same.2 i)) is.chain;
  last = λ n e. ap (λ k. key_after store k n) same.0 ∙ is.last n (sym same.2 ∙ e) ∙ sym same.1;
  counts = subst (λ (k : ℕ × (ℕ × ℕ)). IsCounted (waiting_from store k.0 k.1.0) k.1.0 k.1.1) (λ i. (sym same.0 i, (sym same.2 i, sym same.3 i))) is.counts;
}

pub shortens-more : (old mid new : Packets) (first : Waiting) (q q₁ q' : FlowQueue) → Shortens old q mid q₁ → TakesFront first mid q₁ new q'
    → new.len + 1 ≡ mid.len → new.capacity ≡ mid.capacity → Shortens old q new q'
shortens-more old mid new first q q₁ q' s t len capacity = record {
  leaves = λ owner behind flow is.
      let left = s.leaves owner behind flow is in
      record {
        is = taken-queue owner behind mid new first q₁ q' flow t left.is;
        others = λ key stored held ne. t.others key (λ e. ne (ap owner e ∙ front-own owner behind mid new first q₁ q' flow t left.is)) ∙ left.others key stored held ne;
      };
  len = let a = s.len in let b = t.queue_is.0 in omega arith;
  capacity = capacity ∙ s.capacity;
  counts = (
    ap (λ (x : FlowQueue). x.reserved) t.queue_is.2 ∙ s.counts.0,
    ap (λ (x : FlowQueue). x.started) t.queue_is.2 ∙ s.counts.1,
  );
  home = ap (λ (x : FlowQueue). x.home) t.queue_is.2 ∙ s.home;
  flags = (
    ap (λ (x : FlowQueue). x.active) t.queue_is.2 ∙ s.flags.0,
    ap (λ (x : FlowQueue). x.on_pipe) t.queue_is.2 ∙ s.flags.1,
    ap (λ (x : FlowQueue). x.of_queue) t.queue_is.2 ∙ s.flags.2,
  );
}

pub lies-taken : (mid new : Packets) (first : Waiting) (q₁ q' : FlowQueue) → Lies mid q₁ → TakesFront first mid q₁ new q' → Lies new q'
lies-taken mid new first q₁ q' l t = record { owner = l.owner; behind = l.behind; flow = l.flow; is = taken-queue l.owner l.behind mid new first q₁ q' l.flow t l.is }
