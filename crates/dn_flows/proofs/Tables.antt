-- The table of flows after one queue changed, or one was added or taken out.
use Rattle.dn_flows.proofs.Words.{Appends, AreStored, Bool, ContainsKey, FlowQueue, FlowState, IsCounted, IsQueue, Lies, List, None, OnlyOwnLeft, Packets, Shortens, Some, TakesFront, Unsent}
use Rattle.dn_flows.proofs.Words.{Waiting, [], all_with_unsent, ap, arith, cases_eq, cond, emptied, false, flow_at, get, get_or, inl, inr, length, length-map, length-set, lengths, map, new_flow}
use Rattle.dn_flows.proofs.Words.{new_queue, popped, popped_from, pushed, refl, reservations, reserved_one, set, slice_get, state_of, stored_at, subst, suc, sum, sum_by-cons, sym, take, true}
use Rattle.dn_flows.proofs.Words.{waiting_from, with_place, with_unsent, zero, ℕ, ◌++◌, ◌+◌, ◌-◌, ◌<◌, ◌^◌, ◌∙◌, ◌∷◌, ◌≡◌, ◌≤◌, ◌⊎◌}
use Rattle.dn_flows.proofs.Appended.{Appended, appended, owner-appended, behind-appended, others-stay-appended}
use Rattle.dn_flows.proofs.Bytes.{lengths-push, AreShort-push, no_more_than_bytes}
use Rattle.dn_flows.proofs.Chains.{Stay, Same, stays, same-queue, SamePackets, taken, taken-queue, others-stay-taken, held-first, held-last, short-first}
use Rattle.dn_flows.proofs.Counted.{Keeps, kept, carried, start-leaves, length_unsent, read-counts, both-set}
use Rattle.dn_flows.proofs.Places.{get-set, get-set-other, get-read, get-more, get-kept, length-more, map-set-but, sum-set}

-- Each queue reserves one place at most.
pub at-most-one-each : (queues : List FlowQueue) → reservations queues ≤ length queues
at-most-one-each [] = omega arith
at-most-one-each (q ∷ queues) =
    let all = sum_by-cons reserved_one q queues in
    let others = at-most-one-each queues in
    let one : reserved_one q ≤ 1 = by q.reserved in
    omega arith
  where
    by : (b : Bool) → cond b 1 0 ≤ 1
    by true = omega arith
    by false = omega arith

-- ---- The flow with a queue

pub flow-read : (store : Packets) (queues : List FlowQueue) (flow : ℕ) (q : FlowQueue) → slice_get queues flow ≡ Some q → flow_at (map (state_of store) queues) flow ≡ state_of store q
flow-read store [] flow q e = absurd cc
flow-read store (z ∷ queues) zero q e = let same : z ≡ q = cc in ap (state_of store) same
flow-read store (z ∷ queues) (suc flow) q e = flow-read store queues flow q e

-- ---- One queue changes

-- A queue whose packets stay is the flow's queue still, and stands for what it stood for.
stay-queue : (owner behind owner' behind' : ℕ → ℕ) (old new : Packets) (flow : ℕ) (q : FlowQueue) → IsQueue owner behind old flow q
    → Stay owner behind owner' behind' old new flow q.len → IsQueue owner' behind' new flow q × (state_of new q ≡ state_of old q)
stay-queue owner behind owner' behind' old new flow q is stay = (
  record {
    chain = same.chain;
    last = λ n e. same.keys n (omega arith) ∙ is.last n e;
    counts = subst (λ (ws : List Waiting). IsCounted ws q.len q.bytes) (sym same.waiting) is.counts;
  },
  λ i. record { backlog = same.waiting i; reserved = q.reserved; active = q.active; lost = 0; full = 0; started = q.started; discarded = 0; home = q.home },
)
  where
    same : Same owner behind owner' behind' old new flow q.front q.len
    same = stays owner behind owner' behind' old new flow q.front q.len is.chain stay

-- The table after the flow's queue changed, which may have changed the store.
pub record Changed (old new : Packets) (queues : List FlowQueue) (flow : ℕ) (q' : FlowQueue) : Type 0 where
  pub stored : AreStored new (set queues flow q')
  pub states : map (state_of new) (set queues flow q') ≡ set (map (state_of old) queues) flow (state_of new q')

changed : (old new : Packets) (queues : List FlowQueue) (flow : ℕ) (q q' : FlowQueue) (are : AreStored old queues) (owner' behind' : ℕ → ℕ)
    → slice_get queues flow ≡ Some q → ((g n : ℕ) → (g ≡ flow → ⊥) → Stay are.owner are.behind owner' behind' old new g n)
    → IsQueue owner' behind' new flow q' → Changed old new queues flow q'
changed old new queues flow q q' are owner' behind' there stay is = record {
  stored = record { owner = owner'; behind = behind'; queues_are = λ g x e. by g x e (cases_eq g flow) };
  states = map-set-but (state_of old) (state_of new) queues flow q' (λ g x e ne. (stay-queue are.owner are.behind owner' behind' old new g x (are.queues_are g x e) (stay g x.len ne)).1);
}
  where
    by : (g : ℕ) (x : FlowQueue) → slice_get (set queues flow q') g ≡ Some x → (g ≡ flow) ⊎ (g ≡ flow → ⊥) → IsQueue owner' behind' new g x
    by g x e (inl same) =
        let both : Some q' ≡ Some x = sym (get-set queues flow q q' there) ∙ ap (slice_get (set queues flow q')) (sym same) ∙ e in
        let one : q' ≡ x = cc in
        subst (λ (p : ℕ × FlowQueue). IsQueue owner' behind' new p.0 p.1) (λ i. (sym same i, one i)) is
    by g x e (inr ne) =
        let before = sym (get-set-other queues flow g q' ne) ∙ e in
        (stay-queue are.owner are.behind owner' behind' old new g x (are.queues_are g x before) (stay g x.len ne)).0

-- A flow that is set as it was.
set-read : (flows : List FlowState) (flow : ℕ) → set flows flow (flow_at flows flow) ≡ flows
set-read [] flow = refl
set-read (s ∷ flows) zero = refl
set-read (s ∷ flows) (suc flow) = λ i. s ∷ set-read flows flow i

-- There are as many flows as queues.
pub as-many-flows : (store : Packets) (queues : List FlowQueue) (unsent : List Unsent) → length (all_with_unsent (map (state_of store) queues) unsent) ≡ length queues
as-many-flows store queues unsent = length_unsent (map (state_of store) queues) unsent ∙ length-map queues (state_of store)

-- ---- A call on the flow with a queue

-- The queue was read at the flow's place of the table.
pub record IsAt (store : Packets) (queues : List FlowQueue) (unsent : List Unsent) (flow : ℕ) (q : FlowQueue) : Type 0 where
  pub are : AreStored store queues
  pub within : flow < length (all_with_unsent (map (state_of store) queues) unsent)
  pub read : q ≡ get_or queues flow q

module _ {old : Packets} {queues : List FlowQueue} {unsent : List Unsent} {flow : ℕ} {q : FlowQueue} (here : IsAt old queues unsent flow q) where
  abbrev are : AreStored old queues
  are = here.are

  -- The flows as callers see them.
  abbrev pub seen : List FlowState
  seen = all_with_unsent (map (state_of old) queues) unsent

  pub there : slice_get queues flow ≡ Some q
  there = get-read queues flow q (let e = as-many-flows old queues unsent in omega arith) here.read

  pub queue-is : IsQueue are.owner are.behind old flow q
  queue-is = are.queues_are flow q there

  -- What callers see of the flow, but for the counts beside its queue.
  pub read-state : flow_at (map (state_of old) queues) flow ≡ state_of old q
  read-state = flow-read old queues flow q there

  pub reads : Keeps (flow_at seen flow) (state_of old q)
  reads = subst (Keeps (flow_at seen flow)) read-state (kept (map (state_of old) queues) unsent flow)

  -- There are fewer packets than a queue may have bytes.
  pub few : q.len < 2 ^ 32
  few =
      let many = queue-is.counts.many in
      let counted = queue-is.counts.counted in
      let bounded = queue-is.counts.bounded in
      let bytes = no_more_than_bytes (waiting_from old q.front q.len) queue-is.counts.short in
      omega arith

  -- The bytes that wait are those that the queue counts.
  pub fits : (n : ℕ) → sum (lengths (flow_at seen flow).backlog) + n < 2 ^ 32 → q.bytes + n < 2 ^ 32
  fits n lt =
      let counted = queue-is.counts.counted in
      let same = ap (λ (ws : List Waiting). sum (lengths ws)) reads.backlog in
      omega arith

  -- How many places are reserved after the call.
  reserving : (q' : FlowQueue) → reservations (set queues flow q') + reserved_one q ≡ reservations queues + reserved_one q'
  reserving q' = sum-set reserved_one queues flow q q' there

  pub same-reserved : (q' : FlowQueue) → q'.reserved ≡ q.reserved → reservations (set queues flow q') ≡ reservations queues
  same-reserved q' same =
      let sums = reserving q' in
      let one : reserved_one q' ≡ reserved_one q = ap (λ b. cond b 1 0) same in
      omega arith

  -- The flow whose place is reserved uses it up, or gets one.
  pub one-less : (q' : FlowQueue) → q.reserved ≡ true → q'.reserved ≡ false → reservations (set queues flow q') + 1 ≡ reservations queues
  one-less q' had has =
      let sums = reserving q' in
      let one : reserved_one q ≡ 1 = ap (λ b. cond b 1 0) had in
      let none : reserved_one q' ≡ 0 = ap (λ b. cond b 1 0) has in
      omega arith

  pub one-more : (q' : FlowQueue) → q.reserved ≡ false → q'.reserved ≡ true → reservations (set queues flow q') ≡ reservations queues + 1
  one-more q' had has =
      let sums = reserving q' in
      let none : reserved_one q ≡ 0 = ap (λ b. cond b 1 0) had in
      let one : reserved_one q' ≡ 1 = ap (λ b. cond b 1 0) has in
      omega arith

  -- No more places are reserved than there are flows.
  pub few-reserved : q.reserved ≡ false → reservations queues + 1 ≤ length queues
  few-reserved none =
      let more = one-more (record q { reserved = true }) none refl in
      let most = at-most-one-each (set queues flow (record q { reserved = true })) in
      let many = length-set queues flow (record q { reserved = true }) in
      omega arith

  -- The table after the call, by which the flow stands for `s`.
  pub record After (new : Packets) (q' : FlowQueue) (s : FlowState) : Type 0 where
    pub stored : AreStored new (set queues flow q')
    pub states : all_with_unsent (map (state_of new) (set queues flow q')) unsent ≡ set seen flow s

  -- A change that leaves the counts beside the queue.
  abbrev pub Leaving : (FlowState → FlowState) → Type 0
  Leaving f = (u : Unsent) (s : FlowState) → f (with_unsent u s) ≡ with_unsent u (f s)

  after : (new : Packets) (q' : FlowQueue) (f : FlowState → FlowState) → Leaving f → Changed old new queues flow q' → state_of new q' ≡ f (state_of old q) → After new q' (f (flow_at seen flow))
  after new q' f leaves c e = record {
    stored = c.stored;
    states =
        ap (λ (states : List FlowState). all_with_unsent states unsent) (c.states ∙ ap (set (map (state_of old) queues) flow) (e ∙ ap f (sym read-state)))
        ∙ carried f leaves (map (state_of old) queues) unsent flow;
  }

  -- No packet moves, though the store may get room.
  pub counting : (new : Packets) (q' : FlowQueue) (f : FlowState → FlowState) → Leaving f → ((key : ℕ) → get new key ≡ get old key)
      → SamePackets q q' → state_of old q' ≡ f (state_of old q) → After new q' (f (flow_at seen flow))
  counting new q' f leaves same-packets same e = after new q' f leaves (changed old new queues flow q q' are are.owner are.behind there (λ g n ne. stay g n) now.0) (now.1 ∙ e)
    where
      stay : (g n : ℕ) → Stay are.owner are.behind are.owner are.behind old new g n
      stay g n key stored held own lt = (same-packets key ∙ held, own, refl)

      now : IsQueue are.owner are.behind new flow q' × (state_of new q' ≡ state_of old q')
      now = stay-queue are.owner are.behind are.owner are.behind old new flow q' (same-queue are.owner are.behind old flow q q' same queue-is) (stay flow q'.len)

  -- The flow joins its lists, which callers don't see.
  pub listing : (new : Packets) (q' : FlowQueue) → q' ≡ record q { on_pipe = q'.on_pipe; of_queue = q'.of_queue } → ((key : ℕ) → get new key ≡ get old key)
      → AreStored new (set queues flow q') × (all_with_unsent (map (state_of new) (set queues flow q')) unsent ≡ seen)
  listing new q' is same-packets = (a.stored, a.states ∙ set-read seen flow)
    where
      a : After new q' (flow_at seen flow)
      a = counting new q' (λ s. s) (λ u s. refl) same-packets
          (ap (λ (x : FlowQueue). x.front) is, ap (λ (x : FlowQueue). x.back) is, ap (λ (x : FlowQueue). x.len) is, ap (λ (x : FlowQueue). x.bytes) is)
          (λ i. record { backlog = waiting_from old (is i).front (is i).len; reserved = (is i).reserved; active = (is i).active; lost = 0; full = 0; started = (is i).started; discarded = 0; home = (is i).home })

  -- A place is reserved for it.
  pub placing : (new : Packets) (q' : FlowQueue) → q' ≡ record q { on_pipe = q'.on_pipe; of_queue = q'.of_queue } → ((key : ℕ) → get new key ≡ get old key)
      → After new (record q' { reserved = true }) (with_place (flow_at seen flow))
  placing new q' is same-packets =
      counting new (record q' { reserved = true }) with_place (λ u s. refl) same-packets
      (ap (λ (x : FlowQueue). x.front) is, ap (λ (x : FlowQueue). x.back) is, ap (λ (x : FlowQueue). x.len) is, ap (λ (x : FlowQueue). x.bytes) is)
      (λ i. record { backlog = waiting_from old (is i).front (is i).len; reserved = true; active = (is i).active; lost = 0; full = 0; started = (is i).started; discarded = 0; home = (is i).home })

  -- A packet joins.
  pub pushing : (new : Packets) (w : Waiting) (q' : FlowQueue) → Appends w old q new q' → 1 ≤ w.len → w.len ≤ 65535
      → sum (lengths (flow_at seen flow).backlog) + w.len < 2 ^ 32 → After new q' (pushed w (flow_at seen flow))
  pushing new w q' a some short fit = after new q' (pushed w) (λ u s. refl)
      (changed old new queues flow q q' are (owner-appended are.owner are.behind old new w q q' flow a queue-is)
      (behind-appended are.owner are.behind old new w q q' flow a queue-is) there
      (λ g n ne. others-stay-appended are.owner are.behind old new w q q' flow a queue-is g n ne)
      (record { chain = now.chain; last = now.last; counts = counts }))
      ((λ i. record {
        backlog = now.waiting i;
        reserved = (a.queue_is i).reserved;
        active = (a.queue_is i).active;
        lost = 0;
        full = 0;
        started = (a.queue_is i).started;
        discarded = 0;
        home = (a.queue_is i).home;
      }))
    where
      now : Appended are.owner are.behind old new w q q' flow a queue-is
      now = appended are.owner are.behind old new w q q' flow a queue-is

      counts : IsCounted (waiting_from new q'.front q'.len) q'.len q'.bytes
      counts = subst (λ (ws : List Waiting). IsCounted ws q'.len q'.bytes) (sym now.waiting) (record {
        many = let a1 = ap (λ (x : FlowQueue). x.len) a.queue_is in let a2 = queue-is.counts.many in let a3 = length-more (waiting_from old q.front q.len) w in omega arith;
        counted = let a1 = ap (λ (x : FlowQueue). x.bytes) a.queue_is in let a2 = queue-is.counts.counted in let a3 = lengths-push (waiting_from old q.front q.len) w in omega arith;
        bounded = let a1 = ap (λ (x : FlowQueue). x.bytes) a.queue_is in let a2 = fits w.len fit in omega arith;
        short = AreShort-push (waiting_from old q.front q.len) w queue-is.counts.short some short;
      })

  -- The first packet is held, and no longer than all that wait.
  pub first-held : 0 < q.len → ContainsKey old q.front
  first-held = held-first are.owner are.behind old flow q queue-is

  -- So is the last one.
  pub last-held : 0 < q.len → ContainsKey old q.back
  last-held = held-last are.owner are.behind old flow q queue-is

  pub first-short : 0 < q.len → (stored_at old q.front).waiting.len ≤ q.bytes
  first-short = short-first are.owner are.behind old flow q queue-is

  -- The first packet starts.
  pub popping : (new : Packets) (first : Waiting) (q' q'' : FlowQueue) → TakesFront first old q new q' → SamePackets q' q''
      → (q''.reserved ≡ q.reserved) × (q''.started ≡ q.started + 1) × (q''.active ≡ q.active) × (q''.home ≡ q.home) → After new q'' (popped (flow_at seen flow))
  popping new first q' q'' t same counts = after new q'' popped start-leaves
      (changed old new queues flow q q'' are are.owner are.behind there
      (λ g n ne. others-stay-taken are.owner are.behind old new first q q' flow t queue-is g n ne)
      (same-queue are.owner are.behind new flow q' q'' same (taken-queue are.owner are.behind old new first q q' flow t queue-is)))
      ((λ i. record {
        backlog = waiting_from new (same.0 i) (same.2 i);
        reserved = counts.0 i;
        active = counts.2 i;
        lost = 0;
        full = 0;
        started = counts.1 i;
        discarded = 0;
        home = counts.3 i;
      }) ∙ sym (ap (λ ws. popped_from ws (state_of old q)) (taken are.owner are.behind old new first q q' flow t queue-is).waiting))

  -- Where none waits nothing changes.
  pub resting : (new : Packets) (q' : FlowQueue) → new ≡ old → q' ≡ q → q.len ≡ 0 → After new q' (popped (flow_at seen flow))
  resting new q' store same none =
      counting new q' popped start-leaves (λ key. ap (λ (s : Packets). get s key) store)
      (ap (λ (x : FlowQueue). x.front) same, ap (λ (x : FlowQueue). x.back) same, ap (λ (x : FlowQueue). x.len) same, ap (λ (x : FlowQueue). x.bytes) same)
      (ap (state_of old) same ∙ sym (ap (λ n. popped_from (waiting_from old q.front n) (state_of old q)) none))

  pub none-waits : q.len ≡ 0 → slice_get (flow_at seen flow).backlog 0 ≡ None
  none-waits none = ap (λ (ws : List Waiting). slice_get ws 0) (reads.backlog ∙ ap (waiting_from old q.front) none)

  -- The front is the first of the packets that wait.
  pub front : (new : Packets) (first : Waiting) (q' : FlowQueue) → TakesFront first old q new q' → slice_get (flow_at seen flow).backlog 0 ≡ Some first
  front new first q' t = ap (λ (ws : List Waiting). slice_get ws 0) (reads.backlog ∙ (taken are.owner are.behind old new first q q' flow t queue-is).waiting)

  -- The queue lies in the store.
  pub lies-here : Lies old q
  lies-here = record { owner = are.owner; behind = are.behind; flow = flow; is = queue-is }

  -- All packets leave, and are counted beside the queue.
  pub emptying : (new : Packets) (q₁ q' : FlowQueue) (u : Unsent) → Shortens old q new q₁ → q' ≡ record q₁ { active = false } → q'.len ≡ 0 → length unsent ≡ length queues
      → u ≡ get_or unsent flow u
      → AreStored new (set queues flow q') × (all_with_unsent (map (state_of new) (set queues flow q'))
      (set unsent flow (record u { discarded = u.discarded + q.len })) ≡ set seen flow (emptied (flow_at seen flow)))
  emptying new q₁ q' u s after none same is = (
    there-after.stored,
    ap (λ (states : List FlowState). all_with_unsent states (set unsent flow counted)) there-after.states
        ∙ both-set (map (state_of old) queues) unsent flow counted (state_of new q') as-many
        ∙ ap (set seen flow) ((λ i. record {
          backlog = waiting_from new q'.front (none i);
          reserved = (ap (λ (x : FlowQueue). x.reserved) after ∙ s.counts.0) i;
          active = (after i).active;
          lost = u.lost;
          full = u.full;
          started = (ap (λ (x : FlowQueue). x.started) after ∙ s.counts.1) i;
          discarded = u.discarded + queue-is.counts.many i;
          home = (ap (λ (x : FlowQueue). x.home) after ∙ s.home) i;
        }) ∙ ap (λ (t : FlowState). emptied (with_unsent u t)) (sym read-state) ∙ ap emptied (sym (read-counts (map (state_of old) queues) unsent flow u as-many here.within is))),
  )
    where
      counted : Unsent
      counted = record u { discarded = u.discarded + q.len }

      as-many : length unsent ≡ length (map (state_of old) queues)
      as-many = same ∙ sym (length-map queues (state_of old))

      left : OnlyOwnLeft are.owner are.behind flow new q₁ old
      left = s.leaves are.owner are.behind flow queue-is

      same-packets : SamePackets q₁ q'
      same-packets = (ap (λ (x : FlowQueue). x.front) after, ap (λ (x : FlowQueue). x.back) after, ap (λ (x : FlowQueue). x.len) after, ap (λ (x : FlowQueue). x.bytes) after)

      there-after : Changed old new queues flow q'
      there-after =
          changed old new queues flow q q' are are.owner are.behind there (λ g n ne key stored held own lt. (left.others key stored held (λ e. ne (sym own ∙ e)), own, refl))
          (same-queue are.owner are.behind new flow q₁ q' same-packets left.is)

-- ---- A queue is added or taken out

pub added : (store : Packets) (queues : List FlowQueue) → AreStored store queues → AreStored store (queues ++ new_queue ∷ [])
added store queues are = record { owner = are.owner; behind = are.behind; queues_are = λ g x e. by g x (get-more queues new_queue x g e) }
  where
    by : (g : ℕ) (x : FlowQueue) → (slice_get queues g ≡ Some x) ⊎ ((g ≡ length queues) × (x ≡ new_queue)) → IsQueue are.owner are.behind store g x
    by g x (inl e) = are.queues_are g x e
    by g x (inr e) =
        subst (IsQueue are.owner are.behind store g) (sym e.1)
        (record { chain = tt; last = λ n z. absurd (omega arith); counts = record { many = refl; counted = refl; bounded = omega arith; short = tt } })

pub without-last : (store : Packets) (queues : List FlowQueue) (q : FlowQueue) → AreStored store (queues ++ q ∷ []) → AreStored store queues
without-last store queues q are = record { owner = are.owner; behind = are.behind; queues_are = λ g x e. are.queues_are g x (get-kept queues q x g e) }

-- No queue is stored yet.
pub none-stored : (store : Packets) → AreStored store []
none-stored store = record { owner = λ key. 0; behind = λ key. 0; queues_are = λ g x e. absurd cc }

pub states_added : (store : Packets) (queues : List FlowQueue) → map (state_of store) (queues ++ new_queue ∷ []) ≡ map (state_of store) queues ++ new_flow ∷ []
states_added store [] = refl
states_added store (q ∷ queues) = ap (λ (states : List FlowState). state_of store q ∷ states) (states_added store queues)

no-counts : (store : Packets) (queues : List FlowQueue) (n : ℕ) → map (state_of store) (take n queues) ≡ take n (map (state_of store) queues)
no-counts store [] zero = refl
no-counts store [] (suc n) = refl
no-counts store (q ∷ queues) zero = refl
no-counts store (q ∷ queues) (suc n) = λ i. state_of store q ∷ no-counts store queues n i

states-less : (store : Packets) (queues : List FlowQueue) (unsent : List Unsent) (n : ℕ)
    → all_with_unsent (map (state_of store) (take n queues)) (take n unsent) ≡ take n (all_with_unsent (map (state_of store) queues) unsent)
states-less store [] unsent zero = refl
states-less store [] unsent (suc n) = refl
states-less store (q ∷ queues) unsent zero = refl
states-less store (q ∷ queues) [] (suc n) = λ i. state_of store q ∷ no-counts store queues n i
states-less store (q ∷ queues) (u ∷ unsent) (suc n) = λ i. with_unsent u (state_of store q) ∷ states-less store queues unsent n i

-- The last flow is taken out.
pub last-out : (store : Packets) (queues queues' : List FlowQueue) (unsent unsent' : List Unsent)
    → queues' ≡ take (length queues - 1) queues → unsent' ≡ take (length unsent - 1) unsent → length unsent ≡ length queues
    → all_with_unsent (map (state_of store) queues') unsent' ≡ take (length (all_with_unsent (map (state_of store) queues) unsent) - 1) (all_with_unsent (map (state_of store) queues) unsent)
last-out store queues queues' unsent unsent' fewer-queues fewer-counts same =
    let many = as-many-flows store queues unsent in
    let last = length (all_with_unsent (map (state_of store) queues) unsent) - 1 in
    let by-queues : length queues - 1 ≡ last = omega arith in
    let by-counts : length unsent - 1 ≡ last = omega arith in
    (λ i. all_with_unsent (map (state_of store) ((fewer-queues ∙ ap (λ n. take n queues) by-queues) i)) ((fewer-counts ∙ ap (λ n. take n unsent) by-counts) i)) ∙ states-less store queues unsent last
