-- A packet comes where none waits, and is sent at once.
use Rattle.dn_wf2q.proofs.Words.{All, All-nil, All-set, All-weaker, AreTagsWithin, Flow, Heap, IsIdle, IsPermutation, IsQueueKept, IsSchedKept, IsWithin, Kept, List, None, Passes, PassesSlot}
use Rattle.dn_wf2q.proofs.Words.{RankView, SchedParts, Some, Stamped, TaggedQueue, [], after_arrival, after_pick, ap, append-nil, arith, behind, bound, by_slot, cases_eq, cases_lt, flow_at}
use Rattle.dn_wf2q.proofs.Words.{flows_of, forgotten, get_or, get_or-le-sum_by, get_or-set_other, get_or-set_same, get_or_past, grown, head_weight, heads_of, inl, inr, joined_by, length}
use Rattle.dn_wf2q.proofs.Words.{length-map, length-set, length_permutation, max, nat_lt, nat_tests, no_packets, none_absent, packets_of, pick, presence, ranks_at, refl, scaled, schedule_of, seen}
use Rattle.dn_wf2q.proofs.Words.{set, stamped, subst, suc, sum_by, sum_by-cons, sum_by-set, sym, tagged, take, true, waiting_of, with_item, without_head, without_tag, zero, ℕ, ◌++◌, ◌+◌, ◌<◌, ◌^◌}
use Rattle.dn_wf2q.proofs.Words.{◌∙◌, ◌∷◌, ◌≡◌, ◌≤◌}
use Rattle.dn_wf2q.proofs.BySlot.{length-by_slot, by_slot-set}
use Rattle.dn_wf2q.proofs.Heads.{flow_at_seen, flow_within_more}
use Rattle.dn_wf2q.proofs.Counts.{first_packets, heads_are, heads_of_idle, idle_no_heads, no_heads_idle, waiting_is, waiting-set}
use Rattle.dn_wf2q.proofs.Begun.{begun, flows_forgotten, forgotten_at, sum_forgotten}
use Rattle.dn_wf2q.proofs.Queues.{emptied, unchained}
use Rattle.dn_wf2q.proofs.Sent.{scaled-le}

-- ---- Lists of flows

set_twice : {X : Type 0} (xs : List X) (k : ℕ) (x y : X) → set (set xs k x) k y ≡ set xs k y
set_twice [] k x y = refl
set_twice (z ∷ xs) zero x y = refl
set_twice (z ∷ xs) (suc k) x y = ap (λ r. z ∷ r) (set_twice xs k x y)

no_first : (q : List Stamped) → presence q ≡ 0 → take 1 q ≡ []
no_first [] e = refl
no_first (p ∷ q) e = absurd (omega arith)

first_set : (fls : List Flow) (slot : ℕ) (fl : Flow) → sum_by (λ x. presence x.backlog) fls ≡ 0 → slot < length fls → first_packets (set fls slot fl) ≡ take 1 fl.backlog
first_set [] slot fl e l = absurd (omega arith)
first_set (x ∷ xs) zero fl e l =
    let s = sum_by-cons (λ y. presence y.backlog) x xs in
    let none : sum_by (λ y. presence y.backlog) xs ≡ 0 = omega arith in
    ap (λ r. take 1 fl.backlog ++ r) (sym (heads_are xs) ∙ heads_of_idle xs (no_heads_idle xs none)) ∙ append-nil (take 1 fl.backlog)
first_set (x ∷ xs) (suc slot) fl e l =
    let s = sum_by-cons (λ y. presence y.backlog) x xs in
    ap (λ q. q ++ first_packets (set xs slot fl)) (no_first x.backlog (omega arith)) ∙ first_set xs slot fl (omega arith) (omega arith)

no_packet : (q : List Stamped) → length q ≤ 0 → q ≡ []
no_packet [] e = refl
no_packet (p ∷ q) e = absurd (omega arith)

idle_forgotten : (fls : List Flow) → IsIdle fls → IsIdle (forgotten fls)
idle_forgotten fls idle =
    let a = waiting_is fls in
    let b = waiting_is (forgotten fls) in
    let c = sum_forgotten (λ q. length q) fls in
    omega (arith, a, b, c, idle)

-- No packet waits at a slot of an idle schedule.
pub idle_slot : (fls : List Flow) → IsIdle fls → (slot : ℕ) → length (flow_at fls slot).backlog ≡ 0
idle_slot fls idle slot = elim (cases_lt slot (length fls)) [
  | inl l ↦
      let one : length (flow_at fls slot).backlog ≤ sum_by (λ fl. length fl.backlog) fls = get_or-le-sum_by (λ fl. length fl.backlog) fls slot no_packets l in
      let all = waiting_is fls in
      omega (arith, one, all, idle)
  | inr n ↦ ap (λ (fl : Flow). length fl.backlog) (get_or_past fls slot no_packets n)
]

-- Each flow of an idle schedule is as one that has had no packet, once a busy period has begun.
pub idle_at : (fls : List Flow) → IsIdle fls → (slot : ℕ) → flow_at (forgotten fls) slot ≡ no_packets
idle_at fls idle slot =
    let none = idle_slot fls idle slot in
    forgotten_at fls slot ∙ ap (λ (q : List Stamped). record { backlog = q; last_finish_tag = 0 }) (no_packet (flow_at fls slot).backlog (omega arith))

-- ---- The schedule between the arrival and the pick

module _ (fls : List Flow) (slot len weight : ℕ) (listed : slot < length fls) (empty : flow_at fls slot ≡ no_packets) where
  abbrev h : Stamped
  h = record { flow = slot; len = len; weight = weight; start_tag = 0; finish_tag = scaled len weight }

  abbrev one : Flow
  one = record { backlog = h ∷ []; last_finish_tag = scaled len weight }

  abbrev left : Flow
  left = record { backlog = []; last_finish_tag = scaled len weight }

  nothing_more : (t : ℕ) → max 0 0 + t ≡ t
  nothing_more t = omega arith

  h_is : stamped slot no_packets 0 len weight ≡ h
  h_is =
      let start : max 0 0 ≡ 0 = omega arith in
      λ i. record { flow = slot; len = len; weight = weight; start_tag = start i; finish_tag = nothing_more (scaled len weight) i }

  between_is : after_arrival fls slot 0 len weight ≡ set fls slot one
  between_is =
      ap (λ (fl : Flow). set fls slot (joined_by fl (stamped slot fl 0 len weight))) empty
      ∙ ap (λ (x : Stamped). set fls slot (joined_by no_packets x)) h_is

  after_is : after_pick (after_arrival fls slot 0 len weight) slot ≡ set fls slot left
  after_is =
      ap (λ (fs : List Flow). after_pick fs slot) between_is
      ∙ ap (λ (fl : Flow). set (set fls slot one) slot (without_head fl)) (get_or-set_same fls slot one no_packets listed)
      ∙ set_twice fls slot one left

  one_more : waiting_of (after_arrival fls slot 0 len weight) ≡ waiting_of fls + 1
  one_more =
      let s = waiting-set fls slot one listed in
      let n = ap (λ (fl : Flow). length fl.backlog) empty in
      ap waiting_of between_is ∙ omega (arith, s, n)

  one_fewer : waiting_of (set fls slot left) + 1 ≡ waiting_of (after_arrival fls slot 0 len weight)
  one_fewer =
      let s = waiting-set fls slot left listed in
      let n = ap (λ (fl : Flow). length fl.backlog) empty in
      omega (arith, s, n, one_more)

  module _ (idle : IsIdle fls) where
    heads_is : heads_of (after_arrival fls slot 0 len weight) ≡ h ∷ []
    heads_is = ap heads_of between_is ∙ heads_are (set fls slot one) ∙ first_set fls slot one (idle_no_heads fls idle) listed

    picked : pick 0 (heads_of (after_arrival fls slot 0 len weight)) ≡ Some h
    picked = ap (λ (hs : List Stamped). pick 0 hs) heads_is ∙ refl

    grows : grown 0 (heads_of (after_arrival fls slot 0 len weight)) len ≡ scaled len weight
    grows =
        let w : weight + 0 ≡ weight = omega arith in
        ap (λ (hs : List Stamped). grown 0 hs len) heads_is ∙ ap (λ (n : ℕ). max 0 0 + scaled len n) w ∙ nothing_more (scaled len weight)

-- What the parts do is what a schedule does.
pub passes : (slot len weight : ℕ) (old new : SchedParts) → IsIdle (flows_of old) → PassesSlot slot len weight old new → Passes slot len weight (schedule_of old) (schedule_of new)
passes slot len weight old new idle p =
    let fls = forgotten (flows_of old) in
    let long = length-map (flows_of old) without_tag in
    let l = p.listed in
    let listed : slot < length fls = omega (arith, long, l) in
    let calm = idle_forgotten (flows_of old) idle in
    record {
      packet = h fls slot len weight listed p.empty;
      here = refl;
      one_more = let m = one_more fls slot len weight listed p.empty in omega (arith, m, calm, idle);
      picked = picked fls slot len weight listed p.empty calm;
      picks = record {
        head = ap (λ (fs : List Flow). take 1 (flow_at fs slot).backlog) (between_is fls slot len weight listed p.empty)
            ∙ ap (λ (fl : Flow). take 1 fl.backlog) (get_or-set_same fls slot (one fls slot len weight listed p.empty) no_packets listed);
        flows = p.flows ∙ sym (after_is fls slot len weight listed p.empty);
        virtual_time = p.virtual_time ∙ sym (grows fls slot len weight listed p.empty calm);
        picks = p.picks;
        one_fewer = ap (λ (fs : List Flow). waiting_of fs + 1) p.flows ∙ one_fewer fls slot len weight listed p.empty;
      };
      arrivals = p.arrivals;
    }

-- ---- A key goes through an empty heap

pub through : (e e' : Heap RankView) (key first : RankView) → length e.keys ≡ 0 → IsPermutation (key ∷ e.keys) (first ∷ e'.keys) → length e'.keys ≡ 0
through e e' key first none perm = let l = length_permutation (key ∷ e.keys) (first ∷ e'.keys) perm in omega arith

no_ranks : (g : ℕ) (ks : List RankView) → length ks ≡ 0 → ranks_at g ks ≡ 0
no_ranks g [] e = refl
no_ranks g (k ∷ ks) e = absurd (omega arith)

-- ---- The parts

module _ (p : SchedParts) (kept : IsSchedKept p) (idle : IsIdle (flows_of p)) (slot len weight : ℕ) (short : len < 65536)
    (listed_queue : slot < length p.flows.items) where
  abbrev fls : List Flow
  fls = forgotten (flows_of p)

  same : by_slot (seen p.arrivals) p.flows.items ≡ fls
  same = flows_forgotten p.busy_from p.arrivals p.flows.items kept.arrived

  listed_flow : slot < length (flows_of p)
  listed_flow = omega (arith, length-by_slot (seen p.busy_from) p.flows.items, listed_queue)

  listed_now : slot < length fls
  listed_now = omega (arith, length-map (flows_of p) without_tag, listed_flow)

  empty_now : flow_at fls slot ≡ no_packets
  empty_now = idle_at (flows_of p) idle slot

  calm_now : IsIdle fls
  calm_now = idle_forgotten (flows_of p) idle

  began : IsSchedKept (record p { virtual_time = 0; busy_from = p.arrivals })
  began = begun p kept idle

  was : Kept none_absent [] fls p.eligible p.waiting 0 p.weights p.arrivals p.picks
  was = subst (λ (fs : List Flow). Kept none_absent [] fs p.eligible p.waiting 0 p.weights p.arrivals p.picks) same began.kept

  no_heads : sum_by (λ fl. presence fl.backlog) fls ≡ 0
  no_heads = idle_no_heads fls calm_now

  pub no_key : length p.eligible.keys ≡ 0
  no_key = let c = was.counted in let n = no_heads in omega arith

  pub none_free : (n : ℕ) → All (λ k. k.slot ≡ n → ⊥) p.eligible.keys
  none_free n = λ i d l. absurd (let z = no_key in omega arith)

  pub numbered : slot < length p.eligible.keys + p.eligible.room
  numbered = let r = kept.kept.eligible_room in let l = listed_flow in omega arith

  pub few_moves : p.arrivals < 2 ^ 62 → p.eligible.moves < 2 ^ 63
  few_moves few = let c = was.pushed in omega arith

  module _ (q : TaggedQueue) (at : q ≡ get_or p.flows.items slot q) (tag : ℕ) (tag_is : tag ≡ scaled len weight) where
    abbrev r : TaggedQueue
    r = record { finish_tag = tag; arrived = p.arrivals + 1; head = q.head; behind = q.behind }

    seen_was : seen p.arrivals slot q ≡ no_packets
    seen_was =
        ap (λ (x : TaggedQueue). seen p.arrivals slot x) at
        ∙ sym (flow_at_seen p.arrivals p.flows.items slot q listed_queue)
        ∙ ap (λ (fs : List Flow). flow_at fs slot) same
        ∙ empty_now

    no_wait_at : length (packets_of q) ≡ 0
    no_wait_at =
        let none = ap (λ (fl : Flow). length fl.backlog) seen_was in
        let count = length-map (packets_of q) (tagged slot) in
        omega (arith, none, count)

    whole_was : IsQueueKept p.arrivals q
    whole_was = subst (IsQueueKept p.arrivals) (sym at) (began.queues slot q listed_queue)

    blank_was : (q.head ≡ None) × (q.behind.packets ≡ [])
    blank_was = emptied p.arrivals q.arrived q.finish_tag q.behind.packets q.head no_wait_at whole_was

    seen_is : seen p.arrivals slot r ≡ left fls slot len weight listed_now empty_now
    seen_is =
        let later : nat_lt p.arrivals (p.arrivals + 1) ≡ true = grind (arith, nat_tests) in
        rw (later, blank_was.0, blank_was.1, tag_is) refl

    flows_are : by_slot (seen p.arrivals) (set p.flows.items slot r) ≡ set fls slot (left fls slot len weight listed_now empty_now)
    flows_are = by_slot-set (seen p.arrivals) p.flows.items slot r ∙ (λ i. set (same i) slot (seen_is i))

    pub passed : (new : SchedParts) → new.flows.items ≡ set p.flows.items slot r → new.busy_from ≡ p.arrivals → new.virtual_time ≡ tag → new.arrivals ≡ p.arrivals + 1 → new.picks ≡ p.picks + 1
        → PassesSlot slot len weight p new
    passed new nf nb nt na np = record {
      listed = listed_flow;
      empty = empty_now;
      flows = rw (nf, nb) flows_are;
      virtual_time = nt ∙ tag_is;
      arrivals = na;
      picks = np;
    }

    module _ (es : Heap RankView) (gone : length es.keys ≡ 0) (moved : es.moves ≡ p.eligible.moves + 1) (places' : es.room ≡ p.eligible.room) where
      abbrev now : Flow
      now = left fls slot len weight listed_now empty_now

      tag_within : tag ≤ bound (p.arrivals + 1) (p.picks + 1)
      tag_within = let s = scaled-le len weight short in let t = tag_is in omega arith

      absent_at : (g : ℕ) → presence (flow_at fls g).backlog ≡ 0
      absent_at g = let c = was.placed g in let a = no_ranks g p.eligible.keys no_key in let b = no_ranks g p.waiting.keys no_waiting in omega arith
        where
          no_waiting : length p.waiting.keys ≡ 0
          no_waiting = let c = was.counted in let n = no_heads in omega arith

      no_wait : length p.waiting.keys ≡ 0
      no_wait = let c = was.counted in let n = no_heads in omega arith

      kept_flows : Kept none_absent [] (set fls slot now) es p.waiting tag p.weights (p.arrivals + 1) (p.picks + 1)
      kept_flows =
          let weigh : sum_by (λ x. head_weight x.backlog) (set fls slot now) + head_weight (flow_at fls slot).backlog ≡ sum_by (λ x. head_weight x.backlog) fls + 0 =
          sum_by-set (λ x. head_weight x.backlog) fls slot now no_packets listed_now in
          let heads : sum_by (λ x. presence x.backlog) (set fls slot now) + presence (flow_at fls slot).backlog ≡ sum_by (λ x. presence x.backlog) fls + 0 =
          sum_by-set (λ x. presence x.backlog) fls slot now no_packets listed_now in
          let tails : sum_by (λ x. behind x.backlog) (set fls slot now) + behind (flow_at fls slot).backlog ≡ sum_by (λ x. behind x.backlog) fls + 0 =
          sum_by-set (λ x. behind x.backlog) fls slot now no_packets listed_now in
          let w = ap (λ (fl : Flow). head_weight fl.backlog) empty_now in
          let n = ap (λ (fl : Flow). presence fl.backlog) empty_now in
          let b = ap (λ (fl : Flow). behind fl.backlog) empty_now in
          let long = length-set fls slot now in
          record {
            placed = λ g.
                let a = no_ranks g es.keys gone in
                let c = no_ranks g p.waiting.keys no_wait in
                let none : presence (flow_at (set fls slot now) g).backlog ≡ 0 = elim (cases_eq g slot) [
                  | inl e ↦ subst (λ x. presence (flow_at (set fls slot now) x).backlog ≡ 0) (sym e) (ap (λ (fl : Flow). presence fl.backlog) (get_or-set_same fls slot now no_packets listed_now))
                  | inr ne ↦ ap (λ (fl : Flow). presence fl.backlog) (get_or-set_other fls slot g now no_packets ne) ∙ absent_at g
                ] in
                omega arith;
            ready = λ i d l. absurd (omega arith);
            waits = λ i d l. let z = no_wait in absurd (omega arith);
            weighed = let c = was.weighed in omega arith;
            counted = let c = was.counted in let z = no_heads in omega arith;
            pushed = let c = was.pushed in omega arith;
            picked = let c = was.picked in omega arith;
            bounded = All-set (AreTagsWithin (bound (p.arrivals + 1) (p.picks + 1))) fls slot now
                (let s = scaled-le len weight short in omega arith, All-nil (IsWithin (bound (p.arrivals + 1) (p.picks + 1))))
                (All-weaker (AreTagsWithin (bound p.arrivals p.picks)) (AreTagsWithin (bound (p.arrivals + 1) (p.picks + 1))) (λ x k. flow_within_more _ _ x (omega arith) k) fls was.bounded);
            timely = tag_within;
            eligible_room = let c = was.eligible_room in let k = no_key in omega arith;
            waiting_room = let c = was.waiting_room in omega arith;
          }

      pub passed_kept : p.arrivals < 2 ^ 62 → IsSchedKept (record {
        flows = with_item p.flows slot r;
        eligible = es;
        waiting = p.waiting;
        virtual_time = tag;
        weights = p.weights;
        busy_from = p.arrivals;
        arrivals = p.arrivals + 1;
        picks = p.picks + 1;
      })
      passed_kept few = record {
        kept = subst (λ (fs : List Flow). Kept none_absent [] fs es p.waiting tag p.weights (p.arrivals + 1) (p.picks + 1)) (sym flows_are) kept_flows;
        few = omega arith;
        began = omega arith;
        arrived = All-set (λ x. x.arrived ≤ p.arrivals + 1) p.flows.items slot r (omega arith)
            (All-weaker (λ x. x.arrived ≤ p.arrivals) (λ x. x.arrived ≤ p.arrivals + 1) (λ x k. omega arith) p.flows.items kept.arrived);
        queues = All-set (IsQueueKept p.arrivals) p.flows.items slot r whole began.queues;
        slots = let s = kept.slots in let l = length-set p.flows.items slot r in omega arith;
      }
        where
          whole : IsQueueKept p.arrivals r
          whole = unchained p.arrivals p.arrivals q.arrived (p.arrivals + 1) q.finish_tag q.behind.packets q.head no_wait_at whole_was
