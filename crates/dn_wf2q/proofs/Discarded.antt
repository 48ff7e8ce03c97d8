-- The packets of a slot are discarded.
use Rattle.dn_wf2q.proofs.Words.{All, All-contains, All-nil, All-permutation, All-set, All-tail, AreTagsWithin, Contains, Contains-get_or, DiscardsSlot, Flow, HeadIs, Heap, IfNone, IfSome}
use Rattle.dn_wf2q.proofs.Words.{IsEligible, IsPermutation, IsQueueKept, IsSchedKept, IsWaiting, IsWithin, Kept, List, None, NoneDue, Option, RankView, SchedParts, Some, Stamped, TaggedPacket}
use Rattle.dn_wf2q.proofs.Words.{TaggedQueue, [], after_discard, ap, arith, behind, bound, by_slot, cases_eq, cases_lt, first_packet, flow_at, flows_of, get_or, get_or-le-sum_by, get_or-set_other}
use Rattle.dn_wf2q.proofs.Words.{get_or-set_same, get_or_past, head_weight, inl, inr, last_tag, length, length-set, length_permutation, nat_lt, no_packets, none_absent, packets_of, presence}
use Rattle.dn_wf2q.proofs.Words.{ranks_at, refl, seen, set, set_past, slice_index_or, subst, sum_by, sum_by-set, sym, tagged, with_item, ℕ, ◌+◌, ◌-◌, ◌<◌, ◌∙◌, ◌∷◌, ◌≡◌, ◌≤◌}
use Rattle.dn_wf2q.proofs.BySlot.{length-by_slot, by_slot-set}
use Rattle.dn_wf2q.proofs.Heads.{head_says, head_there, head_both, head_weighs, presence-le, flow_at_seen, cond_zero, next_is}
use Rattle.dn_wf2q.proofs.Counts.{waiting-set}
use Rattle.dn_wf2q.proofs.Ranks.{ranks_at_popped, rank_at_same, rank_at_other, no_rank_at, some_rank_at}

abbrev no_rank : RankView
no_rank = record { tag = 0; slot = 0 }

same_parts : (k : RankView) (tag slot : ℕ) → k.tag ≡ tag → k.slot ≡ slot → k ≡ record { tag = tag; slot = slot }
same_parts k tag slot t s = λ i. record { tag = t i; slot = s i }

-- A key of the slot left a heap that had one.
pub record Took (slot : ℕ) (old new : Heap RankView) : Type 0 where
  pub key : RankView
  pub here : key.slot ≡ slot
  pub keys : IsPermutation old.keys (key ∷ new.keys)
  pub room : new.room ≡ old.room + 1

pub took : (slot : ℕ) (old new : Heap RankView) (r : Option RankView) (held : RankView) → held.slot ≡ slot → Contains old.keys held → IfSome r (λ k. k.slot ≡ slot)
    → IfSome r (λ k. IsPermutation old.keys (k ∷ new.keys)) → IfSome r (λ k. new.room ≡ old.room + 1) → IfNone r (All (λ k. k.slot ≡ slot → ⊥) old.keys) → Took slot old new
took slot old new (Some k) held e within here keys room absent = record { key = k; here = here; keys = keys; room = room }
took slot old new None held e within here keys room absent = absurd (All-contains (λ k. k.slot ≡ slot → ⊥) old.keys held absent within e)

module _ {flows : List Flow} {eligible waiting : Heap RankView} {virtual_time weights arrivals picks : ℕ}
    (kept : Kept none_absent [] flows eligible waiting virtual_time weights arrivals picks) (slot : ℕ) (listed : slot < length flows) where
  abbrev fl : Flow
  fl = flow_at flows slot

  -- The slot stands in neither heap, and the others as before.
  forgot : (es ws : Heap RankView) (w : ℕ) → ranks_at slot es.keys ≡ 0 → ranks_at slot ws.keys ≡ 0
      → ((g : ℕ) → (g ≡ slot → ⊥) → ranks_at g es.keys + ranks_at g ws.keys ≡ ranks_at g eligible.keys + ranks_at g waiting.keys)
      → All (IsEligible flows virtual_time) es.keys → All (IsWaiting flows) ws.keys
      → length es.keys + length ws.keys + presence fl.backlog ≡ length eligible.keys + length waiting.keys
      → length es.keys ≤ length eligible.keys → length ws.keys ≤ length waiting.keys → es.moves ≡ eligible.moves → ws.moves ≡ waiting.moves
      → es.room + length es.keys ≡ eligible.room + length eligible.keys → ws.room + length ws.keys ≡ waiting.room + length waiting.keys
      → w + head_weight fl.backlog ≡ weights → Kept none_absent [] (set flows slot no_packets) es ws virtual_time w arrivals picks
  forgot es ws w ne nw others re aw lens le lw me mw rme rmw wq =
      let long = length-set flows slot no_packets in
      let weigh : sum_by (λ y. head_weight y.backlog) (set flows slot no_packets) + head_weight fl.backlog ≡ sum_by (λ y. head_weight y.backlog) flows + 0 =
      sum_by-set (λ y. head_weight y.backlog) flows slot no_packets no_packets listed in
      let heads : sum_by (λ y. presence y.backlog) (set flows slot no_packets) + presence fl.backlog ≡ sum_by (λ y. presence y.backlog) flows + 0 =
      sum_by-set (λ y. presence y.backlog) flows slot no_packets no_packets listed in
      let tails : sum_by (λ y. behind y.backlog) (set flows slot no_packets) + behind fl.backlog ≡ sum_by (λ y. behind y.backlog) flows + 0 =
      sum_by-set (λ y. behind y.backlog) flows slot no_packets no_packets listed in
      record {
        placed = λ g. elim (cases_eq g slot) [
          | inl e ↦ rw (e, get_or-set_same flows slot no_packets no_packets listed) (omega (arith, ne, nw))
          | inr n ↦ let o = others g n in let c = kept.placed g in rw (get_or-set_other flows slot g no_packets no_packets n) (omega arith)
        ];
        ready = λ i d l. let e = slice_index_or es.keys i d in
            rw (get_or-set_other flows slot e.slot no_packets no_packets (no_rank_at slot es.keys ne i d l)) (re i d l);
        waits = λ i d l. let e = slice_index_or ws.keys i d in
            rw (get_or-set_other flows slot e.slot no_packets no_packets (no_rank_at slot ws.keys nw i d l)) (aw i d l);
        weighed = let c = kept.weighed in omega (arith, weigh);
        counted = let c = kept.counted in omega (arith, heads);
        pushed = let c = kept.pushed in omega (arith, tails);
        picked = let c = kept.picked in omega arith;
        bounded = All-set (AreTagsWithin (bound arrivals picks)) flows slot no_packets (omega arith, All-nil (IsWithin (bound arrivals picks))) kept.bounded;
        timely = kept.timely;
        eligible_room = let c = kept.eligible_room in omega arith;
        waiting_room = let c = kept.waiting_room in omega arith;
      }

  pub forgot_idle : presence fl.backlog ≡ 0 → head_weight fl.backlog ≡ 0 → Kept none_absent [] (set flows slot no_packets) eligible waiting virtual_time weights arrivals picks
  forgot_idle z y =
      let c = kept.placed slot in
      forgot eligible waiting weights (omega arith) (omega arith) (λ g n. refl) kept.ready kept.waits (omega arith) (omega arith) (omega arith) refl refl refl refl (omega arith)

  pub forgot_waiting : (k : RankView) (ws : Heap RankView) (w : ℕ) → k.slot ≡ slot → IsPermutation waiting.keys (k ∷ ws.keys)
      → ws.moves ≡ waiting.moves → ws.room ≡ waiting.room + 1 → w + head_weight fl.backlog ≡ weights
      → Kept none_absent [] (set flows slot no_packets) eligible ws virtual_time w arrivals picks
  forgot_waiting k ws w same p mw rmw wq =
      let c = kept.placed slot in
      let a = ranks_at_popped slot k waiting.keys ws.keys p in
      let z = rank_at_same slot k same in
      let m = presence-le fl.backlog in
      let l = length_permutation waiting.keys (k ∷ ws.keys) p in
      forgot eligible ws w (omega arith) (omega arith)
      (λ g n. let b = ranks_at_popped g k waiting.keys ws.keys p in let y = rank_at_other g k (λ e. n (sym e ∙ same)) in omega arith)
      kept.ready
      (All-tail (IsWaiting flows) k ws.keys (All-permutation (IsWaiting flows) waiting.keys (k ∷ ws.keys) p kept.waits))
      (omega arith) (omega arith) (omega arith) refl mw refl (omega arith) wq

  pub forgot_eligible : (k : RankView) (es : Heap RankView) (w : ℕ) → k.slot ≡ slot → IsPermutation eligible.keys (k ∷ es.keys)
      → es.moves ≡ eligible.moves → es.room ≡ eligible.room + 1 → w + head_weight fl.backlog ≡ weights
      → Kept none_absent [] (set flows slot no_packets) es waiting virtual_time w arrivals picks
  forgot_eligible k es w same p me rme wq =
      let c = kept.placed slot in
      let a = ranks_at_popped slot k eligible.keys es.keys p in
      let z = rank_at_same slot k same in
      let m = presence-le fl.backlog in
      let l = length_permutation eligible.keys (k ∷ es.keys) p in
      forgot es waiting w (omega arith) (omega arith)
      (λ g n. let b = ranks_at_popped g k eligible.keys es.keys p in let y = rank_at_other g k (λ e. n (sym e ∙ same)) in omega arith)
      (All-tail (IsEligible flows virtual_time) k es.keys (All-permutation (IsEligible flows virtual_time) eligible.keys (k ∷ es.keys) p kept.ready))
      kept.waits
      (omega arith) (omega arith) (omega arith) me refl (omega arith) refl wq

  -- The head's key is in the heap in which it belongs.
  module _ (h : Stamped) (is : HeadIs (λ x. x ≡ h) fl.backlog) (due : All (λ k. virtual_time < k.tag) waiting.keys) where
    one : presence fl.backlog ≡ 1
    one = head_there (λ x. x ≡ h) fl.backlog is

    waits_late : 0 < ranks_at slot waiting.keys → (virtual_time < h.start_tag) × Contains waiting.keys (record { tag = h.start_tag; slot = slot })
    waits_late l =
        let i = some_rank_at slot waiting.keys l in
        let k = slice_index_or waiting.keys i.0 no_rank in
        let at = subst (λ x. HeadIs (λ p. k.tag ≡ p.start_tag) (flow_at flows x).backlog) (i.2 no_rank) (kept.waits i.0 no_rank i.1) in
        let tag =
        head_says (λ p. (k.tag ≡ p.start_tag) × (p ≡ h)) (k.tag ≡ h.start_tag) (λ p x. x.0 ∙ ap (λ (y : Stamped). y.start_tag) x.1)
        fl.backlog
        (head_both (λ p. k.tag ≡ p.start_tag) (λ x. x ≡ h) (λ p. (k.tag ≡ p.start_tag) × (p ≡ h)) (λ p a b. (a, b)) fl.backlog at is) in
        let late = due i.0 no_rank i.1 in
        let same : k ≡ record { tag = h.start_tag; slot = slot } = same_parts k h.start_tag slot tag (i.2 no_rank) in
        (omega arith, subst (Contains waiting.keys) same (Contains-get_or waiting.keys i.0 no_rank i.1))

    eligible_early : 0 < ranks_at slot eligible.keys → (h.start_tag ≤ virtual_time) × Contains eligible.keys (record { tag = h.finish_tag; slot = slot })
    eligible_early l =
        let i = some_rank_at slot eligible.keys l in
        let k = slice_index_or eligible.keys i.0 no_rank in
        let at = subst (λ x. HeadIs (λ p. (k.tag ≡ p.finish_tag) × (p.start_tag ≤ virtual_time)) (flow_at flows x).backlog) (i.2 no_rank) (kept.ready i.0 no_rank i.1) in
        let both =
        head_says (λ p. ((k.tag ≡ p.finish_tag) × (p.start_tag ≤ virtual_time)) × (p ≡ h)) ((k.tag ≡ h.finish_tag) × (h.start_tag ≤ virtual_time))
        (λ p x. (x.0.0 ∙ ap (λ (y : Stamped). y.finish_tag) x.1, subst (λ (y : Stamped). y.start_tag ≤ virtual_time) x.1 x.0.1))
        fl.backlog (head_both (λ p. (k.tag ≡ p.finish_tag) × (p.start_tag ≤ virtual_time)) (λ x. x ≡ h)
        (λ p. ((k.tag ≡ p.finish_tag) × (p.start_tag ≤ virtual_time)) × (p ≡ h)) (λ p a b. (a, b)) fl.backlog at is) in
        let same : k ≡ record { tag = h.finish_tag; slot = slot } = same_parts k h.finish_tag slot both.0 (i.2 no_rank) in
        (both.1, subst (Contains eligible.keys) same (Contains-get_or eligible.keys i.0 no_rank i.1))

    pub in_eligible : h.start_tag ≤ virtual_time → Contains eligible.keys (record { tag = h.finish_tag; slot = slot })
    in_eligible early = elim (cases_lt 0 (ranks_at slot waiting.keys)) [
      | inl l ↦ absurd (let w = (waits_late l).0 in omega arith)
      | inr n ↦ let c = kept.placed slot in let o = one in (eligible_early (omega arith)).1
    ]

    pub in_waiting : virtual_time < h.start_tag → Contains waiting.keys (record { tag = h.start_tag; slot = slot })
    in_waiting late = elim (cases_lt 0 (ranks_at slot eligible.keys)) [
      | inl l ↦ absurd (let w = (eligible_early l).0 in omega arith)
      | inr n ↦ let c = kept.placed slot in let o = one in (waits_late (omega arith)).1
    ]

-- Nothing waits beyond the slots that there are.
pub beyond : (p : SchedParts) (slot : ℕ) → length p.flows.items ≤ slot → DiscardsSlot slot p p
beyond p slot l =
    let long = length-by_slot (seen p.busy_from) p.flows.items in
    let none : flow_at (flows_of p) slot ≡ no_packets = get_or_past (flows_of p) slot no_packets (omega arith) in
    record {
      flows = sym (set_past (flows_of p) slot no_packets (omega arith));
      fewer = rw none (omega arith);
      virtual_time = refl;
      arrivals = refl;
      picks = refl;
      moves = refl;
    }

module _ (p : SchedParts) (kept : IsSchedKept p) (slot : ℕ) (listed : slot < length p.flows.items) (q : TaggedQueue)
    (at : q ≡ get_or p.flows.items slot q) (r : TaggedQueue) (packets : packets_of r ≡ []) (last : last_tag r ≡ 0)
    (arrived : r.arrived ≡ q.arrived) (whole : (b : ℕ) → IsQueueKept b r) where
  same_flow : flow_at (flows_of p) slot ≡ seen p.busy_from slot q
  same_flow = flow_at_seen p.busy_from p.flows.items slot q listed ∙ ap (seen p.busy_from slot) (sym at)

  listed' : slot < length (flows_of p)
  listed' = let l = length-by_slot (seen p.busy_from) p.flows.items in omega arith

  seen_is : seen p.busy_from slot r ≡ no_packets
  seen_is = rw (packets, last, cond_zero (nat_lt p.busy_from r.arrived)) refl

  flows_is : by_slot (seen p.busy_from) (set p.flows.items slot r) ≡ after_discard (flows_of p) slot
  flows_is = by_slot-set (seen p.busy_from) p.flows.items slot r ∙ ap (λ x. set (flows_of p) slot x) seen_is

  pub discards : (new : SchedParts) → new.flows.items ≡ set p.flows.items slot r → new.busy_from ≡ p.busy_from
      → new.virtual_time ≡ p.virtual_time → new.arrivals ≡ p.arrivals → new.picks ≡ p.picks
      → new.eligible.moves + new.waiting.moves ≡ p.eligible.moves + p.waiting.moves → DiscardsSlot slot p new
  discards new nf nb nt na np nm =
      let fs : flows_of new ≡ after_discard (flows_of p) slot = rw (nf, nb) flows_is in
      record {
        flows = fs;
        fewer = let s = waiting-set (flows_of p) slot no_packets listed' in rw fs (omega (arith, s));
        virtual_time = nt;
        arrivals = na;
        picks = np;
        moves = nm;
      }

  abbrev pub left_parts : Heap RankView → Heap RankView → ℕ → SchedParts
  left_parts es ws w = record {
    flows = with_item p.flows slot r;
    eligible = es;
    waiting = ws;
    virtual_time = p.virtual_time;
    weights = w;
    busy_from = p.busy_from;
    arrivals = p.arrivals;
    picks = p.picks;
  }

  made : (es ws : Heap RankView) (w : ℕ) → Kept none_absent [] (set (flows_of p) slot no_packets) es ws p.virtual_time w p.arrivals p.picks → IsSchedKept (left_parts es ws w)
  made es ws w k = record {
    kept = rw flows_is k;
    few = kept.few;
    began = kept.began;
    arrived = All-set (λ x. x.arrived ≤ p.arrivals) p.flows.items slot r (rw (arrived, at) (kept.arrived slot q listed)) kept.arrived;
    queues = All-set (IsQueueKept p.busy_from) p.flows.items slot r (whole p.busy_from) kept.queues;
    slots = let s = kept.slots in let l = length-set p.flows.items slot r in omega arith;
  }

  pub idle_left : packets_of q ≡ [] → IsSchedKept (left_parts p.eligible p.waiting p.weights)
  idle_left nil = made p.eligible p.waiting p.weights (forgot_idle kept.kept slot listed' (rw (same_flow, nil) refl) (rw (same_flow, nil) refl))

  module _ (h : TaggedPacket) (is : first_packet (packets_of q) ≡ Some h) where
    is' : HeadIs (λ x. x ≡ tagged slot h) (flow_at (flows_of p) slot).backlog
    is' = rw same_flow (next_is slot (packets_of q) h is)

    weight_is : head_weight (flow_at (flows_of p) slot).backlog ≡ h.weight
    weight_is = head_weighs (tagged slot h) (flow_at (flows_of p) slot).backlog is'

    pub weighs : h.weight ≤ p.weights
    weighs =
        let g : head_weight (flow_at (flows_of p) slot).backlog ≤ sum_by (λ fl. head_weight fl.backlog) (flows_of p) =
        get_or-le-sum_by (λ fl. head_weight fl.backlog) (flows_of p) slot no_packets listed' in
        let w = kept.kept.weighed in
        omega (arith, weight_is)

    pub took_eligible : NoneDue p → h.start_tag ≤ p.virtual_time → (es : Heap RankView) (r : Option RankView) → IfSome r (λ k. k.slot ≡ slot)
        → IfSome r (λ k. IsPermutation p.eligible.keys (k ∷ es.keys)) → IfSome r (λ k. es.room ≡ p.eligible.room + 1)
        → IfNone r (All (λ k. k.slot ≡ slot → ⊥) p.eligible.keys) → Took slot p.eligible es
    took_eligible due early es r here keys room absent =
        took slot p.eligible es r (record { tag = h.finish_tag; slot = slot }) refl (in_eligible kept.kept slot listed' (tagged slot h) is' due early) here keys room absent

    pub took_waiting : NoneDue p → p.virtual_time < h.start_tag → (ws : Heap RankView) (r : Option RankView) → IfSome r (λ k. k.slot ≡ slot)
        → IfSome r (λ k. IsPermutation p.waiting.keys (k ∷ ws.keys)) → IfSome r (λ k. ws.room ≡ p.waiting.room + 1) → IfNone r (All (λ k. k.slot ≡ slot → ⊥) p.waiting.keys) → Took slot p.waiting ws
    took_waiting due late ws r here keys room absent =
        took slot p.waiting ws r (record { tag = h.start_tag; slot = slot }) refl (in_waiting kept.kept slot listed' (tagged slot h) is' due late) here keys room absent

    pub waiting_left : (ws : Heap RankView) → Took slot p.waiting ws → ws.moves ≡ p.waiting.moves
        → IsSchedKept (left_parts p.eligible ws (p.weights - h.weight))
    waiting_left ws t mw =
        let w = weighs in
        made p.eligible ws (p.weights - h.weight)
        (forgot_waiting kept.kept slot listed' t.key ws (p.weights - h.weight) t.here t.keys mw t.room (omega (arith, weight_is)))

    pub eligible_left : (es : Heap RankView) → Took slot p.eligible es → es.moves ≡ p.eligible.moves
        → IsSchedKept (left_parts es p.waiting (p.weights - h.weight))
    eligible_left es t me =
        let w = weighs in
        made es p.waiting (p.weights - h.weight)
        (forgot_eligible kept.kept slot listed' t.key es (p.weights - h.weight) t.here t.keys me t.room (omega (arith, weight_is)))
