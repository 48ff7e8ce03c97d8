-- What raising virtual time and moving a flow between the heaps keep, and what the heaps say of the scan.
use Rattle.dn_wf2q.proofs.Words.{All, All-cons, All-contains, All-head, All-permutation, All-tail, All-weaker, Contains, Flow, HeadIs, Heap, IsEligible, IsLeast, IsPermutation, IsWaiting}
use Rattle.dn_wf2q.proofs.Words.{IsWithin, Kept, List, None, RankView, Some, Stamped, [], ap, arith, bound, cases_lt, filter, first_to_go, flow_at, head_weight, heads_of, inl, inr, is_eligible}
use Rattle.dn_wf2q.proofs.Words.{length, length_permutation, max, none_absent, option_map, presence, raised, rank_at, rank_cmp, ranks_at, refl, slice_index_or, subst, sum_by-le, sym, weight_sum}
use Rattle.dn_wf2q.proofs.Words.{ℕ, ◌*◌, ◌+◌, ◌<◌, ◌∷◌, ◌≡◌, ◌≤◌}
use Rattle.dn_wf2q.proofs.Heads.{IfHead, head_weaker, head_both, head_if, if_none, presence-le, head_within, head_says, head_of_all, head_weight-le}
use Rattle.dn_wf2q.proofs.Ranks.{ranks_at_pushed, ranks_at_popped, some_rank_at, not_before}
use Rattle.dn_wf2q.proofs.Scan.{raised_is, raised_stays, first_is, first_none, YieldsTo}

abbrev no_key : RankView
no_key = record { tag = 0; slot = 0 }

-- R holds of each head, where it holds of the head of each key's flow.
heads_by : (R : ℕ → Stamped → Type 0) (flows : List Flow) (es ws : List RankView)
    → ((g : ℕ) → ranks_at g es + ranks_at g ws ≡ presence (flow_at flows g).backlog)
    → All (λ k. HeadIs (R k.slot) (flow_at flows k.slot).backlog) es → All (λ k. HeadIs (R k.slot) (flow_at flows k.slot).backlog) ws
    → (g : ℕ) → IfHead (R g) (flow_at flows g).backlog
heads_by R flows es ws placed a b g =
    let q = (flow_at flows g).backlog in
    let pl = placed g in
    let one = presence-le q in
    elim (cases_lt 0 (ranks_at g es)) [
      | inl l ↦ let i = some_rank_at g es l in
          head_if (R g) (R g) (λ p h. h) q (subst (λ x. HeadIs (R x) (flow_at flows x).backlog) (i.2 no_key) (a i.0 no_key i.1))
      | inr n ↦ elim (cases_lt 0 (ranks_at g ws)) [
        | inl l ↦ let i = some_rank_at g ws l in
            head_if (R g) (R g) (λ p h. h) q (subst (λ x. HeadIs (R x) (flow_at flows x).backlog) (i.2 no_key) (b i.0 no_key i.1))
        | inr m ↦ if_none (R g) q (omega arith)
      ]
    ]

module _ {absent : ℕ → ℕ} {out : List Stamped} {flows : List Flow} {eligible waiting : Heap RankView}
    {virtual_time weights arrivals picks : ℕ} (kept : Kept absent out flows eligible waiting virtual_time weights arrivals picks) where
  -- Heads are at most as many as flows.
  pub ranks_at-le : length eligible.keys + length waiting.keys + length out ≤ length flows
  ranks_at-le =
      let s = sum_by-le (λ fl. presence fl.backlog) 1 flows (λ i d l. presence-le (slice_index_or flows i d).backlog) in
      let c = kept.counted in
      omega arith

  pub weights-le : weights + weight_sum out ≤ length flows * 100
  weights-le =
      let s = sum_by-le (λ fl. head_weight fl.backlog) 100 flows (λ i d l. head_weight-le (bound arrivals picks) (slice_index_or flows i d).backlog (kept.bounded i d l).1) in
      let c = kept.weighed in
      omega arith

  -- No head is out of the heaps after all.
  pub all_in : ((slot : ℕ) → absent slot ≡ 0) → out ≡ [] → Kept none_absent [] flows eligible waiting virtual_time weights arrivals picks
  all_in none empty = record {
    placed = λ slot. let z = none slot in let c = kept.placed slot in omega arith;
    ready = kept.ready;
    waits = kept.waits;
    weighed = rw empty at kept.weighed;
    counted = rw empty at kept.counted;
    pushed = rw empty at kept.pushed;
    picked = kept.picked;
    bounded = kept.bounded;
    timely = kept.timely;
    eligible_room = kept.eligible_room;
    waiting_room = kept.waiting_room;
  }

module _ {flows : List Flow} {eligible waiting : Heap RankView} {virtual_time weights arrivals picks : ℕ} (kept : Kept none_absent [] flows eligible waiting virtual_time weights arrivals picks) where
  placed : (g : ℕ) → ranks_at g eligible.keys + ranks_at g waiting.keys ≡ presence (flow_at flows g).backlog
  placed g = let c = kept.placed g in omega arith

  pub later_kept : (v : ℕ) → virtual_time ≤ v → v ≤ bound arrivals picks → Kept none_absent [] flows eligible waiting v weights arrivals picks
  later_kept v l b = record {
    placed = kept.placed;
    ready =
        All-weaker (IsEligible flows virtual_time) (IsEligible flows v) (λ k h. head_weaker
        (λ p. (k.tag ≡ p.finish_tag) × (p.start_tag ≤ virtual_time)) (λ p. (k.tag ≡ p.finish_tag) × (p.start_tag ≤ v))
        (λ p x. let y = x.1 in (x.0, omega arith)) (flow_at flows k.slot).backlog h) eligible.keys kept.ready;
    waits = kept.waits;
    weighed = kept.weighed;
    counted = kept.counted;
    pushed = kept.pushed;
    picked = kept.picked;
    bounded = kept.bounded;
    timely = b;
    eligible_room = kept.eligible_room;
    waiting_room = kept.waiting_room;
  }

  -- The eligible heap is empty, and top is a least key of the waiting heap.
  pub raised_by_top : (top : RankView) → length eligible.keys ≡ 0 → Contains waiting.keys top → IsLeast rank_cmp top waiting.keys → raised virtual_time (heads_of flows) ≡ max virtual_time top.tag
  raised_by_top top e c least =
      let h = All-contains (IsWaiting flows) waiting.keys top kept.waits c in
      raised_is virtual_time top.tag flows top.slot
      (head_weaker (λ p. top.tag ≡ p.start_tag) (λ p. p.start_tag ≤ top.tag) (λ p x. omega arith) (flow_at flows top.slot).backlog h)
      (heads_by (λ g p. top.tag ≤ p.start_tag) flows eligible.keys waiting.keys placed
      (λ i d l. absurd (omega arith))
      (λ i d l. let k = slice_index_or waiting.keys i d in
      let n = (not_before top k (least i d l)).0 in
      head_weaker (λ p. k.tag ≡ p.start_tag) (λ p. top.tag ≤ p.start_tag) (λ p x. omega arith) (flow_at flows k.slot).backlog (kept.waits i d l)))

  -- Some head is in the eligible heap.
  pub raised_ready : 0 < length eligible.keys → raised virtual_time (heads_of flows) ≡ virtual_time
  raised_ready l =
      let k = slice_index_or eligible.keys 0 no_key in
      raised_stays virtual_time flows k.slot
      (head_weaker (λ p. (k.tag ≡ p.finish_tag) × (p.start_tag ≤ virtual_time)) (λ p. p.start_tag ≤ virtual_time) (λ p x. x.1) (flow_at flows k.slot).backlog (kept.ready 0 no_key l))

  -- A key that leaves the eligible heap is its flow's finish tag.
  pub popped_ready : (k : RankView) (es : List RankView) → IsPermutation eligible.keys (k ∷ es) → IsEligible flows virtual_time k
  popped_ready k es p = All-head (IsEligible flows virtual_time) k es (All-permutation (IsEligible flows virtual_time) eligible.keys (k ∷ es) p kept.ready)

  pub held_ready : (k : RankView) → Contains eligible.keys k → IsEligible flows virtual_time k
  held_ready k held = All-contains (IsEligible flows virtual_time) eligible.keys k kept.ready held

  -- No key of the waiting heap is above the bound.
  pub top_within : (top : RankView) → Contains waiting.keys top → top.tag ≤ bound arrivals picks
  top_within top c =
      let h = All-contains (IsWaiting flows) waiting.keys top kept.waits c in
      let w = head_within (λ p. top.tag ≡ p.start_tag) (bound arrivals picks) flows top.slot kept.bounded h in
      let q = (flow_at flows top.slot).backlog in
      head_says (λ p. (top.tag ≡ p.start_tag) × IsWithin (bound arrivals picks) p) (top.tag ≤ bound arrivals picks) (λ p x. let a = x.0 in let b = x.1.0 in omega arith) q
      (head_both (λ p. top.tag ≡ p.start_tag) (IsWithin (bound arrivals picks)) (λ p. (top.tag ≡ p.start_tag) × IsWithin (bound arrivals picks) p) (λ p a b. (a, b)) q h w)

  -- A key that leaves the waiting heap is its flow's start tag.
  pub popped_waits : (k : RankView) (ws : List RankView) → IsPermutation waiting.keys (k ∷ ws) → HeadIs (λ p. k.tag ≡ p.start_tag) (flow_at flows k.slot).backlog
  popped_waits k ws p = All-head (IsWaiting flows) k ws (All-permutation (IsWaiting flows) waiting.keys (k ∷ ws) p kept.waits)

  pub promoted_kept : (k e : RankView) (es ws : Heap RankView) → IsPermutation waiting.keys (k ∷ ws.keys)
      → IsPermutation (e ∷ eligible.keys) es.keys → e.slot ≡ k.slot → k.tag ≤ virtual_time
      → HeadIs (λ p. e.tag ≡ p.finish_tag) (flow_at flows k.slot).backlog → es.room + 1 ≡ eligible.room → es.moves ≡ eligible.moves + 1
      → ws.room ≡ waiting.room + 1 → ws.moves ≡ waiting.moves → Kept none_absent [] flows es ws virtual_time weights arrivals picks
  promoted_kept k e es ws p q same low fin er em wr wm =
      let w = popped_waits k ws.keys p in
      let lw = length_permutation waiting.keys (k ∷ ws.keys) p in
      let le = length_permutation (e ∷ eligible.keys) es.keys q in
      let both : HeadIs (λ p. (e.tag ≡ p.finish_tag) × (p.start_tag ≤ virtual_time)) (flow_at flows e.slot).backlog =
      rw same (head_both (λ p. e.tag ≡ p.finish_tag) (λ p. k.tag ≡ p.start_tag) (λ p. (e.tag ≡ p.finish_tag) × (p.start_tag ≤ virtual_time))
      (λ p a b. (a, omega arith)) (flow_at flows k.slot).backlog fin w) in
      record {
        placed = λ f.
            let a = ranks_at_popped f k waiting.keys ws.keys p in
            let b = ranks_at_pushed f e eligible.keys es.keys q in
            let c = kept.placed f in
            let s : rank_at f e ≡ rank_at f k = rw same refl in
            omega arith;
        ready = All-permutation (IsEligible flows virtual_time) (e ∷ eligible.keys) es.keys q (All-cons (IsEligible flows virtual_time) e eligible.keys both kept.ready);
        waits = All-tail (IsWaiting flows) k ws.keys (All-permutation (IsWaiting flows) waiting.keys (k ∷ ws.keys) p kept.waits);
        weighed = kept.weighed;
        counted = let c = kept.counted in omega arith;
        pushed = let c = kept.pushed in omega arith;
        picked = let c = kept.picked in omega arith;
        bounded = kept.bounded;
        timely = kept.timely;
        eligible_room = let c = kept.eligible_room in omega arith;
        waiting_room = let c = kept.waiting_room in omega arith;
      }

  head_when : (A : Type 0) (P R : Stamped → Type 0) (q : List Stamped) → HeadIs P q → (A → HeadIs R q) → HeadIs (λ p. A → R p) q
  head_when A P R [] h r = h
  head_when A P R (p ∷ q) h r = r

  -- The least key of the eligible heap belongs to the scan's pick.
  pub picked_is : ((g : ℕ) → All (λ p. p.flow ≡ g) (flow_at flows g).backlog) → (k : RankView) → IsEligible flows virtual_time k
      → IsLeast rank_cmp k eligible.keys → All (λ e. virtual_time < e.tag) waiting.keys
      → (h : Stamped) → HeadIs (λ p. p ≡ h) (flow_at flows k.slot).backlog
      → first_to_go (filter (is_eligible virtual_time) (heads_of flows)) ≡ Some h
  picked_is own k ready least late h is =
      let backlog = (flow_at flows k.slot).backlog in
      let mine =
      head_both (λ x. x ≡ h) (λ x. (k.tag ≡ x.finish_tag) × (x.start_tag ≤ virtual_time))
      (λ x. ((x ≡ h) × (x.start_tag ≤ virtual_time)) × (k.tag ≡ x.finish_tag)) (λ x a b. ((a, b.1), b.0)) backlog is ready in
      let tag : k.tag ≡ h.finish_tag =
      head_says (λ x. ((x ≡ h) × (x.start_tag ≤ virtual_time)) × (k.tag ≡ x.finish_tag)) (k.tag ≡ h.finish_tag)
      (λ x a. subst (λ (y : Stamped). k.tag ≡ y.finish_tag) a.0.0 a.1) backlog mine in
      let slot : h.flow ≡ k.slot = head_says (λ x. (x ≡ h) × (x.flow ≡ k.slot)) (h.flow ≡ k.slot) (λ x a. subst (λ (y : Stamped). y.flow ≡ k.slot) a.0 a.1) backlog
      (head_both (λ x. x ≡ h) (λ x. x.flow ≡ k.slot) (λ x. (x ≡ h) × (x.flow ≡ k.slot)) (λ x a b. (a, b)) backlog is (head_of_all (λ x. x ≡ h) (λ x. x.flow ≡ k.slot) backlog is (own k.slot))) in
      first_is virtual_time flows k.slot h
      (head_weaker (λ x. ((x ≡ h) × (x.start_tag ≤ virtual_time)) × (k.tag ≡ x.finish_tag)) (λ x. (x ≡ h) × (x.start_tag ≤ virtual_time)) (λ x a. a.0) backlog mine)
      (heads_by (λ g x. YieldsTo virtual_time h x) flows eligible.keys waiting.keys placed
      (λ i d l. let e = slice_index_or eligible.keys i d in
      let n = not_before k e (least i d l) in
      let n0 = n.0 in
      let n1 = n.1 in
      let q = (flow_at flows e.slot).backlog in
      let r = kept.ready i d l in
      let own' = head_of_all (λ x. (e.tag ≡ x.finish_tag) × (x.start_tag ≤ virtual_time)) (λ x. x.flow ≡ e.slot) q r (own e.slot) in
      let same = head_when (e.slot ≡ k.slot) (λ x. x.flow ≡ e.slot) (λ x. x ≡ h) q own' (λ s. subst (λ y. HeadIs (λ x. x ≡ h) (flow_at flows y).backlog) (sym s) is) in
      head_both (λ x. (e.tag ≡ x.finish_tag) × (x.start_tag ≤ virtual_time)) (λ x. (x.flow ≡ e.slot) × (e.slot ≡ k.slot → x ≡ h)) (YieldsTo virtual_time h)
      (λ x a b. let a0 = a.0 in let b0 = b.0 in λ _. ((omega arith, λ t. let u = n1 (omega arith) in omega arith), λ t. b.1 (omega arith)))
      q r (head_both (λ x. x.flow ≡ e.slot) (λ x. e.slot ≡ k.slot → x ≡ h) (λ x. (x.flow ≡ e.slot) × (e.slot ≡ k.slot → x ≡ h)) (λ x a b. (a, b)) q own' same))
      (λ i d l. let e = slice_index_or waiting.keys i d in
      let t = late i d l in
      head_weaker (λ x. e.tag ≡ x.start_tag) (YieldsTo virtual_time h) (λ x a. λ low. absurd (omega arith)) (flow_at flows e.slot).backlog (kept.waits i d l)))

  pub picked_slot : ((g : ℕ) → All (λ p. p.flow ≡ g) (flow_at flows g).backlog) → (k : RankView) → IsEligible flows virtual_time k
      → IsLeast rank_cmp k eligible.keys → All (λ e. virtual_time < e.tag) waiting.keys
      → Some k.slot ≡ option_map (λ h. h.flow) (first_to_go (filter (is_eligible virtual_time) (heads_of flows)))
  picked_slot own k ready least late = at (flow_at flows k.slot).backlog refl ready
    where
      at : (q : List Stamped) → (flow_at flows k.slot).backlog ≡ q → HeadIs (λ p. (k.tag ≡ p.finish_tag) × (p.start_tag ≤ virtual_time)) q
          → Some k.slot ≡ option_map (λ h. h.flow) (first_to_go (filter (is_eligible virtual_time) (heads_of flows)))
      at [] is ready = absurd ready
      at (h ∷ q) is ready =
          let here : h.flow ≡ k.slot = All-head (λ p. p.flow ≡ k.slot) h q (rw is at (own k.slot)) in
          rw (picked_is own k (rw is ready) least late h (rw is refl)) (ap (λ g. Some g) (sym here))

  -- Nothing is eligible.
  pub picked_none : length eligible.keys ≡ 0 → All (λ e. virtual_time < e.tag) waiting.keys → first_to_go (filter (is_eligible virtual_time) (heads_of flows)) ≡ None
  picked_none z late =
      first_none virtual_time flows
      (heads_by (λ g p. virtual_time < p.start_tag) flows eligible.keys waiting.keys placed
      (λ i d l. absurd (omega arith))
      (λ i d l. let e = slice_index_or waiting.keys i d in
      let t = late i d l in
      head_weaker (λ p. e.tag ≡ p.start_tag) (λ p. virtual_time < p.start_tag) (λ p x. omega arith) (flow_at flows e.slot).backlog (kept.waits i d l)))
