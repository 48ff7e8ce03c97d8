-- A head enters the heap in which it belongs.
use Rattle.dn_wf2q.proofs.Words.{All, All-cons, All-permutation, Flow, HeadIs, Heap, IsEligible, IsPermutation, IsWaiting, Kept, List, RankView, Stamped, [], arith, cases_eq, flow_at, inl, inr}
use Rattle.dn_wf2q.proofs.Words.{length, length_permutation, none_absent, only_absent, ranks_at, refl, sym, ℕ, ◌+◌, ◌<◌, ◌^◌, ◌∙◌, ◌∷◌, ◌≡◌, ◌≤◌}
use Rattle.dn_wf2q.proofs.Heads.{head_listed, head_weaker, presence-le}
use Rattle.dn_wf2q.proofs.Ranks.{ranks_at_pushed, rank_at_same, rank_at_other, absent_same, absent_other, no_rank_at}
use Rattle.dn_wf2q.proofs.Steps.{ranks_at-le}

module _ {flows : List Flow} {eligible waiting : Heap RankView} {virtual_time weights arrivals picks : ℕ} (slot : ℕ) (h : Stamped)
    (kept : Kept (only_absent slot) (h ∷ []) flows eligible waiting virtual_time weights arrivals picks)
    (is : HeadIs (λ x. x ≡ h) (flow_at flows slot).backlog) where
  pub enter_room : arrivals ≤ 2 ^ 62 → (0 < eligible.room) × (0 < waiting.room) × (eligible.moves < 2 ^ 63) × (waiting.moves < 2 ^ 63)
  enter_room few =
      let s = ranks_at-le kept in
      let a = kept.eligible_room in
      let b = kept.waiting_room in
      let c = kept.pushed in
      (omega arith, omega arith, omega arith, omega arith)

  -- Neither heap has a key of the slot, and each has a place for it.
  none : (ranks_at slot eligible.keys ≡ 0) × (ranks_at slot waiting.keys ≡ 0)
  none =
      let c = kept.placed slot in
      let a = absent_same slot slot 1 refl in
      let m = presence-le (flow_at flows slot).backlog in
      (omega arith, omega arith)

  pub free_in_eligible : All (λ k. k.slot ≡ slot → ⊥) eligible.keys
  free_in_eligible = no_rank_at slot eligible.keys none.0

  pub free_in_waiting : All (λ k. k.slot ≡ slot → ⊥) waiting.keys
  free_in_waiting = no_rank_at slot waiting.keys none.1

  pub numbered : (slot < length eligible.keys + eligible.room) × (slot < length waiting.keys + waiting.room)
  numbered =
      let l = head_listed (λ x. x ≡ h) flows slot is in
      let a = kept.eligible_room in
      let b = kept.waiting_room in
      (omega arith, omega arith)

  -- What a heap gains is what was absent.
  placed : (e : RankView) → e.slot ≡ slot → (keys keys' : List RankView) → IsPermutation (e ∷ keys) keys' → (g : ℕ) → ranks_at g keys' ≡ ranks_at g keys + only_absent slot g
  placed e same keys keys' q g = elim (cases_eq g slot) [
    | inl eq ↦
        let a = ranks_at_pushed g e keys keys' q in
        let z = rank_at_same g e (same ∙ sym eq) in
        let w = absent_same slot g 1 (sym eq) in
        omega arith
    | inr n ↦
        let a = ranks_at_pushed g e keys keys' q in
        let z = rank_at_other g e (λ y. n (sym y ∙ same)) in
        let w = absent_other slot g 1 (λ y. n (sym y)) in
        omega arith
  ]

  pub entered_waiting : (e : RankView) (ws : Heap RankView) → e.slot ≡ slot → e.tag ≡ h.start_tag → IsPermutation (e ∷ waiting.keys) ws.keys
      → ws.moves ≡ waiting.moves + 1 → ws.room + 1 ≡ waiting.room
      → Kept none_absent [] flows eligible ws virtual_time (weights + h.weight) arrivals picks
  entered_waiting e ws same tag q mw rw' =
      let l = length_permutation (e ∷ waiting.keys) ws.keys q in
      let one : IsWaiting flows e = rw same (head_weaker (λ x. x ≡ h) (λ x. e.tag ≡ x.start_tag) (λ x y. rw y tag) (flow_at flows slot).backlog is) in
      record {
        placed = λ g. let p = placed e same waiting.keys ws.keys q g in let c = kept.placed g in omega arith;
        ready = kept.ready;
        waits = All-permutation (IsWaiting flows) (e ∷ waiting.keys) ws.keys q (All-cons (IsWaiting flows) e waiting.keys one kept.waits);
        weighed = let c = kept.weighed in omega arith;
        counted = let c = kept.counted in omega arith;
        pushed = let c = kept.pushed in omega arith;
        picked = kept.picked;
        bounded = kept.bounded;
        timely = kept.timely;
        eligible_room = kept.eligible_room;
        waiting_room = let c = kept.waiting_room in omega arith;
      }

  pub entered_eligible : (e : RankView) (es : Heap RankView) → h.start_tag ≤ virtual_time → e.slot ≡ slot → e.tag ≡ h.finish_tag
      → IsPermutation (e ∷ eligible.keys) es.keys → es.moves ≡ eligible.moves + 1 → es.room + 1 ≡ eligible.room
      → Kept none_absent [] flows es waiting virtual_time (weights + h.weight) arrivals picks
  entered_eligible e es low same tag q me re =
      let l = length_permutation (e ∷ eligible.keys) es.keys q in
      let one : IsEligible flows virtual_time e =
      rw same
      (head_weaker (λ x. x ≡ h) (λ x. (e.tag ≡ x.finish_tag) × (x.start_tag ≤ virtual_time)) (λ x y. rw y (tag, low)) (flow_at flows slot).backlog is) in
      record {
        placed = λ g. let p = placed e same eligible.keys es.keys q g in let c = kept.placed g in omega arith;
        ready = All-permutation (IsEligible flows virtual_time) (e ∷ eligible.keys) es.keys q (All-cons (IsEligible flows virtual_time) e eligible.keys one kept.ready);
        waits = kept.waits;
        weighed = let c = kept.weighed in omega arith;
        counted = let c = kept.counted in omega arith;
        pushed = let c = kept.pushed in omega arith;
        picked = let c = kept.picked in omega arith;
        bounded = kept.bounded;
        timely = kept.timely;
        eligible_room = let c = kept.eligible_room in omega arith;
        waiting_room = kept.waiting_room;
      }
