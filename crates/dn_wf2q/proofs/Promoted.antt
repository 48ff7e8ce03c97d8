-- A flow moves from the waiting heap to the eligible one.
use Rattle.dn_wf2q.proofs.Words.{All, HeadIs, Heap, IfSome, IsPermutation, IsSchedKept, RankView, SchedParts, TaggedQueue, ap, arith, bound, first_packet, flow_at, flows_of, get_or, length}
use Rattle.dn_wf2q.proofs.Words.{length_permutation, map, packets_of, seen, sym, tagged, ℕ, ◌+◌, ◌<◌, ◌^◌, ◌∙◌, ◌∷◌, ◌≡◌, ◌≤◌}
use Rattle.dn_wf2q.proofs.BySlot.{length-by_slot}
use Rattle.dn_wf2q.proofs.Heads.{head_listed, presence-le, flow_at_seen, flow_within, some_packets, head_weaker, first_finishes}
use Rattle.dn_wf2q.proofs.Payable.{bound_fits, first_within}
use Rattle.dn_wf2q.proofs.Ranks.{no_rank_at, rank_at_same, ranks_at_popped}
use Rattle.dn_wf2q.proofs.Steps.{popped_waits, promoted_kept, ranks_at-le}

-- The key k of this slot left the waiting heap.
module _ (p : SchedParts) (kept : IsSchedKept p) (k : RankView) (slot : ℕ) (this : slot ≡ k.slot) (ws : Heap RankView) (perm : IsPermutation p.waiting.keys (k ∷ ws.keys)) where
  waits : HeadIs (λ x. k.tag ≡ x.start_tag) (flow_at (flows_of p) slot).backlog
  waits = rw this (popped_waits kept.kept k ws.keys perm)

  pub listed : slot < length p.flows.items
  listed =
      let l = head_listed (λ x. k.tag ≡ x.start_tag) (flows_of p) slot waits in
      omega (arith, length-by_slot (seen p.busy_from) p.flows.items)

  pub has_room : 0 < p.eligible.room
  has_room =
      let l = length_permutation p.waiting.keys (k ∷ ws.keys) perm in
      let s = ranks_at-le kept.kept in
      let r = kept.kept.eligible_room in
      omega arith

  -- The eligible heap has a place for the slot, and no key of it.
  pub numbered : slot < length p.eligible.keys + p.eligible.room
  numbered =
      let l = listed in
      let r = kept.kept.eligible_room in
      omega (arith, length-by_slot (seen p.busy_from) p.flows.items)

  pub free : All (λ x. x.slot ≡ slot → ⊥) p.eligible.keys
  free =
      let c = kept.kept.placed slot in
      let a = ranks_at_popped slot k p.waiting.keys ws.keys perm in
      let z = rank_at_same slot k (sym this) in
      let m = presence-le (flow_at (flows_of p) slot).backlog in
      no_rank_at slot p.eligible.keys (omega arith)

  module _ (q : TaggedQueue) (at : q ≡ get_or p.flows.items slot q) where
    same_flow : flow_at (flows_of p) slot ≡ seen p.busy_from slot q
    same_flow = flow_at_seen p.busy_from p.flows.items slot q listed ∙ ap (seen p.busy_from slot) (sym at)

    has_head : 0 < length (packets_of q)
    has_head = some_packets (λ x. k.tag ≡ x.start_tag) slot (packets_of q) (rw same_flow at waits)

    pub tag_fits : (finish : ℕ) → IfSome (first_packet (packets_of q)) (λ head. head.finish_tag ≡ finish) → finish < 2 ^ 96
    tag_fits finish first =
        let b = bound p.arrivals p.picks in
        let all = rw same_flow at (flow_within b (flows_of p) slot kept.kept.bounded).1 in
        let within = first_within b slot finish (packets_of q) has_head first all in
        let fits = bound_fits p kept in
        omega arith

    -- It enters the eligible heap under the key e.
    pub moved : (finish : ℕ) (e : RankView) (es : Heap RankView) → IfSome (first_packet (packets_of q)) (λ head. head.finish_tag ≡ finish)
        → k.tag ≤ p.virtual_time → e.slot ≡ slot → e.tag ≡ finish → IsPermutation (e ∷ p.eligible.keys) es.keys
        → es.room + 1 ≡ p.eligible.room → es.moves ≡ p.eligible.moves + 1 → ws.room ≡ p.waiting.room + 1 → ws.moves ≡ p.waiting.moves
        → IsSchedKept (record p { eligible = es; waiting = ws })
    moved finish e es first low same tag into er em wr wm = record {
      kept = promoted_kept kept.kept k e es ws perm into (same ∙ this) low
          (rw (← this, same_flow) (head_weaker (λ x. finish ≡ x.finish_tag) (λ x. e.tag ≡ x.finish_tag) (λ x y. tag ∙ y) (map (tagged slot) (packets_of q))
          (first_finishes slot finish (packets_of q) has_head first)))
          er em wr wm;
      few = kept.few;
      began = kept.began;
      arrived = kept.arrived;
      queues = kept.queues;
      slots = kept.slots;
    }
