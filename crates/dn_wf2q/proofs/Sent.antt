-- The head of a flow is sent.
use Rattle.dn_wf2q.proofs.Words.{All, All-head, All-permutation, All-set, All-tail, All-weaker, AreTagsWithin, Flow, HeadIs, Heap, IfSome, IsEligible, IsFirst, IsKeptBut, IsKeptWithout}
use Rattle.dn_wf2q.proofs.Words.{IsPermutation, IsQueueKept, IsSchedKept, IsWaiting, IsWithin, Kept, List, None, Option, QueuedPacket, RankView, SchedParts, SendsHead, Some, Stamped, TaggedPacket}
use Rattle.dn_wf2q.proofs.Words.{TaggedQueue, [], after_pick, ap, arith, behind, bound, cases_eq, cond, div-le_self, drop, first_packet, flow_at, flows_of, get_or, get_or-le-sum_by}
use Rattle.dn_wf2q.proofs.Words.{get_or-set_other, get_or-set_same, head_weight, heads_of, inl, inr, last_tag, length, length-set, length_permutation, map, next_behind, next_of, no_packets}
use Rattle.dn_wf2q.proofs.Words.{none_absent, only_absent, option_map, packets_of, presence, ranks_at, refl, scaled, seen, set, slice_get, slice_index_or, stamped_behind, stamped_from, subst}
use Rattle.dn_wf2q.proofs.Words.{sum_by, sum_by-set, sym, tagged, take, weight_sum, with_item, without_head, ℕ, ◌*◌, ◌+◌, ◌-◌, ◌<◌, ◌==◌, ◌^◌, ◌∙◌, ◌∷◌, ◌≡◌, ◌≤◌}
use Rattle.dn_wf2q.specs.Queue.{untagged}
use Rattle.dn_wf2q.proofs.BySlot.{length-by_slot, by_slot-set}
use Rattle.dn_wf2q.proofs.Heads.{head_listed, head_weaker, flow_at_seen, some_packets, flow_within, within_more, flow_within_more, length-split, first_facts, cond_zero}
use Rattle.dn_wf2q.proofs.Counts.{length_of_first, weight_of_first, weights_are, waiting-set}
use Rattle.dn_wf2q.proofs.Ranks.{ranks_at_popped, no_rank_at, rank_at_same, rank_at_other, absent_same, absent_other}
use Rattle.dn_wf2q.proofs.Steps.{all_in}

-- Neither a packet's cost nor the growth by it is above this.
pub scaled-le : (len w : ℕ) → len < 65536 → scaled len w ≤ 4294967296
scaled-le len w l = let d = div-le_self (len * 65536) w in omega arith

-- The key k leaves the eligible heap; at its slot `sent` leaves and `rest` is left.
module _ {flows : List Flow} {eligible waiting : Heap RankView} {virtual_time weights arrivals picks : ℕ}
    (kept : Kept none_absent [] flows eligible waiting virtual_time weights arrivals picks) (k : RankView) (es : Heap RankView)
    (p : IsPermutation eligible.keys (k ∷ es.keys)) (sent : Stamped) (rest : List Stamped)
    (is : (flow_at flows k.slot).backlog ≡ sent ∷ rest) where
  left_in_eligible : ranks_at k.slot es.keys ≡ 0
  left_in_eligible =
      let a = ranks_at_popped k.slot k eligible.keys es.keys p in
      let b = rank_at_same k.slot k refl in
      let c = rw is at (kept.placed k.slot) in
      omega arith

  left_in_waiting : ranks_at k.slot waiting.keys ≡ 0
  left_in_waiting =
      let a = ranks_at_popped k.slot k eligible.keys es.keys p in
      let b = rank_at_same k.slot k refl in
      let c = rw is at (kept.placed k.slot) in
      omega arith

  -- What a flow is set to does not matter to the keys of the others.
  others_ready : (fl : Flow) (v : ℕ) → virtual_time ≤ v → All (IsEligible (set flows k.slot fl) v) es.keys
  others_ready fl v l i d h =
      let e = slice_index_or es.keys i d in
      let n = no_rank_at k.slot es.keys left_in_eligible i d h in
      let was = All-tail (IsEligible flows virtual_time) k es.keys (All-permutation (IsEligible flows virtual_time) eligible.keys (k ∷ es.keys) p kept.ready) i d h in
      rw (get_or-set_other flows k.slot e.slot fl no_packets n)
      (head_weaker (λ p. (e.tag ≡ p.finish_tag) × (p.start_tag ≤ virtual_time)) (λ p. (e.tag ≡ p.finish_tag) × (p.start_tag ≤ v))
      (λ p x. let y = x.1 in (x.0, omega arith)) (flow_at flows e.slot).backlog was)

  others_wait : (fl : Flow) → All (IsWaiting (set flows k.slot fl)) waiting.keys
  others_wait fl i d h =
      let e = slice_index_or waiting.keys i d in
      let n = no_rank_at k.slot waiting.keys left_in_waiting i d h in
      rw (get_or-set_other flows k.slot e.slot fl no_packets n) (kept.waits i d h)

  pub sent_within : IsWithin (bound arrivals picks) sent × All (IsWithin (bound arrivals picks)) rest × ((flow_at flows k.slot).last_finish_tag ≤ bound arrivals picks)
  sent_within =
      let w = flow_within (bound arrivals picks) flows k.slot kept.bounded in
      let all = rw is at w.1 in
      (All-head (IsWithin (bound arrivals picks)) sent rest all, All-tail (IsWithin (bound arrivals picks)) sent rest all, w.0)

  pub sent_listed : k.slot < length flows
  sent_listed = head_listed (λ x. x ≡ sent) flows k.slot (rw is refl)

  pub sent_weighs : (0 < sent.weight) × (sent.weight ≤ weights)
  sent_weighs =
      let g : head_weight (flow_at flows k.slot).backlog ≤ sum_by (λ fl. head_weight fl.backlog) flows = get_or-le-sum_by (λ fl. head_weight fl.backlog) flows k.slot no_packets sent_listed in
      let h : sent.weight ≤ sum_by (λ fl. head_weight fl.backlog) flows = rw is at g in
      let e = kept.weighed in
      (sent_within.0.3, omega arith)

  -- The next head, if there is one, is in no heap yet.
  pub sent_kept : (v w last : ℕ) → es.moves ≡ eligible.moves → es.room ≡ eligible.room + 1 → virtual_time ≤ v
      → v ≤ bound arrivals (picks + 1) → w + sent.weight ≡ weights → last ≤ bound arrivals picks
      → Kept (λ slot. cond (k.slot == slot) (presence rest) 0) (take 1 rest) (set flows k.slot (record { backlog = rest; last_finish_tag = last })) es waiting v w arrivals (picks + 1)
  sent_kept v w last me re tv vb wq lb =
      let fl : Flow = record { backlog = rest; last_finish_tag = last } in
      let le = length_permutation eligible.keys (k ∷ es.keys) p in
      let long = length-set flows k.slot fl in
      let weigh : sum_by (λ x. head_weight x.backlog) (set flows k.slot fl) + head_weight (flow_at flows k.slot).backlog ≡ sum_by (λ x. head_weight x.backlog) flows + head_weight rest =
      sum_by-set (λ x. head_weight x.backlog) flows k.slot fl no_packets sent_listed in
      let heads : sum_by (λ x. presence x.backlog) (set flows k.slot fl) + presence (flow_at flows k.slot).backlog ≡ sum_by (λ x. presence x.backlog) flows + presence rest =
      sum_by-set (λ x. presence x.backlog) flows k.slot fl no_packets sent_listed in
      let tails : sum_by (λ x. behind x.backlog) (set flows k.slot fl) + behind (flow_at flows k.slot).backlog ≡ sum_by (λ x. behind x.backlog) flows + behind rest =
      sum_by-set (λ x. behind x.backlog) flows k.slot fl no_packets sent_listed in
      let weigh' = rw is at weigh in
      let heads' = rw is at heads in
      let tails' = rw is at tails in
      let split = length-split rest in
      let out = length_of_first rest in
      let one = weight_of_first rest in
      record {
        placed = λ g. elim (cases_eq k.slot g) [
          | inl e ↦
              let z = absent_same k.slot g (presence rest) e in
              let a = left_in_eligible in
              let b = left_in_waiting in
              rw z (subst (λ x. ranks_at x es.keys + ranks_at x waiting.keys + presence rest ≡ presence (flow_at (set flows k.slot fl) x).backlog) e
              (rw (get_or-set_same flows k.slot fl no_packets sent_listed) (omega arith)))
          | inr n ↦
              let a = ranks_at_popped g k eligible.keys es.keys p in
              let z = rank_at_other g k n in
              let y = absent_other k.slot g (presence rest) n in
              let c = kept.placed g in
              rw (get_or-set_other flows k.slot g fl no_packets (λ e. n (sym e))) (omega arith)
        ];
        ready = others_ready fl v tv;
        waits = others_wait fl;
        weighed = let c = kept.weighed in omega arith;
        counted = let c = kept.counted in omega arith;
        pushed = let c = kept.pushed in omega arith;
        picked = let c = kept.picked in omega arith;
        bounded = All-set (AreTagsWithin (bound arrivals (picks + 1))) flows k.slot fl
            (omega arith, All-weaker (IsWithin (bound arrivals picks)) (IsWithin (bound arrivals (picks + 1))) (λ x h. within_more _ _ x (omega arith) h) rest sent_within.1)
            (All-weaker (AreTagsWithin (bound arrivals picks)) (AreTagsWithin (bound arrivals (picks + 1))) (λ x h. flow_within_more _ _ x (omega arith) h) flows kept.bounded);
        timely = vb;
        eligible_room = let c = kept.eligible_room in omega arith;
        waiting_room = let c = kept.waiting_room in omega arith;
      }

abbrev size_or_none : Option (ℕ × ℕ) → ℕ × ℕ
size_or_none None = (0, 0)
size_or_none (Some size) = size

-- A packet is known by its length and weight.
same_packet : (a b : Option QueuedPacket) → option_map untagged a ≡ option_map untagged b → a ≡ b
same_packet None None e = refl
same_packet None (Some b) e = absurd cc
same_packet (Some a) None e = absurd cc
same_packet (Some a) (Some b) e =
    let same : untagged a ≡ untagged b = ap size_or_none e in
    λ i. Some (record { len = (same i).0; weight = (same i).1 })

first_behind : (slot f : ℕ) (ps : List QueuedPacket) → next_of (map (tagged slot) (stamped_behind f ps)) ≡ option_map untagged (slice_get ps 0)
first_behind slot f [] = refl
first_behind slot f (p ∷ ps) = refl

-- Behind a head the first packet is the first of those behind.
untagged_next : (slot : ℕ) (head : Option QueuedPacket) (f : ℕ) (ps : List QueuedPacket) → 0 < length (stamped_from head f ps)
    → next_of (drop 1 (map (tagged slot) (stamped_from head f ps))) ≡ option_map untagged (slice_get ps 0)
untagged_next slot None f ps l = absurd (omega arith)
untagged_next slot (Some h) f ps l = first_behind slot f ps

-- What holds of the pick's slot holds of the slot that is picked.
pub at_slot : (P : ℕ → Type 0) (slot : ℕ) (o : Option Stamped) → Some slot ≡ option_map (λ h. h.flow) o → IfSome o (λ h. P h.flow) → P slot
at_slot P slot None e h = absurd cc
at_slot P slot (Some s) e h = let same : slot ≡ s.flow = cc in subst P (sym same) h

-- The parts, where the key k left the eligible heap.
module _ (p : SchedParts) (kept : IsSchedKept p) (k : RankView) (es : Heap RankView) (perm : IsPermutation p.eligible.keys (k ∷ es.keys)) where
  ready : HeadIs (λ x. (k.tag ≡ x.finish_tag) × (x.start_tag ≤ p.virtual_time)) (flow_at (flows_of p) k.slot).backlog
  ready = All-head (IsEligible (flows_of p) p.virtual_time) k es.keys (All-permutation (IsEligible (flows_of p) p.virtual_time) p.eligible.keys (k ∷ es.keys) perm kept.kept.ready)

  pub listed : k.slot < length p.flows.items
  listed =
      let l = head_listed (λ x. (k.tag ≡ x.finish_tag) × (x.start_tag ≤ p.virtual_time)) (flows_of p) k.slot ready in
      omega (arith, length-by_slot (seen p.busy_from) p.flows.items)

  module _ (q : TaggedQueue) (at : q ≡ get_or p.flows.items k.slot q) where
    same_flow : flow_at (flows_of p) k.slot ≡ seen p.busy_from k.slot q
    same_flow = flow_at_seen p.busy_from p.flows.items k.slot q listed ∙ ap (seen p.busy_from k.slot) (sym at)

    pub has_head : 0 < length (packets_of q)
    has_head = some_packets (λ x. (k.tag ≡ x.finish_tag) × (x.start_tag ≤ p.virtual_time)) k.slot (packets_of q) (rw same_flow at ready)

    was_whole : IsQueueKept p.busy_from q
    was_whole = subst (IsQueueKept p.busy_from) (sym at) (kept.queues k.slot q listed)

    -- The packet behind the head is the one that is told.
    pub next_is : (next : Option QueuedPacket) → IsFirst next (drop 1 (flow_at (flows_of p) k.slot).backlog) → next ≡ next_behind q
    next_is next first = same_packet next (next_behind q) (rw same_flow at first ∙ untagged_next k.slot q.head q.finish_tag q.behind.packets has_head)

    module _ (r : TaggedQueue) (sent : TaggedPacket) (is : packets_of q ≡ sent ∷ packets_of r)
        (last : last_tag r ≡ last_tag q) (arrived : r.arrived ≡ q.arrived)
        (whole : (b : ℕ) → IsQueueKept b q → IsQueueKept b r) where
      abbrev head : Stamped
      head = tagged k.slot sent

      abbrev rest : List Stamped
      rest = map (tagged k.slot) (packets_of r)

      rest_is : (flow_at (flows_of p) k.slot).backlog ≡ head ∷ rest
      rest_is = rw (same_flow, is) refl

      pub head_is : HeadIs (λ x. x ≡ head) (flow_at (flows_of p) k.slot).backlog
      head_is = rw rest_is refl

      seen_is : seen p.busy_from k.slot r ≡ without_head (flow_at (flows_of p) k.slot)
      seen_is = rw (same_flow, is, last, arrived) refl

      flows_is : flows_of (record p { flows = with_item p.flows k.slot r }) ≡ after_pick (flows_of p) k.slot
      flows_is = by_slot-set (seen p.busy_from) p.flows.items k.slot r ∙ ap (λ x. set (flows_of p) k.slot x) seen_is

      pub weighs : (0 < sent.weight) × (sent.weight ≤ p.weights)
      weighs = sent_weighs kept.kept k es perm head rest rest_is

      within : IsWithin (bound p.arrivals p.picks) head × All (IsWithin (bound p.arrivals p.picks)) rest × ((flow_at (flows_of p) k.slot).last_finish_tag ≤ bound p.arrivals p.picks)
      within = sent_within kept.kept k es perm head rest rest_is

      pub sends : (new : SchedParts) → new.flows.items ≡ set p.flows.items k.slot r → new.busy_from ≡ p.busy_from
          → new.virtual_time ≡ p.virtual_time + scaled sent.len p.weights → new.arrivals ≡ p.arrivals → new.picks ≡ p.picks + 1
          → SendsHead head p.virtual_time p new
      sends new nf nb nt na np =
          let fs : flows_of new ≡ after_pick (flows_of p) k.slot = rw (nf, nb) flows_is in
          let w : p.weights ≡ weight_sum (heads_of (flows_of p)) = let c = kept.kept.weighed in let s = weights_are (flows_of p) in omega arith in
          record {
            head = rw rest_is refl;
            flows = fs;
            virtual_time = rw (← w) nt;
            arrivals = na;
            picks = np;
            one_fewer =
                let l = sent_listed kept.kept k es perm head rest rest_is in
                let s = waiting-set (flows_of p) k.slot (without_head (flow_at (flows_of p) k.slot)) l in
                let t : length (flow_at (flows_of p) k.slot).backlog ≡ length (without_head (flow_at (flows_of p) k.slot)).backlog + 1 = rw rest_is (omega arith) in
                rw fs (omega (arith, s, t));
          }

      old_last : (seen p.busy_from k.slot r).last_finish_tag ≤ bound p.arrivals p.picks
      old_last = subst (λ (x : Flow). x.last_finish_tag ≤ bound p.arrivals p.picks) (sym seen_is) within.2

      still_arrived : All (λ x. x.arrived ≤ p.arrivals) (set p.flows.items k.slot r)
      still_arrived = All-set (λ x. x.arrived ≤ p.arrivals) p.flows.items k.slot r (rw (arrived, at) (kept.arrived k.slot q listed)) kept.arrived

      all_whole : All (IsQueueKept p.busy_from) (set p.flows.items k.slot r)
      all_whole =
          All-set (IsQueueKept p.busy_from) p.flows.items k.slot r
          (whole p.busy_from was_whole) kept.queues

      still_few : length (set p.flows.items k.slot r) ≤ 2 ^ 32
      still_few = let s = kept.slots in let l = length-set p.flows.items k.slot r in omega arith

      -- Whatever sum of weights virtual time grows by, what is kept stays kept.
      module _ (g w : ℕ) (grown : g ≡ scaled sent.len w) where
        late : p.virtual_time + g ≤ bound p.arrivals (p.picks + 1)
        late =
            let l = scaled-le sent.len w within.0.2 in
            let t = kept.kept.timely in
            omega arith

        -- The parts then.
        abbrev pub sent_parts : SchedParts
        sent_parts = record {
          flows = with_item p.flows k.slot r;
          eligible = es;
          waiting = p.waiting;
          virtual_time = p.virtual_time + g;
          weights = p.weights - sent.weight;
          busy_from = p.busy_from;
          arrivals = p.arrivals;
          picks = p.picks + 1;
        }

        module _ (moves : es.moves ≡ p.eligible.moves) (places' : es.room ≡ p.eligible.room + 1) where
          between : IsKeptBut (λ slot. cond (k.slot == slot) (presence rest) 0) (take 1 rest) sent_parts
          between =
              let w = weighs in
              let w1 = w.1 in
              record {
                kept = rw (by_slot-set (seen p.busy_from) p.flows.items k.slot r)
                    (sent_kept kept.kept k es perm head rest rest_is (p.virtual_time + g) (p.weights - sent.weight)
                    (seen p.busy_from k.slot r).last_finish_tag moves places' (omega arith) late (omega arith) old_last);
                few = kept.few;
                began = kept.began;
                arrived = still_arrived;
                queues = all_whole;
                slots = still_few;
              }

          -- No packet is left at the slot.
          pub last_kept : packets_of r ≡ [] → IsSchedKept sent_parts
          last_kept nil =
              let none : rest ≡ [] = rw nil refl in
              record {
                kept = all_in between.kept (λ slot. rw (none, cond_zero (k.slot == slot)) refl) (rw none refl);
                few = kept.few;
                began = kept.began;
                arrived = still_arrived;
                queues = all_whole;
                slots = still_few;
              }

          -- Some packet is, and is the new head.
          pub more_kept : (next : TaggedPacket) → first_packet (packets_of r) ≡ Some next → IsKeptWithout k.slot next sent_parts
          more_kept next e =
              let f = first_facts k.slot (packets_of r) next e in
              let here =
              flow_at_seen p.busy_from (set p.flows.items k.slot r) k.slot r (let l = length-set p.flows.items k.slot r in omega (arith, listed))
              ∙ ap (seen p.busy_from k.slot) (get_or-set_same p.flows.items k.slot r r listed) in
              let b : IsKeptBut (only_absent k.slot) (tagged k.slot next ∷ []) sent_parts = rw (f.0, f.1) at between in
              (b, rw here f.2)
