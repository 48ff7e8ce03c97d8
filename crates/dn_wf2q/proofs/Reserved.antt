-- Room is made, for a queue that is there or by adding queues without a packet.
use Rattle.dn_wf2q.proofs.Words.{All, All-append, All-nil, All-push, All-replicate, All-weaker, AreTagsWithin, Err, Flow, Heap, IsBlank, IsExtended, IsQueueKept, IsSchedKept, IsWithin, Kept, List}
use Rattle.dn_wf2q.proofs.Words.{Ok, OnErr, RankView, Result, SchedParts, TaggedQueue, [], ap, append-nil, append_assoc, arith, behind, bound, by_slot, flow_at, flows_of, head_weight, length}
use Rattle.dn_wf2q.proofs.Words.{length-append, length-replicate, max, nat_lt, no_packets, none_absent, padded, presence, refl, replicate, seen, slice_index_or, suc, sum_by, sum_by-append}
use Rattle.dn_wf2q.proofs.Words.{sum_by-replicate, sym, zero, ℕ, ◌++◌, ◌+◌, ◌-◌, ◌<◌, ◌^◌, ◌∙◌, ◌∷◌, ◌≡◌, ◌≤◌}
use Rattle.dn_wf2q.proofs.BySlot.{length-by_slot, by_slot-append}
use Rattle.dn_wf2q.proofs.Heads.{cond_zero}

-- Places for n keys, those that are in with them.
pub grown : (keys keys' : List RankView) (room room' n : ℕ) → keys' ≡ keys → length keys' + room' ≡ max (length keys + room) n → (room ≤ room') × (n ≤ length keys' + room')
grown keys keys' room room' n same e = let l = ap length same in (omega arith, omega arith)

pub one_added : (xs ys : List TaggedQueue) (q : TaggedQueue) → IsExtended xs ys → IsBlank q → IsExtended xs (ys ++ q ∷ [])
one_added xs ys q e b = record {
  more = e.more ++ q ∷ [];
  is = ap (λ l. l ++ q ∷ []) e.is ∙ append_assoc xs e.more (q ∷ []);
  blank = All-push IsBlank e.more q e.blank b;
}

-- The flows that blank queues stand for have had no packet.
pub extended_seen : (b : ℕ) (xs ys : List TaggedQueue) (n : ℕ) → IsExtended xs ys → length ys ≡ n → by_slot (seen b) ys ≡ padded (by_slot (seen b) xs) n
extended_seen b xs ys n e l =
    let m : length e.more ≡ n - length (by_slot (seen b) xs) = omega (arith, length-by_slot (seen b) xs, length-append xs e.more, ap length e.is) in
    let blank = All-weaker IsBlank (λ q. (slot : ℕ) → seen b slot q ≡ no_packets) (λ q h slot. rw (h.0, h.1, h.2, cond_zero (nat_lt b q.arrived)) refl) e.more e.blank in
    rw (e.is, ← m) (by_slot-append (seen b) xs e.more no_packets blank)

extended_arrived : (a : ℕ) (xs ys : List TaggedQueue) → IsExtended xs ys → All (λ q. q.arrived ≤ a) xs → All (λ q. q.arrived ≤ a) ys
extended_arrived a xs ys e h = rw e.is (All-append (λ q. q.arrived ≤ a) xs e.more h (All-weaker IsBlank (λ q. q.arrived ≤ a) (λ q b. let z = b.3 in omega arith) e.more e.blank))

blank_kept : (b : ℕ) (q : TaggedQueue) → IsBlank q → IsQueueKept b q
blank_kept b q blank = rw blank.0 blank.1

extended_kept : (b : ℕ) (xs ys : List TaggedQueue) → IsExtended xs ys → All (IsQueueKept b) xs → All (IsQueueKept b) ys
extended_kept b xs ys e h = rw e.is (All-append (IsQueueKept b) xs e.more h (All-weaker IsBlank (IsQueueKept b) (λ q blank. blank_kept b q blank) e.more e.blank))

flow_at-replicate : (n g : ℕ) → flow_at (replicate n no_packets) g ≡ no_packets
flow_at-replicate zero g = refl
flow_at-replicate (suc n) zero = refl
flow_at-replicate (suc n) (suc g) = flow_at-replicate n g

flow_at-more : (flows : List Flow) (n g : ℕ) → flow_at (flows ++ replicate n no_packets) g ≡ flow_at flows g
flow_at-more [] n g = flow_at-replicate n g
flow_at-more (fl ∷ fls) n zero = refl
flow_at-more (fl ∷ fls) n (suc g) = flow_at-more fls n g

sum_more : (h : Flow → ℕ) (flows : List Flow) (n : ℕ) → h no_packets ≡ 0 → sum_by h (flows ++ replicate n no_packets) ≡ sum_by h flows
sum_more h flows n z =
    let a = sum_by-append h flows (replicate n no_packets) in
    let b : sum_by h (replicate n no_packets) ≡ 0 = rw (sum_by-replicate h n no_packets, z) (omega arith) in
    omega (arith, a, b)

module _ {flows : List Flow} {eligible waiting : Heap RankView} {virtual_time weights arrivals picks : ℕ} (kept : Kept none_absent [] flows eligible waiting virtual_time weights arrivals picks) where
  -- Only the heaps' room changes.
  pub roomy_kept : (es ws : Heap RankView) → es.keys ≡ eligible.keys → ws.keys ≡ waiting.keys → es.moves ≡ eligible.moves
      → ws.moves ≡ waiting.moves → eligible.room ≤ es.room → waiting.room ≤ ws.room
      → Kept none_absent [] flows es ws virtual_time weights arrivals picks
  roomy_kept es ws ek wk em wm er wr =
      let le = ap length ek in
      let lw = ap length wk in
      record {
        placed = rw (ek, wk) kept.placed;
        ready = rw ek kept.ready;
        waits = rw wk kept.waits;
        weighed = kept.weighed;
        counted = let c = kept.counted in omega arith;
        pushed = let c = kept.pushed in omega arith;
        picked = let c = kept.picked in omega arith;
        bounded = kept.bounded;
        timely = kept.timely;
        eligible_room = let c = kept.eligible_room in omega arith;
        waiting_room = let c = kept.waiting_room in omega arith;
      }

  more_flows : (n : ℕ) → length flows + n ≤ length eligible.keys + eligible.room → length flows + n ≤ length waiting.keys + waiting.room
      → Kept none_absent [] (flows ++ replicate n no_packets) eligible waiting virtual_time weights arrivals picks
  more_flows n er wr =
      let long = length-append flows (replicate n no_packets) in
      let rep = length-replicate n no_packets in
      record {
        placed = λ g. rw (flow_at-more flows n g) (kept.placed g);
        ready = λ i d l. let e = slice_index_or eligible.keys i d in rw (flow_at-more flows n e.slot) (kept.ready i d l);
        waits = λ i d l. let e = slice_index_or waiting.keys i d in rw (flow_at-more flows n e.slot) (kept.waits i d l);
        weighed = kept.weighed ∙ sym (sum_more (λ fl. head_weight fl.backlog) flows n refl);
        counted = kept.counted ∙ sym (sum_more (λ fl. presence fl.backlog) flows n refl);
        pushed = let c = kept.pushed in omega (arith, sum_more (λ fl. behind fl.backlog) flows n refl);
        picked = kept.picked;
        bounded =
            All-append (AreTagsWithin (bound arrivals picks)) flows (replicate n no_packets) kept.bounded
            (All-replicate (AreTagsWithin (bound arrivals picks)) n no_packets (omega arith, All-nil (IsWithin (bound arrivals picks))));
        timely = kept.timely;
        eligible_room = omega arith;
        waiting_room = omega arith;
      }

pub on_err_always : {T E : Type 0} (r : Result T E) (Q : Type 0) → Q → OnErr r Q
on_err_always (Ok x) Q q = tt
on_err_always (Err e) Q q = q

-- There is a queue at the slot.
pub padded_same : (p : SchedParts) (slot : ℕ) → slot < length p.flows.items → padded (flows_of p) (slot + 1) ≡ flows_of p
padded_same p slot listed =
    let l = length-by_slot (seen p.busy_from) p.flows.items in
    let z : slot + 1 - length (flows_of p) ≡ 0 = omega (arith, l) in
    rw z (append-nil (flows_of p))

-- Queues are added.
pub kept_extended : (p new : SchedParts) → IsSchedKept p → (n : ℕ) → IsExtended p.flows.items new.flows.items → length new.flows.items ≡ n
    → length p.flows.items ≤ n → n ≤ 2 ^ 32 → new.eligible.keys ≡ p.eligible.keys → new.waiting.keys ≡ p.waiting.keys
    → new.eligible.moves ≡ p.eligible.moves → new.waiting.moves ≡ p.waiting.moves → p.eligible.room ≤ new.eligible.room
    → p.waiting.room ≤ new.waiting.room → n ≤ length new.eligible.keys + new.eligible.room → n ≤ length new.waiting.keys + new.waiting.room
    → new.virtual_time ≡ p.virtual_time → new.weights ≡ p.weights → new.busy_from ≡ p.busy_from → new.arrivals ≡ p.arrivals
    → new.picks ≡ p.picks → IsSchedKept new
kept_extended p new kept n e l le few ek wk em wm er wr ee ww nt nw nb na np =
    let long = length-by_slot (seen p.busy_from) p.flows.items in
    let lk = ap length ek in
    let lw = ap length wk in
    let k = roomy_kept kept.kept new.eligible new.waiting ek wk em wm er wr in
    let m = more_flows k (n - length (flows_of p)) (omega arith) (omega arith) in
    record {
      kept = rw (nb, extended_seen p.busy_from p.flows.items new.flows.items n e l, nt, nw, na, np) m;
      few = let f = kept.few in omega arith;
      began = let f = kept.began in omega arith;
      arrived = rw na (extended_arrived p.arrivals p.flows.items new.flows.items e kept.arrived);
      queues = rw nb (extended_kept p.busy_from p.flows.items new.flows.items e kept.queues);
      slots = omega arith;
    }
