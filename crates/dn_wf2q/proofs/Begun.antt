-- A busy period begins.
use Rattle.dn_wf2q.proofs.Words.{All, All-cons, All-head, All-nil, All-tail, AreTagsWithin, Flow, Heap, IsIdle, IsQueueKept, IsSchedKept, Kept, List, RankView, SchedParts, Stamped, TaggedQueue}
use Rattle.dn_wf2q.proofs.Words.{[], ap, arith, behind, bound, by_slot, false, flow_at, flows_of, forgotten, get_or, get_or-le-sum_by, head_weight, length, length-map, nat_lt, nat_tests}
use Rattle.dn_wf2q.proofs.Words.{no_packets, none_absent, packets_of, presence, refl, seen, suc, sum_by, sum_by-cons, sym, tagged, without_tag, zero, ℕ, ◌+◌, ◌∙◌, ◌∷◌, ◌≡◌, ◌≤◌}
use Rattle.dn_wf2q.proofs.BySlot.{length-by_slot}
use Rattle.dn_wf2q.proofs.Heads.{flow_at_seen}
use Rattle.dn_wf2q.proofs.Counts.{idle_no_heads, waiting_is}
use Rattle.dn_wf2q.proofs.Queues.{unchained}

-- A sum over backlogs does not depend on finish tags.
pub sum_forgotten : (h : List Stamped → ℕ) (flows : List Flow) → sum_by (λ fl. h fl.backlog) (forgotten flows) ≡ sum_by (λ fl. h fl.backlog) flows
sum_forgotten h [] = refl
sum_forgotten h (fl ∷ fls) =
    let a = sum_by-cons (λ x. h x.backlog) (without_tag fl) (forgotten fls) in
    let b = sum_by-cons (λ x. h x.backlog) fl fls in
    let c = sum_forgotten h fls in
    omega (arith, a, b, c)

pub forgotten_at : (flows : List Flow) (slot : ℕ) → flow_at (forgotten flows) slot ≡ without_tag (flow_at flows slot)
forgotten_at [] slot = refl
forgotten_at (fl ∷ fls) zero = refl
forgotten_at (fl ∷ fls) (suc slot) = forgotten_at fls slot

backlog_forgotten : (flows : List Flow) (slot : ℕ) → (flow_at (forgotten flows) slot).backlog ≡ (flow_at flows slot).backlog
backlog_forgotten flows slot = ap (λ (fl : Flow). fl.backlog) (forgotten_at flows slot)

within_forgotten : (b : ℕ) (flows : List Flow) → All (AreTagsWithin b) flows → All (AreTagsWithin b) (forgotten flows)
within_forgotten b [] h = All-nil (AreTagsWithin b)
within_forgotten b (fl ∷ fls) h =
    let one = All-head (AreTagsWithin b) fl fls h in
    All-cons (AreTagsWithin b) (without_tag fl) (forgotten fls) (omega arith, one.1) (within_forgotten b fls (All-tail (AreTagsWithin b) fl fls h))

forgotten_by : (b a : ℕ) (s : ℕ → ℕ) (qs : List TaggedQueue) → All (λ q. q.arrived ≤ a) qs → by_slot (λ i. seen a (s i)) qs ≡ forgotten (by_slot (λ i. seen b (s i)) qs)
forgotten_by b a s [] h = refl
forgotten_by b a s (q ∷ qs) h =
    let one = All-head (λ x. x.arrived ≤ a) q qs h in
    let e : nat_lt a q.arrived ≡ false = grind (arith, nat_tests) in
    rw (e, forgotten_by b a (λ i. s (suc i)) qs (All-tail (λ x. x.arrived ≤ a) q qs h)) refl

-- No queue's last finish tag counts any more, since none has had an arrival since.
pub flows_forgotten : (b a : ℕ) (qs : List TaggedQueue) → All (λ q. q.arrived ≤ a) qs → by_slot (seen a) qs ≡ forgotten (by_slot (seen b) qs)
flows_forgotten b a qs h = forgotten_by b a (λ i. i) qs h

module _ {flows : List Flow} {eligible waiting : Heap RankView} {virtual_time weights arrivals picks : ℕ}
    (kept : Kept none_absent [] flows eligible waiting virtual_time weights arrivals picks) (idle : IsIdle flows) where
  none : length eligible.keys + length waiting.keys ≡ 0
  none = let c = kept.counted in let z = idle_no_heads flows idle in omega arith

  begun_kept : Kept none_absent [] (forgotten flows) eligible waiting 0 weights arrivals picks
  begun_kept =
      let long = length-map flows without_tag in
      record {
        placed = λ slot. rw (backlog_forgotten flows slot) (kept.placed slot);
        ready = λ i d l. absurd (omega (arith, none));
        waits = λ i d l. absurd (omega (arith, none));
        weighed = kept.weighed ∙ sym (sum_forgotten head_weight flows);
        counted = kept.counted ∙ sym (sum_forgotten presence flows);
        pushed = let c = kept.pushed in let s = sum_forgotten behind flows in omega arith;
        picked = kept.picked;
        bounded = within_forgotten (bound arrivals picks) flows kept.bounded;
        timely = omega arith;
        eligible_room = let c = kept.eligible_room in omega arith;
        waiting_room = let c = kept.waiting_room in omega arith;
      }

-- No packet waits in any queue, so that none has to have arrived in this busy period.
idle_queues : (p : SchedParts) → IsIdle (flows_of p) → All (IsQueueKept p.busy_from) p.flows.items → (a : ℕ) → All (IsQueueKept a) p.flows.items
idle_queues p idle h a = λ i d l.
    let q = get_or p.flows.items i d in
    let long = length-by_slot (seen p.busy_from) p.flows.items in
    let one : length (flow_at (flows_of p) i).backlog ≤ sum_by (λ fl. length fl.backlog) (flows_of p) = get_or-le-sum_by (λ fl. length fl.backlog) (flows_of p) i no_packets (omega (arith, long, l)) in
    let all = waiting_is (flows_of p) in
    let same = ap (λ (fl : Flow). length fl.backlog) (flow_at_seen p.busy_from p.flows.items i d l) in
    let count = length-map (packets_of q) (tagged i) in
    let kept = h i d l in
    unchained p.busy_from a q.arrived q.arrived q.finish_tag q.behind.packets q.head (omega (arith, one, all, idle, same, count)) kept

pub begun : (p : SchedParts) → IsSchedKept p → IsIdle (flows_of p) → IsSchedKept (record p { virtual_time = 0; busy_from = p.arrivals })
begun p kept idle = record {
  kept = rw (flows_forgotten p.busy_from p.arrivals p.flows.items kept.arrived) (begun_kept kept.kept idle);
  few = kept.few;
  began = omega arith;
  arrived = kept.arrived;
  queues = idle_queues p idle kept.queues p.arrivals;
  slots = kept.slots;
}
