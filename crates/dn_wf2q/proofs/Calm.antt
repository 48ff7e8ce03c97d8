-- What holds between calls, and what a pick does beside sending a head.
use Rattle.dn_wf2q.proofs.Words.{All, All-cons, All-permutation, All-tail, Flow, IfSome, IsIdle, IsPermutation, IsSchedKept, List, None, OnlyHeaps, Option, RankView, SchedParts, SendsHead, Some}
use Rattle.dn_wf2q.proofs.Words.{Stamped, [], after_pick, ap, arith, filter, first_to_go, flow_at, flows_of, heads_of, is_eligible, one_each, refl, scaled, schedule_of, subst, take, waiting_of}
use Rattle.dn_wf2q.proofs.Words.{weight_sum, ℕ, ◌+◌, ◌<◌, ◌∙◌, ◌∷◌, ◌≡◌}
use Rattle.dn_wf2q.proofs.Counts.{idle_no_heads}

-- Where no packet waits, no head does.
pub none_waits : (p : SchedParts) → IsSchedKept p → IsIdle (flows_of p) → (v : ℕ) → All (λ k. v < k.tag) p.waiting.keys
none_waits p kept idle v i d l = absurd (let c = kept.kept.counted in let z = idle_no_heads (flows_of p) idle in omega arith)

pub entered_late : (v : ℕ) (e : RankView) (ws ws' : List RankView) → IsPermutation (e ∷ ws) ws' → v < e.tag → All (λ k. v < k.tag) ws → All (λ k. v < k.tag) ws'
entered_late v e ws ws' perm late all = All-permutation (λ k. v < k.tag) (e ∷ ws) ws' perm (All-cons (λ k. v < k.tag) e ws late all)

pub left_late : (v : ℕ) (e : RankView) (ws ws' : List RankView) → IsPermutation ws (e ∷ ws') → All (λ k. v < k.tag) ws → All (λ k. v < k.tag) ws'
left_late v e ws ws' perm all = All-tail (λ k. v < k.tag) e ws' (All-permutation (λ k. v < k.tag) ws (e ∷ ws') perm all)

pub if_some : {X : Type 0} (o : Option X) (P Q : X → Type 0) → ((x : X) → P x → Q x) → IfSome o P → IfSome o Q
if_some None P Q w h = h
if_some (Some x) P Q w h = w x h

pub flows_same : (a b : SchedParts) → OnlyHeaps a b → flows_of b ≡ flows_of a
flows_same a b s = rw (s.flows, s.busy_from) refl

-- The parts raise virtual time to v.
pub raises : (v : ℕ) (a b : SchedParts) → OnlyHeaps (record a { virtual_time = v }) b
    → schedule_of b ≡ record (schedule_of a) { virtual_time = v; moves = b.eligible.moves + b.waiting.moves }
raises v a b same =
    let flows = flows_same (record a { virtual_time = v }) b same in
    λ i. record {
      flows = flows i;
      virtual_time = same.virtual_time i;
      room = one_each (flows i);
      arrivals = same.arrivals i;
      picks = same.picks i;
      moves = b.eligible.moves + b.waiting.moves;
    }

-- The heaps may change before and after.
module _ (a b c d : SchedParts) (v : ℕ) (before : OnlyHeaps (record a { virtual_time = v }) b) (after : OnlyHeaps c d) where
  were : flows_of b ≡ flows_of a
  were = flows_same (record a { virtual_time = v }) b before

  sent_between : (h : Stamped) → SendsHead h v b c → SendsHead h v a d
  sent_between h s = record {
    head = subst (λ (fs : List Flow). take 1 (flow_at fs h.flow).backlog ≡ h ∷ []) were s.head;
    flows = flows_same c d after ∙ s.flows ∙ ap (λ (fs : List Flow). after_pick fs h.flow) were;
    virtual_time = after.virtual_time ∙ s.virtual_time ∙ ap (λ (fs : List Flow). v + scaled h.len (weight_sum (heads_of fs))) were;
    arrivals = after.arrivals ∙ s.arrivals ∙ before.arrivals;
    picks = let x = after.picks in let y = s.picks in let z = before.picks in omega arith;
    one_fewer =
        let x = ap waiting_of (flows_same c d after) in
        let y = s.one_fewer in
        let z = ap waiting_of were in
        omega arith;
  }

  pub picked_sends : IfSome (first_to_go (filter (is_eligible b.virtual_time) (heads_of (flows_of b)))) (λ h. SendsHead h b.virtual_time b c)
      → IfSome (first_to_go (filter (is_eligible v) (heads_of (flows_of a)))) (λ h. SendsHead h v a d)
  picked_sends sends =
      let raised = subst (λ (x : ℕ). IfSome (first_to_go (filter (is_eligible x) (heads_of (flows_of b)))) (λ h. SendsHead h x b c)) before.virtual_time sends in
      let same = subst (λ (fs : List Flow). IfSome (first_to_go (filter (is_eligible v) (heads_of fs))) (λ h. SendsHead h v b c)) were raised in
      if_some (first_to_go (filter (is_eligible v) (heads_of (flows_of a)))) (λ h. SendsHead h v b c) (λ h. SendsHead h v a d) sent_between same
