-- What the flow table tells is what the definition tells of the trace.
use Rattle.dn_shaper.proofs.Words.{Accepted, Does, Event, FlowKey, FlowState, FlowStatus, IsFlowAt, IsSound, Link, List, Show, Some, State, Status, Waiting, [], ap, append_assoc, arith, as_queued}
use Rattle.dn_shaper.proofs.Words.{backlog, drop, effective_moment, flow_at, home, home_by, length, lengths, link_names, link_of, map, refl, slice_get, status_of, subst, suc, sum, sym, told_from}
use Rattle.dn_shaper.proofs.Words.{trace_of, views_of, zero, ℕ, ◌++◌, ◌+◌, ◌∙◌, ◌∷◌, ◌≡◌}
use Rattle.dn_types.specs.Replies.{statuses_from, status_of as status_after}
use Rattle.dn_shaper.proofs.Accepting.{within-more}
use Rattle.dn_shaper.proofs.Noted.{indexed-still}
use Rattle.dn_shaper.proofs.Submitting.{length-lens}

pub drop-get : (ks : List FlowKey) (i : ℕ) (k : FlowKey) → slice_get ks i ≡ Some k → drop i ks ≡ k ∷ drop (suc i) ks
drop-get [] i k e = absurd cc
drop-get (x ∷ ks) zero k e = let same : x ≡ k = cc in λ i. same i ∷ ks
drop-get (x ∷ ks) (suc i) k e = drop-get ks i k e

length-len : (q : List Accepted) → length (map as_queued q) ≡ length (map (λ (p : Accepted). p.stamped.len) q)
length-len [] = refl
length-len (p ∷ q) = ap suc (length-len q)

status-is : (flow : ℕ) (key : FlowKey) (trace : List Event) (s : FlowState) → IsFlowAt (link_of key.target flow key.pipe) flow trace s → status_of flow key s ≡ status_after flow key trace
status-is flow key trace s b =
    let q = backlog (link_of key.target flow key.pipe) flow trace in
    let queued : length s.backlog ≡ length (map (λ (p : Accepted). p.stamped.len) q) = ap (λ (ws : List Waiting). length ws) b.backlog_is ∙ length-len q in
    let bytes : sum (lengths s.backlog) ≡ sum (map (λ (p : Accepted). p.stamped.len) q) = ap (λ (ws : List Waiting). sum (lengths ws)) b.backlog_is ∙ ap sum (length-lens q) in
    λ i. record { flow = flow; key = key; queued = queued i; bytes = bytes i; lost = b.lost_is i; full = b.full_is i; started = b.started_is i; discarded = b.discarded_is i }

told-is : (keys : List FlowKey) (flows : List FlowState) (trace : List Event) → ((flow : ℕ) → IsFlowAt (home keys flow) flow trace (flow_at flows flow)) →
    (flow : ℕ) (ks : List FlowKey) → ((i : ℕ) (k : FlowKey) → slice_get ks i ≡ Some k → slice_get keys (i + flow) ≡ Some k) →
    told_from flow ks flows ≡ statuses_from flow ks trace
told-is keys flows trace each flow [] h = refl
told-is keys flows trace each flow (k ∷ ks) h =
    let zero_is : 0 + flow ≡ flow = omega arith in
    let key_at : slice_get keys flow ≡ Some k = ap (slice_get keys) (sym zero_is) ∙ h 0 k refl in
    let here : home keys flow ≡ link_of k.target flow k.pipe = ap (home_by flow) key_at in
    λ i. status-is flow k trace (flow_at flows flow)
    (subst (λ (l : Link). IsFlowAt l flow trace (flow_at flows flow)) here (each flow)) i ∷ told-is keys flows trace each (flow + 1) ks
    (λ j x e. let next : j + (flow + 1) ≡ suc j + flow = omega arith in ap (slice_get keys) next ∙ h (suc j) x e) i

pub shows : (old : State) (list : List FlowStatus) → list ≡ told_from 0 old.parts.flows.keys old.parts.flows.flows →
    Does Show old (record { parts = old.parts; heap = old.heap; shared = old.shared; configured = old.configured; now = old.now; calls = old.calls + 1 }) (Status list)
shows old list is rule calls s = (
  ap Status
      (is
      ∙ told-is old.parts.flows.keys old.parts.flows.flows (trace_of calls) s.agrees.flows_are 0 old.parts.flows.keys
      (λ i k e. let same : i + 0 ≡ i = omega arith in ap (slice_get old.parts.flows.keys) same ∙ e)
      ∙ ap (λ (ks : List FlowKey). statuses_from 0 ks (trace_of calls)) s.keys_are),
  record { rule_is = s.rule_is; calls_are = let c = s.calls_are in omega arith; now_is = s.now_is ∙ now_same; settings_are = s.settings_are; keys_are = s.keys_are; agrees = s.agrees },
)
  where
    now_same : effective_moment calls ≡ effective_moment (Show ∷ calls)
    now_same = omega arith

pub shows-sound : (old : State) → IsSound old → IsSound (record { parts = old.parts; heap = old.heap; shared = old.shared; configured = old.configured; now = old.now; calls = old.calls + 1 })
shows-sound old s = record {
  kept = s.kept;
  within = within-more old.calls (old.calls + 1) old.parts (omega arith) s.within;
  moves = let m = s.moves in
      omega arith;
  early = s.early;
  indexed = indexed-still old _ (link_names (views_of old.parts)) (link_names (views_of old.parts)) refl refl s.indexed;
}

-- One flow more is told.
pub told-next : (keys : List FlowKey) (flows : List FlowState) (items items' : List FlowStatus) (flow : ℕ) (st : FlowStatus) → items' ≡ items ++ st ∷ [] →
    slice_get keys flow ≡ Some st.key → st ≡ status_of flow st.key (flow_at flows flow) →
    items' ++ told_from (flow + 1) (drop (flow + 1) keys) flows ≡ items ++ told_from flow (drop flow keys) flows
told-next keys flows items items' flow st more key is =
    let one : flow + 1 ≡ suc flow = omega arith in
    ap (λ (xs : List FlowStatus). xs ++ told_from (flow + 1) (drop (flow + 1) keys) flows) more
    ∙ append_assoc items (st ∷ []) (told_from (flow + 1) (drop (flow + 1) keys) flows)
    ∙ ap (λ (x : FlowStatus). items ++ x ∷ told_from (flow + 1) (drop (flow + 1) keys) flows) is
    ∙ ap (λ i. items ++ status_of flow st.key (flow_at flows flow) ∷ told_from (flow + 1) (drop i keys) flows) one
    ∙ ap (λ (ks : List FlowKey). items ++ told_from flow ks flows) (sym (drop-get keys flow st.key key))
