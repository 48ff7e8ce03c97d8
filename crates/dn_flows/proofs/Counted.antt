-- The states of all flows by the counts that lie beside their queues.
use Rattle.dn_flows.proofs.Words.{FlowState, List, Some, Unsent, Waiting, [], all_with_unsent, ap, arith, flow_at, get_or, length, popped, popped_from, refl, set, slice_get, suc, sym, with_unsent}
use Rattle.dn_flows.proofs.Words.{zero, ℕ, ◌++◌, ◌<◌, ◌∙◌, ◌∷◌, ◌≡◌}
use Rattle.dn_flows.proofs.Places.{get-read}

pub length_unsent : (states : List FlowState) (unsent : List Unsent) → length (all_with_unsent states unsent) ≡ length states
length_unsent [] unsent = refl
length_unsent (s ∷ states) [] = refl
length_unsent (s ∷ states) (u ∷ unsent) = let rest = length_unsent states unsent in omega arith

-- What the counts beside it leave of a flow.
pub record Keeps (s t : FlowState) : Type 0 where
  pub backlog : s.backlog ≡ t.backlog
  pub reserved : s.reserved ≡ t.reserved
  pub active : s.active ≡ t.active
  pub started : s.started ≡ t.started
  pub home : s.home ≡ t.home

pub kept : (states : List FlowState) (unsent : List Unsent) (flow : ℕ) → Keeps (flow_at (all_with_unsent states unsent) flow) (flow_at states flow)
kept [] unsent flow = record { backlog = refl; reserved = refl; active = refl; started = refl; home = refl }
kept (s ∷ states) [] flow = record { backlog = refl; reserved = refl; active = refl; started = refl; home = refl }
kept (s ∷ states) (u ∷ unsent) zero = record { backlog = refl; reserved = refl; active = refl; started = refl; home = refl }
kept (s ∷ states) (u ∷ unsent) (suc flow) = kept states unsent flow

-- A change of one flow that leaves the counts.
pub carried : (f : FlowState → FlowState) → ((u : Unsent) (s : FlowState) → f (with_unsent u s) ≡ with_unsent u (f s))
    → (states : List FlowState) (unsent : List Unsent) (flow : ℕ)
    → all_with_unsent (set states flow (f (flow_at states flow))) unsent ≡ set (all_with_unsent states unsent) flow (f (flow_at (all_with_unsent states unsent) flow))
carried f leaves [] unsent flow = refl
carried f leaves (s ∷ states) [] zero = refl
carried f leaves (s ∷ states) [] (suc flow) = refl
carried f leaves (s ∷ states) (u ∷ unsent) zero = λ i. sym (leaves u s) i ∷ all_with_unsent states unsent
carried f leaves (s ∷ states) (u ∷ unsent) (suc flow) = λ i. with_unsent u s ∷ carried f leaves states unsent flow i

-- A start leaves the counts.
pub start-leaves : (u : Unsent) (s : FlowState) → popped (with_unsent u s) ≡ with_unsent u (popped s)
start-leaves u s = by s.backlog
  where
    by : (ws : List Waiting) → popped_from ws (with_unsent u s) ≡ with_unsent u (popped_from ws s)
    by [] = refl
    by (w ∷ ws) = refl

-- The flow with its counts, and a change of both.
counts-at : (states : List FlowState) (unsent : List Unsent) (flow : ℕ) (u : Unsent) → slice_get unsent flow ≡ Some u
    → length unsent ≡ length states → flow_at (all_with_unsent states unsent) flow ≡ with_unsent u (flow_at states flow)
counts-at [] [] flow u there same = absurd cc
counts-at [] (v ∷ unsent) flow u there same = absurd (omega arith)
counts-at (s ∷ states) [] flow u there same = absurd cc
counts-at (s ∷ states) (v ∷ unsent) zero u there same = let one : v ≡ u = cc in ap (λ (w : Unsent). with_unsent w s) one
counts-at (s ∷ states) (v ∷ unsent) (suc flow) u there same = counts-at states unsent flow u there (omega arith)

pub both-set : (states : List FlowState) (unsent : List Unsent) (flow : ℕ) (u : Unsent) (s : FlowState) → length unsent ≡ length states
    → all_with_unsent (set states flow s) (set unsent flow u) ≡ set (all_with_unsent states unsent) flow (with_unsent u s)
both-set [] unsent flow u s same = refl
both-set (t ∷ states) [] flow u s same = absurd (omega arith)
both-set (t ∷ states) (v ∷ unsent) zero u s same = refl
both-set (t ∷ states) (v ∷ unsent) (suc flow) u s same = λ i. with_unsent v t ∷ both-set states unsent flow u s (omega arith) i

-- A change of the counts alone.
counts-set : (states : List FlowState) (unsent : List Unsent) (flow : ℕ) (u : Unsent) → length unsent ≡ length states
    → all_with_unsent states (set unsent flow u) ≡ set (all_with_unsent states unsent) flow (with_unsent u (flow_at states flow))
counts-set [] unsent flow u same = refl
counts-set (t ∷ states) [] flow u same = absurd (omega arith)
counts-set (t ∷ states) (v ∷ unsent) zero u same = refl
counts-set (t ∷ states) (v ∷ unsent) (suc flow) u same = λ i. with_unsent v t ∷ counts-set states unsent flow u (omega arith) i

-- A flow's counts are there.
pub within-unsent : (states : List FlowState) (unsent : List Unsent) (flow : ℕ) → length unsent ≡ length states → flow < length (all_with_unsent states unsent) → flow < length unsent
within-unsent states unsent flow same within = let e = length_unsent states unsent in omega arith

-- What was read of a flow's counts, and a change of them.
module _ (states : List FlowState) (unsent : List Unsent) (flow : ℕ) (u : Unsent) (same : length unsent ≡ length states)
    (within : flow < length (all_with_unsent states unsent)) (read : u ≡ get_or unsent flow u) where
  pub read-counts : flow_at (all_with_unsent states unsent) flow ≡ with_unsent u (flow_at states flow)
  read-counts = counts-at states unsent flow u (get-read unsent flow u (within-unsent states unsent flow same within) read) same

  pub noted : (f : FlowState → FlowState) (u' : Unsent) → f (with_unsent u (flow_at states flow)) ≡ with_unsent u' (flow_at states flow)
      → all_with_unsent states (set unsent flow u') ≡ set (all_with_unsent states unsent) flow (f (flow_at (all_with_unsent states unsent) flow))
  noted f u' is = counts-set states unsent flow u' same ∙ ap (set (all_with_unsent states unsent) flow) (sym is ∙ ap f (sym read-counts))

-- One flow more.
pub both-more : (states : List FlowState) (unsent : List Unsent) (s : FlowState) (u : Unsent) → length unsent ≡ length states
    → all_with_unsent (states ++ s ∷ []) (unsent ++ u ∷ []) ≡ all_with_unsent states unsent ++ with_unsent u s ∷ []
both-more [] [] s u same = refl
both-more [] (v ∷ unsent) s u same = absurd (omega arith)
both-more (t ∷ states) [] s u same = absurd (omega arith)
both-more (t ∷ states) (v ∷ unsent) s u same = λ i. with_unsent v t ∷ both-more states unsent s u (omega arith) i
