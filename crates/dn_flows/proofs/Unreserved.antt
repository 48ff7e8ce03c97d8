-- The table where flows only leave lists, and let go of the places that were reserved.
use Rattle.dn_flows.proofs.Words.{AreStored, FlowQueue, FlowState, KeepQueues, KeepsQueue, List, OnlyUnreserves, Packets, Some, Unsent, [], all_with_unsent, ap, arith, flow_at, map, refl}
use Rattle.dn_flows.proofs.Words.{slice_get, state_of, subst, suc, sym, waiting_from, with_unsent, zero, ℕ, ◌∙◌, ◌∷◌, ◌≡◌}
use Rattle.dn_flows.proofs.Chains.{same-queue}
use Rattle.dn_flows.proofs.Counted.{kept}
use Rattle.dn_flows.proofs.Tables.{flow-read}

pub still-stored : (store : Packets) (old new : List FlowQueue) → KeepQueues old new → AreStored store old → AreStored store new
still-stored store old new k are = record {
  owner = are.owner;
  behind = are.behind;
  queues_are = λ g q' e.
      let x = k.each g q' e in
      same-queue are.owner are.behind store g x.0 q' (x.2.front, x.2.back, x.2.len, x.2.bytes) (are.queues_are g x.0 x.1);
}

same-state : (s : FlowState) → OnlyUnreserves s s
same-state s = record { backlog = refl; active = refl; lost = refl; full = refl; started = refl; discarded = refl; home = refl; reserved = λ on. refl }

state-kept : (store : Packets) (q q' : FlowQueue) → KeepsQueue q q' → OnlyUnreserves (state_of store q) (state_of store q')
state-kept store q q' k = record { backlog = λ i. waiting_from store (k.front i) (k.len i); active = k.active; lost = refl; full = refl; started = k.started; discarded = refl; home = k.home; reserved = k.reserved }

with-counts : (u : Unsent) (s t : FlowState) → OnlyUnreserves s t → OnlyUnreserves (with_unsent u s) (with_unsent u t)
with-counts u s t o = record { backlog = o.backlog; active = o.active; lost = refl; full = refl; started = o.started; discarded = refl; home = o.home; reserved = o.reserved }

first-kept : (q q' : FlowQueue) (old new : List FlowQueue) → KeepQueues (q ∷ old) (q' ∷ new) → KeepsQueue q q'
first-kept q q' old new k =
    let x = k.each 0 q' refl in
    let is : q ≡ x.0 = cc in
    subst (λ (y : FlowQueue). KeepsQueue y q') (sym is) x.2

rest-kept : (q q' : FlowQueue) (old new : List FlowQueue) → KeepQueues (q ∷ old) (q' ∷ new) → KeepQueues old new
rest-kept q q' old new k = record { each = λ flow x e. k.each (suc flow) x e; many = omega arith }

states-kept : (store : Packets) (old new : List FlowQueue) → KeepQueues old new → (flow : ℕ) → OnlyUnreserves (flow_at (map (state_of store) old) flow) (flow_at (map (state_of store) new) flow)
states-kept store [] [] k flow = same-state _
states-kept store [] (q ∷ new) k flow = absurd (let m = k.many in omega arith)
states-kept store (q ∷ old) [] k flow = absurd (omega arith)
states-kept store (q ∷ old) (q' ∷ new) k zero = state-kept store q q' (first-kept q q' old new k)
states-kept store (q ∷ old) (q' ∷ new) k (suc flow) = states-kept store old new (rest-kept q q' old new k) flow

pub unreserves : (store : Packets) (old new : List FlowQueue) (unsent : List Unsent) → KeepQueues old new → (flow : ℕ)
    → OnlyUnreserves (flow_at (all_with_unsent (map (state_of store) old) unsent) flow) (flow_at (all_with_unsent (map (state_of store) new) unsent) flow)
unreserves store [] [] unsent k flow = same-state _
unreserves store [] (q ∷ new) unsent k flow = absurd (let m = k.many in omega arith)
unreserves store (q ∷ old) [] unsent k flow = absurd (omega arith)
unreserves store (q ∷ old) (q' ∷ new) [] k flow = states-kept store (q ∷ old) (q' ∷ new) k flow
unreserves store (q ∷ old) (q' ∷ new) (u ∷ unsent) k zero = with-counts u _ _ (state-kept store q q' (first-kept q q' old new k))
unreserves store (q ∷ old) (q' ∷ new) (u ∷ unsent) k (suc flow) = unreserves store old new unsent (rest-kept q q' old new k) flow

-- A flow is as active as its queue says.
pub active-read : (store : Packets) (queues : List FlowQueue) (unsent : List Unsent) (flow : ℕ) (q : FlowQueue) → slice_get queues flow ≡ Some q
    → (flow_at (all_with_unsent (map (state_of store) queues) unsent) flow).active ≡ q.active
active-read store queues unsent flow q there =
    (kept (map (state_of store) queues) unsent flow).active ∙ ap (λ (s : FlowState). s.active) (flow-read store queues flow q there)
