-- The packets of a flow carry its slot.
use Rattle.dn_wf2q.proofs.Words.{All, All-cons, All-nil, List, SchedParts, Stamped, TaggedPacket, TaggedQueue, [], by_slot, flow_at, flows_of, map, packets_of, refl, seen, suc, tagged, zero, ℕ}
use Rattle.dn_wf2q.proofs.Words.{◌∷◌, ◌≡◌}

tagged_own : (slot : ℕ) (ps : List TaggedPacket) → All (λ (p : Stamped). p.flow ≡ slot) (map (tagged slot) ps)
tagged_own slot [] = All-nil (λ (p : Stamped). p.flow ≡ slot)
tagged_own slot (p ∷ ps) = All-cons (λ (p : Stamped). p.flow ≡ slot) (tagged slot p) (map (tagged slot) ps) refl (tagged_own slot ps)

own_by : (b : ℕ) (s : ℕ → ℕ) (qs : List TaggedQueue) (g : ℕ) → All (λ (p : Stamped). p.flow ≡ s g) (flow_at (by_slot (λ i. seen b (s i)) qs) g).backlog
own_by b s [] g = All-nil (λ (p : Stamped). p.flow ≡ s g)
own_by b s (q ∷ qs) zero = tagged_own (s 0) (packets_of q)
own_by b s (q ∷ qs) (suc g) = own_by b (λ i. s (suc i)) qs g

pub own_slots : (p : SchedParts) (g : ℕ) → All (λ (x : Stamped). x.flow ≡ g) (flow_at (flows_of p) g).backlog
own_slots p g = own_by p.busy_from (λ i. i) p.flows.items g
