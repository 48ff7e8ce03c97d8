-- The homes of the flows, where flows change.
use Rattle.dn_shaper.proofs.Words.{FlowState, Home, List, Some, Waiting, [], arith, flow_at, homes_of, length, popped, popped_from, refl, set, slice_get, suc, take, with_home, with_place, zero, ℕ}
use Rattle.dn_shaper.proofs.Words.{◌++◌, ◌<◌, ◌∷◌, ◌≡◌}

pub home-get : (flows : List FlowState) (flow : ℕ) → flow < length flows → slice_get (homes_of flows) flow ≡ Some (flow_at flows flow).home
home-get [] flow lt = absurd (omega arith)
home-get (s ∷ flows) zero lt = refl
home-get (s ∷ flows) (suc flow) lt = home-get flows flow (omega arith)

-- A flow that is set keeps its home.
pub homes-set : (flows : List FlowState) (flow : ℕ) (s : FlowState) → s.home ≡ (flow_at flows flow).home → homes_of (set flows flow s) ≡ homes_of flows
homes-set [] flow s same = refl
homes-set (t ∷ flows) zero s same = λ i. same i ∷ homes_of flows
homes-set (t ∷ flows) (suc flow) s same = λ i. t.home ∷ homes-set flows flow s same i

-- So does each of them.
pub homes-each : (old new : List FlowState) → length new ≡ length old → ((flow : ℕ) → (flow_at new flow).home ≡ (flow_at old flow).home) → homes_of new ≡ homes_of old
homes-each [] [] many same = refl
homes-each [] (t ∷ new) many same = absurd (omega arith)
homes-each (s ∷ old) [] many same = absurd (omega arith)
homes-each (s ∷ old) (t ∷ new) many same = λ i. same 0 i ∷ homes-each old new (omega arith) (λ flow. same (suc flow)) i

pub popped-home : (s : FlowState) → (popped s).home ≡ s.home
popped-home s = by s.backlog
  where
    by : (ws : List Waiting) → (popped_from ws s).home ≡ s.home
    by [] = refl
    by (w ∷ ws) = refl

pub homes-take : (n : ℕ) (flows : List FlowState) → homes_of (take n flows) ≡ take n (homes_of flows)
homes-take zero [] = refl
homes-take zero (s ∷ flows) = refl
homes-take (suc n) [] = refl
homes-take (suc n) (s ∷ flows) = λ i. s.home ∷ homes-take n flows i

-- The last flow gets a home.
pub homes-last : (flows : List FlowState) (last s : FlowState) (n : ℕ) → length flows ≡ n → homes_of (set (flows ++ last ∷ []) n s) ≡ homes_of flows ++ s.home ∷ []
homes-last [] last s zero many = refl
homes-last [] last s (suc n) many = absurd (omega arith)
homes-last (t ∷ flows) last s zero many = absurd (omega arith)
homes-last (t ∷ flows) last s (suc n) many = λ i. t.home ∷ homes-last flows last s n (omega arith) i

-- A place is reserved for a flow, which then gets a home.
pub set-housed : (flows : List FlowState) (flow : ℕ) (h : Home)
    → set (set flows flow (with_place (flow_at flows flow))) flow (with_home h (flow_at (set flows flow (with_place (flow_at flows flow))) flow))
    ≡ set flows flow (with_home h (with_place (flow_at flows flow)))
set-housed [] flow h = refl
set-housed (s ∷ flows) zero h = refl
set-housed (s ∷ flows) (suc flow) h = λ i. s ∷ set-housed flows flow h i
