-- How many flows have a reserved place, after a change of one flow and with a flow more or less.
use Rattle.dn_flows.proofs.Words.{FlowQueue, FlowState, List, Packets, Unsent, [], all_with_unsent, ap, arith, cond, false, flow_at, length, map, place_of, places, refl, reservations}
use Rattle.dn_flows.proofs.Words.{reserved_one, set, state_of, suc, sum_by-cons, take, true, with_unsent, zero, ℕ, ◌+◌, ◌<◌, ◌∙◌, ◌∷◌, ◌≡◌, ◌≤◌}

-- ---- The count that the table keeps

places-unsent : (states : List FlowState) (unsent : List Unsent) → places (all_with_unsent states unsent) ≡ places states
places-unsent [] unsent = refl
places-unsent (s ∷ states) [] = refl
places-unsent (s ∷ states) (u ∷ unsent) =
    let rest = places-unsent states unsent in
    let a = sum_by-cons place_of (with_unsent u s) (all_with_unsent states unsent) in
    let b = sum_by-cons place_of s states in
    omega arith

places-seen : (store : Packets) (queues : List FlowQueue) → places (map (state_of store) queues) ≡ reservations queues
places-seen store [] = refl
places-seen store (q ∷ queues) =
    let rest = places-seen store queues in
    let a = sum_by-cons place_of (state_of store q) (map (state_of store) queues) in
    let b = sum_by-cons reserved_one q queues in
    omega arith

pub places-are : (store : Packets) (queues : List FlowQueue) (unsent : List Unsent) → places (all_with_unsent (map (state_of store) queues) unsent) ≡ reservations queues
places-are store queues unsent = places-unsent (map (state_of store) queues) unsent ∙ places-seen store queues

-- ---- One flow changes, or the last is taken out

pub places-set : (flows : List FlowState) (flow : ℕ) (s : FlowState) → flow < length flows → places (set flows flow s) + place_of (flow_at flows flow) ≡ places flows + place_of s
places-set [] flow s lt = absurd (omega arith)
places-set (t ∷ flows) zero s lt =
    let a = sum_by-cons place_of t flows in
    let b = sum_by-cons place_of s flows in
    omega arith
places-set (t ∷ flows) (suc flow) s lt =
    let rest = places-set flows flow s (omega arith) in
    let a = sum_by-cons place_of t flows in
    let b = sum_by-cons place_of t (set flows flow s) in
    omega arith

pub places-take : (n : ℕ) (flows : List FlowState) → places (take n flows) ≤ places flows
places-take zero [] = omega arith
places-take (suc n) [] = omega arith
places-take zero (s ∷ flows) = omega arith
places-take (suc n) (s ∷ flows) =
    let rest = places-take n flows in
    let a = sum_by-cons place_of s flows in
    let b = sum_by-cons place_of s (take n flows) in
    omega arith

-- The last flow had no place.
pub places-before : (n : ℕ) (flows : List FlowState) → length flows ≤ n + 1 → place_of (flow_at flows n) ≡ 0 → places flows ≤ places (take n flows)
places-before zero [] few none = omega arith
places-before (suc n) [] few none = omega arith
places-before zero (s ∷ []) few none = let a = sum_by-cons place_of s [] in omega arith
places-before zero (s ∷ t ∷ flows) few none = absurd (omega arith)
places-before (suc n) (s ∷ flows) few none =
    let rest = places-before n flows (omega arith) none in
    let a = sum_by-cons place_of s flows in
    let b = sum_by-cons place_of s (take n flows) in
    omega arith

-- What a change of one flow does to the count.
module _ (flows : List FlowState) (flow : ℕ) (s : FlowState) (within : flow < length flows) where
  pub places-same : s.reserved ≡ (flow_at flows flow).reserved → places (set flows flow s) ≡ places flows
  places-same same =
      let sums = places-set flows flow s within in
      let one : place_of s ≡ place_of (flow_at flows flow) = ap (λ b. cond b 1 0) same in
      omega arith

  pub places-used : (flow_at flows flow).reserved ≡ true → s.reserved ≡ false → places (set flows flow s) + 1 ≡ places flows
  places-used had has =
      let sums = places-set flows flow s within in
      let one : place_of (flow_at flows flow) ≡ 1 = ap (λ b. cond b 1 0) had in
      let none : place_of s ≡ 0 = ap (λ b. cond b 1 0) has in
      omega arith

-- A flow with a reserved place is there.
pub reserved-below : (flows : List FlowState) (flow : ℕ) → (flow_at flows flow).reserved ≡ true → flow < length flows
reserved-below [] zero had = absurd cc
reserved-below [] (suc flow) had = absurd cc
reserved-below (s ∷ flows) zero had = omega arith
reserved-below (s ∷ flows) (suc flow) had = let below = reserved-below flows flow had in omega arith
