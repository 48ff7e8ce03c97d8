-- Sums over heads and backlogs, as sums over the flows.
use Rattle.dn_wf2q.proofs.Words.{All, All-head, All-tail, AreTagsWithin, Flow, IsIdle, IsWithin, List, Stamped, [], ap, append-nil, append_assoc, arith, flow_at, head_weight, heads, heads_of}
use Rattle.dn_wf2q.proofs.Words.{length, length-append, no_packets, presence, refl, set, suc, sum_by, sum_by-cons, sum_by-set, sym, take, total, waiting_of, weight_sum, zero, ℕ, ◌++◌, ◌+◌, ◌<◌}
use Rattle.dn_wf2q.proofs.Words.{◌↔◌, ◌∙◌, ◌∷◌, ◌≡◌, ◌≤◌}

-- The first packets of a list of flows.
abbrev pub first_packets : List Flow → List Stamped
first_packets [] = []
first_packets (fl ∷ fls) = take 1 fl.backlog ++ first_packets fls

heads-first : {X : Type 0} (n : ℕ) (b : ℕ → List X) → heads (suc n) b ≡ take 1 (b 0) ++ heads n (λ i. b (suc i))
heads-first zero b = sym (append-nil (take 1 (b 0)))
heads-first (suc n) b = ap (λ l. l ++ take 1 (b (suc n))) (heads-first n b) ∙ append_assoc (take 1 (b 0)) (heads n (λ i. b (suc i))) (take 1 (b (suc n)))

-- The heads by slot are the first packets of the flows in turn.
pub heads_are : (flows : List Flow) → heads_of flows ≡ first_packets flows
heads_are [] = refl
heads_are (fl ∷ fls) = heads-first (length fls) (λ i. (flow_at (fl ∷ fls) i).backlog) ∙ ap (λ l. take 1 fl.backlog ++ l) (heads_are fls)

total-first : {X : Type 0} (n : ℕ) (b : ℕ → List X) → total (suc n) b ≡ length (b 0) + total n (λ i. b (suc i))
total-first zero b = omega arith
total-first (suc n) b = let t = total-first n b in omega (arith, t)

-- The packets that wait, summed over the flows.
pub waiting_is : (flows : List Flow) → waiting_of flows ≡ sum_by (λ fl. length fl.backlog) flows
waiting_is [] = refl
waiting_is (fl ∷ fls) =
    let t = total-first (length fls) (λ i. (flow_at (fl ∷ fls) i).backlog) in
    let c = sum_by-cons (λ fl. length fl.backlog) fl fls in
    omega (arith, t, c, waiting_is fls)

weight_sum-take : (q hs : List Stamped) → weight_sum (take 1 q ++ hs) ≡ head_weight q + weight_sum hs
weight_sum-take [] hs = omega arith
weight_sum-take (p ∷ q) hs = refl

pub weight_of_first : (q : List Stamped) → weight_sum (take 1 q) ≡ head_weight q
weight_of_first [] = refl
weight_of_first (p ∷ q) = omega arith

weights_first : (flows : List Flow) → weight_sum (first_packets flows) ≡ sum_by (λ fl. head_weight fl.backlog) flows
weights_first [] = refl
weights_first (fl ∷ fls) =
    let t = weight_sum-take fl.backlog (first_packets fls) in
    let c = sum_by-cons (λ fl. head_weight fl.backlog) fl fls in
    omega (arith, t, c, weights_first fls)

-- The weights of the heads, summed over the flows.
pub weights_are : (flows : List Flow) → weight_sum (heads_of flows) ≡ sum_by (λ fl. head_weight fl.backlog) flows
weights_are flows = ap weight_sum (heads_are flows) ∙ weights_first flows

-- What a change at one slot does to the count of waiting packets.
pub waiting-set : (flows : List Flow) (slot : ℕ) (fl : Flow) → slot < length flows → waiting_of (set flows slot fl) + length (flow_at flows slot).backlog ≡ waiting_of flows + length fl.backlog
waiting-set flows slot fl l =
    let a = waiting_is (set flows slot fl) in
    let b = waiting_is flows in
    let c : sum_by (λ y. length y.backlog) (set flows slot fl) + length (flow_at flows slot).backlog ≡ sum_by (λ y. length y.backlog) flows + length fl.backlog =
    sum_by-set (λ y. length y.backlog) flows slot fl no_packets l in
    omega (arith, a, b, c)

presence_or_none : (q : List Stamped) (n : ℕ) → (length q + n ≡ 0 → presence q + n ≡ 0) × (presence q + n ≡ 0 → length q + n ≡ 0)
presence_or_none [] n = (λ e. e, λ e. e)
presence_or_none (p ∷ q) n = (λ e. absurd (omega arith), λ e. absurd (omega arith))

sum_presence : (flows : List Flow)
    → (sum_by (λ fl. length fl.backlog) flows ≡ 0 → sum_by (λ fl. presence fl.backlog) flows ≡ 0) × (sum_by (λ fl. presence fl.backlog) flows ≡ 0 → sum_by (λ fl. length fl.backlog) flows ≡ 0)
sum_presence [] = (λ e. refl, λ e. refl)
sum_presence (fl ∷ fls) =
    let a = sum_by-cons (λ fl. length fl.backlog) fl fls in
    let b = sum_by-cons (λ fl. presence fl.backlog) fl fls in
    let rest = sum_presence fls in
    let r0 = rest.0 in
    let r1 = rest.1 in
    let one = presence_or_none fl.backlog 0 in
    let o0 = one.0 in
    let o1 = one.1 in (
      λ e. let x : length fl.backlog + 0 ≡ 0 = omega (arith, a, e) in
          let y : sum_by (λ fl. length fl.backlog) fls ≡ 0 = omega (arith, a, e) in
          let u = o0 x in
          let v = r0 y in
          omega (arith, b, u, v),
      λ e. let x : presence fl.backlog + 0 ≡ 0 = omega (arith, b, e) in
          let y : sum_by (λ fl. presence fl.backlog) fls ≡ 0 = omega (arith, b, e) in
          let u = o1 x in
          let v = r1 y in
          omega (arith, a, u, v),
    )

-- No packet waits exactly where there is no head.
pub idle_no_heads : (flows : List Flow) → IsIdle flows → sum_by (λ fl. presence fl.backlog) flows ≡ 0
idle_no_heads flows idle = (sum_presence flows).0 (sym (waiting_is flows) ∙ idle)

pub no_heads_idle : (flows : List Flow) → sum_by (λ fl. presence fl.backlog) flows ≡ 0 → IsIdle flows
no_heads_idle flows none = waiting_is flows ∙ (sum_presence flows).1 none

pub length_of_first : (q : List Stamped) → length (take 1 q) ≡ presence q
length_of_first [] = refl
length_of_first (p ∷ q) = refl

length_first : (flows : List Flow) → length (first_packets flows) ≡ sum_by (λ fl. presence fl.backlog) flows
length_first [] = refl
length_first (fl ∷ fls) =
    let a = length-append (take 1 fl.backlog) (first_packets fls) in
    let t = length_of_first fl.backlog in
    let c = sum_by-cons (λ fl. presence fl.backlog) fl fls in
    omega (arith, a, t, c, length_first fls)

empty_from_length : (hs : List Stamped) → length hs ≡ 0 → hs ≡ []
empty_from_length [] e = refl
empty_from_length (h ∷ hs) e = absurd (omega arith)

-- There are no heads exactly where no packet waits.
pub heads_of_idle : (flows : List Flow) → IsIdle flows → heads_of flows ≡ []
heads_of_idle flows idle = heads_are flows ∙ empty_from_length (first_packets flows) (length_first flows ∙ idle_no_heads flows idle)

pub idle_from_heads : (flows : List Flow) → heads_of flows ≡ [] → IsIdle flows
idle_from_heads flows e = no_heads_idle flows (sym (length_first flows) ∙ ap length (sym (heads_are flows) ∙ e))

-- A head weighs something.
presence_weighs : (b : ℕ) (q : List Stamped) → All (IsWithin b) q → presence q ≤ head_weight q
presence_weighs b [] h = omega arith
presence_weighs b (p ∷ q) h = let one = All-head (IsWithin b) p q h in let some = one.3 in omega arith

none_weighs : (q : List Stamped) → presence q ≡ 0 → head_weight q ≡ 0
none_weighs [] e = refl
none_weighs (p ∷ q) e = absurd (omega arith)

weight_or_none : (b : ℕ) (flows : List Flow) → All (AreTagsWithin b) flows
    → (sum_by (λ fl. head_weight fl.backlog) flows ≡ 0 → sum_by (λ fl. presence fl.backlog) flows ≡ 0)
    × (sum_by (λ fl. presence fl.backlog) flows ≡ 0 → sum_by (λ fl. head_weight fl.backlog) flows ≡ 0)
weight_or_none b [] all = (λ e. refl, λ e. refl)
weight_or_none b (fl ∷ fls) all =
    let w = sum_by-cons (λ fl. head_weight fl.backlog) fl fls in
    let h = sum_by-cons (λ fl. presence fl.backlog) fl fls in
    let rest = weight_or_none b fls (All-tail (AreTagsWithin b) fl fls all) in
    let r0 = rest.0 in
    let r1 = rest.1 in
    let one = All-head (AreTagsWithin b) fl fls all in (
      λ e. let l = presence_weighs b fl.backlog one.1 in
          let x : sum_by (λ fl. head_weight fl.backlog) fls ≡ 0 = omega (arith, w, e) in
          let y = r0 x in
          omega (arith, h, w, e, l, y),
      λ e. let x : sum_by (λ fl. presence fl.backlog) fls ≡ 0 = omega (arith, h, e) in
          let y = r1 x in
          let z = none_weighs fl.backlog (omega (arith, h, e)) in
          omega (arith, w, y, z),
    )

-- No packet waits exactly where the heads weigh nothing.
pub idle_weighs : (b : ℕ) (flows : List Flow) → All (AreTagsWithin b) flows → (sum_by (λ fl. head_weight fl.backlog) flows ≡ 0) ↔ IsIdle flows
idle_weighs b flows all = (λ e. no_heads_idle flows ((weight_or_none b flows all).0 e), λ i. (weight_or_none b flows all).1 (idle_no_heads flows i))
