-- Slots: the flows of a shared link in ascending order. A scheduler that knows the flows by their places in this list
-- picks as one that knows them by their numbers.
use Rattle.dn_shaper.proofs.Words.{Ascends, Bool, List, None, Option, Some, Stamped, [], ap, append-nil, arith, cases_eq, cases_lt, cond, false, filter, first_to_go, goes_before, grown, heads}
use Rattle.dn_shaper.proofs.Words.{is_eligible, le-ltb, least_start_tag, lt-ltb, map, map-append, max, min, nat_eq, nat_lt, option_map, pick, raised, refl, scaled, slice_get, suc, sym, take}
use Rattle.dn_shaper.proofs.Words.{take-map, top, true, weight_sum, zero, ℕ, ⊎_elim, ◌&&◌, ◌++◌, ◌+◌, ◌-◌, ◌<◌, ◌||◌, ◌∙◌, ◌∷◌, ◌≡◌, ◌≤◌}
use Rattle.dn_types.specs.Wf2q.{earlier}

-- ---- The flows of the slots ascend

-- The flow number of a slot. Slots that are not given yet go on from the last.
abbrev pub flow_from : ℕ → List ℕ → ℕ → ℕ
flow_from low [] slot = low + slot
flow_from low (f ∷ fs) zero = f
flow_from low (f ∷ fs) (suc slot) = flow_from (f + 1) fs slot

pub flow-above : (low : ℕ) (fs : List ℕ) (i : ℕ) → Ascends low fs → low ≤ flow_from low fs i
flow-above low [] i h = omega arith
flow-above low (f ∷ fs) zero h = let a = h.0 in omega arith
flow-above low (f ∷ fs) (suc i) h = let a = h.0 in let r = flow-above (f + 1) fs i h.1 in omega arith

pub flows-rise : (low : ℕ) (fs : List ℕ) (i j : ℕ) → Ascends low fs → i < j → flow_from low fs i < flow_from low fs j
flows-rise low [] i j h lt = omega arith
flows-rise low (f ∷ fs) i zero h lt = absurd (omega arith)
flows-rise low (f ∷ fs) zero (suc j) h lt = let r = flow-above (f + 1) fs j h.1 in omega arith
flows-rise low (f ∷ fs) (suc i) (suc j) h lt = flows-rise (f + 1) fs i j h.1 (omega arith)

pub flow-at : (low : ℕ) (fs : List ℕ) (i f : ℕ) → slice_get fs i ≡ Some f → flow_from low fs i ≡ f
flow-at low [] i f e = absurd cc
flow-at low (g ∷ fs) zero f e = let same : g ≡ f = cc in same
flow-at low (g ∷ fs) (suc i) f e = flow-at (g + 1) fs i f e

pub ascends-more : (low : ℕ) (fs : List ℕ) (g : ℕ) → Ascends low fs → top low fs ≤ g → Ascends low (fs ++ g ∷ [])
ascends-more low [] g h le = (le, tt)
ascends-more low (f ∷ fs) g h le = (h.0, ascends-more (f + 1) fs g h.1 le)

pub top-more : (low : ℕ) (fs : List ℕ) (g : ℕ) → top low (fs ++ g ∷ []) ≡ g + 1
top-more low [] g = refl
top-more low (f ∷ fs) g = top-more (f + 1) fs g

-- ---- Heads over a gap

pub heads-gap : {X : Type 0} (k low : ℕ) (q : ℕ → List X) → ((f : ℕ) → low ≤ f → f < k + low → q f ≡ []) → heads (k + low) q ≡ heads low q
heads-gap {X = X} zero low q h = let e : 0 + low ≡ low = omega arith in ap (λ m. heads m q) e
heads-gap {X = X} (suc k) low q h =
    let e : suc k + low ≡ suc (k + low) = omega arith in
    ap (λ m. heads m q) e
    ∙ ap (λ xs. heads (k + low) q ++ take 1 xs) (h (k + low) (omega arith) (omega arith))
    ∙ append-nil (heads (k + low) q)
    ∙ heads-gap k low q (λ f le lt. h f le (omega arith))

pub heads-between : {X : Type 0} (low high : ℕ) (q : ℕ → List X) → low ≤ high → ((f : ℕ) → low ≤ f → f < high → q f ≡ []) → heads high q ≡ heads low q
heads-between low high q le h =
    let e : high ≡ (high - low) + low = omega arith in
    ap (λ m. heads m q) e ∙ heads-gap (high - low) low q (λ f a b. h f a (omega arith))

-- ---- Packets with their flows renumbered

module _ (to : ℕ → ℕ) (rises : (a b : ℕ) → a < b → to a < to b) where
  abbrev pub moved : Stamped → Stamped
  moved s = record { flow = to s.flow; len = s.len; weight = s.weight; start_tag = s.start_tag; finish_tag = s.finish_tag }

  lt-moved : (a b : ℕ) → nat_lt (to a) (to b) ≡ nat_lt a b
  lt-moved a b = ⊎_elim below not_below (cases_lt a b)
    where
      below : a < b → nat_lt (to a) (to b) ≡ nat_lt a b
      below lt = lt-ltb (to a) (to b) (rises a b lt) ∙ sym (lt-ltb a b lt)

      not_below : b ≤ a → nat_lt (to a) (to b) ≡ nat_lt a b
      not_below le = le-ltb (to a) (to b) (⊎_elim (λ same. let e = ap to same in omega arith) (λ other. let r = rises b a (omega arith) in omega arith) (cases_eq a b)) ∙ sym (le-ltb a b le)

  before-moved : (a b : Stamped) → goes_before (moved a) (moved b) ≡ goes_before a b
  before-moved a b = ap (λ t. nat_lt a.finish_tag b.finish_tag || nat_eq a.finish_tag b.finish_tag && t) (lt-moved a.flow b.flow)

  least-moved : (most : ℕ) (hs : List Stamped) → least_start_tag most (map moved hs) ≡ least_start_tag most hs
  least-moved most [] = refl
  least-moved most (h ∷ hs) = ap (min h.start_tag) (least-moved most hs)

  pub raised-moved : (v : ℕ) (hs : List Stamped) → raised v (map moved hs) ≡ raised v hs
  raised-moved v [] = refl
  raised-moved v (h ∷ hs) = ap (max v) (least-moved h.start_tag hs)

  earlier-moved : (a : Stamped) (o : Option Stamped) → earlier (moved a) (option_map moved o) ≡ option_map moved (earlier a o)
  earlier-moved a None = refl
  earlier-moved a (Some b) = ap (λ t. Some (cond t (moved b) (moved a))) (before-moved b a) ∙ by (goes_before b a)
    where
      by : (t : Bool) → Some (cond t (moved b) (moved a)) ≡ Some (moved (cond t b a))
      by true = refl
      by false = refl

  first-moved : (hs : List Stamped) → first_to_go (map moved hs) ≡ option_map moved (first_to_go hs)
  first-moved [] = refl
  first-moved (h ∷ hs) = ap (earlier (moved h)) (first-moved hs) ∙ earlier-moved h (first_to_go hs)

  eligible-moved : (v : ℕ) (hs : List Stamped) → filter (is_eligible v) (map moved hs) ≡ map moved (filter (is_eligible v) hs)
  eligible-moved v [] = refl
  eligible-moved v (h ∷ hs) = by (is_eligible v h) (eligible-moved v hs)
    where
      by : (t : Bool) → filter (is_eligible v) (map moved hs) ≡ map moved (filter (is_eligible v) hs) →
          cond t (moved h ∷ filter (is_eligible v) (map moved hs)) (filter (is_eligible v) (map moved hs)) ≡ map moved (cond t (h ∷ filter (is_eligible v) hs) (filter (is_eligible v) hs))
      by true e = ap (λ (xs : List Stamped). moved h ∷ xs) e
      by false e = e

  -- The same packet is picked.
  pub pick-moved : (v : ℕ) (hs : List Stamped) → pick v (map moved hs) ≡ option_map moved (pick v hs)
  pick-moved v hs =
      ap (λ r. first_to_go (filter (is_eligible r) (map moved hs))) (raised-moved v hs)
      ∙ ap first_to_go (eligible-moved (raised v hs) hs)
      ∙ first-moved (filter (is_eligible (raised v hs)) hs)

  weight-moved : (hs : List Stamped) → weight_sum (map moved hs) ≡ weight_sum hs
  weight-moved [] = refl
  weight-moved (h ∷ hs) = ap (λ w. h.weight + w) (weight-moved hs)

  -- And virtual time grows by the same.
  pub grown-moved : (v : ℕ) (hs : List Stamped) (len : ℕ) → grown v (map moved hs) len ≡ grown v hs len
  grown-moved v hs len = (λ i. raised-moved v hs i + scaled len (weight-moved hs i))

  to-le : (a b : ℕ) → a ≤ b → to a ≤ to b
  to-le a b le = ⊎_elim (λ same. let e = ap to same in omega arith) (λ other. let r = rises a b (omega arith) in omega arith) (cases_eq a b)

  pub le-to : (n : ℕ) → n ≤ to n
  le-to zero = omega arith
  le-to (suc n) = let r = le-to n in let up = rises n (suc n) (omega arith) in omega arith

  module _ (q r : ℕ → List Stamped) (same : (i : ℕ) → q (to i) ≡ map moved (r i)) (none : (f : ℕ) → ((i : ℕ) → to i ≡ f → ⊥) → q f ≡ []) where
    between : (n f : ℕ) → to n < f → f < to (suc n) → q f ≡ []
    between n f above below = none f (λ i e. ⊎_elim (λ lt. let le = to-le i n (omega arith) in absurd (omega arith)) (λ ge. let le = to-le (suc n) i ge in absurd (omega arith)) (cases_lt i (suc n)))

    -- The heads of the flows are those of the slots.
    pub heads-moved : (n : ℕ) → heads (to n) q ≡ map moved (heads n r)
    heads-moved zero = heads-between 0 (to 0) q (omega arith) (λ f le lt. none f (λ i e. let up = to-le 0 i (omega arith) in absurd (omega arith)))
    heads-moved (suc n) =
        let up = rises n (suc n) (omega arith) in
        heads-between (suc (to n)) (to (suc n)) q (omega arith) (λ f le lt. between n f (omega arith) lt)
        ∙ ap (λ (xs : List Stamped). xs ++ take 1 (q (to n))) (heads-moved n)
        ∙ ap (λ (xs : List Stamped). map moved (heads n r) ++ take 1 xs) (same n)
        ∙ ap (λ (xs : List Stamped). map moved (heads n r) ++ xs) (take-map moved 1 (r n))
        ∙ sym (map-append moved (heads n r) (take 1 (r n)))

-- The flow of a slot is below the top.
pub below-top : (low : ℕ) (fs : List ℕ) (slot g : ℕ) → Ascends low fs → slice_get fs slot ≡ Some g → g < top low fs
below-top low [] slot g h e = absurd cc
below-top low (f ∷ fs) zero g h e = let same : f ≡ g = cc in let r = low-top (f + 1) fs h.1 in omega arith
  where
    low-top : (low : ℕ) (fs : List ℕ) → Ascends low fs → low ≤ top low fs
    low-top low [] h = omega arith
    low-top low (f ∷ fs) h = let a = h.0 in let r = low-top (f + 1) fs h.1 in omega arith
below-top low (f ∷ fs) (suc slot) g h e = below-top (f + 1) fs slot g h.1 e
