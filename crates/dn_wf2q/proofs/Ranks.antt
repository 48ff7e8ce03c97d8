-- How often a flow stands among keys.
use Rattle.dn_wf2q.proofs.Words.{All, All-cons, All-nil, IsPermutation, List, RankView, [], arith, cases_eq, cases_lt, cases_order, cond, false, inl, inr, is_lt, length, nat_cmp, nat_tests}
use Rattle.dn_wf2q.proofs.Words.{ordering_then, rank_at, rank_cmp, ranks_at, slice_index_or, suc, sum_by-cons, sum_by_popped, sum_by_pushed, true, ℕ, ◌%◌, ◌+◌, ◌/◌, ◌<◌, ◌==◌, ◌∷◌, ◌≡◌, ◌≤◌}

pub rank_at_same : (f : ℕ) (k : RankView) → k.slot ≡ f → rank_at f k ≡ 1
rank_at_same f k e = grind (arith, nat_tests)

pub rank_at_other : (f : ℕ) (k : RankView) → (k.slot ≡ f → ⊥) → rank_at f k ≡ 0
rank_at_other f k n = grind (arith, nat_tests)

pub ranks_at-cons : (f : ℕ) (k : RankView) (ks : List RankView) → ranks_at f (k ∷ ks) ≡ rank_at f k + ranks_at f ks
ranks_at-cons f k ks = sum_by-cons (rank_at f) k ks

pub ranks_at_pushed : (f : ℕ) (k : RankView) (xs ys : List RankView) → IsPermutation (k ∷ xs) ys → ranks_at f ys ≡ rank_at f k + ranks_at f xs
ranks_at_pushed f k xs ys h = sum_by_pushed (rank_at f) k xs ys h

pub ranks_at_popped : (f : ℕ) (k : RankView) (xs ys : List RankView) → IsPermutation xs (k ∷ ys) → ranks_at f ys + rank_at f k ≡ ranks_at f xs
ranks_at_popped f k xs ys h = sum_by_popped (rank_at f) k xs ys h

pub no_rank_at : (f : ℕ) (ks : List RankView) → ranks_at f ks ≡ 0 → All (λ k. k.slot ≡ f → ⊥) ks
no_rank_at f [] h = All-nil (λ k. k.slot ≡ f → ⊥)
no_rank_at f (k ∷ ks) h =
    let s = ranks_at-cons f k ks in
    All-cons (λ k. k.slot ≡ f → ⊥) k ks
    (λ e. let one = rank_at_same f k e in omega arith)
    (no_rank_at f ks (omega (arith, s, h)))

-- a key of f, at its place
pub some_rank_at : (f : ℕ) (ks : List RankView) → 0 < ranks_at f ks → (i : ℕ) × (i < length ks) × ((d : RankView) → (slice_index_or ks i d).slot ≡ f)
some_rank_at f [] h = absurd (omega arith)
some_rank_at f (k ∷ ks) h =
    elim (cases_eq k.slot f) [
      | inl e ↦ (0, omega arith, λ d. e)
      | inr n ↦
          let z = rank_at_other f k n in
          let s = ranks_at-cons f k ks in
          let r = some_rank_at f ks (omega (arith, s, z, h)) in
          (suc r.0, omega arith, r.2)
    ]

-- a key that is less than no other comes first, ties by flow
pub not_before : (x y : RankView) → is_lt (rank_cmp y x) ≡ false → (x.tag ≤ y.tag) × (y.tag ≡ x.tag → x.slot ≤ y.slot)
not_before x y h = elim (cases_order y.tag x.tag) [
  | inl e ↦ (
    omega arith,
    λ _. elim (cases_lt y.slot x.slot) [
      | inl l ↦ absurd (let z : is_lt (rank_cmp y x) ≡ true = grind (arith, nat_tests) in cc)
      | inr l ↦ l
    ],
  )
  | inr r ↦ elim r [
    | inl l ↦ absurd (let z : is_lt (rank_cmp y x) ≡ true = grind (arith, nat_tests) in cc)
    | inr l ↦ (omega arith, λ e. absurd (omega arith))
  ]
]

-- what `None` says of a length
pub zero_from_none : (n : ℕ) → (0 < n → false ≡ true) → n ≡ 0
zero_from_none n h = elim (cases_lt 0 n) [
  | inl l ↦ absurd (let f = h l in cc)
  | inr m ↦ omega arith
]

-- What is absent at a slot, and at the others.
pub absent_same : (this slot n : ℕ) → this ≡ slot → cond (this == slot) n 0 ≡ n
absent_same this slot n e = grind (arith, nat_tests)

pub absent_other : (this slot n : ℕ) → (this ≡ slot → ⊥) → cond (this == slot) n 0 ≡ 0
absent_other this slot n e = grind (arith, nat_tests)

-- Two keys are in order as the tags in them are, and where these are one, as the slots are.
pub packed : (k m : ℕ) → nat_cmp k m ≡ ordering_then (nat_cmp (k / 4294967296) (m / 4294967296)) (nat_cmp (k % 4294967296) (m % 4294967296))
packed k m = elim (cases_order (k / 4294967296) (m / 4294967296)) [
  | inl e ↦ elim (cases_order (k % 4294967296) (m % 4294967296)) [
    | inl f ↦ grind (arith, nat_tests)
    | inr r ↦ elim r [
      | inl l ↦ grind (arith, nat_tests)
      | inr l ↦ grind (arith, nat_tests)
    ]
  ]
  | inr r ↦ elim r [
    | inl l ↦ grind (arith, nat_tests)
    | inr l ↦ grind (arith, nat_tests)
  ]
]
