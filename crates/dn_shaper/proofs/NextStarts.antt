-- The keys of the heap of links, each once with its next start.
use Rattle.dn_shaper.proofs.Words.{All, All-cons, All-head, All-nil, All-permutation, All-tail, Holds, IsLeast, IsPermutation, List, NextStart, None, Option, Some, [], ap, arith, cases_eq}
use Rattle.dn_shaper.proofs.Words.{cases_lt, cases_order, cond, false, get_or-set_other, get_or-set_same, inl, inr, is_lt, is_some, keys_at, length, nat_tests, next_at, next_start_cmp, one_at}
use Rattle.dn_shaper.proofs.Words.{refl, set, slice_index_or, subst, suc, sum_by-cons, sum_by_popped, sum_by_pushed, sym, true, zero, ℕ, ◌+◌, ◌<◌, ◌∙◌, ◌∷◌, ◌≡◌, ◌≤◌}

-- ---- Keys

pub same_place : (place : ℕ) (k : NextStart) → k.place ≡ place → one_at place k ≡ 1
same_place place k e = grind (arith, nat_tests)

pub other_place : (place : ℕ) (k : NextStart) → (k.place ≡ place → ⊥) → one_at place k ≡ 0
other_place place k n = grind (arith, nat_tests)

standing-cons : (place : ℕ) (k : NextStart) (ks : List NextStart) → keys_at place (k ∷ ks) ≡ one_at place k + keys_at place ks
standing-cons place k ks = sum_by-cons (one_at place) k ks

pub pushed : (place : ℕ) (k : NextStart) (xs ys : List NextStart) → IsPermutation (k ∷ xs) ys → keys_at place ys ≡ one_at place k + keys_at place xs
pushed place k xs ys h = sum_by_pushed (one_at place) k xs ys h

popped : (place : ℕ) (k : NextStart) (xs ys : List NextStart) → IsPermutation xs (k ∷ ys) → keys_at place ys + one_at place k ≡ keys_at place xs
popped place k xs ys h = sum_by_popped (one_at place) k xs ys h

pub none_standing : (place : ℕ) (ks : List NextStart) → keys_at place ks ≡ 0 → All (λ k. k.place ≡ place → ⊥) ks
none_standing place [] h = All-nil (λ k. k.place ≡ place → ⊥)
none_standing place (k ∷ ks) h =
    let s = standing-cons place k ks in
    All-cons (λ k. k.place ≡ place → ⊥) k ks
    (λ e. let one = same_place place k e in omega arith)
    (none_standing place ks (omega (arith, s, h)))

-- A key of the place, where one stands.
pub some_standing : (place : ℕ) (ks : List NextStart) → 0 < keys_at place ks → (i : ℕ) × (i < length ks) × ((d : NextStart) → (slice_index_or ks i d).place ≡ place)
some_standing place [] h = absurd (omega arith)
some_standing place (k ∷ ks) h =
    elim (cases_eq k.place place) [
      | inl e ↦ (0, omega arith, λ d. e)
      | inr n ↦
          let z = other_place place k n in
          let s = standing-cons place k ks in
          let r = some_standing place ks (omega (arith, s, z, h)) in
          (suc r.0, omega arith, r.2)
    ]

-- A key that none goes before, ties by place.
pub not_before : (x y : NextStart) → is_lt (next_start_cmp y x) ≡ false → (x.moment ≤ y.moment) × (y.moment ≡ x.moment → x.place ≤ y.place)
not_before x y h = elim (cases_order y.moment x.moment) [
  | inl e ↦ (
    omega arith,
    λ _. elim (cases_lt y.place x.place) [
      | inl l ↦ absurd (let z : is_lt (next_start_cmp y x) ≡ true = grind (arith, nat_tests) in cc)
      | inr l ↦ l
    ],
  )
  | inr r ↦ elim r [
    | inl l ↦ absurd (let z : is_lt (next_start_cmp y x) ≡ true = grind (arith, nat_tests) in cc)
    | inr l ↦ (omega arith, λ e. absurd (omega arith))
  ]
]

-- What `None` says of a length.
pub zero_from_none : (n : ℕ) → (0 < n → false ≡ true) → n ≡ 0
zero_from_none n h = elim (cases_lt 0 n) [
  | inl l ↦ absurd (let f = h l in cc)
  | inr m ↦ omega arith
]

pub none_late : (at : ℕ) (keys : List NextStart) → length keys ≡ 0 → All (λ k. at < k.moment) keys
none_late at keys e = λ i d lt. absurd (omega arith)

pub all_late : (at : ℕ) (top : NextStart) (keys : List NextStart) → IsLeast next_start_cmp top keys → at < top.moment → All (λ k. at < k.moment) keys
all_late at top keys least late = λ i d lt. let n = (not_before top (slice_index_or keys i d) (least i d lt)).0 in omega arith

-- ---- What stands in the heap

no_key : NextStart
no_key = record { moment = 0; place = 0 }

-- A fact of each key's moment and place holds wherever a moment is held.
pub held_by : (R : ℕ → ℕ → Type 0) (nexts : List (Option ℕ)) (keys : List NextStart) → Holds nexts keys → All (λ k. R k.moment k.place) keys → (place m : ℕ) → next_at nexts place ≡ Some m → R m place
held_by R nexts keys h all place m e =
    let one = h.once place ∙ ap {B = ℕ} (λ (o : Option ℕ). cond (is_some o) 1 0) e in
    let i = some_standing place keys (omega (arith, one)) in
    let k = slice_index_or keys i.0 no_key in
    let there = i.2 no_key in
    let here : Some k.moment ≡ Some m = sym (h.moments i.0 no_key i.1) ∙ ap (next_at nexts) there ∙ e in
    let same : k.moment ≡ m = cc in
    let Of : ℕ → Type 0 = λ x. R x place in
    let At : ℕ → Type 0 = λ p. R k.moment p in
    subst Of same (subst At there (all i.0 no_key i.1))

pub popped_next : (nexts : List (Option ℕ)) (keys rest : List NextStart) (k : NextStart) → Holds nexts keys → IsPermutation keys (k ∷ rest) → next_at nexts k.place ≡ Some k.moment
popped_next nexts keys rest k h p = All-head (λ x. next_at nexts x.place ≡ Some x.moment) k rest (All-permutation (λ x. next_at nexts x.place ≡ Some x.moment) keys (k ∷ rest) p h.moments)

-- A place with a next start is one of the list.
pub next_listed : (nexts : List (Option ℕ)) (place m : ℕ) → next_at nexts place ≡ Some m → place < length nexts
next_listed [] place m e = absurd cc
next_listed (o ∷ nexts) zero m e = omega arith
next_listed (o ∷ nexts) (suc place) m e = let lt = next_listed nexts place m e in omega arith

module _ (nexts : List (Option ℕ)) (keys rest : List NextStart) (k : NextStart) (h : Holds nexts keys) (p : IsPermutation keys (k ∷ rest)) where
  own_rest : keys_at k.place rest ≡ 0
  own_rest =
      let one = h.once k.place ∙ ap {B = ℕ} (λ (o : Option ℕ). cond (is_some o) 1 0) (popped_next nexts keys rest k h p) in
      let two = popped k.place k keys rest p in
      let three = same_place k.place k refl in
      omega (arith, one, two, three)

  listed : k.place < length nexts
  listed = next_listed nexts k.place k.moment (popped_next nexts keys rest k h p)

  rest_moments : (next : Option ℕ) → All (λ x. next_at (set nexts k.place next) x.place ≡ Some x.moment) rest
  rest_moments next = λ i d lt.
      let x = slice_index_or rest i d in
      get_or-set_other nexts k.place x.place next None (none_standing k.place rest own_rest i d lt)
      ∙ All-tail (λ y. next_at nexts y.place ≡ Some y.moment) k rest (All-permutation (λ y. next_at nexts y.place ≡ Some y.moment) keys (k ∷ rest) p h.moments) i d lt

  other_once : (next : Option ℕ) (place : ℕ) → (place ≡ k.place → ⊥) → keys_at place rest ≡ cond (is_some (next_at (set nexts k.place next) place)) 1 0
  other_once next place ne =
      let one = h.once place in
      let two = popped place k keys rest p in
      let three = other_place place k (λ e. ne (sym e)) in
      let same = ap {B = ℕ} (λ (o : Option ℕ). cond (is_some o) 1 0) (get_or-set_other nexts k.place place next None ne) in
      omega (arith, one, two, three, same)

  pub holds_none : Holds (set nexts k.place None) rest
  holds_none = record {
    once = λ place. elim (cases_eq place k.place) [
      | inl e ↦ let At : ℕ → Type 0 = λ m. keys_at m rest ≡ cond (is_some (next_at (set nexts k.place None) m)) 1 0 in
          subst At (sym e) (own_rest ∙ sym (ap {B = ℕ} (λ (o : Option ℕ). cond (is_some o) 1 0) (get_or-set_same nexts k.place None None listed)))
      | inr ne ↦ other_once None place ne
    ];
    moments = rest_moments None;
  }

  module _ (m : ℕ) (new : List NextStart) (q : IsPermutation (record { moment = m; place = k.place } ∷ rest) new) where
    back : NextStart
    back = record { moment = m; place = k.place }

    once_some : (place : ℕ) → keys_at place new ≡ cond (is_some (next_at (set nexts k.place (Some m)) place)) 1 0
    once_some place = elim (cases_eq place k.place) [
      | inl e ↦
          let At : ℕ → Type 0 = λ n. keys_at n new ≡ cond (is_some (next_at (set nexts k.place (Some m)) n)) 1 0 in
          let one : keys_at k.place new ≡ 1 = let a = pushed k.place (record { moment = m; place = k.place }) rest new q in
          let b = same_place k.place (record { moment = m; place = k.place }) refl in let z = own_rest in omega (arith, a, b, z) in
          subst At (sym e) (one ∙ sym (ap {B = ℕ} (λ (o : Option ℕ). cond (is_some o) 1 0) (get_or-set_same nexts k.place (Some m) None listed)))
      | inr ne ↦
          let a = pushed place (record { moment = m; place = k.place }) rest new q in
          let b = other_place place (record { moment = m; place = k.place }) (λ e. ne (sym e)) in
          let z = other_once (Some m) place ne in
          omega (arith, a, b, z)
    ]

    pub holds_some : Holds (set nexts k.place (Some m)) new
    holds_some = record {
      once = once_some;
      moments = All-permutation (λ x. next_at (set nexts k.place (Some m)) x.place ≡ Some x.moment) (record { moment = m; place = k.place } ∷ rest) new q
          (All-cons (λ x. next_at (set nexts k.place (Some m)) x.place ≡ Some x.moment) (record { moment = m; place = k.place }) rest
          (get_or-set_same nexts k.place (Some m) None listed) (rest_moments (Some m)));
    }
