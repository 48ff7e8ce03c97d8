-- The keys that emptied links left in the heap, and those that count: what each step does to both.
use Rattle.dn_shaper.proofs.Words.{All, All-contains, All-filter, All-permutation, All-tail, All-weaker, Bool, Contains, HasKept, Heap, Holds, IsFirstCounting, IsLeast, IsPermutation}
use Rattle.dn_shaper.proofs.Words.{IsPermutation-refl, IsPermutation-sym, IsPermutation-trans, IsTidy, KeepsCounting, List, NextStart, None, Option, Some, [], ap, arith, backlogged, cases_Bool}
use Rattle.dn_shaper.proofs.Words.{cases_eq, cases_lt, cond, counted_heap, counting, false, filter, filter_agree, filter_passes, get_or-set_other, get_or-set_same, inl, inr, is_left, is_lt}
use Rattle.dn_shaper.proofs.Words.{is_moment, is_some, keys_at, length, length-set, length_permutation, nat_eq, nat_tests, next_at, next_start_cmp, not, one_at, one_backlogged, refl, set}
use Rattle.dn_shaper.proofs.Words.{slice_get, slice_index_or, subst, suc, sum-set, sum_by-IsPermutation, sum_by_popped, sum_by_pushed, sym, true, zero, ℕ, ◌++◌, ◌+◌, ◌<◌, ◌∙◌, ◌∷◌, ◌≡◌, ◌≤◌, ◌⊎◌}
use Rattle.dn_shaper.proofs.HeldCounts.{counted-held, next-got}
use Rattle.dn_shaper.proofs.KeyCounts.{key_eq, one_if, count_of, same_key, itself, one_is, one_not, one_elsewhere, count-cons, same_counts, counted}
use Rattle.dn_shaper.proofs.KeyCounts.{contains_counted, count-by_place, filter-in, filter-out, count-passing, count-failing, filter-none, filter-permutation}
use Rattle.dn_shaper.proofs.KeyCounts.{filter-with, filter-without, filter-lengths}
use Rattle.dn_shaper.proofs.NextStarts.{holds_none, next_listed, not_before}

-- ---- Which keys were left

-- What the test of a moment says.
moment-is : (o : Option ℕ) (m : ℕ) → is_moment o m ≡ true → o ≡ Some m
moment-is None m e = absurd cc
moment-is (Some n) m e = let same : n ≡ m = grind (arith, nat_tests) in ap (λ x. Some x) same

pub left-is : (E : List (Option ℕ)) (k : NextStart) → is_left E k ≡ true → next_at E k.place ≡ Some k.moment
left-is E k e = moment-is (next_at E k.place) k.moment e

pub is-moment : (m : ℕ) → is_moment (Some m) m ≡ true
is-moment m = grind (arith, nat_tests)

pub none-left : (E : List (Option ℕ)) (k : NextStart) → next_at E k.place ≡ None → is_left E k ≡ false
none-left E k e = ap (λ (o : Option ℕ). is_moment o k.moment) e

-- No link left a key where there are none.
pub none-at : (E : List (Option ℕ)) → backlogged E ≡ 0 → (place : ℕ) → next_at E place ≡ None
none-at E none place = by (next_at E place) refl
  where
    by : (o : Option ℕ) → next_at E place ≡ o → next_at E place ≡ None
    by None e = e
    by (Some m) e = let s = sum-set one_backlogged E place (Some m) None (next-got E place m e) in absurd (omega arith)

-- The keys of a place that was left are one key.
pub left-only : (E : List (Option ℕ)) (k x : NextStart) → is_left E k ≡ true → is_left E x ≡ true → x.place ≡ k.place → x ≡ k
left-only E k x left left' same =
    let both : Some x.moment ≡ Some k.moment = sym (left-is E x left') ∙ ap (next_at E) same ∙ left-is E k left in
    let moment : x.moment ≡ k.moment = cc in
    λ i. record { moment = moment i; place = same i }

-- ---- What both lists hold

module _ (E : List (Option ℕ)) (K : List NextStart) (h : Holds E (filter (is_left E) K)) where
  -- A key that was left is there once.
  pub left-once : (k : NextStart) → is_left E k ≡ true → count_of k K ≡ 1
  left-once k left =
      let passing = count-passing (is_left E) k left K in
      let same = count-by_place k (filter (is_left E) K)
      (All-weaker (λ x. is_left E x ≡ true) (λ x. x.place ≡ k.place → x ≡ k) (λ x is same. left-only E k x left is same) (filter (is_left E) K) (filter_passes (is_left E) K)) in
      let one = h.once k.place ∙ ap {B = ℕ} (λ (o : Option ℕ). cond (is_some o) 1 0) (left-is E k left) in
      omega arith

  pub counted-lengths : length (counting E K) + backlogged E ≡ length K
  counted-lengths =
      let a = filter-lengths (is_left E) K in
      let b = counted-held (filter (is_left E) K) E h in
      omega arith

-- How often a key is among those that count.
pub counts-in : (E : List (Option ℕ)) (k : NextStart) (K : List NextStart) → is_left E k ≡ false → count_of k (counting E K) ≡ count_of k K
counts-in E k K f = count-passing (λ (x : NextStart). not (is_left E x)) k (ap not f) K

pub counts-not : (E : List (Option ℕ)) (k : NextStart) (K : List NextStart) → is_left E k ≡ true → count_of k (counting E K) ≡ 0
counts-not E k K t = count-failing (λ (x : NextStart). not (is_left E x)) k (ap not t) K

held-permuted : (E : List (Option ℕ)) (xs ys : List NextStart) → IsPermutation xs ys → Holds E xs → Holds E ys
held-permuted E xs ys perm h = record {
  once = λ place. sum_by-IsPermutation (one_at place) xs ys perm ∙ h.once place;
  moments = All-permutation (λ k. next_at E k.place ≡ Some k.moment) xs ys perm h.moments;
}

-- ---- A key that counts comes or leaves

module _ (E : List (Option ℕ)) (k : NextStart) (K K' : List NextStart) (counts : is_left E k ≡ false) (perm : IsPermutation (k ∷ K) K') where
  pub with-keys : IsPermutation (k ∷ counting E K) (counting E K')
  with-keys = filter-with (λ (x : NextStart). not (is_left E x)) k K K' (ap not counts) perm

  same-left : IsPermutation (filter (is_left E) K) (filter (is_left E) K')
  same-left = filter-without (is_left E) k K K' counts perm

  pub with-held : Holds E (filter (is_left E) K) → Holds E (filter (is_left E) K')
  with-held h = held-permuted E (filter (is_left E) K) (filter (is_left E) K') same-left h

  pub without-held : Holds E (filter (is_left E) K') → Holds E (filter (is_left E) K)
  without-held h = held-permuted E (filter (is_left E) K') (filter (is_left E) K) (IsPermutation-sym (filter (is_left E) K) (filter (is_left E) K') same-left) h

  pub with-first : IsFirstCounting K E → IsFirstCounting K' E
  with-first first x least = first x
      (All-tail (λ y. is_lt (next_start_cmp y x) ≡ false) k K
      (All-permutation (λ y. is_lt (next_start_cmp y x) ≡ false) K' (k ∷ K) (IsPermutation-sym (k ∷ K) K' perm) least))

-- ---- A moment is written at a place, or forgotten

module _ (E : List (Option ℕ)) (place : ℕ) (inside : place < length E) (o : Option ℕ) where
  pub at-place : (k : NextStart) → k.place ≡ place → is_left (set E place o) k ≡ is_moment o k.moment
  at-place k e = ap (λ (x : Option ℕ). is_moment x k.moment) (ap (next_at (set E place o)) e ∙ get_or-set_same E place o None inside)

  pub elsewhere : (k : NextStart) → (k.place ≡ place → ⊥) → is_left (set E place o) k ≡ is_left E k
  elsewhere k ne = ap (λ (x : Option ℕ). is_moment x k.moment) (get_or-set_other E place k.place o None ne)

-- ---- A key that was left counts again

module _ (E : List (Option ℕ)) (K : List NextStart) (h : Holds E (filter (is_left E) K)) (key : NextStart) (left : is_left E key ≡ true) where
  inside : key.place < length E
  inside = next_listed E key.place key.moment (left-is E key left)

  now-not : is_left (set E key.place None) key ≡ false
  now-not = at-place E key.place inside None key refl

  -- Another key of the place was not left.
  other-not : (k : NextStart) → key_eq key k ≡ false → k.place ≡ key.place → is_left E k ≡ false
  other-not k ne same = elim (cases_Bool (is_left E k)) [
    | inl t ↦ let is : k ≡ key = left-only E key k left t same in absurd (let e : key_eq key k ≡ true = subst (λ (y : NextStart). key_eq key y ≡ true) (sym is) (itself key) in cc)
    | inr f ↦ f
  ]

  back-here : (k : NextStart) → k.place ≡ key.place → (b : Bool) → key_eq key k ≡ b
      → (count_of k (key ∷ counting E K) ≡ count_of k (counting (set E key.place None) K))
      × (count_of k (key ∷ filter (is_left (set E key.place None)) K) ≡ count_of k (filter (is_left E) K))
  back-here k same true e =
      let is : key ≡ k = same_key key k e in
      let t = subst (λ (y : NextStart). is_left E y ≡ true) is left in
      let f = at-place E key.place inside None k same in
      let one = one_is k key e in
      let a = count-cons k key (counting E K) in
      let b = counts-not E k K t in
      let c = counts-in (set E key.place None) k K f in
      let n = left-once E K h k t in
      let a' = count-cons k key (filter (is_left (set E key.place None)) K) in
      let b' = count-failing (is_left (set E key.place None)) k f K in
      let c' = count-passing (is_left E) k t K in
      (omega (arith, one, a, b, c, n), omega (arith, one, a', b', c', n))
  back-here k same false e =
      let f = at-place E key.place inside None k same in
      let g = other-not k e same in
      let one = one_not k key e in
      let a = count-cons k key (counting E K) in
      let b = counts-in E k K g in
      let c = counts-in (set E key.place None) k K f in
      let a' = count-cons k key (filter (is_left (set E key.place None)) K) in
      let b' = count-failing (is_left (set E key.place None)) k f K in
      let c' = count-failing (is_left E) k g K in
      (omega (arith, one, a, b, c), omega (arith, one, a', b', c'))

  back-elsewhere : (k : NextStart) → (k.place ≡ key.place → ⊥) → (b : Bool) → is_left E k ≡ b
      → (count_of k (key ∷ counting E K) ≡ count_of k (counting (set E key.place None) K))
      × (count_of k (key ∷ filter (is_left (set E key.place None)) K) ≡ count_of k (filter (is_left E) K))
  back-elsewhere k ne b e = by b e (elsewhere E key.place inside None k ne ∙ e)
    where
      one : one_if k key ≡ 0
      one = one_elsewhere k key (λ s. ne (sym s))

      by : (b : Bool) → is_left E k ≡ b → is_left (set E key.place None) k ≡ b
          → (count_of k (key ∷ counting E K) ≡ count_of k (counting (set E key.place None) K))
          × (count_of k (key ∷ filter (is_left (set E key.place None)) K) ≡ count_of k (filter (is_left E) K))
      by true e f =
          let z = one in
          let a = count-cons k key (counting E K) in
          let b = counts-not E k K e in
          let c = counts-not (set E key.place None) k K f in
          let a' = count-cons k key (filter (is_left (set E key.place None)) K) in
          let b' = count-passing (is_left (set E key.place None)) k f K in
          let c' = count-passing (is_left E) k e K in
          (omega (arith, z, a, b, c), omega (arith, z, a', b', c'))
      by false e f =
          let z = one in
          let a = count-cons k key (counting E K) in
          let b = counts-in E k K e in
          let c = counts-in (set E key.place None) k K f in
          let a' = count-cons k key (filter (is_left (set E key.place None)) K) in
          let b' = count-failing (is_left (set E key.place None)) k f K in
          let c' = count-failing (is_left E) k e K in
          (omega (arith, z, a, b, c), omega (arith, z, a', b', c'))

  back-counts : (k : NextStart) → (count_of k (key ∷ counting E K) ≡ count_of k (counting (set E key.place None) K))
      × (count_of k (key ∷ filter (is_left (set E key.place None)) K) ≡ count_of k (filter (is_left E) K))
  back-counts k = elim (cases_eq k.place key.place) [
    | inl same ↦ back-here k same (key_eq key k) refl
    | inr ne ↦ back-elsewhere k ne (is_left E k) refl
  ]

  pub back-keys : IsPermutation (key ∷ counting E K) (counting (set E key.place None) K)
  back-keys = same_counts (key ∷ counting E K) (counting (set E key.place None) K) (λ k. (back-counts k).0)

  pub back-held : Holds (set E key.place None) (filter (is_left (set E key.place None)) K)
  back-held =
      let perm = same_counts (key ∷ filter (is_left (set E key.place None)) K) (filter (is_left E) K) (λ k. (back-counts k).1) in
      holds_none E (filter (is_left E) K) (filter (is_left (set E key.place None)) K) key h
      (IsPermutation-sym (key ∷ filter (is_left (set E key.place None)) K) (filter (is_left E) K) perm)

  pub back-fewer : backlogged (set E key.place None) + 1 ≡ backlogged E
  back-fewer = let s = sum-set one_backlogged E key.place (Some key.moment) None (next-got E key.place key.moment (left-is E key left)) in omega arith

  pub back-not : is_left (set E key.place None) key ≡ false
  back-not = now-not

  -- What was not left is not left now either.
  pub back-first : IsFirstCounting K E → IsFirstCounting K (set E key.place None)
  back-first first k least = elim (cases_eq k.place key.place) [
    | inl same ↦ at-place E key.place inside None k same
    | inr ne ↦ elsewhere E key.place inside None k ne ∙ first k least
  ]

-- ---- Only places are made

module _ (E E' : List (Option ℕ)) (same : (place : ℕ) → next_at E' place ≡ next_at E place) where
  alike : (k : NextStart) → is_left E' k ≡ is_left E k
  alike k = ap (λ (o : Option ℕ). is_moment o k.moment) (same k.place)

  pub alike-keys : (K : List NextStart) → counting E' K ≡ counting E K
  alike-keys K = filter_agree (λ (k : NextStart). not (is_left E' k)) (λ k. not (is_left E k)) (λ k. ap not (alike k)) K

  pub alike-held : (K : List NextStart) → Holds E (filter (is_left E) K) → Holds E' (filter (is_left E') K)
  alike-held K h =
      let agree = filter_agree (is_left E') (is_left E) alike K in
      subst (λ (l : List NextStart). Holds E' l) (sym agree) (record {
        once = λ place. h.once place ∙ ap {B = ℕ} (λ (o : Option ℕ). cond (is_some o) 1 0) (sym (same place));
        moments = λ i d lt. same (slice_index_or (filter (is_left E) K) i d).place ∙ h.moments i d lt;
      })

  pub alike-first : (K : List NextStart) → IsFirstCounting K E → IsFirstCounting K E'
  alike-first K first k least = alike k ∙ first k least

-- ---- All that were left are forgotten

module _ (E : List (Option ℕ)) (none : (place : ℕ) → next_at E place ≡ None) (K : List NextStart) where
  pub cleared-keys : IsPermutation K (counting E K)
  cleared-keys = same_counts K (counting E K) (λ k. sym (counts-in E k K (none-left E k (none k.place))))

  pub cleared-held : Holds E (filter (is_left E) K)
  cleared-held =
      subst (λ (l : List NextStart). Holds E l) (sym (filter-none (is_left E) K (λ k. none-left E k (none k.place)))) (record {
        once = λ place. sym (ap {B = ℕ} (λ (o : Option ℕ). cond (is_some o) 1 0) (none place));
        moments = λ i d lt. absurd (omega arith);
      })

  pub cleared-first : IsFirstCounting K E
  cleared-first k least = none-left E k (none k.place)

-- ---- A least key

module _ (E : List (Option ℕ)) (K : List NextStart) (first : IsFirstCounting K E) (top : NextStart) (held : Contains K top) (least : IsLeast next_start_cmp top K) where
  pub top-held : Contains (counting E K) top
  top-held =
      let c = counted top K held in
      let s = counts-in E top K (first top least) in
      contains_counted top (counting E K) (omega arith)

  pub top-some : 0 < length (counting E K)
  top-some = let l = top-held.1 in omega arith

pub top-least : (E : List (Option ℕ)) (K : List NextStart) (top : NextStart) → IsLeast next_start_cmp top K → IsLeast next_start_cmp top (counting E K)
top-least E K top least = All-filter (λ (k : NextStart). not (is_left E k)) (λ k. is_lt (next_start_cmp k top) ≡ false) K least

-- There is one least key at most.
pub one-least : (K : List NextStart) (a b : NextStart) → Contains K a → IsLeast next_start_cmp a K → Contains K b → IsLeast next_start_cmp b K → a ≡ b
one-least K a b in_a least_a in_b least_b =
    let p = not_before a b (All-contains (λ y. is_lt (next_start_cmp y a) ≡ false) K b least_a in_b) in
    let q = not_before b a (All-contains (λ y. is_lt (next_start_cmp y b) ≡ false) K a least_b in_a) in
    let p0 = p.0 in
    let q0 = q.0 in
    let t : a.moment ≡ b.moment = omega arith in
    let p1 = p.1 (sym t) in
    let q1 = q.1 t in
    let s : a.place ≡ b.place = omega arith in
    λ i. record { moment = t i; place = s i }
