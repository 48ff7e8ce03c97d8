-- A link leaves its key in the heap: it counts no more, and all others count as before.
use Rattle.dn_shaper.proofs.Words.{Bool, Contains, Holds, IsPermutation, List, NextStart, None, Option, Some, [], ap, arith, backlogged, cases_Bool, cases_eq, counting, false, filter, inl, inr}
use Rattle.dn_shaper.proofs.Words.{is_left, keys_at, length, next_at, one_backlogged, refl, set, slice_get, subst, suc, sum-set, sym, true, zero, ℕ, ◌+◌, ◌<◌, ◌∙◌, ◌∷◌, ◌≡◌}
use Rattle.dn_shaper.proofs.Accepting.{holds_pushed}
use Rattle.dn_shaper.proofs.KeyCounts.{key_eq, one_if, count_of, same_key, itself, one_is, one_not, one_elsewhere, count-cons, same_counts, counted, count-below, count-failing, count-passing}
use Rattle.dn_shaper.proofs.LeftKeys.{at-place, counts-in, counts-not, elsewhere, is-moment, left-only, none-left}

module _ (E : List (Option ℕ)) (K : List NextStart) (h : Holds E (filter (is_left E) K)) (key : NextStart) (inside : key.place < length E)
    (none : next_at E key.place ≡ None) (held : Contains (counting E K) key) (once : keys_at key.place (counting E K) ≡ 1) where
  was-not : is_left E key ≡ false
  was-not = none-left E key none

  -- The key is there once.
  is-once : count_of key K ≡ 1
  is-once =
      let some = counted key (counting E K) held in
      let few = count-below key (counting E K) in
      let same = counts-in E key K was-not in
      omega (arith, some, few, same, once)

  now-left : is_left (set E key.place (Some key.moment)) key ≡ true
  now-left = at-place E key.place inside (Some key.moment) key refl ∙ is-moment key.moment

  -- Another key of the place isn't left.
  others-not : (k : NextStart) → key_eq key k ≡ false → k.place ≡ key.place → is_left (set E key.place (Some key.moment)) k ≡ false
  others-not k ne same = elim (cases_Bool (is_left (set E key.place (Some key.moment)) k)) [
    | inl t ↦
        let is : k ≡ key = left-only (set E key.place (Some key.moment)) key k now-left t same in
        absurd (let e : key_eq key k ≡ true = subst (λ (y : NextStart). key_eq key y ≡ true) (sym is) (itself key) in cc)
    | inr f ↦ f
  ]

  abbrev Counts : NextStart → Type 0
  Counts k = (count_of k (counting E K) ≡ count_of k (key ∷ counting (set E key.place (Some key.moment)) K))
      × (count_of k (key ∷ filter (is_left E) K) ≡ count_of k (filter (is_left (set E key.place (Some key.moment))) K))

  leaves-here : (k : NextStart) → k.place ≡ key.place → (b : Bool) → key_eq key k ≡ b → Counts k
  leaves-here k same true e =
      let is : key ≡ k = same_key key k e in
      let f = none-left E k (ap (next_at E) same ∙ none) in
      let t = subst (λ (y : NextStart). is_left (set E key.place (Some key.moment)) y ≡ true) is now-left in
      let n = subst (λ (y : NextStart). count_of y K ≡ 1) is is-once in
      let one = one_is k key e in
      let a = counts-in E k K f in
      let b = count-cons k key (counting (set E key.place (Some key.moment)) K) in
      let c = counts-not (set E key.place (Some key.moment)) k K t in
      let a' = count-cons k key (filter (is_left E) K) in
      let b' = count-failing (is_left E) k f K in
      let c' = count-passing (is_left (set E key.place (Some key.moment))) k t K in
      (omega (arith, one, a, b, c, n), omega (arith, one, a', b', c', n))
  leaves-here k same false e =
      let f = none-left E k (ap (next_at E) same ∙ none) in
      let g = others-not k e same in
      let one = one_not k key e in
      let a = counts-in E k K f in
      let b = count-cons k key (counting (set E key.place (Some key.moment)) K) in
      let c = counts-in (set E key.place (Some key.moment)) k K g in
      let a' = count-cons k key (filter (is_left E) K) in
      let b' = count-failing (is_left E) k f K in
      let c' = count-failing (is_left (set E key.place (Some key.moment))) k g K in
      (omega (arith, one, a, b, c), omega (arith, one, a', b', c'))

  leaves-elsewhere : (k : NextStart) → (k.place ≡ key.place → ⊥) → (b : Bool) → is_left E k ≡ b → Counts k
  leaves-elsewhere k ne b e = by b e (elsewhere E key.place inside (Some key.moment) k ne ∙ e)
    where
      one : one_if k key ≡ 0
      one = one_elsewhere k key (λ s. ne (sym s))

      by : (b : Bool) → is_left E k ≡ b → is_left (set E key.place (Some key.moment)) k ≡ b → Counts k
      by true e f =
          let z = one in
          let a = counts-not E k K e in
          let b = count-cons k key (counting (set E key.place (Some key.moment)) K) in
          let c = counts-not (set E key.place (Some key.moment)) k K f in
          let a' = count-cons k key (filter (is_left E) K) in
          let b' = count-passing (is_left E) k e K in
          let c' = count-passing (is_left (set E key.place (Some key.moment))) k f K in
          (omega (arith, z, a, b, c), omega (arith, z, a', b', c'))
      by false e f =
          let z = one in
          let a = counts-in E k K e in
          let b = count-cons k key (counting (set E key.place (Some key.moment)) K) in
          let c = counts-in (set E key.place (Some key.moment)) k K f in
          let a' = count-cons k key (filter (is_left E) K) in
          let b' = count-failing (is_left E) k e K in
          let c' = count-failing (is_left (set E key.place (Some key.moment))) k f K in
          (omega (arith, z, a, b, c), omega (arith, z, a', b', c'))

  leaves-counts : (k : NextStart) → Counts k
  leaves-counts k = elim (cases_eq k.place key.place) [
    | inl same ↦ leaves-here k same (key_eq key k) refl
    | inr ne ↦ leaves-elsewhere k ne (is_left E k) refl
  ]

  pub leaves-keys : IsPermutation (counting E K) (key ∷ counting (set E key.place (Some key.moment)) K)
  leaves-keys = same_counts (counting E K) (key ∷ counting (set E key.place (Some key.moment)) K) (λ k. (leaves-counts k).0)

  pub leaves-held : Holds (set E key.place (Some key.moment)) (filter (is_left (set E key.place (Some key.moment))) K)
  leaves-held =
      let perm = same_counts (key ∷ filter (is_left E) K) (filter (is_left (set E key.place (Some key.moment))) K) (λ k. (leaves-counts k).1) in
      holds_pushed E (filter (is_left E) K) h key.place key.moment inside none (filter (is_left (set E key.place (Some key.moment))) K) perm

  pub leaves-more : backlogged (set E key.place (Some key.moment)) ≡ backlogged E + 1
  leaves-more =
      let there : slice_get E key.place ≡ Some None = read E key.place inside none in
      let s = sum-set one_backlogged E key.place None (Some key.moment) there in
      omega arith
    where
      read : (E : List (Option ℕ)) (i : ℕ) → i < length E → next_at E i ≡ None → slice_get E i ≡ Some None
      read [] i lt e = absurd (omega arith)
      read (o ∷ E) zero lt e = ap (λ x. Some x) e
      read (o ∷ E) (suc i) lt e = read E i (omega arith) e
