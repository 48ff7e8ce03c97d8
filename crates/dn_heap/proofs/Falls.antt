-- What of a heap's order stays where a key falls to a leaf and rises from there, or leaves from a place of its own.
use Rattle.dn_heap.proofs.Words.{All-from_recursion, IsGreaterChild, IsHeap, IsHeapWithHole, IsHeapWithin, IsLeast, IsTotalOrder, List, Ordering, SiftsUp, ap, arith, back, back_total, false}
use Rattle.dn_heap.proofs.Words.{get_or, get_or-set_other, greatest, inl, inr, is_lt, length, lt_by_cmp, ranks, set, subst, swap_places, sym, which, ℕ, ◌*◌, ◌++◌, ◌+◌, ◌<◌, ◌∙◌, ◌≡◌, ◌≢◌, ◌≤◌}
use lib.ListN.{get_or-append}
use Rattle.core.specs.List as holes

module _ {K : Type 0} (R : K → K → Ordering) where
  by : (a b x y : K) → a ≡ x → b ≡ y → lt_by_cmp R x y ≡ false → lt_by_cmp R a b ≡ false
  by a b x y p q h = (λ k. lt_by_cmp R (p k) (q k)) ∙ h

  -- a key at j and the greater of its children change places
  pub falls : (ys zs : List K) (n j c : ℕ) → j * 2 + 1 ≤ c → c ≤ j * 2 + 2
      → c < n → c < length ys → zs ≡ holes.swap ys j c → IsGreaterChild R ys j c n → IsHeapWithHole (lt_by_cmp R) ys j n → IsHeapWithHole (lt_by_cmp R) zs c n
  unfolding IsGreaterChild
  falls ys zs n j c from to in' long is best h = (
    λ p k d a b f u v. let s = swap_places ys zs j c d (omega arith) long is in elim (which p j) [
      | inl e ↦ by _ _ _ _ (ap (λ m. get_or zs m d) e ∙ s.0) (s.2 k (omega arith) v) (best k d (omega arith) (omega arith) f)
      | inr w ↦ elim (which k j) [
        | inl e ↦ by _ _ _ _ (s.2 p w u) (ap (λ m. get_or zs m d) e ∙ s.0) (h.1 p c d (omega arith) (omega arith) from to in')
        | inr z ↦ by _ _ _ _ (s.2 p w u) (s.2 k z v) (h.0 p k d a b f w z)
      ]
    ],
    λ p k d a b f g i.
        let s = swap_places ys zs j c d (omega arith) long is in
        let e : p ≡ j = omega arith in
        by _ _ _ _ (ap (λ m. get_or zs m d) e ∙ s.0) (s.2 k (omega arith) (omega arith)) (h.0 c k d f g i (omega arith) (omega arith)),
  )

  -- a hole has the same children, whatever it stands for
  pub beside_hole : (ys : List K) (key : K) (j c n : ℕ) → j * 2 + 1 ≤ c → IsGreaterChild R ys j c n → IsGreaterChild R (set ys j key) j c n
  unfolding IsGreaterChild
  beside_hole ys key j c n from best = λ k d a b f. by _ _ _ _ (get_or-set_other ys j c key d (λ e. absurd (omega arith))) (get_or-set_other ys j k key d (λ e. absurd (omega arith))) (best k d a b f)

  -- from a leaf a key rises to where it belongs
  pub lands : (ys zs : List K) (n j : ℕ) → n ≤ j * 2 + 1 → j < n → length zs ≡ n → IsHeapWithHole (lt_by_cmp R) ys j n → SiftsUp R ys j zs → IsHeap R zs
  unfolding SiftsUp IsHeap
  lands ys zs n j leaf in' long h rises = subst (IsHeapWithin (lt_by_cmp R) zs 0) (sym long) (rises n in' (h, λ k d a b f. absurd (omega arith)))

  -- the last key rises to where it belongs
  pub lifted : (ys zs : List K) (j : ℕ) → length zs ≡ j + 1 → IsHeapWithin (lt_by_cmp R) ys 0 j → SiftsUp R ys j zs → IsHeap R zs
  unfolding SiftsUp IsHeap
  lifted ys zs j long h rises = subst (IsHeapWithin (lt_by_cmp R) zs 0) (sym long) (rises (j + 1) (omega arith) (
    (λ p k d a b f u v. h p k d (omega arith) a b (omega arith), λ p k d a b f g i. absurd (omega arith)),
    λ k d a b f. absurd (omega arith),
  ))

  -- more after a heap
  pub followed : (xs more ys : List K) (n : ℕ) → n ≡ length xs → ys ≡ xs ++ more → IsHeap R xs → IsHeapWithin (lt_by_cmp R) ys 0 n
  unfolding IsHeap
  followed xs more ys n long is h = λ p k d lo a b f.
      let e : (i : ℕ) → i < n → get_or ys i d ≡ get_or xs i d = λ i lt. ap (λ (l : List K). get_or l i d) is ∙ get_or-append xs more d i (omega (arith, lt, long)) in
      by _ _ _ _ (e p (omega arith)) (e k f) (h p k d lo a b (omega (arith, f, long)))

  -- a heap without its last key, which may have come to a place from which one was taken
  module _ (xs ys : List K) (n at : ℕ) (long : n + 1 ≡ length xs) (others : (k : ℕ) (d : K) → (k ≢ at) → k < n → get_or ys k d ≡ get_or xs k d) where
    pub left_out : IsTotalOrder R → at < n → IsHeap R xs → IsHeapWithHole (lt_by_cmp R) ys at n
    unfolding IsHeap
    left_out o within h = (
      λ p k d a b f u v. by _ _ _ _ (others p d u (omega arith)) (others k d v f) (h p k d (omega arith) a b (omega (arith, f, long))),
      λ p k d a b f g i.
          by _ _ _ _ (others p d (omega arith) (omega arith)) (others k d (omega arith) i)
          ((ranks o).chain _ _ _ (h p at d (omega arith) a b (omega (arith, within, long))) (h at k d (omega arith) f g (omega (arith, i, long)))),
    )

    pub cut : n ≤ at → length ys ≡ n → IsHeap R xs → IsHeap R ys
    unfolding IsHeap
    cut last count h = λ p k d lo a b f.
        let f' : k < n = omega (arith, f, count) in
        by _ _ _ _ (others p d (omega arith) (omega arith)) (others k d (omega arith) f') (h p k d lo a b (omega (arith, f', long)))

pub first_is_least : {K : Type 0} (cmp : K → K → Ordering) → IsTotalOrder cmp → (xs : List K) (x : K) → x ≡ get_or xs 0 x → IsHeap (back cmp) xs → IsLeast cmp x xs
first_is_least cmp o xs x e h = All-from_recursion (λ y. is_lt (cmp y x) ≡ false) xs (greatest (back_total o) xs x e h)
