-- What a heap and its run hold together, where a key joins or leaves one of the two, and what a heap holds after both.
use Rattle.dn_heap.proofs.Words.{Bool, IfSome, IsPermutation, IsPermutation-append, IsPermutation-cons, IsPermutation-middle, IsPermutation-push_more, IsPermutation-refl, IsPermutation-sym}
use Rattle.dn_heap.proofs.Words.{IsPermutation-trans, List, None, Option, Some, [], append_assoc, filter, filter-append, option_to_list, subst, sym, ◌++◌, ◌∷◌, ◌≡◌}

module _ {K : Type 0} where
  pub joins_heap : (key : K) (hs hs' rs : List K) → IsPermutation (key ∷ hs) hs' → IsPermutation (key ∷ (hs ++ rs)) (hs' ++ rs)
  joins_heap key hs hs' rs p = IsPermutation-append (key ∷ hs) hs' rs rs p (IsPermutation-refl rs)

  pub joins_run : (key : K) (hs rs : List K) → IsPermutation (key ∷ (hs ++ rs)) (hs ++ (rs ++ key ∷ []))
  joins_run key hs rs =
      let all = hs ++ rs in
      let pushed = IsPermutation-push_more all all (key ∷ all) key (IsPermutation-refl all) (IsPermutation-refl (key ∷ all)) in
      IsPermutation-sym (hs ++ (rs ++ key ∷ [])) (key ∷ all) (subst (λ l. IsPermutation l (key ∷ all)) (append_assoc hs rs (key ∷ [])) pushed)

  pub leaves_heap : (key : K) (hs hs' rs : List K) → IsPermutation hs (key ∷ hs') → IsPermutation (hs ++ rs) (key ∷ (hs' ++ rs))
  leaves_heap key hs hs' rs p = IsPermutation-append hs (key ∷ hs') rs rs p (IsPermutation-refl rs)

  leaves_run : (key : K) (hs rs rs' : List K) → IsPermutation rs (key ∷ rs') → IsPermutation (hs ++ rs) (key ∷ (hs ++ rs'))
  leaves_run key hs rs rs' p =
      IsPermutation-trans (hs ++ rs) (hs ++ key ∷ rs') (key ∷ (hs ++ rs')) (IsPermutation-append hs hs rs (key ∷ rs') (IsPermutation-refl hs) p) (IsPermutation-middle hs key rs')

  pub popped : (hs rs rs' : List K) (first : Option K) → rs ≡ option_to_list first ++ rs' → IfSome first (λ key. IsPermutation (hs ++ rs) (key ∷ (hs ++ rs')))
  popped hs rs rs' None e = tt
  popped hs rs rs' (Some key) e = leaves_run key hs rs rs' (subst (λ l. IsPermutation l (key ∷ rs')) (sym e) (IsPermutation-refl (key ∷ rs')))

  -- one key leaves, and another comes
  pub exchanged : (key top : K) (hs left hs' : List K) → IsPermutation hs (top ∷ left) → IsPermutation (key ∷ left) hs' → IsPermutation (key ∷ hs) (top ∷ hs')
  exchanged key top hs left hs' out put =
      let other = IsPermutation-middle (key ∷ []) top left in
      IsPermutation-trans (key ∷ hs) (key ∷ top ∷ left) (top ∷ hs') (IsPermutation-cons key hs (top ∷ left) out)
      (IsPermutation-trans (key ∷ top ∷ left) (top ∷ key ∷ left) (top ∷ hs') other (IsPermutation-cons top (key ∷ left) hs' put))

  pub kept : (test : K → Bool) (hs rs hs' rs' : List K) → IsPermutation (filter test hs) hs' → rs' ≡ filter test rs → IsPermutation (filter test (hs ++ rs)) (hs' ++ rs')
  kept test hs rs hs' rs' p e =
      rw (filter-append test hs rs, e) (IsPermutation-append (filter test hs) hs' (filter test rs) (filter test rs) p (IsPermutation-refl (filter test rs)))
