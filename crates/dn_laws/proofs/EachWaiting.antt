-- What is so of each packet of a queue stays so of each as one comes, one leaves, or all go.
use Rattle.dn_laws.proofs.Words.{Accepted, All, All-drop, All-nil, All-push, Bool, List, [], cond, drop, false, refl, true, ◌++◌, ◌∷◌, ◌≡◌}

module _ (Is : Accepted → Type 0) where
  pub each-pushed : (b : Bool) (qs : List Accepted) (q : Accepted) → (b ≡ true → Is q) → All Is qs → All Is (cond b (qs ++ q ∷ []) qs)
  each-pushed true qs q one h = All-push Is qs q h (one refl)
  each-pushed false qs q one h = h

  pub each-left : (b : Bool) (qs : List Accepted) → All Is qs → All Is (cond b (drop 1 qs) qs)
  each-left true qs h = All-drop Is 1 qs h
  each-left false qs h = h

  pub each-cleared : (b : Bool) (qs : List Accepted) → All Is qs → All Is (cond b [] qs)
  each-cleared true qs h = All-nil Is
  each-cleared false qs h = h
