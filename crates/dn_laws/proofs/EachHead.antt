-- What holds of each head of a link, and of each first packet.
use Rattle.dn_laws.proofs.Words.{All, All-append, All-cons, All-take, Bool, List, Some, [], ap, arith, eqb-true, false, heads, nat_eq, nat_tests, refl, slice_get, subst, suc, sym, take, true}
use Rattle.dn_laws.proofs.Words.{zero, ℕ, ◌++◌, ◌<◌, ◌∙◌, ◌∷◌, ◌≡◌}

module _ {X : Type 0} (P : X → Type 0) where
  left : (xs ys : List X) → All P (xs ++ ys) → All P xs
  left [] ys h = λ k d lt. absurd (omega arith)
  left (x ∷ xs) ys h = All-cons P x xs (h 0 x (omega arith)) (left xs ys (λ j e less. h (suc j) e (omega arith)))

  right : (xs ys : List X) → All P (xs ++ ys) → All P ys
  right [] ys h = h
  right (x ∷ xs) ys h = right xs ys (λ j e less. h (suc j) e (omega arith))

  -- What holds of all heads holds of the first packet of a flow.
  pub at-head : (n : ℕ) (q : ℕ → List X) (flow : ℕ) (x : X) → flow < n → slice_get (q flow) 0 ≡ Some x → All P (heads n q) → P x
  at-head zero q flow x low first h = absurd (omega arith)
  at-head (suc n) q flow x low first h = by (nat_eq flow n) refl (λ lt. at-head n q flow x lt first (left (heads n q) (take 1 (q n)) h))
    where
      one : (xs : List X) → slice_get xs 0 ≡ Some x → All P (take 1 xs) → P x
      one [] e all = absurd cc
      one (y ∷ ys) e all = let same : y ≡ x = cc in subst P same (all 0 y (omega arith))

      by : (b : Bool) → nat_eq flow n ≡ b → (flow < n → P x) → P x
      by true e lower = one (q n) (ap (λ m. slice_get (q m) 0) (sym (eqb-true flow n e)) ∙ first) (right (heads n q) (take 1 (q n)) h)
      by false e lower = let lt : flow < n = grind (arith, nat_tests) in lower lt

  pub all-heads : (n : ℕ) (q : ℕ → List X) → ((flow : ℕ) → All P (q flow)) → All P (heads n q)
  all-heads zero q h = λ k d lt. absurd (omega arith)
  all-heads (suc n) q h = All-append P (heads n q) (take 1 (q n)) (all-heads n q h) (All-take P 1 (q n) (h n))
