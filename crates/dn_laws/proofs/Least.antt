-- The pick goes before every other packet that is eligible.
use Rattle.dn_laws.proofs.Words.{All, All-cons, Bool, List, None, Option, Some, Stamped, [], arith, cond, earlier, false, filter, first_to_go, get_or, goes_before, nat_eq, nat_le, nat_lt}
use Rattle.dn_laws.proofs.Words.{nat_tests, pick, raised, refl, subst, suc, sym, true, ℕ, ◌&&◌, ◌||◌, ◌∙◌, ◌∷◌, ◌≡◌}

before-self : (f n : ℕ) → (nat_lt f f || nat_eq f f && nat_lt n n) ≡ false
before-self f n = grind (arith, nat_tests)

before-asym : (f g m n : ℕ) → (nat_lt f g || nat_eq f g && nat_lt m n) ≡ true → (nat_lt g f || nat_eq g f && nat_lt n m) ≡ false
before-asym f g m n h = grind (arith, nat_tests)

before-trans : (f g k l m n : ℕ) → (nat_lt k g || nat_eq k g && nat_lt n m) ≡ false → (nat_lt g f || nat_eq g f && nat_lt m l) ≡ false → (nat_lt k f || nat_eq k f && nat_lt n l) ≡ false
before-trans f g k l m n h i = grind (arith, nat_tests)

earlier-none : (x : Stamped) (o : Option Stamped) → earlier x o ≡ None → ⊥
earlier-none x None e = cc
earlier-none x (Some y) e = cc

module _ (P : Stamped → Type 0) where
  all-none : (xs : List Stamped) → first_to_go xs ≡ None → All P xs
  all-none [] e = λ k d lt. absurd (omega arith)
  all-none (x ∷ xs) e = absurd (earlier-none x (first_to_go xs) e)

  all-eligible : (t : Stamped → Bool) (xs : List Stamped) → All P (filter t xs) → All (λ x. t x ≡ true → P x) xs
  all-eligible t [] h = λ k d lt. absurd (omega arith)
  all-eligible t (x ∷ xs) h = by_test (t x) refl h (λ below. all-eligible t xs below)
    where
      by_test : (b : Bool) → t x ≡ b → All P (cond b (x ∷ filter t xs) (filter t xs)) → (All P (filter t xs) → All (λ y. t y ≡ true → P y) xs) → All (λ y. t y ≡ true → P y) (x ∷ xs)
      by_test true is h rest = All-cons (λ y. t y ≡ true → P y) x xs (λ _. h 0 x (omega arith)) (rest (λ k d lt. h (suc k) d (omega arith)))
      by_test false is h rest = All-cons (λ y. t y ≡ true → P y) x xs (λ yes'. absurd (let e : true ≡ false = sym yes' ∙ is in cc)) (rest h)

-- None of the packets goes before the first of them.
first-least : (xs : List Stamped) (h : Stamped) → first_to_go xs ≡ Some h → All (λ x. goes_before x h ≡ false) xs
first-least [] h e = absurd cc
first-least (x ∷ xs) h e = by_rest (first_to_go xs) refl e (λ y is. first-least xs y is)
  where
    Behind : Stamped → Stamped → Type 0
    Behind a b = goes_before b a ≡ false

    by_rest : (o : Option Stamped) → first_to_go xs ≡ o → earlier x o ≡ Some h
        → ((y : Stamped) → first_to_go xs ≡ Some y → All (λ z. goes_before z y ≡ false) xs) → All (λ z. goes_before z h ≡ false) (x ∷ xs)
    by_rest None is e rest =
        let same : x ≡ h = cc in
        subst (λ (a : Stamped). All (λ z. goes_before z a ≡ false) (x ∷ xs)) same
        (All-cons (λ z. goes_before z x ≡ false) x xs (before-self x.finish_tag x.flow) (all-none (λ z. goes_before z x ≡ false) xs is))
    by_rest (Some y) is e rest = by_test (goes_before y x) refl e
      where
        by_test : (b : Bool) → goes_before y x ≡ b → Some (cond b y x) ≡ Some h → All (λ z. goes_before z h ≡ false) (x ∷ xs)
        by_test true before e =
            let same : y ≡ h = cc in
            subst (λ (a : Stamped). All (λ z. goes_before z a ≡ false) (x ∷ xs)) same
            (All-cons (λ z. goes_before z y ≡ false) x xs (before-asym y.finish_tag x.finish_tag y.flow x.flow before) (rest y is))
        by_test false behind e =
            let same : x ≡ h = cc in
            subst (λ (a : Stamped). All (λ z. goes_before z a ≡ false) (x ∷ xs)) same
            (All-cons (λ z. goes_before z x ≡ false) x xs (before-self x.finish_tag x.flow)
            (λ k d lt. before-trans x.finish_tag y.finish_tag (get_or xs k d).finish_tag x.flow y.flow (get_or xs k d).flow (rest y is k d lt) behind))

-- Of the heads with a start tag at most the raised virtual time, none goes before the pick.
pub pick-least : (v : ℕ) (hs : List Stamped) (h : Stamped) → pick v hs ≡ Some h → All (λ x. nat_le x.start_tag (raised v hs) ≡ true → goes_before x h ≡ false) hs
pick-least v hs h e = all-eligible (λ x. goes_before x h ≡ false) (λ x. nat_le x.start_tag (raised v hs)) hs (first-least (filter (λ x. nat_le x.start_tag (raised v hs)) hs) h e)
