-- Places among the numbers that pass a test.
use Rattle.dn_laws.proofs.Words.{Bool, ap, arith, cond, eq-eqb, eqb_tells, false, leb_tells, nat_eq, nat_le, nat_lt, nat_tests, suc, sym, true, zero, ℕ, ⊎_elim, ◌<◌, ◌∙◌, ◌≡◌, ◌≢◌, ◌≤◌}
use Rattle.dn_laws.specs.Parts.{place}

module _ (test : ℕ → Bool) where
  pub place-more : (n : ℕ) → test n ≡ true → place test (suc n) ≡ suc (place test n)
  place-more n e = ap (λ b. cond b (suc (place test n)) (place test n)) e

  pub place-same : (n : ℕ) → test n ≡ false → place test (suc n) ≡ place test n
  place-same n e = ap (λ b. cond b (suc (place test n)) (place test n)) e

  place-step : (b : Bool) (m : ℕ) → m ≤ cond b (suc m) m
  place-step true m = omega arith
  place-step false m = omega arith

  pub place-mono : (a b : ℕ) → a ≤ b → place test a ≤ place test b
  place-mono a zero le = let e : a ≡ zero = omega arith in let p : place test a ≡ place test zero = ap (place test) e in omega (arith, p)
  place-mono a (suc b) le = ⊎_elim (λ low. lower low.1 (place-mono a b)) (λ high. here high.1) (leb_tells a b)
    where
      lower : a ≤ b → (a ≤ b → place test a ≤ place test b) → place test a ≤ place test (suc b)
      lower h rest = let one = rest h in let two = place-step (test b) (place test b) in omega (arith, one, two)

      here : b < a → place test a ≤ place test (suc b)
      here h = let e : a ≡ suc b = omega (arith, h, le) in let p : place test a ≡ place test (suc b) = ap (place test) e in omega (arith, p)

  pub place-lt : (a b : ℕ) → a < b → test a ≡ true → place test a < place test b
  place-lt a b lt mine = let one = place-more a mine in let two = place-mono (suc a) b (omega (arith, lt)) in omega (arith, one, two)

  pub place-eq : (a b : ℕ) → test a ≡ true → test b ≡ true → nat_eq (place test a) (place test b) ≡ nat_eq a b
  place-eq a b mine other = ⊎_elim (λ same. eq-eqb (place test a) (place test b) (ap (place test) same.1) ∙ sym same.0) (λ apart. differ apart.1 ∙ sym apart.0) (eqb_tells a b)
    where
      differ : a ≢ b → nat_eq (place test a) (place test b) ≡ false
      differ ne = ⊎_elim (λ low. let lt = place-lt a b (below ne low.1) mine in grind (arith, nat_tests)) (λ high. let lt = place-lt b a high.1 other in grind (arith, nat_tests)) (leb_tells a b)
        where
          below : a ≢ b → a ≤ b → a < b
          below ne le = ⊎_elim (λ same. absurd (ne same.1)) (λ apart. omega (arith, le, apart.1)) (eqb_tells a b)

  pub place-less : (a b : ℕ) → test a ≡ true → nat_lt (place test a) (place test b) ≡ nat_lt a b
  place-less a b mine = ⊎_elim (λ (high : (nat_le b a ≡ true) × (b ≤ a)). not_below high.1) (λ (low : (nat_le b a ≡ false) × (a < b)). is_below low.1) (leb_tells b a)
    where
      is_below : a < b → nat_lt (place test a) (place test b) ≡ nat_lt a b
      is_below lt = let more = place-lt a b lt mine in let one : nat_lt (place test a) (place test b) ≡ true = grind (arith, nat_tests) in
          let two : nat_lt a b ≡ true = grind (arith, nat_tests) in one ∙ sym two

      not_below : b ≤ a → nat_lt (place test a) (place test b) ≡ nat_lt a b
      not_below le = let more = place-mono b a le in let one : nat_lt (place test a) (place test b) ≡ false = grind (arith, nat_tests) in
          let two : nat_lt a b ≡ false = grind (arith, nat_tests) in one ∙ sym two
