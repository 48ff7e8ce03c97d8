-- A pick finds a packet wherever one waits, and a packet that waits alone is picked.
use Rattle.dn_types.proofs.Words.{Bool, List, None, Option, Some, Stamped, [], ap, arith, cond, earlier, eqb_tells, false, filter, first_to_go, heads, inl, inr, is_some, le-leb, least_start_tag}
use Rattle.dn_types.proofs.Words.{leb_tells, length, length-append, nat_le, pick, raised, refl, suc, sym, take, total, true, zero, ℕ, ⊎_elim, ◌++◌, ◌<◌, ◌∙◌, ◌∷◌, ◌≡◌, ◌≢◌, ◌≤◌, ◌⊎◌}

-- ---- One is eligible

eligible : ℕ → List Stamped → List Stamped
eligible r hs = filter (λ h. nat_le h.start_tag r) hs

module _ (r : ℕ) where
  some-more : (x : Stamped) (xs : List Stamped) → 0 < length (filter (λ h. nat_le h.start_tag r) xs) → 0 < length (filter (λ h. nat_le h.start_tag r) (x ∷ xs))
  some-more x xs h = by_test (nat_le x.start_tag r)
    where
      by_test : (b : Bool) → 0 < length (cond b (x ∷ filter (λ h. nat_le h.start_tag r) xs) (filter (λ h. nat_le h.start_tag r) xs))
      by_test true = omega arith
      by_test false = h

  some-first : (x : Stamped) (xs : List Stamped) → x.start_tag ≤ r → 0 < length (filter (λ h. nat_le h.start_tag r) (x ∷ xs))
  some-first x xs h = let e = ap (λ b. length (cond b (x ∷ filter (λ h. nat_le h.start_tag r) xs) (filter (λ h. nat_le h.start_tag r) xs))) (le-leb x.start_tag r h) in omega arith

  some-least : (most : ℕ) (xs : List Stamped) → least_start_tag most xs ≤ r → (most ≤ r) ⊎ (0 < length (filter (λ h. nat_le h.start_tag r) xs))
  some-least most [] h = inl h
  some-least most (x ∷ xs) h = ⊎_elim (λ le. inr (some-first x xs le.1))
      (λ gt. ⊎_elim (λ m. inl m) (λ some. inr (some-more x xs some)) (some-least most xs (omega (arith, gt.1)))) (leb_tells x.start_tag r)

  some-eligible : (x : Stamped) (xs : List Stamped) → least_start_tag x.start_tag xs ≤ r → 0 < length (filter (λ h. nat_le h.start_tag r) (x ∷ xs))
  some-eligible x xs h = ⊎_elim (λ le. some-first x xs le) (λ some. some-more x xs some) (some-least x.start_tag xs h)

earlier-some : (x : Stamped) (o : Option Stamped) → is_some (earlier x o) ≡ true
earlier-some x None = refl
earlier-some x (Some y) = refl

first_to_go-some : (xs : List Stamped) → 0 < length xs → is_some (first_to_go xs) ≡ true
first_to_go-some [] h = absurd (omega arith)
first_to_go-some (x ∷ xs) h = earlier-some x (first_to_go xs)

-- A pick finds a packet where there is a head.
pub pick-some : (v : ℕ) (hs : List Stamped) → 0 < length hs → is_some (pick v hs) ≡ true
pick-some v [] h = absurd (omega arith)
pick-some v (x ∷ xs) h = first_to_go-some (filter (λ y. nat_le y.start_tag (raised v (x ∷ xs))) (x ∷ xs)) (some-eligible (raised v (x ∷ xs)) x xs (omega arith))

-- ---- Packets that wait

take-some : {X : Type 0} (xs : List X) → length (take 1 xs) ≡ 0 → length xs ≡ 0
take-some [] e = refl
take-some (x ∷ xs) e = absurd (omega arith)

pub heads-none : {X : Type 0} (n : ℕ) (q : ℕ → List X) → length (heads n q) ≡ 0 → total n q ≡ 0
heads-none zero q e = refl
heads-none (suc n) q e =
    let both = sym (length-append (heads n q) (take 1 (q n))) ∙ e in
    let low = heads-none n q (omega arith) in
    let here = take-some (q n) (omega arith) in
    omega arith

-- ---- A packet alone

module _ (q : ℕ → List Stamped) (flow : ℕ) (x : Stamped) (here : q flow ≡ x ∷ []) (others : (f : ℕ) → f ≢ flow → q f ≡ []) where
  heads-below : (n : ℕ) → n ≤ flow → heads n q ≡ []
  heads-below zero h = refl
  heads-below (suc n) h = ap (λ (hs : List Stamped). hs ++ take 1 (q n)) (heads-below n (omega arith)) ∙ ap (take 1) (others n (λ e. absurd (omega arith)))

  pub heads-alone : (n : ℕ) → flow < n → heads n q ≡ x ∷ []
  heads-alone zero h = absurd (omega arith)
  heads-alone (suc n) h = ⊎_elim (λ same. at_flow same.1) (λ other. above other.1 (λ lt. heads-alone n lt)) (eqb_tells n flow)
    where
      at_flow : n ≡ flow → heads (suc n) q ≡ x ∷ []
      at_flow e = ap (λ (hs : List Stamped). hs ++ take 1 (q n)) (heads-below n (omega arith)) ∙ ap (λ m. take 1 (q m)) e ∙ ap (take 1) here

      above : n ≢ flow → (flow < n → heads n q ≡ x ∷ []) → heads (suc n) q ≡ x ∷ []
      above ne lower = ap (λ (hs : List Stamped). hs ++ take 1 (q n)) (lower (below ne)) ∙ ap (λ (xs : List Stamped). (x ∷ []) ++ take 1 xs) (others n ne)
        where
          below : n ≢ flow → flow < n
          below ne = ⊎_elim (λ le. absurd (ne (omega (arith, le.1)))) (λ lt. lt.1) (leb_tells n flow)

-- The only head is picked.
pub pick-alone : (v : ℕ) (x : Stamped) → pick v (x ∷ []) ≡ Some x
pick-alone v x = let fits : x.start_tag ≤ raised v (x ∷ []) = omega arith in ap (λ b. first_to_go (cond b (x ∷ []) [])) (le-leb x.start_tag (raised v (x ∷ [])) fits)
