-- The heads of a link are the first packets that wait for it, one of each flow.
use Rattle.dn_laws.proofs.Words.{Accepted, All, Bool, Event, Link, List, Stamped, [], and-right, ap, append-nil, arith, backlog, backlog-above, backlog-own, cond, eqb-true, false, filter}
use Rattle.dn_laws.proofs.Words.{flow_bound, heads, leb_tells, link_eq, link_heads, map, nat_eq, nat_tests, refl, stamped_of, suc, sym, take, true, zero, ℕ, ⊎_elim, ◌++◌, ◌<◌, ◌∙◌, ◌∷◌, ◌≡◌, ◌≤◌}

module _ (flow : ℕ) where
  abbrev mine : Stamped → Bool
  mine h = nat_eq h.flow flow

  append : (xs ys : List Accepted) → filter mine (stamped_of (xs ++ ys)) ≡ filter mine (stamped_of xs) ++ filter mine (stamped_of ys)
  append [] ys = refl
  append (x ∷ xs) ys = by (mine x.stamped) (append xs ys)
    where
      by : (b : Bool) → filter mine (stamped_of (xs ++ ys)) ≡ filter mine (stamped_of xs) ++ filter mine (stamped_of ys) →
          cond b (x.stamped ∷ filter mine (stamped_of (xs ++ ys))) (filter mine (stamped_of (xs ++ ys)))
          ≡ cond b (x.stamped ∷ filter mine (stamped_of xs)) (filter mine (stamped_of xs)) ++ filter mine (stamped_of ys)
      by true rest = ap (λ (hs : List Stamped). x.stamped ∷ hs) rest
      by false rest = rest

  -- The first packet of a flow, whether the flow is the one or not.
  first : (n : ℕ) (b : Bool) (xs : List Accepted) → nat_eq n flow ≡ b → All (λ p. nat_eq p.stamped.flow n ≡ true) xs → filter mine (stamped_of (take 1 xs)) ≡ cond b (stamped_of (take 1 xs)) []
  first n true [] e own = refl
  first n false [] e own = refl
  first n b (x ∷ xs) e own = ap (λ (c : Bool). cond c (x.stamped ∷ []) []) (ap (λ m. nat_eq m flow) (eqb-true x.stamped.flow n (own 0 x (omega arith))) ∙ e) ∙ by b
    where
      by : (b : Bool) → cond b (x.stamped ∷ []) [] ≡ cond b (stamped_of (take 1 (x ∷ xs))) []
      by true = refl
      by false = refl

  module _ (q : ℕ → List Accepted) (own : (n : ℕ) → All (λ p. nat_eq p.stamped.flow n ≡ true) (q n)) where
    one-more : (n : ℕ) (hs : List Stamped) (b : Bool) → filter mine (stamped_of (heads n q)) ≡ hs → nat_eq n flow ≡ b →
        filter mine (stamped_of (heads (suc n) q)) ≡ hs ++ cond b (stamped_of (take 1 (q n))) []
    one-more n hs b before e = append (heads n q) (take 1 (q n)) ∙ ap (λ (xs : List Stamped). xs ++ filter mine (stamped_of (take 1 (q n)))) before
        ∙ ap (λ (xs : List Stamped). hs ++ xs) (first n b (q n) e (own n))

    none : (n : ℕ) → n ≤ flow → filter mine (stamped_of (heads n q)) ≡ []
    none zero low = refl
    none (suc n) low = one-more n [] false (none n (omega (arith, low))) (other n low)
      where
        other : (n : ℕ) → suc n ≤ flow → nat_eq n flow ≡ false
        other n low = grind (arith, nat_tests)

    some : (n : ℕ) → flow < n → filter mine (stamped_of (heads n q)) ≡ stamped_of (take 1 (q flow))
    some zero high = absurd (omega (arith, high))
    some (suc n) high = by (nat_eq n flow) refl (λ low. some n low)
      where
        lower : nat_eq n flow ≡ false → flow < n
        lower e = grind (arith, nat_tests)

        same : nat_eq n flow ≡ true → n ≤ flow
        same e = grind (arith, nat_tests)

        by : (b : Bool) → nat_eq n flow ≡ b → (flow < n → filter mine (stamped_of (heads n q)) ≡ stamped_of (take 1 (q flow)))
            → filter mine (stamped_of (heads (suc n) q)) ≡ stamped_of (take 1 (q flow))
        by true e below = one-more n [] true (none n (same e)) e ∙ ap (λ m. stamped_of (take 1 (q m))) (eqb-true n flow e)
        by false e below = one-more n (stamped_of (take 1 (q flow))) false (below (lower e)) e ∙ append-nil (stamped_of (take 1 (q flow)))

pub heads-are-first : (link : Link) (flow : ℕ) (trace : List Event) → filter (λ h. nat_eq h.flow flow) (link_heads link trace) ≡ map (λ p. p.stamped) (take 1 (backlog link flow trace))
heads-are-first link flow trace =
    ⊎_elim (λ high. none flow q own (flow_bound trace) high.1 ∙ ap (λ (xs : List Accepted). stamped_of (take 1 xs)) (sym (backlog-above link flow trace high.1)))
    (λ low. some flow q own (flow_bound trace) low.1) (leb_tells (flow_bound trace) flow)
  where
    q : ℕ → List Accepted
    q f = backlog link f trace

    own : (n : ℕ) → All (λ p. nat_eq p.stamped.flow n ≡ true) (q n)
    own n = λ k d lt. and-right (link_eq _ link) _ (backlog-own link n trace k d lt)
