-- What is picked is the first of its flow's backlog.
use Rattle.dn_types.proofs.Words.{Accepted, All, All-append, All-filter, Bool, Event, Link, List, None, Option, Some, Stamped, [], ap, arith, backlog, cond, earlier, eqb-true, false, filter}
use Rattle.dn_types.proofs.Words.{first_to_go, flow_bound, get_or, goes_before, heads, is_some, leb_tells, length, link_eq, link_heads, map, map-append, nat_eq, nat_le, next_packet}
use Rattle.dn_types.proofs.Words.{option_and_then, pick, raised, refl, shared, slice_get, subst, suc, sym, take, take-map, true, virtual_time, zero, ℕ, ⊎_elim, ◌++◌, ◌<◌, ◌∙◌, ◌∷◌, ◌≡◌}
use Rattle.dn_types.proofs.Settling.{backlog-own, backlog-above, first-own, and-right}
use Rattle.dn_types.proofs.Picks.{heads-none, pick-some}
use Rattle.dn_types.proofs.Proper.{total-at}

abbrev pub stamped_of : List Accepted → List Stamped
stamped_of ps = map (λ p. p.stamped) ps

pub heads-same : (n : ℕ) (q : ℕ → List Stamped) (r : ℕ → List Accepted) → ((f : ℕ) → q f ≡ stamped_of (r f)) → heads n q ≡ stamped_of (heads n r)
heads-same zero q r h = refl
heads-same (suc n) q r h =
    ap (λ (xs : List Stamped). xs ++ take 1 (q n)) (heads-same n q r h)
    ∙ ap (λ (xs : List Stamped). stamped_of (heads n r) ++ take 1 xs) (h n)
    ∙ ap (λ (xs : List Stamped). stamped_of (heads n r) ++ xs) (take-map (λ (p : Accepted). p.stamped) 1 (r n))
    ∙ sym (map-append (λ (p : Accepted). p.stamped) (heads n r) (take 1 (r n)))

module _ (P : Stamped → Type 0) where
  all-one : (x : Stamped) → P x → All P (x ∷ [])
  all-one x h = λ k d lt. at_zero k d lt
    where
      at_zero : (k : ℕ) (d : Stamped) → k < length (x ∷ []) → P (get_or (x ∷ []) k d)
      at_zero zero d lt = h
      at_zero (suc k) d lt = absurd (omega arith)

  all-first : (x : Stamped) (xs : List Stamped) → All P (x ∷ xs) → P x
  all-first x xs h = h 0 x (omega arith)

  pub all-rest : (x : Stamped) (xs : List Stamped) → All P (x ∷ xs) → All P xs
  all-rest x xs h = λ k d lt. h (suc k) d (omega arith)

  earlier-one-of : (x : Stamped) (o : Option Stamped) (h : Stamped) → P x → ((y : Stamped) → o ≡ Some y → P y) → earlier x o ≡ Some h → P h
  earlier-one-of x None h px po e = let same : x ≡ h = cc in subst P same px
  earlier-one-of x (Some y) h px po e = by_test (goes_before y x) e
    where
      by_test : (b : Bool) → Some (cond b y x) ≡ Some h → P h
      by_test true e = let same : y ≡ h = cc in subst P same (po y refl)
      by_test false e = let same : x ≡ h = cc in subst P same px

  -- What holds of all packets holds of the first to go.
  pub first_to_go-one-of : (xs : List Stamped) (h : Stamped) → All P xs → first_to_go xs ≡ Some h → P h
  first_to_go-one-of [] h all e = absurd cc
  first_to_go-one-of (x ∷ xs) h all e = earlier-one-of x (first_to_go xs) h (all-first x xs all) (λ y ey. first_to_go-one-of xs y (all-rest x xs all) ey) e

module _ (q : ℕ → List Stamped) (own_firsts : (f : ℕ) (h : Stamped) → slice_get (q f) 0 ≡ Some h → h.flow ≡ f) where
  abbrev IsFirst : Stamped → Type 0
  IsFirst h = slice_get (q h.flow) 0 ≡ Some h

  take-first : (f : ℕ) (xs : List Stamped) → q f ≡ xs → All IsFirst (take 1 xs)
  take-first f [] e = λ k d lt. absurd (omega arith)
  take-first f (x ∷ xs) e =
      let first : slice_get (q f) 0 ≡ Some x = ap (λ (ys : List Stamped). slice_get ys 0) e in
      all-one IsFirst x (ap (λ g. slice_get (q g) 0) (own_firsts f x first) ∙ first)

  heads-first : (n : ℕ) → All IsFirst (heads n q)
  heads-first zero = λ k d lt. absurd (omega arith)
  heads-first (suc n) = All-append IsFirst (heads n q) (take 1 (q n)) (heads-first n) (take-first n (q n) refl)

  pub pick-first : (n v : ℕ) (h : Stamped) → pick v (heads n q) ≡ Some h → slice_get (q h.flow) 0 ≡ Some h
  pick-first n v h e = first_to_go-one-of IsFirst (filter (λ x. nat_le x.start_tag (raised v (heads n q))) (heads n q)) h
      (All-filter (λ x. nat_le x.start_tag (raised v (heads n q))) IsFirst (heads n q) (heads-first n)) e

-- ---- The next packet of a shared link

first-stamped : (ps : List Accepted) (h : Stamped) → slice_get (stamped_of ps) 0 ≡ Some h → (p : Accepted) × (slice_get ps 0 ≡ Some p) × (p.stamped ≡ h)
first-stamped [] h e = absurd cc
first-stamped (p ∷ ps) h e = let same : p.stamped ≡ h = cc in (p, refl, same)

length-stamped : (ps : List Accepted) → length (stamped_of ps) ≡ length ps
length-stamped [] = refl
length-stamped (p ∷ ps) = let rest = length-stamped ps in omega arith

pub stamped-first : (ps : List Accepted) (p : Accepted) → slice_get ps 0 ≡ Some p → slice_get (stamped_of ps) 0 ≡ Some p.stamped
stamped-first [] p e = absurd cc
stamped-first (r ∷ ps) p e = let same : r ≡ p = cc in ap (λ (x : Accepted). Some x.stamped) same

module _ (pipe : ℕ) (trace : List Event) where
  abbrev l : Link
  l = shared pipe

  abbrev q : ℕ → List Stamped
  q f = stamped_of (backlog (shared pipe) f trace)

  own_firsts : (f : ℕ) (h : Stamped) → slice_get (q f) 0 ≡ Some h → h.flow ≡ f
  own_firsts f h e =
      let first = first-stamped (backlog l f trace) h e in
      ap (λ (x : Stamped). x.flow) (sym first.2) ∙ eqb-true first.0.stamped.flow f
      (and-right (link_eq first.0.link l) (nat_eq first.0.stamped.flow f) (first-own l f first.0 (backlog l f trace) first.1 (backlog-own l f trace)))

  heads_are : heads (flow_bound trace) q ≡ link_heads l trace
  heads_are = heads-same (flow_bound trace) q (λ f. backlog l f trace) (λ f. refl)

  -- A packet that is next has the tags of the pick.
  pub next-picked : (p : Accepted) → next_packet (shared pipe) trace ≡ Some p → pick (virtual_time (shared pipe) trace) (link_heads (shared pipe) trace) ≡ Some p.stamped
  next-picked p next = by (pick (virtual_time l trace) (link_heads l trace)) refl next
    where
      by : (o : Option Stamped) → pick (virtual_time l trace) (link_heads l trace) ≡ o →
          option_and_then (λ h. slice_get (backlog l h.flow trace) 0) o ≡ Some p → pick (virtual_time l trace) (link_heads l trace) ≡ Some p.stamped
      by None e is = absurd cc
      by (Some h) e is =
          let at_front = pick-first q own_firsts (flow_bound trace) (virtual_time l trace) h (ap (λ (hs : List Stamped). pick (virtual_time l trace) hs) heads_are ∙ e) in
          e ∙ sym at_front ∙ stamped-first (backlog l h.flow trace) p is

  -- A link with no next packet has empty queues.
  module _ (none : next_packet (shared pipe) trace ≡ None) where
    none_picked : pick (virtual_time l trace) (link_heads l trace) ≡ None
    none_picked = by (pick (virtual_time l trace) (link_heads l trace)) refl
      where
        by : (o : Option Stamped) → pick (virtual_time l trace) (link_heads l trace) ≡ o → pick (virtual_time l trace) (link_heads l trace) ≡ None
        by None e = e
        by (Some h) e =
            let at_front = pick-first q own_firsts (flow_bound trace) (virtual_time l trace) h (ap (λ (hs : List Stamped). pick (virtual_time l trace) hs) heads_are ∙ e) in
            let first = first-stamped (backlog l h.flow trace) h at_front in
            let there : next_packet l trace ≡ Some first.0 = ap (option_and_then (λ (x : Stamped). slice_get (backlog l x.flow trace) 0)) e ∙ first.1 in
            let t = sym none ∙ there in
            absurd cc

    no_heads : length (link_heads l trace) ≡ 0
    no_heads = by (length (link_heads l trace)) refl
      where
        by : (n : ℕ) → length (link_heads l trace) ≡ n → length (link_heads l trace) ≡ 0
        by zero e = e
        by (suc n) e =
            let some = pick-some (virtual_time l trace) (link_heads l trace) (omega arith) in
            let t : false ≡ true = sym (ap (λ (o : Option Stamped). is_some o) none_picked) ∙ some in
            absurd cc

    pub none-shared : (flow : ℕ) → backlog l flow trace ≡ []
    none-shared flow = ⊎_elim (λ high. backlog-above l flow trace high.1)
        (λ low. total-at (flow_bound trace) (λ f. backlog l f trace) flow low.1 (heads-none (flow_bound trace) (λ f. backlog l f trace)
        (sym (length-stamped (heads (flow_bound trace) (λ f. backlog l f trace))) ∙ no_heads))) (leb_tells (flow_bound trace) flow)
