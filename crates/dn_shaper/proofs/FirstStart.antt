-- The least key of the heap is the first start of all links.
use Rattle.dn_shaper.proofs.Words.{Accepted, All, Bool, Event, Holds, IsLeast, IsPermutation, Link, List, NextStart, None, Option, Settings, Some, Start, [], ap, arith, cases_order, cond, false}
use Rattle.dn_shaper.proofs.Words.{first_start, free, inl, inr, le-ltb, links, lt-ltb, map, nat_le, nat_lt, nat_tests, next_at, next_packet, next_start, next_start_cmp, option_map, refl, settle}
use Rattle.dn_shaper.proofs.Words.{slice_get, slice_index_or, sooner, start_at, started, suc, sym, true, zero, ℕ, ◌++◌, ◌<◌, ◌∙◌, ◌∷◌, ◌≡◌, ◌≤◌}
use Rattle.dn_shaper.proofs.NextStarts.{not_before, held_by}

-- The moment from which the link is free, where a packet waits for it.
abbrev pub moment_of_next : List Event → Link → Option ℕ
moment_of_next trace link = option_map (λ p. free link trace) (next_packet link trace)

-- The first start is the next start of some link.
first-of : (settings : Settings) (at : ℕ) (trace : List Event) (ls : List Link) (s : Start) → first_start settings at ls trace ≡ Some s →
    (j : ℕ) × (link : Link) × (slice_get ls j ≡ Some link) × (next_start settings at link trace ≡ Some s)
first-of settings at trace [] s e = absurd cc
first-of settings at trace (l ∷ ls) s e = by_next (next_start settings at l trace) refl (first_start settings at ls trace) refl (λ is. first-of settings at trace ls s is) e
  where
    Found : Type 0
    Found = (j : ℕ) × (link : Link) × (slice_get (l ∷ ls) j ≡ Some link) × (next_start settings at link trace ≡ Some s)

    here : next_start settings at l trace ≡ Some s → Found
    here is = (0, l, refl, is)

    there : (j : ℕ) × (link : Link) × (slice_get ls j ≡ Some link) × (next_start settings at link trace ≡ Some s) → Found
    there r = (suc r.0, r.1, r.2, r.3)

    by_test : (b : Bool) (x y : Start) → next_start settings at l trace ≡ Some x → first_start settings at ls trace ≡ Some y →
        (first_start settings at ls trace ≡ Some s → (j : ℕ) × (link : Link) × (slice_get ls j ≡ Some link) × (next_start settings at link trace ≡ Some s)) →
        Some (cond b y x) ≡ Some s → Found
    by_test true x y is is' rest e = there (rest (is' ∙ e))
    by_test false x y is is' rest e = here (is ∙ e)

    by_next : (o : Option Start) → next_start settings at l trace ≡ o → (p : Option Start) → first_start settings at ls trace ≡ p →
        (first_start settings at ls trace ≡ Some s → (j : ℕ) × (link : Link) × (slice_get ls j ≡ Some link) × (next_start settings at link trace ≡ Some s)) →
        sooner o p ≡ Some s → Found
    by_next None is p is' rest e = there (rest (is' ∙ e))
    by_next (Some x) is None is' rest e = here (is ∙ e)
    by_next (Some x) is (Some y) is' rest e = by_test (nat_lt y.moment x.moment) x y is is' rest e

-- No other start is before the start of the link at the place.
abbrev IsFirstAt : Settings → ℕ → List Event → List Link → ℕ → Start → Type 0
IsFirstAt settings at trace ls place s = (j : ℕ) (other : Link) (t : Start) → slice_get ls j ≡ Some other → next_start settings at other trace ≡ Some t →
    (s.moment ≤ t.moment) × (t.moment ≡ s.moment → place ≤ j)

first-at : (settings : Settings) (at : ℕ) (trace : List Event) (ls : List Link) (place : ℕ) (link : Link) (s : Start) → slice_get ls place ≡ Some link →
    next_start settings at link trace ≡ Some s → IsFirstAt settings at trace ls place s → first_start settings at ls trace ≡ Some s
first-at settings at trace [] place link s there is least = absurd cc
first-at settings at trace (l ∷ ls) zero link s there is least = by_rest (first_start settings at ls trace) refl
  where
    here : next_start settings at l trace ≡ Some s
    here = let same : l ≡ link = cc in ap (λ (m : Link). next_start settings at m trace) same ∙ is

    by_rest : (p : Option Start) → first_start settings at ls trace ≡ p → sooner (next_start settings at l trace) p ≡ Some s
    by_rest None e = ap (λ (o : Option Start). sooner o None) here
    by_rest (Some t) e =
        let f = first-of settings at trace ls t e in
        let no_later = (least (suc f.0) f.1 t f.2 f.3).0 in
        ap (λ (o : Option Start). sooner o (Some t)) here ∙ ap (λ b. Some (cond b t s)) (le-ltb t.moment s.moment no_later)
first-at settings at trace (l ∷ ls) (suc place) link s there is least = by_next (next_start settings at l trace) refl
    (first-at settings at trace ls place link s there is (λ j other t h n. let r = least (suc j) other t h n in let tie = r.1 in (r.0, λ e. let le = tie e in omega arith)))
  where
    by_next : (o : Option Start) → next_start settings at l trace ≡ o → first_start settings at ls trace ≡ Some s → sooner o (first_start settings at ls trace) ≡ Some s
    by_next None e rest = rest
    by_next (Some t) e rest =
        let r = least 0 l t refl e in
        let before = r.0 in
        let tie = r.1 in
        let strict : s.moment < t.moment = elim (cases_order s.moment t.moment) [
          | inl same ↦ absurd (let le = tie (sym same) in omega arith)
          | inr o ↦ elim o [ inl lt ↦ lt | inr gt ↦ absurd (omega arith) ]
        ] in
        ap (sooner (Some t)) rest ∙ ap (λ b. Some (cond b s t)) (lt-ltb s.moment t.moment strict)

-- ---- Links and next starts

link_next : (trace : List Event) (ls : List Link) (place : ℕ) (link : Link) → slice_get ls place ≡ Some link → next_at (map (moment_of_next trace) ls) place ≡ moment_of_next trace link
link_next trace [] place link e = absurd cc
link_next trace (l ∷ ls) zero link e = let same : l ≡ link = cc in ap (moment_of_next trace) same
link_next trace (l ∷ ls) (suc place) link e = link_next trace ls place link e

-- A link's next start is at the moment that is held for it, which is not after `at`.
moment_then : (settings : Settings) (at : ℕ) (trace : List Event) (link : Link) (s : Start) → next_start settings at link trace ≡ Some s → (moment_of_next trace link ≡ Some s.moment) × (s.moment ≤ at)
moment_then settings at trace link s e = by_test (nat_le (free link trace) at) refl (next_packet link trace) e
  where
    low : nat_le (free link trace) at ≡ true → free link trace ≤ at
    low h = grind (arith, nat_tests)

    by_test : (b : Bool) → nat_le (free link trace) at ≡ b → (o : Option Accepted) →
        cond b (option_map (λ p. start_at settings link p (free link trace)) o) None ≡ Some s →
        (option_map (λ p. free link trace) o ≡ Some s.moment) × (s.moment ≤ at)
    by_test false is o e = absurd cc
    by_test true is None e = absurd cc
    by_test true is (Some p) e =
        let same : start_at settings link p (free link trace) ≡ s = cc in
        let moment : free link trace ≡ s.moment = ap (λ (x : Start). x.moment) same in
        let le = low is in
        (ap (λ m. Some m) moment, omega arith)

-- ---- One step of the loop

first_none : (settings : Settings) (at : ℕ) (trace : List Event) (ls : List Link) → ((s : Start) → first_start settings at ls trace ≡ Some s → ⊥) → first_start settings at ls trace ≡ None
first_none settings at trace ls h = go (first_start settings at ls trace) refl
  where
    go : (o : Option Start) → first_start settings at ls trace ≡ o → first_start settings at ls trace ≡ None
    go None e = e
    go (Some s) e = absurd (h s e)

module _ (settings : Settings) (at : ℕ) (trace : List Event) (ls : List Link) (nexts : List (Option ℕ)) (nexts_is : nexts ≡ map (moment_of_next trace) ls)
    (keys : List NextStart) (h : Holds nexts keys) where
  -- The link of the popped key starts first.
  pub first_popped : (k : NextStart) (link : Link) (s : Start) → IsLeast next_start_cmp k keys → slice_get ls k.place ≡ Some link →
      next_start settings at link trace ≡ Some s → s.moment ≡ k.moment → first_start settings at ls trace ≡ Some s
  first_popped k link s least there next moment_is =
      first-at settings at trace ls k.place link s there next (λ j other t is n.
      let d = (moment_then settings at trace other t n).0 in
      let next_there = ap (λ (x : List (Option ℕ)). next_at x j) nexts_is ∙ link_next trace ls j other is ∙ d in
      let r = held_by (λ m place. (k.moment ≤ m) × (m ≡ k.moment → k.place ≤ place)) nexts keys h (λ i x lt. not_before k (slice_index_or keys i x) (least i x lt)) j t.moment next_there in
      let no_later = r.0 in
      let tie = r.1 in
      (omega arith, λ e. tie (e ∙ moment_is)))

  -- Nothing starts where none of the keys is as early.
  pub none_next : All (λ k. at < k.moment) keys → first_start settings at ls trace ≡ None
  none_next late =
      first_none settings at trace ls (λ s e.
      let f = first-of settings at trace ls s e in
      let d = moment_then settings at trace f.1 s f.3 in
      let next_there = ap (λ (x : List (Option ℕ)). next_at x f.0) nexts_is ∙ link_next trace ls f.0 f.1 f.2 ∙ d.0 in
      let after = held_by (λ m place. at < m) nexts keys h late f.0 s.moment next_there in
      let before = d.1 in
      absurd (omega arith))

-- Links without a next start don't count.
pub first_start-more : (settings : Settings) (at : ℕ) (trace : List Event) (ls more : List Link) →
    ((i : ℕ) (l : Link) → slice_get more i ≡ Some l → next_start settings at l trace ≡ None) →
    first_start settings at (ls ++ more) trace ≡ first_start settings at ls trace
first_start-more settings at trace [] [] h = refl
first_start-more settings at trace [] (l ∷ more) h = ap (λ (o : Option Start). sooner o (first_start settings at more trace)) (h 0 l refl)
    ∙ first_start-more settings at trace [] more (λ i m e. h (suc i) m e)
first_start-more settings at trace (l ∷ ls) more h = ap (sooner (next_start settings at l trace)) (first_start-more settings at trace ls more h)

pub settle-none : (most : ℕ) (settings : Settings) (at : ℕ) (trace : List Event) → first_start settings at (links trace) trace ≡ None → settle most settings at trace ≡ trace
settle-none zero settings at trace e = refl
settle-none (suc most) settings at trace e = ap (λ (o : Option Start). elim o as (λ _. List Event) [ None ↦ trace | Some s ↦ settle most settings at (started s ∷ trace) ]) e

pub settle-some : (most : ℕ) (settings : Settings) (at : ℕ) (trace : List Event) (s : Start) → first_start settings at (links trace) trace ≡ Some s →
    settle (suc most) settings at trace ≡ settle most settings at (started s ∷ trace)
settle-some most settings at trace s e = ap (λ (o : Option Start). elim o as (λ _. List Event) [ None ↦ trace | Some s ↦ settle most settings at (started s ∷ trace) ]) e
