-- A packet is accepted: what that needs, and a heap with one key more.
use Rattle.dn_shaper.proofs.Words.{Agrees, All-cons, All-permutation, Bool, CanJoin, Heap, Holds, Home, IsPermutation, Link, LinkParts, LinkView, List, MayAccept, NextStart, None, Option, Parts}
use Rattle.dn_shaper.proofs.Words.{Settings, Some, Within, [], ap, arith, backlogged, cases_eq, cond, false, flow_at, get_or, get_or-set_other, get_or-set_same, homes_of, inl, inr, is_some}
use Rattle.dn_shaper.proofs.Words.{keys_at, le-ltb, length, lt-ltb, nat_lt, nat_tests, next_at, next_start_of, one_backlogged, own, queue_lengths, refl, set, shared, slice_get, slice_index_or}
use Rattle.dn_shaper.proofs.Words.{subst, suc, sum_by-cons, sym, true, view_of, views_of, zero, ℕ, ◌+◌, ◌<◌, ◌^◌, ◌∙◌, ◌∷◌, ◌≡◌, ◌≤◌, ◌⊎◌}
use Rattle.dn_shaper.proofs.HomeRead.{at-home, link-there}
use Rattle.dn_shaper.proofs.NextStarts.{same_place, other_place, pushed, none_standing}

pub within-more : (n m : ℕ) (p : Parts) → n ≤ m → Within n p → Within m p
within-more n m p le w = record {
  waiting_is = w.waiting_is;
  room = w.room;
  pushed = let a = w.pushed in omega arith;
  sums = let a = w.sums in omega arith;
  flows_are = λ g. let i = w.flows_are g in let a = i.0 in let b = i.1 in let c = i.2 in (omega arith, omega arith, omega arith);
  arrivals = λ k v e. let a = w.arrivals k v e in omega arith;
  accepted = let a = w.accepted in omega arith;
}

-- ---- A heap with one key more

module _ (nexts : List (Option ℕ)) (keys : List NextStart) (h : Holds nexts keys) (place m : ℕ) (inside : place < length nexts)
    (none : next_at nexts place ≡ None) (new : List NextStart) (perm : IsPermutation (record { moment = m; place = place } ∷ keys) new) where
  none_there : keys_at place keys ≡ 0
  none_there = h.once place ∙ ap {B = ℕ} (λ (o : Option ℕ). cond (is_some o) 1 0) none

  once_pushed : (p : ℕ) → keys_at p new ≡ cond (is_some (next_at (set nexts place (Some m)) p)) 1 0
  once_pushed p = by (cases_eq p place)
    where
      by : (p ≡ place) ⊎ (p ≡ place → ⊥) → keys_at p new ≡ cond (is_some (next_at (set nexts place (Some m)) p)) 1 0
      by (inl e) =
          let At : ℕ → Type 0 = λ n. keys_at n new ≡ cond (is_some (next_at (set nexts place (Some m)) n)) 1 0 in
          let one : keys_at place new ≡ 1 = let a = pushed place (record { moment = m; place = place }) keys new perm in
          let b = same_place place (record { moment = m; place = place }) refl in let z = none_there in omega (arith, a, b, z) in
          subst At (sym e) (one ∙ sym (ap {B = ℕ} (λ (o : Option ℕ). cond (is_some o) 1 0) (get_or-set_same nexts place (Some m) None inside)))
      by (inr ne) =
          let a = pushed p (record { moment = m; place = place }) keys new perm in
          let b = other_place p (record { moment = m; place = place }) (λ e. ne (sym e)) in
          let z = h.once p in
          let same = ap {B = ℕ} (λ (o : Option ℕ). cond (is_some o) 1 0) (get_or-set_other nexts place p (Some m) None ne) in
          omega (arith, a, b, z, same)

  pub holds_pushed : Holds (set nexts place (Some m)) new
  holds_pushed = record {
    once = once_pushed;
    moments = All-permutation (λ x. next_at (set nexts place (Some m)) x.place ≡ Some x.moment) (record { moment = m; place = place } ∷ keys) new perm
        (All-cons (λ x. next_at (set nexts place (Some m)) x.place ≡ Some x.moment) (record { moment = m; place = place }) keys (get_or-set_same nexts place (Some m) None inside)
        (λ i d lt. get_or-set_other nexts place (slice_index_or keys i d).place (Some m) None (none_standing place keys none_there i d lt) ∙ h.moments i d lt));
  }

-- A list with one that has no backlog has fewer than all.
pub backlogged-le : (nexts : List (Option ℕ)) → backlogged nexts ≤ length nexts
backlogged-le [] = omega arith
backlogged-le (o ∷ nexts) = let r = backlogged-le nexts in let c = sum_by-cons one_backlogged o nexts in let one = at_most o in omega arith
  where
    at_most : (o : Option ℕ) → one_backlogged o ≤ 1
    at_most None = omega arith
    at_most (Some m) = omega arith

pub backlogged-one : (nexts : List (Option ℕ)) (i : ℕ) → slice_get nexts i ≡ Some None → backlogged nexts + 1 ≤ length nexts
backlogged-one [] i e = absurd cc
backlogged-one (o ∷ nexts) zero e = let same : o ≡ None = cc in let z = ap {B = ℕ} (λ (x : Option ℕ). one_backlogged x) same in
    let c = sum_by-cons one_backlogged o nexts in let r = backlogged-le nexts in omega arith
backlogged-one (o ∷ nexts) (suc i) e = let r = backlogged-one nexts i e in let c = sum_by-cons one_backlogged o nexts in let one = at_most o in omega arith
  where
    at_most : (o : Option ℕ) → one_backlogged o ≤ 1
    at_most None = omega arith
    at_most (Some m) = omega arith

pub next-listed : (d : List (Option ℕ)) (i : ℕ) (o : Option ℕ) → slice_get d i ≡ Some o → next_at d i ≡ o
next-listed [] i o e = absurd cc
next-listed (x ∷ d) zero o e = let same : x ≡ o = cc in same
next-listed (x ∷ d) (suc i) o e = next-listed d i o e

-- Whether packets wait, by the count of them.
pub none-waits : (n : ℕ) (b : Bool) → b ≡ nat_lt 0 n → b ≡ false → n ≡ 0
none-waits n b is e = grind (arith, nat_tests)

pub some-waits : (n : ℕ) (b : Bool) → b ≡ nat_lt 0 n → b ≡ true → 0 < n
some-waits n b is e = grind (arith, nat_tests)

pub next-some : (v : LinkView) → 0 < v.waits → next_start_of v ≡ Some v.value.free
next-some v some = ap {B = Option ℕ} (λ b. cond b (Some v.value.free) None) (lt-ltb 0 v.waits some)

pub next-none : (v : LinkView) → v.waits ≤ 0 → next_start_of v ≡ None
next-none v none = ap {B = Option ℕ} (λ b. cond b (Some v.value.free) None) (le-ltb 0 v.waits none)

-- ---- What accepting needs

module _ {settings : Settings} {at flow : ℕ} {p : Parts} {heap : Heap NextStart} (may : MayAccept settings at flow p heap) where
  pub may-agree : Agrees p
  may-agree = (may.settled.0, may.settled.1, may.settled.2)

  module _ {h : Home} (read : h ≡ (flow_at p.flows.flows flow).home) where
    pub home-at : slice_get (homes_of p.flows.flows) flow ≡ Some h
    home-at = at-home p may-agree may.within read

    module _ {link : LinkParts} (read-link : link ≡ get_or p.links.items h.place link) where
      pub seen-there : slice_get (views_of p) h.place ≡ Some (view_of (queue_lengths p.flows.flows) link)
      seen-there = link-there p may-agree may.within read read-link

      pub can-join : CanJoin h.slot (view_of (queue_lengths p.flows.flows) link) (view_of (queue_lengths p.flows.flows) link).link
      can-join = by (view_of (queue_lengths p.flows.flows) link).link refl
        where
          by : (l : Link) → (view_of (queue_lengths p.flows.flows) link).link ≡ l → CanJoin h.slot (view_of (queue_lengths p.flows.flows) link) l
          by (own pipe f) is = tt
          by (shared pipe) is =
              let few = may.few.2.arrivals h.place (view_of (queue_lengths p.flows.flows) link) seen-there in
              let limit = may.few.1 in
              (may.ready.slot h (view_of (queue_lengths p.flows.flows) link) pipe home-at seen-there is, omega arith)

  pub few-waiting : p.waiting < 2 ^ 62
  few-waiting = let a = may.few.2.pushed in let b = may.few.1 in omega arith

  pub few-accepted : p.accepted < 2 ^ 62
  few-accepted = let a = may.few.2.accepted in let b = may.few.1 in omega arith
