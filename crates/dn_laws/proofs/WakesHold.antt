-- The law of when to ask next holds.
use Rattle.std.proofs.Common.{List, None, Option, Some, [], ap, arith, cond, false, inl, inr, length, map, min, nat_le, nat_lt, refl, subst, suc, sym, true, zero, Bool, ℕ, ◌<◌, ◌∙◌, ◌∷◌, ◌≡◌, ◌≤◌, ◌⊎◌}
use Rattle.std.proofs.lemmas.Bool.{cases_Bool}
use Rattle.std.proofs.lemmas.Bool.Decides.{nat_tests}
use Rattle.dn_laws.specs.Determined.Emulators.{Has}
use Rattle.dn_laws.specs.SessionLaws.{IsFirst, WakesAreFirst}
use Rattle.dn_shaper.specs.Waking.{earlier, earliest, next_free}
use Rattle.dn_types.specs.Deliveries.{undelivered}
use Rattle.dn_types.specs.Links.{free}
use Rattle.dn_types.specs.SharedLinks.{waiting}
use Rattle.dn_types.specs.Wf2q.{total}
use Rattle.std.specs.List.{list_any}
use Rattle.dn_types.proofs.Proper.{total-at}
use Rattle.dn_types.proofs.Settled.{backlog-unknown, link_eq-true}
use Rattle.dn_types.proofs.Settling.{backlog-above}
use Rattle.dn_types.specs.Trace.{Accepted, Event, Link, backlog, flow_bound, link_eq, links}
use Rattle.dn_types.specs.declared.delivery.Delivery.{Delivery}

either-first : (P Q : ℕ → Type 0) (a b : Option ℕ) → IsFirst P a → IsFirst Q b → IsFirst (λ m. P m ⊎ Q m) (earlier a b)
either-first P Q None None p q = λ m h. elim h [ inl is ↦ p m is | inr is ↦ q m is ]
either-first P Q None (Some b) p q = (inr q.0, λ other h. elim h [ inl is ↦ absurd (p other is) | inr is ↦ q.1 other is ])
either-first P Q (Some a) None p q = (inl p.0, λ other h. elim h [ inl is ↦ p.1 other is | inr is ↦ absurd (q other is) ])
either-first P Q (Some a) (Some b) p q = elim (cases_Bool (nat_le a b)) [
  | inl first ↦
      let le : a ≤ b = grind (arith, nat_tests) in
      let is : min a b ≡ a = omega (arith, le) in
      rw is (inl p.0, λ other h. elim h [ inl it ↦ p.1 other it | inr it ↦ let above = q.1 other it in omega (arith, le, above) ])
  | inr second ↦
      let le : b ≤ a = grind (arith, nat_tests) in
      let is : min a b ≡ b = omega (arith, le) in
      rw is (inr q.0, λ other h. elim h [ inl it ↦ let above = p.1 other it in omega (arith, le, above) | inr it ↦ q.1 other it ])
]

same-first : (P Q : ℕ → Type 0) (o : Option ℕ) → ((m : ℕ) → P m → Q m) → ((m : ℕ) → Q m → P m) → IsFirst P o → IsFirst Q o
same-first P Q None f g p = λ m h. p m (g m h)
same-first P Q (Some a) f g p = (f a p.0, λ other h. p.1 other (g other h))

some-is : (a b : ℕ) → ◌≡◌ {A = Option ℕ} (Some a) (Some b) → a ≡ b
some-is a b e = cc

one-first : (o : Option ℕ) → IsFirst (λ m. o ≡ Some m) o
one-first None = λ m e. absurd (cc)
one-first (Some a) = (refl, λ other e. let same = some-is a other e in omega (arith, same))

list-first : {X : Type 0} (f : X → Option ℕ) (xs : List X) → IsFirst (λ m. (x : X) × Has xs x × (f x ≡ Some m)) (earliest (map f xs))
list-first f [] = λ m h. absurd h.1
list-first {X} f (x ∷ xs) = same-first
    (λ m. (f x ≡ Some m) ⊎ ((y : X) × Has xs y × (f y ≡ Some m))) (λ m. (y : X) × Has (x ∷ xs) y × (f y ≡ Some m)) (earlier (f x) (earliest (map f xs)))
    (λ m h. elim h [ inl e ↦ (x, inl refl, e) | inr (y, has, e) ↦ (y, inr has, e) ])
    (λ m h. elim (h.1) [ inl same ↦ inl (ap f same ∙ h.2) | inr has ↦ inr (h.0, has, h.2) ])
    (either-first (λ m. f x ≡ Some m) (λ m. (y : X) × Has xs y × (f y ≡ Some m)) (f x) (earliest (map f xs)) (one-first (f x)) (list-first f xs))

by-wait : (b : Bool) (free m : ℕ) → cond {A = Option ℕ} b (Some free) None ≡ Some m → (b ≡ true) × (free ≡ m)
by-wait true free m e = (refl, some-is free m e)
by-wait false free m e = absurd (cc)

waits : (n : ℕ) → nat_lt 0 n ≡ true → 0 < n
waits n e = grind (arith, nat_tests)

first-of : (xs : List Accepted) → 0 < length xs → (p : Accepted) × Has xs p
first-of [] some = absurd (omega (arith, some))
first-of (p ∷ xs) some = (p, inl refl)

some-waits : (n : ℕ) (queue : ℕ → List Accepted) → 0 < total n queue → (flow : ℕ) × (p : Accepted) × Has (queue flow) p
some-waits zero queue some = absurd (omega (arith, some))
some-waits (suc n) queue some = elim (cases_Bool (nat_lt 0 (total n queue))) [
  | inl lower ↦ some-waits n queue (waits (total n queue) lower)
  | inr none ↦
      let rest : total n queue ≡ 0 = grind (arith, nat_tests) in
      let own : 0 < length (queue n) = omega (arith, some, rest) in
      let first = first-of (queue n) own in
      (n, first.0, first.1)
]

emptied : (xs : List Accepted) (p : Accepted) → xs ≡ [] → Has xs p → ⊥
emptied xs p e h = let none : Has [] p = subst (λ (ys : List Accepted). Has ys p) e h in none

waited : (link : Link) (flow : ℕ) (trace : List Event) (p : Accepted) → Has (backlog link flow trace) p → nat_lt 0 (waiting link trace) ≡ true
waited link flow trace p h = elim (cases_Bool (nat_lt 0 (waiting link trace))) [
  | inl some ↦ some
  | inr none ↦ elim (cases_Bool (nat_lt flow (flow_bound trace))) [
    | inl low ↦
        let below : flow < flow_bound trace = grind (arith, nat_tests) in
        let zero : waiting link trace ≡ 0 = grind (arith, nat_tests) in
        absurd (emptied (backlog link flow trace) p (total-at (flow_bound trace) (λ f. backlog link f trace) flow below zero) h)
    | inr high ↦ let above : flow_bound trace ≤ flow = grind (arith, nat_tests) in absurd (emptied (backlog link flow trace) p (backlog-above link flow trace above) h)
  ]
]

any-has : (link : Link) (known : List Link) → list_any (link_eq link) known ≡ true → Has known link
any-has link [] e = absurd (cc)
any-has link (l ∷ known) e = elim (cases_Bool (link_eq link l)) [
  | inl same ↦ inl (sym (link_eq-true link l same))
  | inr other ↦ inr (any-has link known (rw other at e))
]

known-link : (link : Link) (flow : ℕ) (trace : List Event) (p : Accepted) → Has (backlog link flow trace) p → Has (links trace) link
known-link link flow trace p h = elim (cases_Bool (list_any (link_eq link) (links trace))) [
  | inl known ↦ any-has link (links trace) known
  | inr unknown ↦ absurd (emptied (backlog link flow trace) p (backlog-unknown link flow trace unknown) h)
]

pub wakes-are-first : WakesAreFirst
wakes-are-first rule trace = either-first
    (λ m. (d : Delivery) × Has (undelivered rule trace) d × (d.due ≡ m)) (λ m. (link : Link) × (flow : ℕ) × (p : Accepted) × Has (backlog link flow trace) p × (free link trace ≡ m))
    (earliest (map (λ d. Some d.due) (undelivered rule trace))) (earliest (map (next_free trace) (links trace)))
    (same-first (λ m. (d : Delivery) × Has (undelivered rule trace) d × (◌≡◌ {A = Option ℕ} (Some d.due) (Some m))) (λ m. (d : Delivery) × Has (undelivered rule trace) d × (d.due ≡ m))
    (earliest (map (λ d. Some d.due) (undelivered rule trace)))
    (λ m h. (h.0, h.1, some-is h.0.due m h.2)) (λ m h. (h.0, h.1, ap Some h.2)) (list-first (λ d. Some d.due) (undelivered rule trace)))
    (same-first (λ m. (link : Link) × Has (links trace) link × (next_free trace link ≡ Some m))
    (λ m. (link : Link) × (flow : ℕ) × (p : Accepted) × Has (backlog link flow trace) p × (free link trace ≡ m)) (earliest (map (next_free trace) (links trace)))
    (λ m h. let by = by-wait (nat_lt 0 (waiting h.0 trace)) (free h.0 trace) m h.2 in
    let one = some-waits (flow_bound trace) (λ flow. backlog h.0 flow trace) (waits (waiting h.0 trace) by.0) in
    (h.0, one.0, one.1, one.2, by.1))
    (λ m h. (h.0, known-link h.0 h.1 trace h.2 h.3, (let there = waited h.0 h.1 trace h.2 h.3 in rw there (ap Some h.4)))) (list-first (next_free trace) (links trace)))
