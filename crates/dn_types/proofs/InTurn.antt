-- Deliveries come by due moment, and where two are equal by packet number.
use Rattle.dn_types.proofs.Words.{All-cons, All-filter, All-nil, AreInOrder, Bool, Delivery, Equal, Event, Greater, Less, List, MatchOrdering, Ordering, Rule, [], arith, collected, cond}
use Rattle.dn_types.proofs.Words.{delivery_of, false, filter, get_or, given, in_order, is_given_before, is_lt, last_due, nat_cmp, nat_le, nat_lt, ordering_then, ranks, refl, started, true}
use Rattle.dn_types.proofs.Words.{undelivered, ℕ, ◌<◌, ◌∷◌, ◌≡◌, ◌≤◌}
use Rattle.dn_types.proofs.BoundedReplies.{in_order-all}

abbrev IsNoLater : Delivery → Delivery → Type 0
IsNoLater d e = (d.due ≤ e.due) × (d.due ≡ e.due → d.packet ≤ e.packet)

-- What the answers of two comparisons say.
yes-then : (x y m n : ℕ) (a b : Ordering) (rest : Ordering) → MatchOrdering a (x < y) (x ≡ y) (y < x) → MatchOrdering b (m < n) (m ≡ n) (n < m) →
    is_lt (ordering_then a (ordering_then b rest)) ≡ true → (x ≤ y) × (x ≡ y → m ≤ n)
yes-then x y m n Less b rest h k e = (omega arith, λ same. absurd (omega arith))
yes-then x y m n Equal Less rest h k e = (omega arith, λ same. omega arith)
yes-then x y m n Equal Equal rest h k e = (omega arith, λ same. omega arith)
yes-then x y m n Equal Greater rest h k e = absurd cc
yes-then x y m n Greater b rest h k e = absurd cc

no-then : (x y m n : ℕ) (a b : Ordering) (rest : Ordering) → MatchOrdering a (x < y) (x ≡ y) (y < x) → MatchOrdering b (m < n) (m ≡ n) (n < m) →
    is_lt (ordering_then a (ordering_then b rest)) ≡ false → (y ≤ x) × (y ≡ x → n ≤ m)
no-then x y m n Less b rest h k e = absurd cc
no-then x y m n Equal Less rest h k e = absurd cc
no-then x y m n Equal Equal rest h k e = (omega arith, λ same. omega arith)
no-then x y m n Equal Greater rest h k e = (omega arith, λ same. omega arith)
no-then x y m n Greater b rest h k e = (omega arith, λ same. absurd (omega arith))

before-then : (d e : Delivery) → is_given_before d e ≡ true → IsNoLater d e
before-then d e is = yes-then d.due e.due d.packet e.packet (nat_cmp d.due e.due) (nat_cmp d.packet e.packet)
    (ordering_then (nat_cmp d.flow e.flow) (nat_cmp d.start e.start)) (ranks d.due e.due) (ranks d.packet e.packet) is

not-before-then : (d e : Delivery) → is_given_before d e ≡ false → IsNoLater e d
not-before-then d e is =
    no-then d.due e.due d.packet e.packet (nat_cmp d.due e.due) (nat_cmp d.packet e.packet) (ordering_then (nat_cmp d.flow e.flow) (nat_cmp d.start e.start))
    (ranks d.due e.due) (ranks d.packet e.packet) is

chain-later : (d e f : Delivery) → IsNoLater d e → IsNoLater e f → IsNoLater d f
chain-later d e f h k = let a = h.0 in let b = k.0 in (omega arith, λ same. let x = h.1 (omega arith) in let y = k.1 (omega arith) in omega (arith, x, y))

put-in-order : (d : Delivery) (ds : List Delivery) → AreInOrder ds → AreInOrder (in_order d ds)
put-in-order d [] h = (All-nil (IsNoLater d), tt)
put-in-order d (e ∷ es) h = by (is_given_before d e) refl (put-in-order d es h.1)
  where
    by : (b : Bool) → is_given_before d e ≡ b → AreInOrder (in_order d es) → AreInOrder (cond b (d ∷ e ∷ es) (e ∷ in_order d es))
    by true is rest = let first = before-then d e is in (All-cons (IsNoLater d) e es first (λ k x lt. chain-later d e (get_or es k x) first (h.0 k x lt)), h)
    by false is rest = (in_order-all (IsNoLater e) d es (not-before-then d e is) h.0, rest)

fewer-in-order : (test : Delivery → Bool) (ds : List Delivery) → AreInOrder ds → AreInOrder (filter test ds)
fewer-in-order test [] h = tt
fewer-in-order test (d ∷ ds) h = by (test d) (fewer-in-order test ds h.1)
  where
    by : (b : Bool) → AreInOrder (filter test ds) → AreInOrder (cond b (d ∷ filter test ds) (filter test ds))
    by true rest = (All-filter test (IsNoLater d) ds h.0, rest)
    by false rest = rest

in-turn : (rule : Rule) (trace : List Event) → AreInOrder (undelivered rule trace)
in-turn rule [] = tt
in-turn rule (started s ∷ trace) = put-in-order (delivery_of rule s (last_due rule s.packet.link trace)) (undelivered rule trace) (in-turn rule trace)
in-turn rule (collected at ∷ trace) = fewer-in-order (λ d. nat_lt at d.due) (undelivered rule trace) (in-turn rule trace)
in-turn rule (_ ∷ trace) = in-turn rule trace

pub gives-in-order : (rule : Rule) (at : ℕ) (trace : List Event) → AreInOrder (given rule at trace)
gives-in-order rule at trace = fewer-in-order (λ d. nat_le d.due at) (undelivered rule trace) (in-turn rule trace)
