-- After a settling no start is due on any link.
use Rattle.dn_types.proofs.Words.{Accepted, Bool, Event, Link, List, None, Option, Rule, Settings, Some, Start, [], and_from, ap, arith, arrival_time, arrived, backlog, collected, cond, discarded}
use Rattle.dn_types.proofs.Words.{drop, due_by, eq-eqb, eqb-true, false, first_start, flow_bound, free, grown, inl, inr, is_of, last_due, link_eq, link_heads, links, list_any, list_any-append}
use Rattle.dn_types.proofs.Words.{lost, nat_eq, nat_lt, next_start, opened, or_parts, own, refl, refused, settle, settled, shared, slice_get, sooner, started, suc, sym, total, true, virtual_time}
use Rattle.dn_types.proofs.Words.{waiting, waiting_all, with_link, zero, ℕ, ⊎_elim, ◌&&◌, ◌++◌, ◌+◌, ◌<◌, ◌||◌, ◌∙◌, ◌∷◌, ◌≡◌, ◌≤◌, ◌⊎◌}
use Rattle.dn_types.proofs.Settling.{backlog-own, first-own, and-right, next_packet-first, next_start-packet, waiting-next}
use Rattle.dn_types.proofs.StepFacts.{drop-length, clear-none, sooner-left, sooner-right}

pub and-left : (a b : Bool) → (a && b) ≡ true → a ≡ true
and-left true b e = refl
and-left false b e = absurd cc

pub link_eq-true : (x y : Link) → link_eq x y ≡ true → x ≡ y
link_eq-true (own a f) (own b g) e = let same : a ≡ b = eqb-true a b (and-left (nat_eq a b) (nat_eq f g) e) in
    let flow : f ≡ g = eqb-true f g (and-right (nat_eq a b) (nat_eq f g) e) in λ i. own (same i) (flow i)
link_eq-true (shared a) (shared b) e = ap shared (eqb-true a b e)
link_eq-true (own a f) (shared b) e = absurd cc
link_eq-true (shared a) (own b g) e = absurd cc

pub link_eq-refl : (x : Link) → link_eq x x ≡ true
link_eq-refl (own a f) = and_from (nat_eq a a) (nat_eq f f) (eq-eqb a a refl) (eq-eqb f f refl)
link_eq-refl (shared a) = eq-eqb a a refl

pub true_or_false : (b : Bool) → (b ≡ true) ⊎ (b ≡ false)
true_or_false true = inl refl
true_or_false false = inr refl

-- ---- A start on another link changes nothing

module _ (link : Link) (s : Start) (trace : List Event) (elsewhere : link_eq s.packet.link link ≡ false) where
  pub backlog-elsewhere : (flow : ℕ) → backlog link flow (started s ∷ trace) ≡ backlog link flow trace
  backlog-elsewhere flow = ap (λ b. cond (b && nat_eq s.packet.stamped.flow flow) (drop 1 (backlog link flow trace)) (backlog link flow trace)) elsewhere

  pub free-elsewhere : free link (started s ∷ trace) ≡ free link trace
  free-elsewhere = ap (λ b. cond b (s.moment + s.transmission) (free link trace)) elsewhere

  pub virtual_time-elsewhere : virtual_time link (started s ∷ trace) ≡ virtual_time link trace
  virtual_time-elsewhere = ap (λ b. cond b (grown (virtual_time link trace) (link_heads link trace) s.packet.stamped.len) (virtual_time link trace)) elsewhere

  pub last_due-elsewhere : (rule : Rule) → last_due rule link (started s ∷ trace) ≡ last_due rule link trace
  last_due-elsewhere rule = ap (λ b. cond b (due_by rule (arrival_time s) (last_due rule link trace)) (last_due rule link trace)) elsewhere

-- The next start of a link is a start on it.
pub next_start-link : (settings : Settings) (at : ℕ) (link : Link) (trace : List Event) (s : Start) → next_start settings at link trace ≡ Some s → s.packet.link ≡ link
next_start-link settings at link trace s e =
    let first = next_packet-first link trace s.packet (next_start-packet settings at link trace s e) in
    link_eq-true s.packet.link link (and-left (link_eq s.packet.link link) _ (first-own link first.0 s.packet (backlog link first.0 trace) first.1 (backlog-own link first.0 trace)))

-- ---- All links

-- A link that is unknown after one more was taken up was unknown before.
unknown-before : (link other : Link) (known : List Link) → list_any (link_eq link) (with_link other known) ≡ false → list_any (link_eq link) known ≡ false
unknown-before link other known = by_test (list_any (link_eq other) known)
  where
    by_test : (b : Bool) → list_any (link_eq link) (cond b known (known ++ other ∷ [])) ≡ false → list_any (link_eq link) known ≡ false
    by_test true e = e
    by_test false e = (or_parts (list_any (link_eq link) known) (list_any (link_eq link) (other ∷ [])) (sym (list_any-append (link_eq link) known (other ∷ [])) ∙ e)).0

-- A link of which no packet was seen has empty queues.
pub backlog-unknown : (link : Link) (flow : ℕ) (trace : List Event) → list_any (link_eq link) (links trace) ≡ false → backlog link flow trace ≡ []
backlog-unknown link flow [] e = refl
backlog-unknown link flow (opened l ∷ trace) e = backlog-unknown link flow trace e
backlog-unknown link flow (arrived p ∷ trace) e = by_test (list_any (link_eq p.link) (links trace)) refl e (λ absent. backlog-unknown link flow trace absent)
  where
    apart : (link_eq p.link link ≡ true → ⊥) → link_eq p.link link ≡ false
    apart h = ⊎_elim (λ yes'. absurd (h yes')) (λ no'. no') (true_or_false (link_eq p.link link))

    not_here : link_eq p.link link ≡ false → backlog link flow trace ≡ [] → cond (is_of link flow p) (backlog link flow trace ++ p ∷ []) (backlog link flow trace) ≡ []
    not_here other none = ap (λ b. cond (b && nat_eq p.stamped.flow flow) (backlog link flow trace ++ p ∷ []) (backlog link flow trace)) other ∙ none

    by_test : (b : Bool) → list_any (link_eq p.link) (links trace) ≡ b → list_any (link_eq link) (cond b (links trace) (links trace ++ p.link ∷ [])) ≡ false
        → (list_any (link_eq link) (links trace) ≡ false → backlog link flow trace ≡ [])
        → cond (is_of link flow p) (backlog link flow trace ++ p ∷ []) (backlog link flow trace) ≡ []
    by_test true is absent rest =
        not_here (apart (λ same. let there : list_any (link_eq link) (links trace) ≡ true = sym (ap (λ (m : Link). list_any (link_eq m) (links trace))
        (link_eq-true p.link link same)) ∙ is in let t : true ≡ false = sym there ∙ absent in cc)) (rest absent)
    by_test false is absent rest =
        let split = sym (list_any-append (link_eq link) (links trace) (p.link ∷ [])) ∙ absent in
        let not_last = (or_parts (link_eq link p.link) false (or_parts (list_any (link_eq link) (links trace)) (list_any (link_eq link) (p.link ∷ [])) split).1).0 in
        not_here
        (apart (λ same. let here : link_eq link p.link ≡ true = ap (link_eq link) (link_eq-true p.link link same) ∙ link_eq-refl link in let t : true ≡ false = sym here ∙ not_last in cc))
        (rest (or_parts (list_any (link_eq link) (links trace)) (list_any (link_eq link) (p.link ∷ [])) split).0)
backlog-unknown link flow (started s ∷ trace) e = none (is_of link flow s.packet) (backlog link flow trace) (backlog-unknown link flow trace e)
  where
    none : (b : Bool) (q : List Accepted) → q ≡ [] → cond b (drop 1 q) q ≡ []
    none true q e = ap (drop 1) e
    none false q e = e
backlog-unknown link flow (lost l f ∷ trace) e = backlog-unknown link flow trace (unknown-before link l (links trace) e)
backlog-unknown link flow (refused l f ∷ trace) e = backlog-unknown link flow trace (unknown-before link l (links trace) e)
backlog-unknown link flow (discarded f ∷ trace) e = clear-none (nat_eq f flow) (backlog link flow trace) (backlog-unknown link flow trace e)
backlog-unknown link flow (collected at ∷ trace) e = backlog-unknown link flow trace e

pub none-unknown : (settings : Settings) (at : ℕ) (link : Link) (trace : List Event) → list_any (link_eq link) (links trace) ≡ false → next_start settings at link trace ≡ None
none-unknown settings at link trace e = by_start (next_start settings at link trace) refl
  where
    by_start : (o : Option Start) → next_start settings at link trace ≡ o → o ≡ None
    by_start None is = refl
    by_start (Some s) is =
        let first = next_packet-first link trace s.packet (next_start-packet settings at link trace s is) in
        let none = ap (λ (q : List Accepted). slice_get q 0) (backlog-unknown link first.0 trace e) in
        let t : Some s.packet ≡ None = sym first.1 ∙ none in
        absurd cc

-- Where no start is the first of all, no link has a next start.
pub none-first : (settings : Settings) (at : ℕ) (link : Link) (ls : List Link) (trace : List Event)
    → list_any (link_eq link) ls ≡ true → first_start settings at ls trace ≡ None → next_start settings at link trace ≡ None
none-first settings at link [] trace there e = absurd cc
none-first settings at link (l ∷ ls) trace there e = ⊎_elim here (later (λ in_rest rest. none-first settings at link ls trace in_rest rest)) (true_or_false (link_eq link l))
  where
    here : link_eq link l ≡ true → next_start settings at link trace ≡ None
    here same = ap (λ (m : Link). next_start settings at m trace) (link_eq-true link l same) ∙ sooner-left (next_start settings at l trace) (first_start settings at ls trace) e

    or-rest : (a b : Bool) → a ≡ false → (a || b) ≡ true → b ≡ true
    or-rest false b e yes' = yes'
    or-rest true b e yes' = absurd cc

    later : (list_any (link_eq link) ls ≡ true → first_start settings at ls trace ≡ None → next_start settings at link trace ≡ None) → link_eq link l ≡ false → next_start settings at link trace ≡ None
    later lower other = lower (or-rest (link_eq link l) (list_any (link_eq link) ls) other there) (sooner-right (next_start settings at l trace) (first_start settings at ls trace) e)

-- The first start is the next start of some link.
pub first_start-of : (settings : Settings) (at : ℕ) (ls : List Link) (trace : List Event) (s : Start)
    → first_start settings at ls trace ≡ Some s → (link : Link) × (next_start settings at link trace ≡ Some s)
first_start-of settings at [] trace s e = absurd cc
first_start-of settings at (l ∷ ls) trace s e = by_next (next_start settings at l trace) refl (first_start settings at ls trace) refl (λ is. first_start-of settings at ls trace s is) e
  where
    by_test : (b : Bool) (x y : Start) → next_start settings at l trace ≡ Some x → first_start settings at ls trace ≡ Some y
        → (first_start settings at ls trace ≡ Some s → (link : Link) × (next_start settings at link trace ≡ Some s)) → Some (cond b y x) ≡ Some s
        → (link : Link) × (next_start settings at link trace ≡ Some s)
    by_test true x y is is' rest e = rest (is' ∙ e)
    by_test false x y is is' rest e = (l, is ∙ e)

    by_next : (o : Option Start) → next_start settings at l trace ≡ o → (p : Option Start) → first_start settings at ls trace ≡ p
        → (first_start settings at ls trace ≡ Some s → (link : Link) × (next_start settings at link trace ≡ Some s)) → sooner o p ≡ Some s
        → (link : Link) × (next_start settings at link trace ≡ Some s)
    by_next None is p is' rest e = rest (is' ∙ e)
    by_next (Some x) is None is' rest e = (l, is ∙ e)
    by_next (Some x) is (Some y) is' rest e = by_test (nat_lt y.moment x.moment) x y is is' rest e

-- ---- A start takes one packet from those that wait on all links

total-start : (link : Link) (s : Start) (trace : List Event) (n : ℕ) → total n (λ f. backlog link f (started s ∷ trace)) ≤ total n (λ f. backlog link f trace)
total-start link s trace zero = omega arith
total-start link s trace (suc n) = let rest = total-start link s trace n in let here = drop-length (is_of link n s.packet) (backlog link n trace) in omega arith

waiting-no_more : (link : Link) (s : Start) (trace : List Event) → waiting link (started s ∷ trace) ≤ waiting link trace
waiting-no_more link s trace = total-start link s trace (flow_bound trace)

waiting_all-no_more : (ls : List Link) (s : Start) (trace : List Event) → waiting_all ls (started s ∷ trace) ≤ waiting_all ls trace
waiting_all-no_more [] s trace = omega arith
waiting_all-no_more (l ∷ ls) s trace = let rest = waiting_all-no_more ls s trace in let here = waiting-no_more l s trace in omega arith

pub waiting_all-first : (settings : Settings) (at : ℕ) (ls : List Link) (trace : List Event) (s : Start)
    → first_start settings at ls trace ≡ Some s → waiting_all ls (started s ∷ trace) < waiting_all ls trace
waiting_all-first settings at [] trace s e = absurd cc
waiting_all-first settings at (l ∷ ls) trace s e = by_next (next_start settings at l trace) refl (first_start settings at ls trace) refl (λ is. waiting_all-first settings at ls trace s is) e
  where
    here : next_start settings at l trace ≡ Some s → waiting_all (l ∷ ls) (started s ∷ trace) < waiting_all (l ∷ ls) trace
    here is = let one = waiting-next settings at l trace s is in let rest = waiting_all-no_more ls s trace in omega arith

    there : waiting_all ls (started s ∷ trace) < waiting_all ls trace → waiting_all (l ∷ ls) (started s ∷ trace) < waiting_all (l ∷ ls) trace
    there fewer = let same = waiting-no_more l s trace in omega arith

    by_test : (b : Bool) (x y : Start) → next_start settings at l trace ≡ Some x → first_start settings at ls trace ≡ Some y
        → (first_start settings at ls trace ≡ Some s → waiting_all ls (started s ∷ trace) < waiting_all ls trace) → Some (cond b y x) ≡ Some s
        → waiting_all (l ∷ ls) (started s ∷ trace) < waiting_all (l ∷ ls) trace
    by_test true x y is is' rest e = there (rest (is' ∙ e))
    by_test false x y is is' rest e = here (is ∙ e)

    by_next : (o : Option Start) → next_start settings at l trace ≡ o → (p : Option Start) → first_start settings at ls trace ≡ p
        → (first_start settings at ls trace ≡ Some s → waiting_all ls (started s ∷ trace) < waiting_all ls trace) → sooner o p ≡ Some s
        → waiting_all (l ∷ ls) (started s ∷ trace) < waiting_all (l ∷ ls) trace
    by_next None is p is' rest e = there (rest (is' ∙ e))
    by_next (Some x) is None is' rest e = here (is ∙ e)
    by_next (Some x) is (Some y) is' rest e = by_test (nat_lt y.moment x.moment) x y is is' rest e

-- With as many starts as packets that wait, or more, all links are settled.
pub settle-ends : (most : ℕ) (settings : Settings) (at : ℕ) (trace : List Event) → waiting_all (links trace) trace ≤ most
    → first_start settings at (links (settle most settings at trace)) (settle most settings at trace) ≡ None
settle-ends zero settings at trace h = none (first_start settings at (links trace) trace) refl
  where
    none : (o : Option Start) → first_start settings at (links trace) trace ≡ o → first_start settings at (links trace) trace ≡ None
    none None e = e
    none (Some s) e = let fewer = waiting_all-first settings at (links trace) trace s e in absurd (omega arith)
settle-ends (suc most) settings at trace h = step (first_start settings at (links trace) trace) refl (λ t. settle-ends most settings at t)
  where
    step : (o : Option Start) → first_start settings at (links trace) trace ≡ o
        → ((t : List Event) → waiting_all (links t) t ≤ most → first_start settings at (links (settle most settings at t)) (settle most settings at t) ≡ None)
        → first_start settings at (links (elim o as (λ _. List Event) [ None ↦ trace | Some s ↦ settle most settings at (started s ∷ trace) ]))
        (elim o as (λ _. List Event) [ None ↦ trace | Some s ↦ settle most settings at (started s ∷ trace) ]) ≡ None
    step None e rest = e
    step (Some s) e rest = let fewer = waiting_all-first settings at (links trace) trace s e in rest (started s ∷ trace) (omega arith)

-- After a settling no start is due on any link: a packet that waits does so for a link that is free later.
pub settled-ends : (settings : Settings) (at : ℕ) (link : Link) (trace : List Event) → next_start settings at link (settled settings at trace) ≡ None
settled-ends settings at link trace =
    ⊎_elim (λ there. none-first settings at link
    (links (settled settings at trace)) (settled settings at trace) there (settle-ends (waiting_all (links trace) trace) settings at trace (omega arith)))
    (λ absent. none-unknown settings at link (settled settings at trace) absent)
    (true_or_false (list_any (link_eq link) (links (settled settings at trace))))
