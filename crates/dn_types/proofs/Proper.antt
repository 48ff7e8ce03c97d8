-- In the trace of calls each start is of the first packet of its backlog.
use Rattle.dn_types.proofs.Words.{Accepted, Bool, Event, Link, List, None, Option, Settings, Some, Start, [], ap, arith, backlog, cond, false, first_start, free, length, links, nat_eq, nat_le}
use Rattle.dn_types.proofs.Words.{nat_tests, next_packet, next_start, option_map, refl, settings, settle, slice_get, start_at, started, suc, sym, total, true, zero, ℕ, ◌<◌, ◌∙◌, ◌∷◌, ◌≡◌, ◌≤◌}
use Rattle.dn_types.proofs.Settling.{next_packet-first, next_start-packet, flow-start}
use Rattle.dn_types.proofs.Settled.{next_start-link, first_start-of}
use Rattle.dn_types.proofs.Fifo.{IsProper}

-- ---- Settling

start-proper : (settings : Settings) (at : ℕ) (link : Link) (trace : List Event) (s : Start)
    → next_start settings at link trace ≡ Some s → slice_get (backlog s.packet.link s.packet.stamped.flow trace) 0 ≡ Some s.packet
start-proper settings at link trace s e =
    let first = next_packet-first link trace s.packet (next_start-packet settings at link trace s e) in
    let l = next_start-link settings at link trace s e in
    let f = flow-start link first.0 s trace first.1 in
    (λ i. slice_get (backlog (l i) (f i) trace) 0) ∙ first.1

next_start-moment : (settings : Settings) (at : ℕ) (link : Link) (trace : List Event) (s : Start) → next_start settings at link trace ≡ Some s → free link trace ≤ s.moment
next_start-moment settings at link trace s e = by_test (nat_le (free link trace) at) (next_packet link trace) e
  where
    by_test : (b : Bool) (o : Option Accepted) → cond b (option_map (λ p. start_at settings link p (free link trace)) o) None ≡ Some s → free link trace ≤ s.moment
    by_test false o e = absurd cc
    by_test true None e = absurd cc
    by_test true (Some p) e = let same : start_at settings link p (free link trace) ≡ s = cc in let moment = ap (λ (x : Start). x.moment) same in omega arith

start-free : (settings : Settings) (at : ℕ) (link : Link) (trace : List Event) (s : Start) → next_start settings at link trace ≡ Some s → free s.packet.link trace ≤ s.moment
start-free settings at link trace s e =
    let same = ap (λ (l : Link). free l trace) (next_start-link settings at link trace s e) in
    let soon = next_start-moment settings at link trace s e in
    omega arith

pub settle-proper : (most : ℕ) (settings : Settings) (at : ℕ) (trace : List Event) → IsProper trace → IsProper (settle most settings at trace)
settle-proper zero settings at trace h = h
settle-proper (suc most) settings at trace h = step (first_start settings at (links trace) trace) refl (λ t p. settle-proper most settings at t p)
  where
    step : (o : Option Start) → first_start settings at (links trace) trace ≡ o → ((t : List Event) → IsProper t → IsProper (settle most settings at t))
        → IsProper (elim o as (λ _. List Event) [ None ↦ trace | Some s ↦ settle most settings at (started s ∷ trace) ])
    step None e rest = h
    step (Some s) e rest = let of = first_start-of settings at (links trace) trace s e in
        rest (started s ∷ trace) (start-proper settings at of.0 trace s of.1, start-free settings at of.0 trace s of.1, h)

-- ---- A packet that is accepted into a free link finds its backlog empty

pub no-next : (settings : Settings) (at : ℕ) (link : Link) (trace : List Event) → free link trace ≤ at → next_start settings at link trace ≡ None → next_packet link trace ≡ None
no-next settings at link trace soon e = by (next_packet link trace) refl
  where
    yes' : nat_le (free link trace) at ≡ true
    yes' = grind (arith, nat_tests)

    by : (o : Option Accepted) → next_packet link trace ≡ o → next_packet link trace ≡ None
    by None is = is
    by (Some p) is =
        let there : next_start settings at link trace ≡ Some (start_at settings link p (free link trace)) =
        ap (λ b. cond b (option_map (λ (x : Accepted). start_at settings link x (free link trace)) (next_packet link trace)) None) yes'
        ∙ ap (option_map (λ (x : Accepted). start_at settings link x (free link trace))) is in
        let t = sym e ∙ there in
        absurd cc

pub none-first : (q : List Accepted) → slice_get q 0 ≡ None → q ≡ []
none-first [] e = refl
none-first (p ∷ q) e = absurd cc

pub total-at : (n : ℕ) (q : ℕ → List Accepted) (flow : ℕ) → flow < n → total n q ≡ 0 → q flow ≡ []
total-at zero q flow h e = absurd (omega arith)
total-at (suc n) q flow h e = by (nat_eq flow n) refl (λ lt. total-at n q flow lt (omega arith))
  where
    empty : (xs : List Accepted) → length xs ≡ 0 → xs ≡ []
    empty [] z = refl
    empty (x ∷ xs) z = absurd (omega arith)

    by : (b : Bool) → nat_eq flow n ≡ b → (flow < n → q flow ≡ []) → q flow ≡ []
    by true is lower = let same : flow ≡ n = grind (arith, nat_tests) in ap q same ∙ empty (q n) (omega arith)
    by false is lower = let lt : flow < n = grind (arith, nat_tests) in lower lt
