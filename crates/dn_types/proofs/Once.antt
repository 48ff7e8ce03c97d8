-- Over the trace of calls no packet starts twice.
use Rattle.dn_types.proofs.Words.{Accepted, Bool, Call, Event, Link, List, Some, Start, [], accepted_count, and_from, ap, arith, arrived, backlog, collected, cond, count_by, discarded, drop}
use Rattle.dn_types.proofs.Words.{eq-eqb, eqb-true, false, is_arrival, is_of, is_start_with, link_eq, lost, nat_eq, nat_lt, nat_tests, opened, refl, refused, shared, slice_get, start_count}
use Rattle.dn_types.proofs.Words.{started, sum_by-append, sum_by-cons, sym, trace_of, true, ℕ, ◌&&◌, ◌++◌, ◌+◌, ◌∙◌, ◌∷◌, ◌≡◌, ◌≤◌}
use Rattle.dn_types.proofs.Fifo.{IsProper, own-first}
use Rattle.dn_types.proofs.Giving.{count-event}
use Rattle.dn_types.proofs.Ordered.{trace-proper}
use Rattle.dn_types.proofs.Settled.{and-left, link_eq-true, link_eq-refl}
use Rattle.dn_types.proofs.Settling.{and-right}

-- Two places that one packet is of are the same place.
same-place : (l m : Link) (f g : ℕ) (p : Accepted) → is_of l f p ≡ true → is_of m g p ≡ true → (link_eq l m && nat_eq f g) ≡ true
same-place l m f g p e h =
    let links : l ≡ m = sym (link_eq-true p.link l (and-left _ (nat_eq p.stamped.flow f) e)) ∙ link_eq-true p.link m (and-left _ (nat_eq p.stamped.flow g) h) in
    let flows : f ≡ g = sym (eqb-true p.stamped.flow f (and-right _ (nat_eq p.stamped.flow f) e)) ∙ eqb-true p.stamped.flow g (and-right _ (nat_eq p.stamped.flow g) h) in
    and_from (link_eq l m) (nat_eq f g) (ap (link_eq l) (sym links) ∙ link_eq-refl l) (eq-eqb f g flows)

module _ (n : ℕ) where
  abbrev is_number : Accepted → Bool
  is_number p = nat_eq p.packet n

  abbrev counted : List Accepted → ℕ
  counted ps = count_by is_number ps

  abbrev waits : Link → ℕ → List Event → ℕ
  waits link flow trace = counted (backlog link flow trace)

  -- 1 where the number was given to a packet.
  abbrev most : List Event → ℕ
  most trace = cond (nat_lt n (accepted_count trace)) 1 0

  -- The packet has started or waits in one place, at most once in all.
  abbrev AtMost : List Event → Type 0
  AtMost trace = (l : Link) (f : ℕ) (m : Link) (g : ℕ) → start_count n trace + (waits l f trace + cond (link_eq l m && nat_eq f g) 0 (waits m g trace)) ≤ most trace

  counted-cons : (p : Accepted) (ps : List Accepted) → counted (p ∷ ps) ≡ cond (is_number p) 1 0 + counted ps
  counted-cons p ps = sum_by-cons (λ x. cond (is_number x) 1 0) p ps

  counted-push : (p : Accepted) (ps : List Accepted) → counted (ps ++ p ∷ []) ≡ counted ps + cond (is_number p) 1 0
  counted-push p ps = let e = sum_by-append (λ x. cond (is_number x) 1 0) ps (p ∷ []) in let one = counted-cons p [] in omega arith

  counted-drop : (ps : List Accepted) → counted (drop 1 ps) ≤ counted ps
  counted-drop [] = omega arith
  counted-drop (p ∷ ps) = let e = counted-cons p ps in omega arith

  counted-first : (p : Accepted) (ps : List Accepted) → slice_get ps 0 ≡ Some p → counted ps ≡ cond (is_number p) 1 0 + counted (drop 1 ps)
  counted-first p [] e = absurd cc
  counted-first p (r ∷ ps) e = let same : r ≡ p = cc in counted-cons r ps ∙ ap (λ (x : Accepted). cond (is_number x) 1 0 + counted ps) same

  most-one : (trace : List Event) → most trace ≤ 1
  most-one trace = by (nat_lt n (accepted_count trace))
    where
      by : (b : Bool) → cond b 1 0 ≤ 1
      by true = omega arith
      by false = omega arith

  less : (b : Bool) (x y : ℕ) → x ≤ y → cond b 0 x ≤ cond b 0 y
  less true x y h = omega arith
  less false x y h = h

  -- An event that is no arrival and no start of the packet, and after which no more wait.
  quiet : (e : Event) (trace : List Event) → is_start_with n e ≡ false → is_arrival e ≡ false → ((l : Link) (f : ℕ) → waits l f (e ∷ trace) ≤ waits l f trace) → AtMost trace → AtMost (e ∷ trace)
  quiet e trace no_start no_arrival fewer h l f m g =
      let starts : start_count n (e ∷ trace) ≡ start_count n trace = let c = count-event (is_start_with n) e trace in
      let z : cond {A = ℕ} (is_start_with n e) 1 0 ≡ 0 = ap {B = ℕ} (λ b. cond b 1 0) no_start in omega arith in
      let arrivals : accepted_count (e ∷ trace) ≡ accepted_count trace = let c = count-event is_arrival e trace in
      let z : cond {A = ℕ} (is_arrival e) 1 0 ≡ 0 = ap {B = ℕ} (λ b. cond b 1 0) no_arrival in omega arith in
      let bound : most (e ∷ trace) ≡ most trace = ap {B = ℕ} (λ k. cond (nat_lt n k) 1 0) arrivals in
      let here = fewer l f in
      let there = less (link_eq l m && nat_eq f g) (waits m g (e ∷ trace)) (waits m g trace) (fewer m g) in
      let before = h l f m g in
      omega arith

  accepted-count-cons : (p : Accepted) (trace : List Event) → accepted_count (arrived p ∷ trace) ≡ 1 + accepted_count trace
  accepted-count-cons p trace = count-event is_arrival (arrived p) trace

  waits-arrived : (l : Link) (f : ℕ) (p : Accepted) (trace : List Event) → waits l f (arrived p ∷ trace) ≡ waits l f trace + cond (is_of l f p) (cond (is_number p) 1 0) 0
  waits-arrived l f p trace = by (is_of l f p)
    where
      by : (b : Bool) → counted (cond b (backlog l f trace ++ p ∷ []) (backlog l f trace)) ≡ waits l f trace + cond b (cond (is_number p) 1 0) 0
      by true = counted-push p (backlog l f trace)
      by false = omega arith

  arrive : (p : Accepted) (trace : List Event) → p.packet ≡ accepted_count trace → AtMost trace → AtMost (arrived p ∷ trace)
  arrive p trace number h l f m g = by (is_number p) refl
    where
      starts : start_count n (arrived p ∷ trace) ≡ start_count n trace
      starts = let c = count-event (is_start_with n) (arrived p) trace in omega arith

      Goal : Type 0
      Goal = start_count n (arrived p ∷ trace) + (waits l f (arrived p ∷ trace) + cond (link_eq l m && nat_eq f g) 0 (waits m g (arrived p ∷ trace))) ≤ most (arrived p ∷ trace)

      -- The packet is another one.
      other : is_number p ≡ false → Goal
      other e =
          let arrivals = accepted-count-cons p trace in
          let here : waits l f (arrived p ∷ trace) ≡ waits l f trace = waits-arrived l f p trace ∙ none (is_of l f p) (waits l f trace) (is_number p) e in
          let there : waits m g (arrived p ∷ trace) ≡ waits m g trace = waits-arrived m g p trace ∙ none (is_of m g p) (waits m g trace) (is_number p) e in
          let both = less (link_eq l m && nat_eq f g) (waits m g (arrived p ∷ trace)) (waits m g trace) (omega arith) in
          let bound : most (arrived p ∷ trace) ≡ most trace = ap {B = ℕ} (λ b. cond b 1 0) (grown (accepted_count trace) (accepted_count (arrived p ∷ trace)) p.packet number arrivals e) in
          let before = h l f m g in
          omega arith
        where
          none : (b : Bool) (k : ℕ) (c : Bool) → c ≡ false → k + cond b (cond c 1 0) 0 ≡ k
          none true k true e = absurd cc
          none true k false e = omega arith
          none false k c e = omega arith

          grown : (a b k : ℕ) → k ≡ a → b ≡ 1 + a → nat_eq k n ≡ false → nat_lt n b ≡ nat_lt n a
          grown a b k e d h = grind (arith, nat_tests)

      -- The number is given to this packet, so no packet had it before.
      this : is_number p ≡ true → Goal
      this e =
          let arrivals = accepted-count-cons p trace in
          let old : nat_lt n (accepted_count trace) ≡ false = new-number (accepted_count trace) p.packet number e in
          let none : most trace ≡ 0 = ap {B = ℕ} (λ b. cond b 1 0) old in
          let new : nat_lt n (accepted_count (arrived p ∷ trace)) ≡ true = has-number (accepted_count trace) (accepted_count (arrived p ∷ trace)) p.packet number arrivals e in
          let one : most (arrived p ∷ trace) ≡ 1 = ap {B = ℕ} (λ b. cond b 1 0) new in
          let first = h l f m g in
          let second = h m g m g in
          let here = waits-arrived l f p trace in
          let there = waits-arrived m g p trace in
          let once = apart (is_of l f p) (is_of m g p) (link_eq l m && nat_eq f g) (is_number p) (waits l f (arrived p ∷ trace))
          (waits m g (arrived p ∷ trace)) (λ a b. same-place l m f g p a b) (omega (arith, first, here, none)) (omega (arith, second, there, none)) in
          omega arith
        where
          new-number : (a k : ℕ) → k ≡ a → nat_eq k n ≡ true → nat_lt n a ≡ false
          new-number a k e h = grind (arith, nat_tests)

          has-number : (a b k : ℕ) → k ≡ a → b ≡ 1 + a → nat_eq k n ≡ true → nat_lt n b ≡ true
          has-number a b k e d h = grind (arith, nat_tests)

          apart : (b c same : Bool) (k : Bool) (x y : ℕ) → (b ≡ true → c ≡ true → same ≡ true) → x ≤ cond b (cond k 1 0) 0 → y ≤ cond c (cond k 1 0) 0 → x + cond same 0 y ≤ 1
          apart true true true true x y h d e = omega arith
          apart true true true false x y h d e = omega arith
          apart true true false k x y h d e = absurd (let t = h refl refl in cc)
          apart true false true true x y h d e = omega arith
          apart true false true false x y h d e = omega arith
          apart true false false true x y h d e = omega arith
          apart true false false false x y h d e = omega arith
          apart false true true true x y h d e = omega arith
          apart false true true false x y h d e = omega arith
          apart false true false true x y h d e = omega arith
          apart false true false false x y h d e = omega arith
          apart false false true k x y h d e = omega arith
          apart false false false k x y h d e = omega arith

      by : (b : Bool) → is_number p ≡ b → Goal
      by true e = this e
      by false e = other e

  start : (s : Start) (trace : List Event) → slice_get (backlog s.packet.link s.packet.stamped.flow trace) 0 ≡ Some s.packet → AtMost trace → AtMost (started s ∷ trace)
  start s trace first h l f m g = by (is_number s.packet) refl
    where
      arrivals : accepted_count (started s ∷ trace) ≡ accepted_count trace
      arrivals = let c = count-event is_arrival (started s) trace in omega arith

      starts : start_count n (started s ∷ trace) ≡ cond (is_number s.packet) 1 0 + start_count n trace
      starts = count-event (is_start_with n) (started s) trace

      at_home : waits s.packet.link s.packet.stamped.flow trace ≡ cond (is_number s.packet) 1 0 + counted (drop 1 (backlog s.packet.link s.packet.stamped.flow trace))
      at_home = counted-first s.packet (backlog s.packet.link s.packet.stamped.flow trace) first

      Goal : Type 0
      Goal = start_count n (started s ∷ trace) + (waits l f (started s ∷ trace) + cond (link_eq l m && nat_eq f g) 0 (waits m g (started s ∷ trace))) ≤ most (started s ∷ trace)

      -- Once the packet starts it waits nowhere.
      gone : is_number s.packet ≡ true → (k : Link) (j : ℕ) → waits k j (started s ∷ trace) ≡ 0
      gone e k j = by_place (is_of k j s.packet) refl
        where
          by_place : (b : Bool) → is_of k j s.packet ≡ b → counted (cond b (drop 1 (backlog k j trace)) (backlog k j trace)) ≡ 0
          by_place true is =
              let one : cond {A = ℕ} (is_number s.packet) 1 0 ≡ 1 = ap {B = ℕ} (λ b. cond b 1 0) e in
              let all = counted-first s.packet (backlog k j trace) (own-first k j s trace first is) in
              let before = h k j k j in
              let bound = most-one trace in
              omega arith
          by_place false is =
              let one : cond {A = ℕ} (is_number s.packet) 1 0 ≡ 1 = ap {B = ℕ} (λ b. cond b 1 0) e in
              let before = h s.packet.link s.packet.stamped.flow k j in
              let counts : cond (link_eq s.packet.link k && nat_eq s.packet.stamped.flow j) 0 (waits k j trace) ≡ waits k j trace = ap (λ b. cond b 0 (waits k j trace)) is in
              let bound = most-one trace in
              omega (arith, one, before, counts, bound, at_home)

      by : (b : Bool) → is_number s.packet ≡ b → Goal
      by true e =
          let one : cond {A = ℕ} (is_number s.packet) 1 0 ≡ 1 = ap {B = ℕ} (λ b. cond b 1 0) e in
          let here = gone e l f in
          let there = less (link_eq l m && nat_eq f g) (waits m g (started s ∷ trace)) 0 (let z = gone e m g in omega arith) in
          let before = h s.packet.link s.packet.stamped.flow s.packet.link s.packet.stamped.flow in
          let bound : most (started s ∷ trace) ≡ most trace = ap {B = ℕ} (λ k. cond (nat_lt n k) 1 0) arrivals in
          let zero' : cond {A = ℕ} (link_eq l m && nat_eq f g) 0 0 ≡ 0 = nothing (link_eq l m && nat_eq f g) in
          omega (arith, starts, one, here, there, before, bound, zero', at_home, most-one trace)
        where
          nothing : (b : Bool) → cond {A = ℕ} b 0 0 ≡ 0
          nothing true = refl
          nothing false = refl
      by false e =
          quiet (started s) trace e refl (λ k j. fewer k j (is_of k j s.packet)) h l f m g
        where
          fewer : (k : Link) (j : ℕ) (b : Bool) → counted (cond b (drop 1 (backlog k j trace)) (backlog k j trace)) ≤ waits k j trace
          fewer k j true = counted-drop (backlog k j trace)
          fewer k j false = omega arith

  at-most : (trace : List Event) → IsProper trace → AtMost trace
  at-most [] h = λ l f m g. none (link_eq l m && nat_eq f g) (nat_lt n 0)
    where
      none : (b c : Bool) → 0 + (0 + cond b 0 0) ≤ cond c 1 0
      none true c = omega arith
      none false c = omega arith
  at-most (opened l ∷ trace) h = quiet (opened l) trace refl refl (λ k j. omega arith) (at-most trace h)
  at-most (arrived p ∷ trace) h = arrive p trace h.0 (at-most trace h.1)
  at-most (started s ∷ trace) h = start s trace h.0 (at-most trace h.2)
  at-most (lost l f ∷ trace) h = quiet (lost l f) trace refl refl (λ k j. omega arith) (at-most trace h)
  at-most (refused l f ∷ trace) h = quiet (refused l f) trace refl refl (λ k j. omega arith) (at-most trace h)
  at-most (discarded f ∷ trace) h = quiet (discarded f) trace refl refl (λ k j. cleared k j (nat_eq f j)) (at-most trace h)
    where
      cleared : (k : Link) (j : ℕ) (b : Bool) → counted (cond b [] (backlog k j trace)) ≤ waits k j trace
      cleared k j true = omega arith
      cleared k j false = omega arith
  at-most (collected at ∷ trace) h = quiet (collected at) trace refl refl (λ k j. omega arith) (at-most trace h)

-- A packet starts at most once.
pub starts-once : (number : ℕ) (calls : List Call) → start_count number (trace_of calls) ≤ 1
starts-once number calls = proper (trace_of calls) (trace-proper calls)
  where
    proper : (trace : List Event) → IsProper trace → start_count number trace ≤ 1
    proper trace h = let all = at-most number trace h (shared 0) 0 (shared 0) 0 in let bound = most-one number trace in omega arith
