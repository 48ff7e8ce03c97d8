-- What starts while packets are still to be given that were due by an earlier clock: they stay first.
use Rattle.dn_replay.proofs.Words.{All, All-head, All-tail, Bool, Delivery, Equal, Event, FlowKey, Greater, IsPast, Less, Link, List, MatchOrdering, None, Option, Ordered, Ordering, Packet}
use Rattle.dn_replay.proofs.Words.{Settings, Some, Start, Target, Traffic, Treatment, Verdict, [], accept_in, after_event, after_verdict_in, ap, arith, arrived, backlog, cond, delivery_of, drop}
use Rattle.dn_replay.proofs.Words.{false, first_start, first_start-of, first_start_in, free, get_or, in_order, inl, inr, is_given_before, is_lt, is_of, join_in, length, link_eq, links, nat_cmp}
use Rattle.dn_replay.proofs.Words.{nat_eq, nat_le, next_packet, next_packet-first, next_start, next_start-packet, next_start_in, no_target, opened, opening_in, option_map, ordering_then, own}
use Rattle.dn_replay.proofs.Words.{ranks, refl, settle, settle_in, settle_most_in, settled-traffic, shared, slice_get_within, sooner, start_at, started, suc, sym, takes, traffic, traffic-cons}
use Rattle.dn_replay.proofs.Words.{true, verdict_in, verdict_reply_in, waiting, waiting_all, waiting_all_in, waiting_in, with_given, zero, ℕ, ◌&&◌, ◌++◌, ◌+◌, ◌<◌, ◌∙◌, ◌∷◌, ◌≡◌, ◌≤◌, ◌⊎◌}
use Rattle.dn_types.specs.Trace.{Accepted}

-- ---- The order of deliveries

after-then : (x y m n : ℕ) (a b rest : Ordering) → MatchOrdering a (x < y) (x ≡ y) (y < x) → MatchOrdering b (m < n) (m ≡ n) (n < m) → y ≤ x → (x ≡ y → n < m)
    → is_lt (ordering_then a (ordering_then b rest)) ≡ false
after-then x y m n Less b rest h k late level = absurd (omega arith)
after-then x y m n Equal Less rest h k late level = let more = level h in absurd (omega (arith, more, k))
after-then x y m n Equal Equal rest h k late level = let more = level h in absurd (omega (arith, more, k))
after-then x y m n Equal Greater rest h k late level = refl
after-then x y m n Greater b rest h k late level = refl

-- A delivery comes after one that is due no later, and has a lower number where they are due at once.
comes-after : (d e : Delivery) → e.due ≤ d.due → (d.due ≡ e.due → e.packet < d.packet) → is_given_before d e ≡ false
comes-after d e late level =
    after-then d.due e.due d.packet e.packet (nat_cmp d.due e.due) (nat_cmp d.packet e.packet) (ordering_then (nat_cmp d.flow e.flow) (nat_cmp d.start e.start))
    (ranks d.due e.due) (ranks d.packet e.packet) late level

put-behind : (d : Delivery) (given ds : List Delivery) → All (λ e. is_given_before d e ≡ false) given → in_order d (given ++ ds) ≡ given ++ in_order d ds
put-behind d [] ds h = refl
put-behind d (e ∷ given) ds h =
    rw (All-head (λ e. is_given_before d e ≡ false) e given h)
    (ap (λ (l : List Delivery). e ∷ l) (put-behind d given ds (All-tail (λ e. is_given_before d e ≡ false) e given h)))

-- ---- Starts after a clock

module _ (clock : ℕ) where
  -- A link with a backlog is free later than the clock.
  abbrev pub IsBusy : List Event → Type 0
  IsBusy t = (link : Link) (flow : ℕ) → 0 < length (backlog link flow t) → clock < free link t

  pub next-later : (set : Settings) (at : ℕ) (link : Link) (t : List Event) (s : Start) → IsBusy t → next_start set at link t ≡ Some s → clock < s.moment
  next-later set at link t s busy e =
      let first = next_packet-first link t s.packet (next_start-packet set at link t s e) in
      let late = busy link first.0 (slice_get_within (backlog link first.0 t) 0 s.packet first.1) in
      let moment = by_test (nat_le (free link t) at) (next_packet link t) e in
      omega (arith, late, moment)
    where
      by_test : (b : Bool) (o : Option Accepted) → cond b (option_map (λ p. start_at set link p (free link t)) o) None ≡ Some s → free link t ≤ s.moment
      by_test false o e = absurd cc
      by_test true None e = absurd cc
      by_test true (Some p) e = let same : start_at set link p (free link t) ≡ s = cc in let moment = ap (λ (x : Start). x.moment) same in omega arith

  busy-more : (s : Start) (t : List Event) → clock < s.moment → IsBusy t → IsBusy (started s ∷ t)
  busy-more s t later busy link flow some = by (link_eq s.packet.link link) (is_of link flow s.packet) some
    where
      fewer : (c : Bool) (q : List Accepted) → 0 < length (cond c (drop 1 q) q) → 0 < length q
      fewer true [] h = absurd (omega arith)
      fewer true (x ∷ q) h = omega arith
      fewer false q h = h

      by : (b c : Bool) → 0 < length (cond c (drop 1 (backlog link flow t)) (backlog link flow t)) → clock < cond b (s.moment + s.transmission) (free link t)
      by true c some = omega (arith, later)
      by false c some = busy link flow (fewer c (backlog link flow t) some)

-- ---- One event

module _ (clock count : ℕ) (given : List Delivery) (past : All (IsPast clock count) given) where
  -- A start later than the clock is due after those given, and so is one at the clock of a packet that was accepted after them.
  abbrev IsLater : Start → Type 0
  IsLater s = (clock < s.moment) ⊎ ((clock ≤ s.moment) × (count ≤ s.packet.packet))

  later-behind : (s : Start) (last : ℕ) → IsLater s → All (λ e. is_given_before (delivery_of Ordered s last) e ≡ false) given
  later-behind s last (inl later) = λ k e lt.
      let due = (past k e lt).0 in
      comes-after (delivery_of Ordered s last) (get_or given k e) (omega (arith, due, later)) (λ same. absurd (omega (arith, due, later, same)))
  later-behind s last (inr (at, number)) = λ k e lt.
      let due = (past k e lt).0 in
      let below = (past k e lt).1 in
      comes-after (delivery_of Ordered s last) (get_or given k e) (omega (arith, due, at)) (λ same. omega (arith, below, number))

  started-behind : (s : Start) (x : Traffic) → IsLater s → after_event Ordered (started s) (with_given given x) ≡ with_given given (after_event Ordered (started s) x)
  started-behind s x later =
      ap (λ (ds : List Delivery). record (after_event Ordered (started s) x) { undelivered = ds })
      (put-behind (delivery_of Ordered s (x.last_due s.packet.link)) given x.undelivered (later-behind s (x.last_due s.packet.link) later))

  -- ---- Settling

  next-behind : (set : Settings) (at : ℕ) (link : Link) (t : List Event) → next_start_in set at link (with_given given (traffic Ordered t)) ≡ next_start set at link t
  next-behind set at (own n f) t = refl
  next-behind set at (shared n) t = refl

  first-behind : (set : Settings) (at : ℕ) (ls : List Link) (t : List Event) → first_start_in set at ls (with_given given (traffic Ordered t)) ≡ first_start set at ls t
  first-behind set at [] t = refl
  first-behind set at (link ∷ ls) t =
      ap (λ (o : Option Start). sooner o (first_start_in set at ls (with_given given (traffic Ordered t)))) (next-behind set at link t)
      ∙ ap (λ (o : Option Start). sooner (next_start set at link t) o) (first-behind set at ls t)

  waiting-behind : (ls : List Link) (t : List Event) → waiting_all_in ls (with_given given (traffic Ordered t)) ≡ waiting_all ls t
  waiting-behind [] t = refl
  waiting-behind (link ∷ ls) t = ap (λ k. waiting link t + k) (waiting-behind ls t)

  settle-behind : (most : ℕ) (set : Settings) (at : ℕ) (t : List Event) → IsBusy clock t
      → settle_most_in Ordered most set at (with_given given (traffic Ordered t)) ≡ with_given given (traffic Ordered (settle most set at t))
  settle-behind zero set at t busy = refl
  settle-behind (suc most) set at t busy =
      ap (λ (o : Option Start). elim o as (λ _. Traffic) [
        | None ↦ with_given given (traffic Ordered t)
        | Some s ↦ settle_most_in Ordered most set at (after_event Ordered (started s) (with_given given (traffic Ordered t)))
      ]) (first-behind set at (links t) t)
      ∙ step (first_start set at (links t) t) refl (λ u h. settle-behind most set at u h)
    where
      step : (o : Option Start) → first_start set at (links t) t ≡ o
          → ((u : List Event) → IsBusy clock u → settle_most_in Ordered most set at (with_given given (traffic Ordered u)) ≡ with_given given (traffic Ordered (settle most set at u)))
          → elim o as (λ _. Traffic) [
            | None ↦ with_given given (traffic Ordered t)
            | Some s ↦ settle_most_in Ordered most set at (after_event Ordered (started s) (with_given given (traffic Ordered t)))
          ] ≡ with_given given (traffic Ordered (elim o as (λ _. List Event) [ None ↦ t | Some s ↦ settle most set at (started s ∷ t) ]))
      step None e rest = refl
      step (Some s) e rest =
          let of = first_start-of set at (links t) t s e in
          let later = next-later clock set at of.0 t s busy of.1 in
          ap (λ (x : Traffic). settle_most_in Ordered most set at x) (started-behind s (traffic Ordered t) (inl later) ∙ ap (with_given given) (sym (traffic-cons Ordered (started s) t)))
          ∙ rest (started s ∷ t) (busy-more clock s t later busy)

  pub settled-behind : (set : Settings) (at : ℕ) (t : List Event) → IsBusy clock t
      → settle_in Ordered set at (with_given given (traffic Ordered t)) ≡ with_given given (settle_in Ordered set at (traffic Ordered t))
  settled-behind set at t busy =
      ap (λ most. settle_most_in Ordered most set at (with_given given (traffic Ordered t))) (waiting-behind (links t) t)
      ∙ settle-behind (waiting_all (links t) t) set at t busy
      ∙ ap (with_given given) (settled-traffic Ordered set at t)

  -- ---- A Submit

  pub verdict-behind : (known : List FlowKey) (target : Target) (packet : Packet) (how : Option Treatment) (x : Traffic)
      → verdict_in known target packet how (with_given given x) ≡ verdict_in known target packet how x
  verdict-behind known target packet None x = refl
  verdict-behind known target packet (Some how) x = refl

  pub reply-behind : (at : ℕ) (v : Verdict) (x : Traffic) → verdict_reply_in at v (with_given given x) ≡ verdict_reply_in at v x
  reply-behind at no_target x = refl
  reply-behind at _ x = refl

  opened-behind : (b : Bool) (link : Link) (x : Traffic)
      → cond b (after_event Ordered (opened link) (with_given given x)) (with_given given x) ≡ with_given given (cond b (after_event Ordered (opened link) x) x)
  opened-behind true link x = refl
  opened-behind false link x = refl

  opened-accepted : (b : Bool) (link : Link) (x : Traffic) → count ≤ x.accepted → count ≤ (cond b (after_event Ordered (opened link) x) x).accepted
  opened-accepted true link x h = omega (arith, h)
  opened-accepted false link x h = h

  join-behind : (set : Settings) (at : ℕ) (p : Accepted) (x : Traffic) → clock ≤ at → count ≤ p.packet
      → join_in Ordered set at p (with_given given x) ≡ with_given given (join_in Ordered set at p x)
  join-behind set at p x late number = by (nat_le (x.free p.link) at)
    where
      by : (b : Bool) → cond b (after_event Ordered (started (start_at set p.link p at)) (after_event Ordered (arrived p) (with_given given x))) (after_event Ordered (arrived p) (with_given given x))
          ≡ with_given given (cond b (after_event Ordered (started (start_at set p.link p at)) (after_event Ordered (arrived p) x)) (after_event Ordered (arrived p) x))
      by true = started-behind (start_at set p.link p at) (after_event Ordered (arrived p) x) (inr (late, number))
      by false = refl

  pub after_verdict-behind : (set : Settings) (at : ℕ) (packet : Packet) (v : Verdict) (x : Traffic) → clock ≤ at → count ≤ x.accepted
      → after_verdict_in Ordered set at packet v (with_given given x) ≡ with_given given (after_verdict_in Ordered set at packet v x)
  after_verdict-behind set at packet (takes link flow how) x late number =
      let b = nat_eq (waiting_in link x) 0 && nat_le (x.free link) at in
      let y = opening_in Ordered link at x in
      ap (λ (z : Traffic). join_in Ordered set at (accept_in link packet flow how z) z) (opened-behind b link x)
      ∙ join-behind set at (accept_in link packet flow how y) y late (opened-accepted b link x number)
  after_verdict-behind set at packet _ x late number = refl
