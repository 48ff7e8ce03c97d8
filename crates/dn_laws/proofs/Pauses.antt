-- A link makes no pause while a packet waits for it.
use Rattle.dn_laws.proofs.Words.{All, All-nil, All-push, Bool, LinksMakeNoPause, List, Some, [], ap, append_assoc, append_cancel_right, arith, cond, drop, eq-eqb, false, inl, inr, length}
use Rattle.dn_laws.proofs.Words.{length-append, max, nat_eq, nat_le, nat_tests, refl, slice_get, subst, sym, true, ℕ, ⊎_elim, ⊤, ◌&&◌, ◌++◌, ◌+◌, ◌<◌, ◌∙◌, ◌∷◌, ◌≡◌, ◌≢◌, ◌≤◌, ◌⊎◌}
use Rattle.dn_laws.proofs.LawWords.{link_of, Verdict, no_target, loses, refuses, takes, verdict, accept, join, after_verdict, trace_of, effective_moment, settings, keys, key_of, flow_number}
use Rattle.dn_laws.proofs.LawWords.{start_count, is_start_with, free, reply, reply_to_verdict, waiting, start_at, Link, link_eq, Accepted, Start, Event, opened, arrived, started, lost, refused}
use Rattle.dn_laws.proofs.LawWords.{discarded, collected, is_of, backlog, is_arrival, accepted_count, starting, sending, Call, Submit, Advance, Packet, Queued, Lost, Full, NoTarget, Exhausted, Rule}
use Rattle.dn_laws.proofs.LawWords.{Target}
use Rattle.dn_laws.proofs.{Ahead.IsIt, Ahead.one-of-number, Begun.IsCaused, Begun.IsTaken, Begun.AllEvents, Begun.call-causes, DropLaws.not-exhausted, EachWaiting.each-pushed, EachWaiting.each-left}
use Rattle.dn_laws.proofs.{EachWaiting.each-cleared, Exactly.waits-for-its-link, Fates.all-stay, Rates.shape, Timely.split, Timely.queued, Timely.count-later, ToldCounts.told-few}
use Rattle.dn_laws.proofs.{Waits.behind-arrival, Waits.none-before, Waits.opening-of}
use Rattle.dn_types.proofs.{Bounded.first-all, Conserving.busy-link, Fifo.IsProper, Fifo.own-first, Giving.count-event, Once.starts-once, Ordered.suffix-proper, Ordered.trace-proper}
use Rattle.dn_types.proofs.{Ordered.of-own, Ordered.opened-backlog, Ordered.opened-free, Settled.link_eq-true, StepFacts.opened-count}

-- Each start is when its link is free, or of the packet that has just arrived where none waited.
abbrev pub IsUnpaused : List Event → Type 0
IsUnpaused [] = ⊤
IsUnpaused (started s ∷ trace) =
    ((s.moment ≡ free s.packet.link trace) ⊎ ((older : List Event) × (trace ≡ arrived s.packet ∷ older) × ((flow : ℕ) → backlog s.packet.link flow older ≡ [])))
    × IsUnpaused trace
IsUnpaused (_ ∷ trace) = IsUnpaused trace

-- A link that is free at the moment of a packet had none that waited.
none-waited : (calls : List Call) (c : Call) (p : Accepted) (older : List Event) → IsTaken calls c p older → free p.link (older ++ trace_of calls) ≤ effective_moment (c ∷ calls) →
    (flow : ℕ) → backlog p.link flow (older ++ trace_of calls) ≡ []
none-waited calls (Submit target packet moment) p older h soon flow = empty (backlog p.link flow (older ++ trace_of calls)) refl
  where
    empty : (q : List Accepted) → backlog p.link flow (older ++ trace_of calls) ≡ q → backlog p.link flow (older ++ trace_of calls) ≡ []
    empty [] e = e
    empty (x ∷ q) e =
        let parts = h.3 in
        let parts_free = ap (λ (t : List Event). free p.link t) h.3 in
        let parts_queue = ap (λ (t : List Event). backlog p.link flow t) h.3 in
        let same_free = opened-free (nat_eq (waiting (link_of target (flow_number (keys calls) (key_of target packet.tuple h.0)) h.0.pipe) (trace_of (Advance moment ∷ calls))) 0 && nat_le
        (free (link_of target (flow_number (keys calls) (key_of target packet.tuple h.0)) h.0.pipe) (trace_of (Advance moment ∷ calls)))
        (effective_moment (Advance moment ∷ calls))) p.link (link_of target (flow_number (keys calls) (key_of target packet.tuple h.0)) h.0.pipe) (trace_of (Advance moment ∷ calls)) in
        let same_queue = opened-backlog (nat_eq (waiting (link_of target (flow_number (keys calls) (key_of target packet.tuple h.0)) h.0.pipe)
        (trace_of (Advance moment ∷ calls))) 0 && nat_le (free (link_of target (flow_number (keys calls) (key_of target packet.tuple h.0)) h.0.pipe)
        (trace_of (Advance moment ∷ calls))) (effective_moment (Advance moment ∷ calls))) p.link
        (link_of target (flow_number (keys calls) (key_of target packet.tuple h.0)) h.0.pipe) flow (trace_of (Advance moment ∷ calls)) in
        let long : 0 < length (backlog p.link flow (trace_of (Advance moment ∷ calls))) = let n = ap (λ (xs : List Accepted). length xs) (sym same_queue ∙ sym parts_queue ∙ e) in omega (arith, n) in
        let busy = busy-link (Advance moment ∷ calls) p.link flow long in
        absurd (omega (arith, busy, parts_free, same_free, soon))
none-waited calls _ p older h soon flow = absurd h

unpaused-added : (calls : List Call) (c : Call) (f : List Event) → AllEvents (IsCaused calls c) (trace_of calls) f → IsProper (f ++ trace_of calls) → IsUnpaused (trace_of calls) →
    IsUnpaused (f ++ trace_of calls)
unpaused-added calls c [] all proper old = old
unpaused-added calls c (started s ∷ f) all proper old = (
  ⊎_elim (λ free_then. inl free_then.0)
      (λ on_arrival. inr (arrival f on_arrival.0 on_arrival.1.0 on_arrival.1.1 all.1 proper.1)) all.0.when,
  unpaused-added calls c f all.1 proper.2 old,
)
  where
    arrival : (f : List Event) → s.moment ≡ effective_moment (c ∷ calls) → (older : List Event) → f ≡ arrived s.packet ∷ older → AllEvents (IsCaused calls c) (trace_of calls) f →
        free s.packet.link (f ++ trace_of calls) ≤ s.moment →
        (older : List Event) × (f ++ trace_of calls ≡ arrived s.packet ∷ older) × ((flow : ℕ) → backlog s.packet.link flow older ≡ [])
    arrival f at older e all soon =
        let parts = ap (λ (r : List Event). r ++ trace_of calls) e in
        let all' : AllEvents (IsCaused calls c) (trace_of calls) (arrived s.packet ∷ older) = subst (AllEvents (IsCaused calls c) (trace_of calls)) e all in
        let there = ap (λ (t : List Event). free s.packet.link t) parts in
        (older ++ trace_of calls, parts, none-waited calls c s.packet older all'.0 (omega (arith, at, there, soon)))
unpaused-added calls c (arrived p ∷ f) all proper old = unpaused-added calls c f all.1 proper.1 old
unpaused-added calls c (_ ∷ f) all proper old = unpaused-added calls c f all.1 proper old

trace-unpaused : (calls : List Call) → IsUnpaused (trace_of calls)
trace-unpaused [] = tt
trace-unpaused (c ∷ calls) =
    let new = call-causes calls c in
    subst IsUnpaused (sym new.1) (unpaused-added calls c new.0 new.2 (subst IsProper new.1 (trace-proper (c ∷ calls))) (trace-unpaused calls))

suffix-unpaused : (later earlier : List Event) → IsUnpaused (later ++ earlier) → IsUnpaused earlier
suffix-unpaused [] earlier h = h
suffix-unpaused (started s ∷ later) earlier h = suffix-unpaused later earlier h.1
suffix-unpaused (_ ∷ later) earlier h = suffix-unpaused later earlier h

module _ (p : Accepted) (before : List Event) where
  abbrev queue : List Event → List Accepted
  queue g = backlog p.link p.stamped.flow (g ++ (arrived p ∷ before))

  abbrev IsOther : Accepted → Type 0
  IsOther q = q.packet ≢ p.packet

  record StillWaits (g : List Event) : Type 0 where
    pub rest : List Accepted
    pub behind : List Accepted
    pub stands : backlog p.link p.stamped.flow (g ++ (arrived p ∷ before)) ≡ rest ++ p ∷ behind
    pub busy : free p.link (g ++ (arrived p ∷ before)) ≡ free p.link before + sending p.link g
    pub others : All (λ q. q.packet ≢ p.packet) behind

  abbrev IsGone : List Event → Type 0
  IsGone g = All (λ q. q.packet ≢ p.packet) (backlog p.link p.stamped.flow (g ++ (arrived p ∷ before)))

  abbrev Stands : List Event → Type 0
  Stands g = StillWaits g ⊎ IsGone g

  arrive : (q : Accepted) (g : List Event) → IsProper (arrived q ∷ (g ++ (arrived p ∷ before))) → Stands g → Stands (arrived q ∷ g)
  arrive q g h stands = ⊎_elim (λ w. inl (more (is_of p.link p.stamped.flow q) refl w)) (λ gone. inr (each-pushed IsOther (is_of p.link p.stamped.flow q) (queue g) q (λ _. other) gone)) stands
    where
      other : q.packet ≢ p.packet
      other same =
          omega (arith, same, h.0, (suffix-proper g (arrived p ∷ before) h.1).0, count-later g (arrived p ∷ before), count-event is_arrival (arrived p) before)

      more : (b : Bool) → is_of p.link p.stamped.flow q ≡ b → StillWaits g → StillWaits (arrived q ∷ g)
      more true e w = record {
        rest = w.rest;
        behind = w.behind ++ q ∷ [];
        stands = ap (λ b. cond b (queue g ++ q ∷ []) (queue g)) e ∙ ap (λ (qs : List Accepted). qs ++ q ∷ []) w.stands ∙ append_assoc w.rest (p ∷ w.behind) (q ∷ []);
        busy = w.busy;
        others = All-push IsOther w.behind q w.others other;
      }
      more false e w = record {
        rest = w.rest;
        behind = w.behind;
        stands = ap (λ b. cond b (queue g ++ q ∷ []) (queue g)) e ∙ w.stands;
        busy = w.busy;
        others = w.others;
      }

  discard : (f : ℕ) (g : List Event) → Stands g → Stands (discarded f ∷ g)
  discard f g stands = ⊎_elim (λ w. by (nat_eq f p.stamped.flow) refl w) (λ gone. inr (each-cleared IsOther (nat_eq f p.stamped.flow) (queue g) gone)) stands
    where
      by : (b : Bool) → nat_eq f p.stamped.flow ≡ b → StillWaits g → Stands (discarded f ∷ g)
      by true e w = inr (subst (λ b. All IsOther (cond b [] (queue g))) (sym e) (All-nil IsOther))
      by false e w = inl record { rest = w.rest; behind = w.behind; stands = ap (λ b. cond b [] (queue g)) e ∙ w.stands; busy = w.busy; others = w.others }

  start : (s : Start) (g : List Event) → IsProper (started s ∷ (g ++ (arrived p ∷ before))) → IsUnpaused (started s ∷ (g ++ (arrived p ∷ before))) → Stands g → Stands (started s ∷ g)
  start s g h unpaused stands = ⊎_elim (λ w. by (link_eq s.packet.link p.link) refl w) (λ gone. inr (each-left IsOther (is_of p.link p.stamped.flow s.packet) (queue g) gone)) stands
    where
      by : (b : Bool) → link_eq s.packet.link p.link ≡ b → StillWaits g → Stands (started s ∷ g)
      by false e w = inl record {
        rest = w.rest;
        behind = w.behind;
        stands = ap (λ b. cond (b && nat_eq s.packet.stamped.flow p.stamped.flow) (drop 1 (queue g)) (queue g)) e ∙ w.stands;
        busy =
            let still = ap {B = ℕ} (λ b. cond b (s.moment + s.transmission) (free p.link (g ++ (arrived p ∷ before)))) e in
            let none = ap {B = ℕ} (λ b. cond b s.transmission 0 + sending p.link g) e in
            omega (arith, w.busy, still, none);
        others = w.others;
      }
      by true e w = next (is_of p.link p.stamped.flow s.packet) refl w.rest w.behind w.stands w.others
        where
          same : s.packet.link ≡ p.link
          same = link_eq-true s.packet.link p.link e

          long : (rest behind : List Accepted) → queue g ≡ rest ++ p ∷ behind → length (queue g) ≡ length rest + 1 + length behind
          long rest behind stands = let n = ap (λ (qs : List Accepted). length qs) stands in let m = length-append rest (p ∷ behind) in omega (arith, n, m)

          none : (b : Bool) → is_of p.link p.stamped.flow s.packet ≡ b → (b ≡ true → 1 < length (queue g)) → 0 < length (queue g) → (older : List Event) →
              g ++ (arrived p ∷ before) ≡ arrived s.packet ∷ older →
              backlog s.packet.link p.stamped.flow older ≡ [] → ⊥
          none b is more some older e' empty =
              let empty' : backlog p.link p.stamped.flow older ≡ [] = ap (λ (l : Link). backlog l p.stamped.flow older) (sym same) ∙ empty in
              let whole : queue g ≡ cond b ([] ++ s.packet ∷ []) [] = ap (λ (t : List Event). backlog p.link p.stamped.flow t) e' ∙ (λ i. cond (is i) (empty' i ++ s.packet ∷ []) (empty' i)) in
              count b more (ap (λ (qs : List Accepted). length qs) whole)
            where
              count : (b : Bool) → (b ≡ true → 1 < length (queue g)) → length (queue g) ≡ length (cond b (s.packet ∷ []) []) → ⊥
              count true more n = let one = more refl in omega (arith, one, n)
              count false more n = let one = some in omega (arith, one, n)

          at_free : (b : Bool) → is_of p.link p.stamped.flow s.packet ≡ b → (b ≡ true → 1 < length (queue g)) → 0 < length (queue g) → s.moment ≡ free p.link (g ++ (arrived p ∷ before))
          at_free b is more some = ⊎_elim (λ free_then. free_then ∙ ap (λ (l : Link). free l (g ++ (arrived p ∷ before))) same)
              (λ (new : (older : List Event) × (g ++ (arrived p ∷ before) ≡ arrived s.packet ∷ older) × ((flow : ℕ) → backlog s.packet.link flow older ≡ [])). absurd
              (none b is more some new.0 new.1 (new.2 p.stamped.flow))) unpaused.0

          goes-on : StillWaits g → s.moment ≡ free p.link (g ++ (arrived p ∷ before)) → free p.link (started s ∷ (g ++ (arrived p ∷ before))) ≡ free p.link before + sending p.link (started s ∷ g)
          goes-on w at =
              let now = ap {B = ℕ} (λ b. cond b (s.moment + s.transmission) (free p.link (g ++ (arrived p ∷ before)))) e in
              let more = ap {B = ℕ} (λ b. cond b s.transmission 0 + sending p.link g) e in
              omega (arith, w.busy, now, more, at)

          next : (b : Bool) → is_of p.link p.stamped.flow s.packet ≡ b → (rest behind : List Accepted) → queue g ≡ rest ++ p ∷ behind → All (λ q. q.packet ≢ p.packet) behind → Stands (started s ∷ g)
          next true is [] behind stands others = inr (subst (λ (qs : List Accepted). All IsOther qs)
              (sym (ap (λ b. cond b (drop 1 (queue g)) (queue g)) is ∙ ap (λ (qs : List Accepted). drop 1 qs) stands)) others)
          next true is (q ∷ rest) behind stands others = inl record {
            rest = rest;
            behind = behind;
            stands = ap (λ b. cond b (drop 1 (queue g)) (queue g)) is ∙ ap (λ (qs : List Accepted). drop 1 qs) stands;
            busy = goes-on w (at_free true is (λ yes'. let n = long (q ∷ rest) behind stands in omega (arith, n)) (omega (arith, long (q ∷ rest) behind stands)));
            others = others;
          }
          next false is rest behind stands others = inl record {
            rest = rest;
            behind = behind;
            stands = ap (λ b. cond b (drop 1 (queue g)) (queue g)) is ∙ stands;
            busy = goes-on w (at_free false is (λ no'. absurd cc) (let n = long rest behind stands in omega (arith, n)));
            others = others;
          }

  quiet : (e : Event) (g : List Event) → backlog p.link p.stamped.flow (e ∷ g ++ (arrived p ∷ before)) ≡ queue g →
      free p.link (e ∷ g ++ (arrived p ∷ before)) ≡ free p.link (g ++ (arrived p ∷ before)) →
      sending p.link (e ∷ g) ≡ sending p.link g → Stands g → Stands (e ∷ g)
  quiet e g b f n stands = ⊎_elim (λ w. inl record { rest = w.rest; behind = w.behind; stands = b ∙ w.stands; busy = omega (arith, f, n, w.busy); others = w.others })
      (λ gone. inr (subst (λ (qs : List Accepted). All IsOther qs) (sym b) gone)) stands

  stands : (g : List Event) → IsProper (g ++ (arrived p ∷ before)) → IsUnpaused (g ++ (arrived p ∷ before)) → Stands g
  stands [] h unpaused = inl record {
    rest = backlog p.link p.stamped.flow before;
    behind = [];
    stands = ap (λ b. cond b (backlog p.link p.stamped.flow before ++ p ∷ []) (backlog p.link p.stamped.flow before)) (of-own p);
    busy = omega arith;
    others = All-nil IsOther;
  }
  stands (arrived q ∷ g) h unpaused = arrive q g h (stands g h.1 unpaused)
  stands (started s ∷ g) h unpaused = start s g h unpaused (stands g h.2 unpaused.1)
  stands (discarded f ∷ g) h unpaused = discard f g (stands g h unpaused)
  stands (opened l ∷ g) h unpaused = quiet (opened l) g refl refl refl (stands g h unpaused)
  stands (lost l f ∷ g) h unpaused = quiet (lost l f) g refl refl refl (stands g h unpaused)
  stands (refused l f ∷ g) h unpaused = quiet (refused l f) g refl refl refl (stands g h unpaused)
  stands (collected m ∷ g) h unpaused = quiet (collected m) g refl refl refl (stands g h unpaused)

  -- Where it starts, the link has sent without a pause.
  pub none-paused : (s : Start) (g : List Event) → IsProper (started s ∷ (g ++ (arrived p ∷ before))) → IsUnpaused (started s ∷ (g ++ (arrived p ∷ before))) → s.packet.packet ≡ p.packet →
      (s.packet ≡ p) × (free p.link (g ++ (arrived p ∷ before)) ≡ free p.link before + sending p.link g)
  none-paused s g h unpaused same = (it, ⊎_elim (λ w. w.busy) (λ gone. absurd (first-all IsOther s.packet (queue g) first gone same)) (stands g h.2 unpaused.1))
    where
      it : s.packet ≡ p
      it = first-all (IsIt p before) s.packet (backlog s.packet.link s.packet.stamped.flow (g ++ (arrived p ∷ before))) h.0 (one-of-number p before s.packet.link s.packet.stamped.flow g h.2) same

      first : slice_get (backlog p.link p.stamped.flow (g ++ (arrived p ∷ before))) 0 ≡ Some s.packet
      first = own-first p.link p.stamped.flow s (g ++ (arrived p ∷ before)) h.0 (ap (λ (x : Accepted). is_of p.link p.stamped.flow x) it ∙ of-own p)

record IsTold (calls : List Call) (target : Target) (packet : Packet) (moment flow number : ℕ) : Type 0 where
  pub p : Accepted
  pub opening : List Event
  pub number_is : p.packet ≡ number
  pub none_start : starting p.link opening ≡ []
  pub none_sends : sending p.link opening ≡ 0
  pub same_free : free p.link (opening ++ trace_of (Advance moment ∷ calls)) ≡ free p.link (trace_of (Advance moment ∷ calls))
  pub joins : trace_of (Submit target packet moment ∷ calls) ≡ join (settings calls) (effective_moment (Advance moment ∷ calls)) p (opening ++ trace_of (Advance moment ∷ calls))

told-so : (rule : Rule) (calls : List Call) (target : Target) (packet : Packet) (moment at flow number : ℕ) → reply rule calls (Submit target packet moment) ≡ Queued at flow number →
    IsTold calls target packet moment flow number
told-so rule calls target packet moment at flow number e =
    let few = told-few rule calls (Submit target packet moment) (λ none. let t : Exhausted ≡ Queued at flow number = sym none ∙ e in cc) in
    by (verdict calls target packet (trace_of (Advance moment ∷ calls))) refl (sym (not-exhausted rule calls (Submit target packet moment) few) ∙ e)
  where
    by : (v : Verdict) → verdict calls target packet (trace_of (Advance moment ∷ calls)) ≡ v →
        reply_to_verdict (effective_moment (Advance moment ∷ calls)) (verdict calls target packet (trace_of (Advance moment ∷ calls)))
        (trace_of (Advance moment ∷ calls)) ≡ Queued at flow number → IsTold calls target packet moment flow number
    by no_target is e = let t : NoTarget (effective_moment (Advance moment ∷ calls)) ≡ Queued at flow number = sym
        (ap (λ (v : Verdict). reply_to_verdict (effective_moment (Advance moment ∷ calls)) v (trace_of (Advance moment ∷ calls))) is) ∙ e in absurd cc
    by (loses l f) is e = let t : Lost (effective_moment (Advance moment ∷ calls)) f ≡ Queued at flow number = sym
        (ap (λ (v : Verdict). reply_to_verdict (effective_moment (Advance moment ∷ calls)) v (trace_of (Advance moment ∷ calls))) is) ∙ e in absurd cc
    by (refuses l f) is e = let t : Full (effective_moment (Advance moment ∷ calls)) f ≡ Queued at flow number = sym
        (ap (λ (v : Verdict). reply_to_verdict (effective_moment (Advance moment ∷ calls)) v (trace_of (Advance moment ∷ calls))) is) ∙ e in absurd cc
    by (takes link f how) is e =
        let adv = trace_of (Advance moment ∷ calls) in
        let tests = nat_eq (waiting link adv) 0 && nat_le (free link adv) (effective_moment (Advance moment ∷ calls)) in
        let told : Queued (effective_moment (Advance moment ∷ calls)) f (accepted_count adv) ≡ Queued at flow number = sym
        (ap (λ (v : Verdict). reply_to_verdict (effective_moment (Advance moment ∷ calls)) v adv) is) ∙ e in
        let number_is : accepted_count adv ≡ number = cc in
        let o = opening-of tests link adv in
        let counts = ap (λ (t : List Event). accepted_count t) o.1 in
        record {
          p = accept link packet f how (o.0 ++ adv);
          opening = o.0;
          number_is = ap (λ (t : List Event). accepted_count t) (sym o.1) ∙ opened-count tests link adv ∙ number_is;
          none_start = o.2 link;
          none_sends = o.3 link;
          same_free = ap (λ (t : List Event). free link t) (sym o.1) ∙ opened-free tests link link adv;
          joins = ap (λ (v : Verdict). after_verdict (settings calls) (effective_moment (Advance moment ∷ calls)) packet v adv) is
              ∙ ap (λ (t : List Event). join (settings calls) (effective_moment (Advance moment ∷ calls)) (accept link packet f how t) t) o.1;
        }

-- How often a packet starts in a trace in which it starts.
one-start : (number : ℕ) (s : Start) (later earlier : List Event) → s.packet.packet ≡ number → start_count number earlier + 1 ≤ start_count number (later ++ started s ∷ earlier)
one-start number s [] earlier same =
    let one = count-event (is_start_with number) (started s) earlier in
    let yes' : cond {A = ℕ} (nat_eq s.packet.packet number) 1 0 ≡ 1 = ap {B = ℕ} (λ b. cond b 1 0) (eq-eqb s.packet.packet number same) in
    omega (arith, one, yes')
one-start number s (x ∷ later) earlier same = let one = count-event (is_start_with number) x (later ++ started s ∷ earlier) in let rest = one-start number s later earlier same in
    omega (arith, one, rest)

module _ (rule : Rule) (after calls : List Call) (target : Target) (packet : Packet) (moment at flow number : ℕ) (later between : List Event) (s : Start)
    (told : reply rule calls (Submit target packet moment) ≡ Queued at flow number)
    (e : trace_of (after ++ Submit target packet moment ∷ calls) ≡ later ++ started s ∷ (between ++ trace_of (Advance moment ∷ calls)))
    (same : s.packet.packet ≡ number) (j : IsTold calls target packet moment flow number) where
  added : (more : List Event) × (trace_of (after ++ Submit target packet moment ∷ calls) ≡ more ++ trace_of (Submit target packet moment ∷ calls))
  added = all-stay after (Submit target packet moment ∷ calls)

  exact : s.moment ≡ max at (free s.packet.link (between ++ trace_of (Advance moment ∷ calls)))
  exact = waits-for-its-link rule after calls target packet moment at flow number later (between ++ trace_of (Advance moment ∷ calls)) s told e same

  -- With the events since the arrival.
  by-stretch : (newer g : List Event) → trace_of (after ++ Submit target packet moment ∷ calls) ≡ newer ++ (arrived j.p ∷ (j.opening ++ trace_of (Advance moment ∷ calls))) →
      between ++ trace_of (Advance moment ∷ calls) ≡ g ++ (arrived j.p ∷ (j.opening ++ trace_of (Advance moment ∷ calls))) →
      (max at (free j.p.link (trace_of (Advance moment ∷ calls)) + sending j.p.link g) ≡ max at (free j.p.link (trace_of (Advance moment ∷ calls))) + sending j.p.link g) →
      s.moment ≡ max at (free s.packet.link (trace_of (Advance moment ∷ calls))) + sending s.packet.link between
  by-stretch newer g whole here goes =
      let shown : trace_of (after ++ Submit target packet moment ∷ calls) ≡ later ++ started s ∷ (g ++ (arrived j.p ∷ (j.opening ++ trace_of (Advance moment ∷ calls)))) = e
      ∙ ap (λ (t : List Event). later ++ started s ∷ t) here in
      let n = none-paused j.p (j.opening ++ trace_of (Advance moment ∷ calls)) s g
      (suffix-proper later (started s ∷ (g ++ (arrived j.p ∷ (j.opening ++ trace_of (Advance moment ∷ calls))))) (subst IsProper shown (trace-proper (after ++ Submit target packet moment ∷ calls))))
      (suffix-unpaused later (started s ∷ (g ++ (arrived j.p ∷ (j.opening ++ trace_of (Advance moment ∷ calls)))))
      (subst IsUnpaused shown (trace-unpaused (after ++ Submit target packet moment ∷ calls))))
      (same ∙ sym j.number_is) in
      let cut : between ≡ g ++ (arrived j.p ∷ j.opening) = append_cancel_right between (g ++ (arrived j.p ∷ j.opening)) (trace_of (Advance moment ∷ calls))
      (here ∙ sym (shape g j.opening (arrived j.p) (trace_of (Advance moment ∷ calls)))) in
      let none = none-before j.p.link g (arrived j.p ∷ j.opening) j.none_start j.none_sends in
      let sends = ap (λ (t : List Event). sending s.packet.link t) cut ∙ ap (λ (x : Accepted). sending x.link (g ++ (arrived j.p ∷ j.opening))) n.0 ∙ none.1 in
      let freed = ap (λ (t : List Event). free s.packet.link t) here ∙ ap (λ (x : Accepted). free x.link (g ++ (arrived j.p ∷ (j.opening ++ trace_of (Advance moment ∷ calls))))) n.0 ∙ n.1 in
      let old = ap (λ (x : Accepted). free x.link (trace_of (Advance moment ∷ calls))) n.0 in
      let start = exact in
      omega (arith, sends, freed, old, start, j.same_free, goes)

  by-join : (b : Bool) → nat_le (free j.p.link (j.opening ++ trace_of (Advance moment ∷ calls))) (effective_moment (Advance moment ∷ calls)) ≡ b →
      trace_of (Submit target packet moment ∷ calls) ≡ cond b (started (start_at (settings calls) j.p.link j.p
      (effective_moment (Advance moment ∷ calls))) ∷ arrived j.p ∷ (j.opening ++ trace_of (Advance moment ∷ calls))) (arrived j.p ∷ (j.opening ++ trace_of (Advance moment ∷ calls))) →
      s.moment ≡ max at (free s.packet.link (trace_of (Advance moment ∷ calls))) + sending s.packet.link between
  by-join false is joins =
      let whole = added.1 ∙ ap (λ (t : List Event). added.0 ++ t) joins in
      let found = behind-arrival j.p (j.opening ++ trace_of (Advance moment ∷ calls)) added.0 later (between ++ trace_of (Advance moment ∷ calls)) s
      (subst IsProper whole (trace-proper (after ++ Submit target packet moment ∷ calls))) (sym whole ∙ e) (same ∙ sym j.number_is) in
      let late : effective_moment (Advance moment ∷ calls) < free j.p.link (j.opening ++ trace_of (Advance moment ∷ calls)) = grind (arith, nat_tests) in
      let clock = (queued rule calls target packet moment at flow number told).0 in
      by-stretch added.0 found.0 whole found.2 (omega (arith, late, clock, j.same_free))
  by-join true is joins =
      let s0 = start_at (settings calls) j.p.link j.p (effective_moment (Advance moment ∷ calls)) in
      let parts : trace_of (after ++ Submit target packet moment ∷ calls) ≡ (added.0 ++ started s0 ∷ []) ++ (arrived j.p ∷ (j.opening ++ trace_of (Advance moment ∷ calls))) =
      added.1 ∙ ap (λ (t : List Event). added.0 ++ t) joins ∙ sym (append_assoc added.0 (started s0 ∷ []) (arrived j.p ∷ (j.opening ++ trace_of (Advance moment ∷ calls)))) in
      let found = behind-arrival j.p (j.opening ++ trace_of (Advance moment ∷ calls)) (added.0 ++ started s0 ∷ []) later (between ++ trace_of (Advance moment ∷ calls)) s
      (subst IsProper parts (trace-proper (after ++ Submit target packet moment ∷ calls))) (sym parts ∙ e) (same ∙ sym j.number_is) in
      by-stretch (added.0 ++ started s0 ∷ []) found.0 parts found.2 (alone found.0 found.1 refl)
    where
      -- It starts at once, so that the stretch is empty.
      alone : (g : List Event) → added.0 ++ started (start_at (settings calls) j.p.link j.p (effective_moment (Advance moment ∷ calls))) ∷ [] ≡ later ++ started s ∷ g → g ≡ g →
          max at (free j.p.link (trace_of (Advance moment ∷ calls)) + sending j.p.link g) ≡ max at (free j.p.link (trace_of (Advance moment ∷ calls))) + sending j.p.link g
      alone g e' refl' = ⊎_elim
          (λ (two : (g1 : List Event) × (added.0 ≡ later ++ started s ∷ g1) × (g ≡ g1 ++ started
          (start_at (settings calls) j.p.link j.p (effective_moment (Advance moment ∷ calls))) ∷ [])). absurd (twice two.0 two.1))
          (λ (one : (rest : List Event) × (started (start_at (settings calls) j.p.link j.p (effective_moment (Advance moment ∷ calls))) ∷ [] ≡ rest ++ started s ∷ g)). last one.0 one.1)
          (split added.0 (started (start_at (settings calls) j.p.link j.p (effective_moment (Advance moment ∷ calls))) ∷ []) later (started s) g e')
        where
          last : (rest : List Event) → started (start_at (settings calls) j.p.link j.p (effective_moment (Advance moment ∷ calls))) ∷ [] ≡ rest ++ started s ∷ g →
              max at (free j.p.link (trace_of (Advance moment ∷ calls)) + sending j.p.link g) ≡ max at (free j.p.link (trace_of (Advance moment ∷ calls))) + sending j.p.link g
          last [] is = let none : [] ≡ g = cc in let nothing = ap (λ (t : List Event). sending j.p.link t) (sym none) in omega (arith, nothing)
          last (x ∷ rest) is = let none : [] ≡ rest ++ started s ∷ g = cc in absurd (some rest none)
            where
              some : (rest : List Event) → [] ≡ rest ++ started s ∷ g → ⊥
              some [] h = cc
              some (y ∷ rest) h = cc

          twice : (g1 : List Event) → added.0 ≡ later ++ started s ∷ g1 → ⊥
          twice g1 h =
              let s0 = start_at (settings calls) j.p.link j.p (effective_moment (Advance moment ∷ calls)) in
              let whole : trace_of (after ++ Submit target packet moment ∷ calls) ≡ later ++ started s ∷ (g1 ++ (started s0 ∷ (arrived j.p ∷ (j.opening ++ trace_of (Advance moment ∷ calls))))) =
              added.1 ∙ (λ i. h i ++ joins i) ∙ shape later g1 (started s) (started s0 ∷ (arrived j.p ∷ (j.opening ++ trace_of (Advance moment ∷ calls)))) in
              let once = starts-once number (after ++ Submit target packet moment ∷ calls) in
              let counts = ap (λ (t : List Event). start_count number t) whole in
              let mine = one-start number s later (g1 ++ (started s0 ∷ (arrived j.p ∷ (j.opening ++ trace_of (Advance moment ∷ calls))))) same in
              let own' = one-start number s0 g1 (arrived j.p ∷ (j.opening ++ trace_of (Advance moment ∷ calls))) j.number_is in
              omega (arith, once, counts, mine, own')

pub links-make-no-pause : LinksMakeNoPause
links-make-no-pause rule after calls target packet moment at flow number later between s told e same =
    let j = told-so rule calls target packet moment at flow number told in
    by-join rule after calls target packet moment at flow number later between s told e same j
    (nat_le (free j.p.link (j.opening ++ trace_of (Advance moment ∷ calls))) (effective_moment (Advance moment ∷ calls))) refl j.joins
