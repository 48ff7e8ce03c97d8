-- A packet that was queued waits, was discarded or has started.
use Rattle.dn_laws.proofs.Words.{Accepted, Bool, Call, Event, HasStarted, IsProper, List, QueuedPacketsStay, Some, Submit, Waits, WasDiscarded, [], and-right, ap, append_assoc, arith, arrived}
use Rattle.dn_laws.proofs.Words.{backlog, cond, count_by, discarded, drop, eq-eqb, eqb-true, false, inl, inr, is_of, nat_eq, of-own, own-first, refl, slice_get, started, subst, sum_by-cons, sym}
use Rattle.dn_laws.proofs.Words.{trace-proper, trace_of, true, ℕ, ⊎_elim, ◌++◌, ◌+◌, ◌∙◌, ◌∷◌, ◌≡◌, ◌≤◌, ◌⊎◌}
use Rattle.dn_laws.proofs.Acceptance.{queued-packets-arrive}
use Rattle.dn_laws.proofs.Timely.{events-stay}

module _ (number : ℕ) where
  abbrev is-it : Accepted → Bool
  is-it q = nat_eq q.packet number

  count-cons : (q : Accepted) (qs : List Accepted)
      → count_by (λ (x : Accepted). nat_eq x.packet number) (q ∷ qs) ≡ cond (nat_eq q.packet number) 1 0 + count_by (λ (x : Accepted). nat_eq x.packet number) qs
  count-cons q qs = sum_by-cons (λ (x : Accepted). cond (nat_eq x.packet number) 1 0) q qs

  count-push : (qs : List Accepted) (q : Accepted) → count_by is-it (qs ++ q ∷ []) ≡ count_by is-it qs + cond (nat_eq q.packet number) 1 0
  count-push [] q = let one = count-cons q [] in omega (arith, one)
  count-push (x ∷ qs) q =
      let rest = count-push qs q in
      let a = count-cons x qs in
      let b = count-cons x (qs ++ q ∷ []) in
      omega (arith, rest, a, b)

  pushed : (b : Bool) (qs : List Accepted) (q : Accepted) → count_by is-it qs ≤ count_by is-it (cond b (qs ++ q ∷ []) qs)
  pushed true qs q = let one = count-push qs q in omega (arith, one)
  pushed false qs q = omega arith

  -- The start of another packet leaves it.
  dropped : (b : Bool) (qs : List Accepted) (q : Accepted) → (b ≡ true → slice_get qs 0 ≡ Some q) → nat_eq q.packet number ≡ false → count_by is-it qs ≤ count_by is-it (cond b (drop 1 qs) qs)
  dropped false qs q first other = omega arith
  dropped true [] q first other = omega arith
  dropped true (x ∷ qs) q first other =
      let some : slice_get (x ∷ qs) 0 ≡ Some q = first refl in
      let same : x ≡ q = cc in
      let one = count-cons x qs in
      let no' : cond {A = ℕ} (nat_eq x.packet number) 1 0 ≡ 0 = ap {B = ℕ} (λ b. cond b 1 0) (ap (λ (y : Accepted). nat_eq y.packet number) same ∙ other) in
      omega (arith, one, no')

  module _ (flow : ℕ) where
    abbrev Fate : List Event → Type 0
    Fate t = Waits number flow t ⊎ (WasDiscarded number flow t ⊎ HasStarted number flow t)

    -- What has ended stays so, and what waits goes on by the event.
    later : (e : Event) (t : List Event) → (Waits number flow t → Fate (e ∷ t)) → Fate t → Fate (e ∷ t)
    later e t waits fate =
        ⊎_elim waits (λ ended. inr (⊎_elim (λ gone. inl (e ∷ gone.0, gone.1, (ap (λ (r : List Event). e ∷ r) gone.2.0, gone.2.1)))
        (λ begun. inr (e ∷ begun.0, begun.1, (begun.2.0, ap (λ (r : List Event). e ∷ r) begun.2.1, begun.2.2, begun.2.3))) ended)) fate

    step : (e : Event) (t : List Event) → IsProper (e ∷ t) → Waits number flow t → Fate (e ∷ t)
    step (arrived q) t proper w = let more = pushed (is_of w.0 flow q) (backlog w.0 flow t) q in inl (w.0, omega (arith, more, w.1))
    step (started s) t proper w = by (is_of w.0 flow s.packet) refl (nat_eq s.packet.packet number) refl
      where
        by : (b : Bool) → is_of w.0 flow s.packet ≡ b → (c : Bool) → nat_eq s.packet.packet number ≡ c → Fate (started s ∷ t)
        by true e true f = inr (inr ([], t, (s, refl, eqb-true s.packet.packet number f, eqb-true s.packet.stamped.flow flow (and-right _ (nat_eq s.packet.stamped.flow flow) e))))
        by b e false f =
            let more = dropped (is_of w.0 flow s.packet) (backlog w.0 flow t) s.packet (λ mine. own-first w.0 flow s t proper.0 mine) f in
            inl (w.0, omega (arith, more, w.1))
        by false e true f =
            let same = ap (λ b. count_by (λ (x : Accepted). nat_eq x.packet number) (cond b (drop 1 (backlog w.0 flow t)) (backlog w.0 flow t))) e in
            inl (w.0, omega (arith, same, w.1))
    step (discarded f) t proper w = by (nat_eq f flow) refl
      where
        by : (b : Bool) → nat_eq f flow ≡ b → Fate (discarded f ∷ t)
        by true e = inr (inl ([], t, (ap (λ (n : ℕ). discarded n ∷ t) (eqb-true f flow e), w)))
        by false e =
            let same = ap (λ b. count_by (λ (x : Accepted). nat_eq x.packet number) (cond b [] (backlog w.0 flow t))) e in
            inl (w.0, omega (arith, same, w.1))
    step _ t proper w = inl (w.0, w.1)

    pub fates : (f t : List Event) → IsProper (f ++ t) → Waits number flow t → Fate (f ++ t)
    fates [] t proper w = inl w
    fates (e ∷ f) t proper w = later e (f ++ t) (step e (f ++ t) proper) (fates f t (tail e (f ++ t) proper) w)
      where
        tail : (e : Event) (t : List Event) → IsProper (e ∷ t) → IsProper t
        tail (arrived p) t h = h.1
        tail (started s) t h = h.2
        tail _ t h = h

-- At its arrival a packet waits.
arrives-waiting : (p : Accepted) (t : List Event) → Waits p.packet p.stamped.flow (arrived p ∷ t)
arrives-waiting p t =
    let same = ap (λ b. count_by (λ (x : Accepted). nat_eq x.packet p.packet) (cond b (backlog p.link p.stamped.flow t ++ p ∷ []) (backlog p.link p.stamped.flow t))) (of-own p) in
    let one = count-push p.packet (backlog p.link p.stamped.flow t) p in
    let yes' : cond {A = ℕ} (nat_eq p.packet p.packet) 1 0 ≡ 1 = ap {B = ℕ} (λ b. cond b 1 0) (eq-eqb p.packet p.packet refl) in
    (p.link, omega (arith, same, one, yes'))

pub all-stay : (after calls : List Call) → (added : List Event) × (trace_of (after ++ calls) ≡ added ++ trace_of calls)
all-stay [] calls = ([], refl)
all-stay (c ∷ after) calls =
    let rest = all-stay after calls in
    let one = events-stay (after ++ calls) c in
    (one.0 ++ rest.0, one.1 ∙ ap (λ (t : List Event). one.0 ++ t) rest.1 ∙ sym (append_assoc one.0 rest.0 (trace_of calls)))

abbrev HasFate : List Event → ℕ → ℕ → Type 0
HasFate trace number flow = Waits number flow trace ⊎ (WasDiscarded number flow trace ⊎ HasStarted number flow trace)

stay-from : (after calls : List Call) (p : Accepted) (newer older : List Event) → trace_of calls ≡ newer ++ (arrived p ∷ older) →
    HasFate (trace_of (after ++ calls)) p.packet p.stamped.flow
stay-from after calls p newer older here =
    subst (λ (t : List Event). HasFate t p.packet p.stamped.flow) (sym parts)
    (fates p.packet p.stamped.flow (more.0 ++ newer) (arrived p ∷ older) (subst IsProper parts (trace-proper (after ++ calls))) (arrives-waiting p older))
  where
    more : (added : List Event) × (trace_of (after ++ calls) ≡ added ++ trace_of calls)
    more = all-stay after calls

    parts : trace_of (after ++ calls) ≡ ((all-stay after calls).0 ++ newer) ++ (arrived p ∷ older)
    parts = more.1 ∙ ap (λ (t : List Event). more.0 ++ t) here ∙ sym (append_assoc more.0 newer (arrived p ∷ older))

pub queued-packets-stay : QueuedPacketsStay
queued-packets-stay rule after calls target packet moment at flow number e =
    let here = queued-packets-arrive rule calls target packet moment at flow number e in
    let fate = stay-from after (Submit target packet moment ∷ calls) here.2.0 here.0 (here.1 ++ trace_of calls) (here.2.1 ∙ append_assoc here.0 (arrived here.2.0 ∷ here.1) (trace_of calls)) in
    let trace = trace_of (after ++ Submit target packet moment ∷ calls) in
    subst (λ (f : ℕ). HasFate trace number f) here.2.3 (subst (λ (n : ℕ). HasFate trace n here.2.0.stamped.flow) here.2.2 fate)
