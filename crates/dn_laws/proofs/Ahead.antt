-- What a link sends while a packet waits for it: those that were ahead of the packet, one after the other.
use Rattle.dn_laws.proofs.Words.{Accepted, All, All-head, All-nil, All-push, All-tail, Bool, Event, Link, List, Some, Start, [], accepted_count, and_from, ap, append_assoc, arith, arrived}
use Rattle.dn_laws.proofs.Words.{backlog, collected, cond, discarded, drop, eq-eqb, false, free, inl, inr, is_arrival, is_of, link_eq, lost, nat_eq, opened, own, refl, refused, sending, slice_get}
use Rattle.dn_laws.proofs.Words.{started, starting, subst, sym, true, ℕ, ⊎_elim, ⊤, ◌&&◌, ◌++◌, ◌+◌, ◌<◌, ◌∙◌, ◌∷◌, ◌≡◌, ◌≢◌, ◌⊎◌}
use Rattle.dn_types.proofs.{Bounded.first-all, Fifo.IsProper, Fifo.append-none, Fifo.own-first, Giving.count-event, Ordered.IsHome, Ordered.suffix-proper, PacketCounts.waiting-below}
use Rattle.dn_types.proofs.{Settled.link_eq-refl, Settled.link_eq-true}
use Rattle.dn_laws.proofs.EachWaiting.{each-pushed, each-left, each-cleared}
use Rattle.dn_laws.proofs.Timely.{count-later}

-- Each start is when its link is free, or of the packet that has just arrived, and on a link of its flow.
abbrev pub IsPrompt : List Event → Type 0
IsPrompt [] = ⊤
IsPrompt (started s ∷ trace) = ((s.moment ≡ free s.packet.link trace) ⊎ ((older : List Event) × (trace ≡ arrived s.packet ∷ older)))
    × IsHome s.packet.link s.packet.stamped.flow × IsPrompt trace
IsPrompt (_ ∷ trace) = IsPrompt trace

module _ (p : Accepted) (before : List Event) where
  abbrev pub IsIt : Accepted → Type 0
  IsIt q = q.packet ≡ p.packet → q ≡ p

  -- What waits later with the number of an arrival is that packet.
  pub one-of-number : (link : Link) (flow : ℕ) (g : List Event) → IsProper (g ++ (arrived p ∷ before)) → All IsIt (backlog link flow (g ++ (arrived p ∷ before)))
  one-of-number link flow [] h = each-pushed IsIt (is_of link flow p) (backlog link flow before) p (λ _ e. refl) old
    where
      old : All IsIt (backlog link flow before)
      old = λ k x lt same. let low = waiting-below (accepted_count before) link flow before h.1 (omega arith) k x lt in absurd (omega (arith, low, h.0, same))
  one-of-number link flow (arrived q ∷ g) h = each-pushed IsIt (is_of link flow q) (backlog link flow (g ++ (arrived p ∷ before))) q (λ _. other) (one-of-number link flow g h.1)
    where
      other : q.packet ≡ p.packet → q ≡ p
      other same =
          absurd (omega (arith, same, h.0, (suffix-proper g (arrived p ∷ before) h.1).0, count-later g (arrived p ∷ before), count-event is_arrival (arrived p) before))
  one-of-number link flow (started s ∷ g) h = each-left IsIt (is_of link flow s.packet) (backlog link flow (g ++ (arrived p ∷ before))) (one-of-number link flow g h.2)
  one-of-number link flow (discarded f ∷ g) h = each-cleared IsIt (nat_eq f flow) (backlog link flow (g ++ (arrived p ∷ before))) (one-of-number link flow g h)
  one-of-number link flow (_ ∷ g) h = one-of-number link flow g h

middle : (P : Accepted → Type 0) (xs : List Accepted) (q : Accepted) (rest : List Accepted) → All P (xs ++ q ∷ rest) → P q
middle P [] q rest h = All-head P q rest h
middle P (x ∷ xs) q rest h = middle P xs q rest (All-tail P x (xs ++ q ∷ rest) h)

module _ (pipe flow : ℕ) (p : Accepted) (before : List Event) (on : p.link ≡ own pipe flow) (of : p.stamped.flow ≡ flow) where
  abbrev IsOther : Accepted → Type 0
  IsOther q = q.packet ≢ p.packet

  -- The packet stands behind those that were ahead of it and have not started, and the others have been sent without a pause.
  pub record StillWaits (g : List Event) : Type 0 where
    pub rest : List Accepted
    pub behind : List Accepted
    pub stands : backlog (own pipe flow) flow (g ++ (arrived p ∷ before)) ≡ rest ++ p ∷ behind
    pub sent : backlog (own pipe flow) flow before ≡ starting (own pipe flow) g ++ rest
    pub busy : free (own pipe flow) (g ++ (arrived p ∷ before)) ≡ free (own pipe flow) before + sending (own pipe flow) g
    pub others : All (λ q. q.packet ≢ p.packet) behind

  -- It is no longer there.
  abbrev pub IsGone : List Event → Type 0
  IsGone g = All (λ q. q.packet ≢ p.packet) (backlog (own pipe flow) flow (g ++ (arrived p ∷ before)))

  abbrev Stands : List Event → Type 0
  Stands g = StillWaits g ⊎ IsGone g

  arrive : (q : Accepted) (g : List Event) → IsProper (arrived q ∷ (g ++ (arrived p ∷ before))) → Stands g → Stands (arrived q ∷ g)
  arrive q g h stands = ⊎_elim (λ w. inl (more (is_of (own pipe flow) flow q) refl w))
      (λ gone. inr (each-pushed IsOther (is_of (own pipe flow) flow q) (backlog (own pipe flow) flow (g ++ (arrived p ∷ before))) q (λ _. other) gone)) stands
    where
      other : q.packet ≢ p.packet
      other same =
          omega (arith, same, h.0, (suffix-proper g (arrived p ∷ before) h.1).0, count-later g (arrived p ∷ before), count-event is_arrival (arrived p) before)

      more : (b : Bool) → is_of (own pipe flow) flow q ≡ b → StillWaits g → StillWaits (arrived q ∷ g)
      more true e w = record {
        rest = w.rest;
        behind = w.behind ++ q ∷ [];
        stands = ap (λ b. cond b (backlog (own pipe flow) flow (g ++ (arrived p ∷ before)) ++ q ∷ []) (backlog (own pipe flow) flow (g ++ (arrived p ∷ before)))) e
            ∙ ap (λ (qs : List Accepted). qs ++ q ∷ []) w.stands
            ∙ append_assoc w.rest (p ∷ w.behind) (q ∷ []);
        sent = w.sent;
        busy = w.busy;
        others = All-push IsOther w.behind q w.others other;
      }
      more false e w = record {
        rest = w.rest;
        behind = w.behind;
        stands = ap (λ b. cond b (backlog (own pipe flow) flow (g ++ (arrived p ∷ before)) ++ q ∷ []) (backlog (own pipe flow) flow (g ++ (arrived p ∷ before)))) e ∙ w.stands;
        sent = w.sent;
        busy = w.busy;
        others = w.others;
      }

  discard : (f : ℕ) (g : List Event) → Stands g → Stands (discarded f ∷ g)
  discard f g stands = ⊎_elim (λ w. by (nat_eq f flow) refl w) (λ gone. inr (each-cleared IsOther (nat_eq f flow) (backlog (own pipe flow) flow (g ++ (arrived p ∷ before))) gone)) stands
    where
      by : (b : Bool) → nat_eq f flow ≡ b → StillWaits g → Stands (discarded f ∷ g)
      by true e w = inr (subst (λ b. All IsOther (cond b [] (backlog (own pipe flow) flow (g ++ (arrived p ∷ before))))) (sym e) (All-nil IsOther))
      by false e w = inl record {
        rest = w.rest;
        behind = w.behind;
        stands = ap (λ b. cond b [] (backlog (own pipe flow) flow (g ++ (arrived p ∷ before)))) e ∙ w.stands;
        sent = w.sent;
        busy = w.busy;
        others = w.others;
      }

  quiet : (e : Event) (g : List Event) → backlog (own pipe flow) flow (e ∷ g ++ (arrived p ∷ before)) ≡ backlog (own pipe flow) flow (g ++ (arrived p ∷ before)) →
      starting (own pipe flow) (e ∷ g) ≡ starting (own pipe flow) g → free (own pipe flow) (e ∷ g ++ (arrived p ∷ before)) ≡ free (own pipe flow) (g ++ (arrived p ∷ before)) →
      sending (own pipe flow) (e ∷ g) ≡ sending (own pipe flow) g → Stands g → Stands (e ∷ g)
  quiet e g b s f n stands = ⊎_elim (λ w. inl record {
    rest = w.rest;
    behind = w.behind;
    stands = b ∙ w.stands;
    sent = w.sent ∙ ap (λ (qs : List Accepted). qs ++ w.rest) (sym s);
    busy = omega (arith, f, n, w.busy);
    others = w.others;
  }) (λ gone. inr (subst (λ (qs : List Accepted). All IsOther qs) (sym b) gone)) stands

  start : (s : Start) (g : List Event) → IsProper (started s ∷ (g ++ (arrived p ∷ before))) → IsPrompt (started s ∷ (g ++ (arrived p ∷ before))) → Stands g → Stands (started s ∷ g)
  start s g h prompt stands = ⊎_elim (λ w. by (link_eq s.packet.link (own pipe flow)) refl w)
      (λ gone. inr (each-left IsOther (is_of (own pipe flow) flow s.packet) (backlog (own pipe flow) flow (g ++ (arrived p ∷ before))) gone)) stands
    where
      by : (b : Bool) → link_eq s.packet.link (own pipe flow) ≡ b → StillWaits g → Stands (started s ∷ g)
      by false e w = quiet (started s) g (ap (λ b. cond (b && nat_eq s.packet.stamped.flow flow) (drop 1 (backlog (own pipe flow) flow (g ++ (arrived p ∷ before))))
          (backlog (own pipe flow) flow (g ++ (arrived p ∷ before)))) e)
          (ap (λ b. cond b (starting (own pipe flow) g ++ s.packet ∷ []) (starting (own pipe flow) g)) e)
          (ap {B = ℕ} (λ b. cond b (s.moment + s.transmission) (free (own pipe flow) (g ++ (arrived p ∷ before)))) e)
          (let none = ap {B = ℕ} (λ b. cond b s.transmission 0 + sending (own pipe flow) g) e in omega arith)
          (inl w)
      by true e w = next w.rest w.behind w.stands w.sent w.others
        where
          same : s.packet.link ≡ own pipe flow
          same = link_eq-true s.packet.link (own pipe flow) e

          home : s.packet.stamped.flow ≡ flow
          home = sym (subst (λ (l : Link). IsHome l s.packet.stamped.flow) same prompt.1)

          mine : is_of (own pipe flow) flow s.packet ≡ true
          mine = and_from (link_eq s.packet.link (own pipe flow)) (nat_eq s.packet.stamped.flow flow) e (eq-eqb s.packet.stamped.flow flow home)

          first : slice_get (backlog (own pipe flow) flow (g ++ (arrived p ∷ before))) 0 ≡ Some s.packet
          first = own-first (own pipe flow) flow s (g ++ (arrived p ∷ before)) h.0 mine

          drops : backlog (own pipe flow) flow (started s ∷ (g ++ (arrived p ∷ before))) ≡ drop 1 (backlog (own pipe flow) flow (g ++ (arrived p ∷ before)))
          drops = ap (λ b. cond b (drop 1 (backlog (own pipe flow) flow (g ++ (arrived p ∷ before)))) (backlog (own pipe flow) flow (g ++ (arrived p ∷ before)))) mine

          next : (rest behind : List Accepted) → backlog (own pipe flow) flow (g ++ (arrived p ∷ before)) ≡ rest ++ p ∷ behind →
              backlog (own pipe flow) flow before ≡ starting (own pipe flow) g ++ rest → All (λ q. q.packet ≢ p.packet) behind → Stands (started s ∷ g)
          next [] behind stands sent others = inr (subst (λ (qs : List Accepted). All IsOther qs) (sym (drops ∙ ap (λ (qs : List Accepted). drop 1 qs) stands)) others)
          next (q ∷ rest) behind stands sent others = inl record {
            rest = rest;
            behind = behind;
            stands = drops ∙ ap (λ (qs : List Accepted). drop 1 qs) stands;
            sent = sent ∙ ap (λ (x : Accepted). starting (own pipe flow) g ++ x ∷ rest) it ∙ sym (append_assoc (starting (own pipe flow) g) (s.packet ∷ []) rest)
                ∙ ap (λ b. cond b (starting (own pipe flow) g ++ s.packet ∷ []) (starting (own pipe flow) g) ++ rest) (sym e);
            busy =
                let now = ap {B = ℕ} (λ b. cond b (s.moment + s.transmission) (free (own pipe flow) (g ++ (arrived p ∷ before)))) e in
                let more = ap {B = ℕ} (λ b. cond b s.transmission 0 + sending (own pipe flow) g) e in
                let at = at_free in
                omega (arith, w.busy, now, more, at);
            others = others;
          }
            where
              it : q ≡ s.packet
              it = let some : slice_get (q ∷ (rest ++ p ∷ behind)) 0 ≡ Some s.packet = ap (λ (qs : List Accepted). slice_get qs 0) (sym stands) ∙ first in cc

              low : s.packet.packet < accepted_count before
              low =
                  let all = subst (λ (qs : List Accepted). All (λ x. x.packet < accepted_count before) qs) sent
                  (waiting-below (accepted_count before) (own pipe flow) flow before (suffix-proper g (arrived p ∷ before) h.2).1 (omega arith)) in
                  let of_it = middle (λ x. x.packet < accepted_count before) (starting (own pipe flow) g) q rest all in
                  subst (λ (x : Accepted). x.packet < accepted_count before) it of_it

              none : (older : List Event) → g ++ (arrived p ∷ before) ≡ arrived s.packet ∷ older → ⊥
              none older is =
                  let number = (subst IsProper is h.2).0 in
                  let counts = ap (λ (t : List Event). accepted_count t) is in
                  let one = count-event is_arrival (arrived s.packet) older in
                  let here = count-event is_arrival (arrived p) before in
                  let below = low in
                  omega (arith, number, counts, one, count-later g (arrived p ∷ before), here, below)

              at_free : s.moment ≡ free (own pipe flow) (g ++ (arrived p ∷ before))
              at_free = ⊎_elim (λ is. is ∙ ap (λ (l : Link). free l (g ++ (arrived p ∷ before))) same)
                  (λ (new : (older : List Event) × (g ++ (arrived p ∷ before) ≡ arrived s.packet ∷ older)). absurd (none new.0 new.1)) prompt.0

  pub stands : (g : List Event) → IsProper (g ++ (arrived p ∷ before)) → IsPrompt (g ++ (arrived p ∷ before)) → Stands g
  stands [] h prompt = inl record {
    rest = backlog (own pipe flow) flow before;
    behind = [];
    stands = ap (λ b. cond b (backlog (own pipe flow) flow before ++ p ∷ []) (backlog (own pipe flow) flow before)) here;
    sent = refl;
    busy = omega arith;
    others = All-nil IsOther;
  }
    where
      here : is_of (own pipe flow) flow p ≡ true
      here = and_from (link_eq p.link (own pipe flow)) (nat_eq p.stamped.flow flow) (ap (λ (l : Link). link_eq l (own pipe flow)) on ∙ link_eq-refl (own pipe flow)) (eq-eqb p.stamped.flow flow of)
  stands (arrived q ∷ g) h prompt = arrive q g h (stands g h.1 prompt)
  stands (started s ∷ g) h prompt = start s g h prompt (stands g h.2 prompt.2)
  stands (discarded f ∷ g) h prompt = discard f g (stands g h prompt)
  stands (opened l ∷ g) h prompt = quiet (opened l) g refl refl refl refl (stands g h prompt)
  stands (lost l f ∷ g) h prompt = quiet (lost l f) g refl refl refl refl (stands g h prompt)
  stands (refused l f ∷ g) h prompt = quiet (refused l f) g refl refl refl refl (stands g h prompt)
  stands (collected m ∷ g) h prompt = quiet (collected m) g refl refl refl refl (stands g h prompt)

  -- Where it starts, all that were ahead have been sent.
  pub all-sent : (s : Start) (g : List Event) → IsProper (started s ∷ (g ++ (arrived p ∷ before))) → IsPrompt (started s ∷ (g ++ (arrived p ∷ before))) → s.packet.packet ≡ p.packet →
      (s.packet ≡ p) × (starting (own pipe flow) g ≡ backlog (own pipe flow) flow before) × (free (own pipe flow) (g ++ (arrived p ∷ before)) ≡ free (own pipe flow) before + sending (own pipe flow) g)
  all-sent s g h prompt same = (
    it,
    ⊎_elim (λ w. by w.rest w.behind w.stands w.sent) (λ gone. absurd (first-all IsOther s.packet (backlog (own pipe flow) flow (g ++ (arrived p ∷ before))) first gone same)) (stands g h.2 prompt.2),
    ⊎_elim (λ w. w.busy) (λ gone. absurd (first-all IsOther s.packet (backlog (own pipe flow) flow (g ++ (arrived p ∷ before))) first gone same)) (stands g h.2 prompt.2),
  )
    where
      it : s.packet ≡ p
      it = first-all (IsIt p before) s.packet (backlog s.packet.link s.packet.stamped.flow (g ++ (arrived p ∷ before))) h.0 (one-of-number p before s.packet.link s.packet.stamped.flow g h.2) same

      first : slice_get (backlog (own pipe flow) flow (g ++ (arrived p ∷ before))) 0 ≡ Some s.packet
      first = own-first (own pipe flow) flow s (g ++ (arrived p ∷ before)) h.0 mine
        where
          mine : is_of (own pipe flow) flow s.packet ≡ true
          mine = and_from (link_eq s.packet.link (own pipe flow)) (nat_eq s.packet.stamped.flow flow)
              (ap (λ (x : Accepted). link_eq x.link (own pipe flow)) it ∙ ap (λ (l : Link). link_eq l (own pipe flow)) on ∙ link_eq-refl (own pipe flow))
              (eq-eqb s.packet.stamped.flow flow (ap (λ (x : Accepted). x.stamped.flow) it ∙ of))

      by : (rest behind : List Accepted) → backlog (own pipe flow) flow (g ++ (arrived p ∷ before)) ≡ rest ++ p ∷ behind → backlog (own pipe flow) flow before ≡ starting (own pipe flow) g ++ rest →
          starting (own pipe flow) g ≡ backlog (own pipe flow) flow before
      by [] behind stands sent = sym (sent ∙ append-none (starting (own pipe flow) g))
      by (q ∷ rest) behind stands sent =
          let some : slice_get (q ∷ (rest ++ p ∷ behind)) 0 ≡ Some s.packet = ap (λ (qs : List Accepted). slice_get qs 0) (sym stands) ∙ first in
          let is : q ≡ s.packet = cc in
          let proper = suffix-proper g (arrived p ∷ before) h.2 in
          let all = subst (λ (qs : List Accepted). All (λ x. x.packet < accepted_count before) qs) sent (waiting-below (accepted_count before) (own pipe flow) flow before proper.1 (omega arith)) in
          let low = middle (λ x. x.packet < accepted_count before) (starting (own pipe flow) g) q rest all in
          let number = proper.0 in
          let mine = ap (λ (x : Accepted). x.packet) is in
          absurd (omega (arith, low, number, mine, same))
