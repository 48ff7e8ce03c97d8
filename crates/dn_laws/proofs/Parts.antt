-- What is read off a pipe's part of a trace is what is read of the pipe's links off the trace.
use Rattle.dn_laws.proofs.Words.{Accepted, All, All-append, All-map, All-nil, All-take, Bool, Choice, Event, Link, List, Rule, Stamped, Start, [], accepted_by, ap, arith, arrival_time, arrived}
use Rattle.dn_laws.proofs.Words.{backlog, collected, cond, discarded, drop, drop-map, due_by, eqb-true, false, flow_bound, free, get_or, grown, heads, is_link_on, is_of, last_due, last_finish_tag}
use Rattle.dn_laws.proofs.Words.{least_start_tag, leb_tells, length, length-map, link_by, link_eq, link_heads, lost, map, map-append, max, min, nat_eq, opened, own, part, raised, refl, refused}
use Rattle.dn_laws.proofs.Words.{scaled, shared, stamped_by, start_by, started, subst, suc, sym, take, take-map, total, true, virtual_time, waiting, weight_sum, zero, ℕ, ⊎_elim, ⊤, ◌&&◌, ◌++◌}
use Rattle.dn_laws.proofs.Words.{◌+◌, ◌∙◌, ◌∷◌, ◌≡◌, ◌≤◌}
use Rattle.dn_laws.specs.Parts.{place}
use Rattle.dn_types.proofs.{Fifo.append-none, Settled.and-left, Settled.link_eq-true, Settling.and-right, Settling.backlog-above, Settling.backlog-own, StepFacts.clear-none}
use Rattle.dn_laws.proofs.{Isolation.false-if, OneLink.heads-above, Places.place-more, Places.place-mono, Places.place-eq}

-- An event that a reading doesn't count changes nothing, whether it is there or not.
pub skip : {X : Type 0} (read : List Event → X) (b : Bool) (e : Event) (u : List Event) → read (e ∷ u) ≡ read u → read (cond b (e ∷ u) u) ≡ read u
skip read true e u h = h
skip read false e u h = refl

total-above : (m n : ℕ) (q : ℕ → List Accepted) → n ≤ m → ((f : ℕ) → n ≤ f → q f ≡ []) → total m q ≡ total n q
total-above zero n q le none = let e : zero ≡ n = omega arith in ap (λ k. total k q) e
total-above (suc m) n q le none = ⊎_elim (λ below. lower below.1 (total-above m n q below.1 none)) (λ above. let e : suc m ≡ n = omega (arith, le, above.1) in ap (λ k. total k q) e) (leb_tells n m)
  where
    lower : n ≤ m → total m q ≡ total n q → total (suc m) q ≡ total n q
    lower below rest = let last = ap (λ (r : List Accepted). length r) (none m below) in omega (arith, rest, last)

module _ (chosen : Choice) (mine taken : ℕ → Bool) where
  abbrev pub IsFit : Link → ℕ → Type 0
  IsFit link flow = mine flow ≡ is_link_on chosen mine link

  -- The flows that pass the test are those on the pipe's links.
  abbrev pub AreFit : List Event → Type 0
  AreFit [] = ⊤
  AreFit (arrived q ∷ t) = IsFit q.link q.stamped.flow × AreFit t
  AreFit (started s ∷ t) = IsFit s.packet.link s.packet.stamped.flow × AreFit t
  AreFit (lost l f ∷ t) = IsFit l f × AreFit t
  AreFit (refused l f ∷ t) = IsFit l f × AreFit t
  AreFit (_ ∷ t) = AreFit t

  abbrev pub link' : Link → Link
  link' l = link_by (place mine) l

  abbrev pub stamped' : Stamped → Stamped
  stamped' h = stamped_by (place mine) h

  abbrev pub accepted' : Accepted → Accepted
  accepted' q = accepted_by (place mine) (place taken) q

  abbrev pub start' : Start → Start
  start' s = start_by (place mine) (place taken) s

  abbrev pub part' : List Event → List Event
  part' t = part chosen mine taken t

  pub same-link : (a b : Link) → is_link_on chosen mine a ≡ true → is_link_on chosen mine b ≡ true → link_eq (link' a) (link' b) ≡ link_eq a b
  same-link (own a f) (own b g) ha hb = ap (λ c. nat_eq a b && c) (place-eq mine f g ha hb)
  same-link (shared a) (shared b) ha hb = refl
  same-link (own a f) (shared b) ha hb = refl
  same-link (shared a) (own b g) ha hb = refl

  pub apart-link : (a b : Link) → is_link_on chosen mine a ≡ false → is_link_on chosen mine b ≡ true → link_eq a b ≡ false
  apart-link a b ha hb = false-if (link_eq a b) (λ same. let t : false ≡ true = sym ha ∙ ap (is_link_on chosen mine) (link_eq-true a b same) ∙ hb in cc)

  pub apart-flow : (g f : ℕ) → mine g ≡ false → mine f ≡ true → nat_eq g f ≡ false
  apart-flow g f hg hf = false-if (nat_eq g f) (λ same. let t : false ≡ true = sym hg ∙ ap mine (eqb-true g f same) ∙ hf in cc)

  push-part : (b : Bool) (q : Accepted) (ps : List Accepted) → cond b (map accepted' ps ++ accepted' q ∷ []) (map accepted' ps) ≡ map accepted' (cond b (ps ++ q ∷ []) ps)
  push-part true q ps = sym (map-append accepted' ps (q ∷ []))
  push-part false q ps = refl

  drop-part : (b : Bool) (ps : List Accepted) → cond b (drop 1 (map accepted' ps)) (map accepted' ps) ≡ map accepted' (cond b (drop 1 ps) ps)
  drop-part true ps = drop-map accepted' 1 ps
  drop-part false ps = refl

  clear-part : (b : Bool) (ps : List Accepted) → cond b [] (map accepted' ps) ≡ map accepted' (cond b [] ps)
  clear-part true ps = refl
  clear-part false ps = refl

  bound-arrived : (q : Accepted) (t : List Event) → IsFit q.link q.stamped.flow → flow_bound (part' t) ≤ place mine (flow_bound t)
      → flow_bound (part' (arrived q ∷ t)) ≤ place mine (flow_bound (arrived q ∷ t))
  bound-arrived q t h rest = by (is_link_on chosen mine q.link) refl
    where
      by : (b : Bool) → is_link_on chosen mine q.link ≡ b → flow_bound (cond b (arrived (accepted' q) ∷ part' t) (part' t)) ≤ place mine (max (flow_bound t) (q.stamped.flow + 1))
      by true e =
          let more = place-more mine q.stamped.flow (h ∙ e) in
          let one = place-mono mine (flow_bound t) (max (flow_bound t) (q.stamped.flow + 1)) (omega arith) in
          let two = place-mono mine (suc q.stamped.flow) (max (flow_bound t) (q.stamped.flow + 1)) (omega arith) in
          omega (arith, rest, more, one, two)
      by false e = let one = place-mono mine (flow_bound t) (max (flow_bound t) (q.stamped.flow + 1)) (omega arith) in omega (arith, rest, one)

  pub bound-part : (t : List Event) → AreFit t → flow_bound (part' t) ≤ place mine (flow_bound t)
  bound-part [] h = omega arith
  bound-part (opened k ∷ t) h = let same = skip flow_bound (is_link_on chosen mine k) (opened (link' k)) (part' t) refl in omega (arith, same, bound-part t h)
  bound-part (arrived q ∷ t) h = bound-arrived q t h.0 (bound-part t h.1)
  bound-part (started s ∷ t) h = let same = skip flow_bound (is_link_on chosen mine s.packet.link) (started (start' s)) (part' t) refl in omega (arith, same, bound-part t h.1)
  bound-part (lost k g ∷ t) h = let same = skip flow_bound (is_link_on chosen mine k) (lost (link' k) (place mine g)) (part' t) refl in omega (arith, same, bound-part t h.1)
  bound-part (refused k g ∷ t) h = let same = skip flow_bound (is_link_on chosen mine k) (refused (link' k) (place mine g)) (part' t) refl in omega (arith, same, bound-part t h.1)
  bound-part (discarded g ∷ t) h = let same = skip flow_bound (mine g) (discarded (place mine g)) (part' t) refl in omega (arith, same, bound-part t h)
  bound-part (collected at ∷ t) h = bound-part t h

  least-part : (m : ℕ) (hs : List Stamped) → least_start_tag m (map stamped' hs) ≡ least_start_tag m hs
  least-part m [] = refl
  least-part m (x ∷ hs) = ap (min x.start_tag) (least-part m hs)

  pub raised-part : (v : ℕ) (hs : List Stamped) → raised v (map stamped' hs) ≡ raised v hs
  raised-part v [] = refl
  raised-part v (x ∷ hs) = ap (max v) (least-part x.start_tag hs)

  weights-part : (hs : List Stamped) → weight_sum (map stamped' hs) ≡ weight_sum hs
  weights-part [] = refl
  weights-part (x ∷ hs) = ap {B = ℕ} (λ w. x.weight + w) (weights-part hs)

  grown-part : (v : ℕ) (hs : List Stamped) (len : ℕ) → grown v (map stamped' hs) len ≡ grown v hs len
  grown-part v hs len = let r = raised-part v hs in let w = weights-part hs in λ i. r i + scaled len (w i)

  module _ (l : Link) (on : is_link_on chosen mine l ≡ true) where
    same-of : (f : ℕ) (q : Accepted) → mine f ≡ true → is_link_on chosen mine q.link ≡ true → IsFit q.link q.stamped.flow → is_of (link' l) (place mine f) (accepted' q) ≡ is_of l f q
    same-of f q hf hq h =
        let links = same-link q.link l hq on in
        let flows = place-eq mine q.stamped.flow f (h ∙ hq) hf in
        λ i. links i && flows i

    apart-of : (f : ℕ) (q : Accepted) → is_link_on chosen mine q.link ≡ false → is_of l f q ≡ false
    apart-of f q hq = ap (λ b. b && nat_eq q.stamped.flow f) (apart-link q.link l hq on)

    module _ (f : ℕ) (hf : mine f ≡ true) where
      arrived-part : (q : Accepted) (t : List Event) → IsFit q.link q.stamped.flow → backlog (link' l) (place mine f) (part' t) ≡ map accepted' (backlog l f t) →
          backlog (link' l) (place mine f) (part' (arrived q ∷ t)) ≡ map accepted' (backlog l f (arrived q ∷ t))
      arrived-part q t h rest = by (is_link_on chosen mine q.link) refl
        where
          by : (b : Bool) → is_link_on chosen mine q.link ≡ b → backlog (link' l) (place mine f) (cond b (arrived (accepted' q) ∷ part' t) (part' t)) ≡ map accepted' (backlog l f (arrived q ∷ t))
          by true e = let s = same-of f q hf e h in (λ i. cond (s i) (rest i ++ accepted' q ∷ []) (rest i)) ∙ push-part (is_of l f q) q (backlog l f t)
          by false e = rest ∙ sym (ap (λ b. map accepted' (cond b (backlog l f t ++ q ∷ []) (backlog l f t))) (apart-of f q e))

      started-part : (s : Start) (t : List Event) → IsFit s.packet.link s.packet.stamped.flow → backlog (link' l) (place mine f) (part' t) ≡ map accepted' (backlog l f t) →
          backlog (link' l) (place mine f) (part' (started s ∷ t)) ≡ map accepted' (backlog l f (started s ∷ t))
      started-part s t h rest = by (is_link_on chosen mine s.packet.link) refl
        where
          by : (b : Bool) → is_link_on chosen mine s.packet.link ≡ b → backlog (link' l) (place mine f) (cond b (started (start' s) ∷ part' t) (part' t)) ≡ map accepted' (backlog l f (started s ∷ t))
          by true e = let o = same-of f s.packet hf e h in (λ i. cond (o i) (drop 1 (rest i)) (rest i)) ∙ drop-part (is_of l f s.packet) (backlog l f t)
          by false e = rest ∙ sym (ap (λ b. map accepted' (cond b (drop 1 (backlog l f t)) (backlog l f t))) (apart-of f s.packet e))

      discarded-part : (g : ℕ) (t : List Event) → backlog (link' l) (place mine f) (part' t) ≡ map accepted' (backlog l f t) →
          backlog (link' l) (place mine f) (part' (discarded g ∷ t)) ≡ map accepted' (backlog l f (discarded g ∷ t))
      discarded-part g t rest = by (mine g) refl
        where
          by : (b : Bool) → mine g ≡ b → backlog (link' l) (place mine f) (cond b (discarded (place mine g) ∷ part' t) (part' t)) ≡ map accepted' (backlog l f (discarded g ∷ t))
          by true e = let o = place-eq mine g f e hf in (λ i. cond (o i) [] (rest i)) ∙ clear-part (nat_eq g f) (backlog l f t)
          by false e = rest ∙ sym (ap (λ b. map accepted' (cond b [] (backlog l f t))) (apart-flow g f e hf))

      pub backlog-part : (t : List Event) → AreFit t → backlog (link' l) (place mine f) (part' t) ≡ map accepted' (backlog l f t)
      backlog-part [] h = refl
      backlog-part (opened k ∷ t) h = skip (backlog (link' l) (place mine f)) (is_link_on chosen mine k) (opened (link' k)) (part' t) refl ∙ backlog-part t h
      backlog-part (arrived q ∷ t) h = arrived-part q t h.0 (backlog-part t h.1)
      backlog-part (started s ∷ t) h = started-part s t h.0 (backlog-part t h.1)
      backlog-part (lost k g ∷ t) h = skip (backlog (link' l) (place mine f)) (is_link_on chosen mine k) (lost (link' k) (place mine g)) (part' t) refl ∙ backlog-part t h.1
      backlog-part (refused k g ∷ t) h = skip (backlog (link' l) (place mine f)) (is_link_on chosen mine k) (refused (link' k) (place mine g)) (part' t) refl ∙ backlog-part t h.1
      backlog-part (discarded g ∷ t) h = discarded-part g t (backlog-part t h)
      backlog-part (collected at ∷ t) h = backlog-part t h

    -- A flow of another pipe has no packet here.
    module _ (f : ℕ) (hf : mine f ≡ false) where
      other-of : (q : Accepted) → IsFit q.link q.stamped.flow → is_of l f q ≡ false
      other-of q h = false-if (is_of l f q) (λ same.
          let link = link_eq-true q.link l (and-left _ (nat_eq q.stamped.flow f) same) in
          let flow = eqb-true q.stamped.flow f (and-right (link_eq q.link l) (nat_eq q.stamped.flow f) same) in
          let t : false ≡ true = sym hf ∙ ap mine (sym flow) ∙ h ∙ ap (is_link_on chosen mine) link ∙ on in cc)

      pub no-flow : (t : List Event) → AreFit t → backlog l f t ≡ []
      no-flow [] h = refl
      no-flow (opened k ∷ t) h = no-flow t h
      no-flow (arrived q ∷ t) h = ap (λ b. cond b (backlog l f t ++ q ∷ []) (backlog l f t)) (other-of q h.0) ∙ no-flow t h.1
      no-flow (started s ∷ t) h = ap (λ b. cond b (drop 1 (backlog l f t)) (backlog l f t)) (other-of s.packet h.0) ∙ no-flow t h.1
      no-flow (lost k g ∷ t) h = no-flow t h.1
      no-flow (refused k g ∷ t) h = no-flow t h.1
      no-flow (discarded g ∷ t) h = clear-none (nat_eq g f) (backlog l f t) (no-flow t h)
      no-flow (collected at ∷ t) h = no-flow t h

    module _ (t : List Event) (h : AreFit t) where
      heads-part : (n : ℕ) → heads (place mine n) (λ g. backlog (link' l) g (part' t)) ≡ map accepted' (heads n (λ f. backlog l f t))
      heads-part zero = refl
      heads-part (suc n) = by (mine n) refl (heads-part n)
        where
          by : (b : Bool) → mine n ≡ b → heads (place mine n) (λ g. backlog (link' l) g (part' t)) ≡ map accepted' (heads n (λ f. backlog l f t)) →
              heads (cond b (suc (place mine n)) (place mine n)) (λ g. backlog (link' l) g (part' t)) ≡ map accepted' (heads n (λ f. backlog l f t) ++ take 1 (backlog l n t))
          by true e rest =
              let here = ap (take 1) (backlog-part n e t h) ∙ take-map accepted' 1 (backlog l n t) in
              (λ i. rest i ++ here i) ∙ sym (map-append accepted' (heads n (λ f. backlog l f t)) (take 1 (backlog l n t)))
          by false e rest =
              rest ∙ ap (map accepted') (sym (append-none (heads n (λ f. backlog l f t))) ∙ ap (λ (q : List Accepted). heads n (λ f. backlog l f t) ++ take 1 q) (sym (no-flow n e t h)))

      total-part : (n : ℕ) → total (place mine n) (λ g. backlog (link' l) g (part' t)) ≡ total n (λ f. backlog l f t)
      total-part zero = refl
      total-part (suc n) = by (mine n) refl (total-part n)
        where
          by : (b : Bool) → mine n ≡ b → total (place mine n) (λ g. backlog (link' l) g (part' t)) ≡ total n (λ f. backlog l f t) →
              total (cond b (suc (place mine n)) (place mine n)) (λ g. backlog (link' l) g (part' t)) ≡ total n (λ f. backlog l f t) + length (backlog l n t)
          by true e rest =
              let here = ap (λ (q : List Accepted). length q) (backlog-part n e t h) ∙ length-map (backlog l n t) accepted' in
              λ i. rest i + here i
          by false e rest = let none = ap (λ (q : List Accepted). length q) (no-flow n e t h) in omega (arith, rest, none)

      heads-mine : (n : ℕ) → All (λ p. mine p.stamped.flow ≡ true) (heads n (λ f. backlog l f t))
      heads-mine zero = All-nil (λ p. mine p.stamped.flow ≡ true)
      heads-mine (suc n) = All-append (λ (p : Accepted). mine p.stamped.flow ≡ true) (heads n (λ f. backlog l f t)) (take 1 (backlog l n t)) (heads-mine n)
          (All-take (λ (p : Accepted). mine p.stamped.flow ≡ true) 1 (backlog l n t) (by (mine n) refl))
        where
          by : (b : Bool) → mine n ≡ b → All (λ p. mine p.stamped.flow ≡ true) (backlog l n t)
          by true e = λ k d lt. let own = backlog-own l n t k d lt in ap mine (eqb-true (get_or (backlog l n t) k d).stamped.flow n (and-right (link_eq (get_or (backlog l n t) k d).link l) _ own)) ∙ e
          by false e = subst (λ (q : List Accepted). All (λ p. mine p.stamped.flow ≡ true) q) (sym (no-flow n e t h)) (All-nil (λ p. mine p.stamped.flow ≡ true))

      pub waiting-part : waiting (link' l) (part' t) ≡ waiting l t
      waiting-part =
          sym (total-above (place mine (flow_bound t)) (flow_bound (part' t)) (λ g. backlog (link' l) g (part' t)) (bound-part t h) (λ f le. backlog-above (link' l) f (part' t) le))
          ∙ total-part (flow_bound t)

      pub link_heads-part : link_heads (link' l) (part' t) ≡ map stamped' (link_heads l t)
      link_heads-part =
          ap (λ (ps : List Accepted). map (λ p. p.stamped) ps) (sym (heads-above (place mine (flow_bound t)) (flow_bound (part' t))
          (λ g. backlog (link' l) g (part' t)) (bound-part t h) (λ f le. backlog-above (link' l) f (part' t) le))
          ∙ heads-part (flow_bound t))
          ∙ stamps (heads (flow_bound t) (λ f. backlog l f t))
        where
          stamps : (ps : List Accepted) → map (λ p. p.stamped) (map accepted' ps) ≡ map stamped' (map (λ p. p.stamped) ps)
          stamps [] = refl
          stamps (p ∷ ps) = ap (λ (hs : List Stamped). stamped' p.stamped ∷ hs) (stamps ps)

      pub link_heads-mine : All (λ x. mine x.flow ≡ true) (link_heads l t)
      link_heads-mine = All-map (λ (x : Stamped). mine x.flow ≡ true) (λ (p : Accepted). p.stamped) (heads (flow_bound t) (λ f. backlog l f t)) (heads-mine (flow_bound t))

    free-started : (s : Start) (t : List Event) → IsFit s.packet.link s.packet.stamped.flow → free (link' l) (part' t) ≡ free l t → free (link' l) (part' (started s ∷ t)) ≡ free l (started s ∷ t)
    free-started s t h rest = by (is_link_on chosen mine s.packet.link) refl
      where
        by : (b : Bool) → is_link_on chosen mine s.packet.link ≡ b → free (link' l) (cond b (started (start' s) ∷ part' t) (part' t)) ≡ free l (started s ∷ t)
        by true e = λ i. cond (same-link s.packet.link l e on i) (s.moment + s.transmission) (rest i)
        by false e = rest ∙ sym (ap {B = ℕ} (λ b. cond b (s.moment + s.transmission) (free l t)) (apart-link s.packet.link l e on))

    pub free-part : (t : List Event) → AreFit t → free (link' l) (part' t) ≡ free l t
    free-part [] h = refl
    free-part (opened k ∷ t) h = skip (free (link' l)) (is_link_on chosen mine k) (opened (link' k)) (part' t) refl ∙ free-part t h
    free-part (arrived q ∷ t) h = skip (free (link' l)) (is_link_on chosen mine q.link) (arrived (accepted' q)) (part' t) refl ∙ free-part t h.1
    free-part (started s ∷ t) h = free-started s t h.0 (free-part t h.1)
    free-part (lost k g ∷ t) h = skip (free (link' l)) (is_link_on chosen mine k) (lost (link' k) (place mine g)) (part' t) refl ∙ free-part t h.1
    free-part (refused k g ∷ t) h = skip (free (link' l)) (is_link_on chosen mine k) (refused (link' k) (place mine g)) (part' t) refl ∙ free-part t h.1
    free-part (discarded g ∷ t) h = skip (free (link' l)) (mine g) (discarded (place mine g)) (part' t) refl ∙ free-part t h
    free-part (collected at ∷ t) h = free-part t h

    last_due-started : (rule : Rule) (s : Start) (t : List Event) → IsFit s.packet.link s.packet.stamped.flow → last_due rule (link' l) (part' t) ≡ last_due rule l t →
        last_due rule (link' l) (part' (started s ∷ t)) ≡ last_due rule l (started s ∷ t)
    last_due-started rule s t h rest = by (is_link_on chosen mine s.packet.link) refl
      where
        by : (b : Bool) → is_link_on chosen mine s.packet.link ≡ b → last_due rule (link' l) (cond b (started (start' s) ∷ part' t) (part' t)) ≡ last_due rule l (started s ∷ t)
        by true e = λ i. cond (same-link s.packet.link l e on i) (due_by rule (arrival_time s) (rest i)) (rest i)
        by false e = rest ∙ sym (ap {B = ℕ} (λ b. cond b (due_by rule (arrival_time s) (last_due rule l t)) (last_due rule l t)) (apart-link s.packet.link l e on))

    pub last_due-part : (rule : Rule) (t : List Event) → AreFit t → last_due rule (link' l) (part' t) ≡ last_due rule l t
    last_due-part rule [] h = refl
    last_due-part rule (opened k ∷ t) h = skip (last_due rule (link' l)) (is_link_on chosen mine k) (opened (link' k)) (part' t) refl ∙ last_due-part rule t h
    last_due-part rule (arrived q ∷ t) h = skip (last_due rule (link' l)) (is_link_on chosen mine q.link) (arrived (accepted' q)) (part' t) refl ∙ last_due-part rule t h.1
    last_due-part rule (started s ∷ t) h = last_due-started rule s t h.0 (last_due-part rule t h.1)
    last_due-part rule (lost k g ∷ t) h = skip (last_due rule (link' l)) (is_link_on chosen mine k) (lost (link' k) (place mine g)) (part' t) refl ∙ last_due-part rule t h.1
    last_due-part rule (refused k g ∷ t) h = skip (last_due rule (link' l)) (is_link_on chosen mine k) (refused (link' k) (place mine g)) (part' t) refl ∙ last_due-part rule t h.1
    last_due-part rule (discarded g ∷ t) h = skip (last_due rule (link' l)) (mine g) (discarded (place mine g)) (part' t) refl ∙ last_due-part rule t h
    last_due-part rule (collected at ∷ t) h = last_due-part rule t h

    virtual_time-opened : (k : Link) (t : List Event) → virtual_time (link' l) (part' t) ≡ virtual_time l t → virtual_time (link' l) (part' (opened k ∷ t)) ≡ virtual_time l (opened k ∷ t)
    virtual_time-opened k t rest = by (is_link_on chosen mine k) refl
      where
        by : (b : Bool) → is_link_on chosen mine k ≡ b → virtual_time (link' l) (cond b (opened (link' k) ∷ part' t) (part' t)) ≡ virtual_time l (opened k ∷ t)
        by true e = λ i. cond (same-link k l e on i) 0 (rest i)
        by false e = rest ∙ sym (ap {B = ℕ} (λ b. cond b 0 (virtual_time l t)) (apart-link k l e on))

    virtual_time-started : (s : Start) (t : List Event) → IsFit s.packet.link s.packet.stamped.flow → AreFit t → virtual_time (link' l) (part' t) ≡ virtual_time l t →
        virtual_time (link' l) (part' (started s ∷ t)) ≡ virtual_time l (started s ∷ t)
    virtual_time-started s t h all rest = by (is_link_on chosen mine s.packet.link) refl
      where
        by : (b : Bool) → is_link_on chosen mine s.packet.link ≡ b → virtual_time (link' l) (cond b (started (start' s) ∷ part' t) (part' t)) ≡ virtual_time l (started s ∷ t)
        by true e =
            let hs = link_heads-part t all in
            (λ i. cond (same-link s.packet.link l e on i) (grown (rest i) (hs i) s.packet.stamped.len) (rest i))
            ∙ ap {B = ℕ} (λ g. cond (link_eq s.packet.link l) g (virtual_time l t)) (grown-part (virtual_time l t) (link_heads l t) s.packet.stamped.len)
        by false e = rest ∙ sym (ap {B = ℕ} (λ b. cond b (grown (virtual_time l t) (link_heads l t) s.packet.stamped.len) (virtual_time l t)) (apart-link s.packet.link l e on))

    pub virtual_time-part : (t : List Event) → AreFit t → virtual_time (link' l) (part' t) ≡ virtual_time l t
    virtual_time-part [] h = refl
    virtual_time-part (opened k ∷ t) h = virtual_time-opened k t (virtual_time-part t h)
    virtual_time-part (arrived q ∷ t) h = skip (virtual_time (link' l)) (is_link_on chosen mine q.link) (arrived (accepted' q)) (part' t) refl ∙ virtual_time-part t h.1
    virtual_time-part (started s ∷ t) h = virtual_time-started s t h.0 h.1 (virtual_time-part t h.1)
    virtual_time-part (lost k g ∷ t) h = skip (virtual_time (link' l)) (is_link_on chosen mine k) (lost (link' k) (place mine g)) (part' t) refl ∙ virtual_time-part t h.1
    virtual_time-part (refused k g ∷ t) h = skip (virtual_time (link' l)) (is_link_on chosen mine k) (refused (link' k) (place mine g)) (part' t) refl ∙ virtual_time-part t h.1
    virtual_time-part (discarded g ∷ t) h = skip (virtual_time (link' l)) (mine g) (discarded (place mine g)) (part' t) refl ∙ virtual_time-part t h
    virtual_time-part (collected at ∷ t) h = virtual_time-part t h

    module _ (f : ℕ) (hf : mine f ≡ true) where
      tag-opened : (k : Link) (t : List Event) → last_finish_tag (link' l) (place mine f) (part' t) ≡ last_finish_tag l f t →
          last_finish_tag (link' l) (place mine f) (part' (opened k ∷ t)) ≡ last_finish_tag l f (opened k ∷ t)
      tag-opened k t rest = by (is_link_on chosen mine k) refl
        where
          by : (b : Bool) → is_link_on chosen mine k ≡ b → last_finish_tag (link' l) (place mine f) (cond b (opened (link' k) ∷ part' t) (part' t)) ≡ last_finish_tag l f (opened k ∷ t)
          by true e = λ i. cond (same-link k l e on i) 0 (rest i)
          by false e = rest ∙ sym (ap {B = ℕ} (λ b. cond b 0 (last_finish_tag l f t)) (apart-link k l e on))

      tag-arrived : (q : Accepted) (t : List Event) → IsFit q.link q.stamped.flow → last_finish_tag (link' l) (place mine f) (part' t) ≡ last_finish_tag l f t →
          last_finish_tag (link' l) (place mine f) (part' (arrived q ∷ t)) ≡ last_finish_tag l f (arrived q ∷ t)
      tag-arrived q t h rest = by (is_link_on chosen mine q.link) refl
        where
          by : (b : Bool) → is_link_on chosen mine q.link ≡ b → last_finish_tag (link' l) (place mine f) (cond b (arrived (accepted' q) ∷ part' t) (part' t)) ≡ last_finish_tag l f (arrived q ∷ t)
          by true e = let same = same-of f q hf e h in λ i. cond (same i) q.stamped.finish_tag (rest i)
          by false e = rest ∙ sym (ap {B = ℕ} (λ b. cond b q.stamped.finish_tag (last_finish_tag l f t)) (apart-of f q e))

      tag-discarded : (g : ℕ) (t : List Event) → last_finish_tag (link' l) (place mine f) (part' t) ≡ last_finish_tag l f t →
          last_finish_tag (link' l) (place mine f) (part' (discarded g ∷ t)) ≡ last_finish_tag l f (discarded g ∷ t)
      tag-discarded g t rest = by (mine g) refl
        where
          by : (b : Bool) → mine g ≡ b → last_finish_tag (link' l) (place mine f) (cond b (discarded (place mine g) ∷ part' t) (part' t)) ≡ last_finish_tag l f (discarded g ∷ t)
          by true e = λ i. cond (place-eq mine g f e hf i) 0 (rest i)
          by false e = rest ∙ sym (ap {B = ℕ} (λ b. cond b 0 (last_finish_tag l f t)) (apart-flow g f e hf))

      pub last_finish_tag-part : (t : List Event) → AreFit t → last_finish_tag (link' l) (place mine f) (part' t) ≡ last_finish_tag l f t
      last_finish_tag-part [] h = refl
      last_finish_tag-part (opened k ∷ t) h = tag-opened k t (last_finish_tag-part t h)
      last_finish_tag-part (arrived q ∷ t) h = tag-arrived q t h.0 (last_finish_tag-part t h.1)
      last_finish_tag-part (started s ∷ t) h = skip (last_finish_tag (link' l) (place mine f)) (is_link_on chosen mine s.packet.link) (started (start' s)) (part' t) refl ∙ last_finish_tag-part t h.1
      last_finish_tag-part (lost k g ∷ t) h = skip (last_finish_tag (link' l) (place mine f)) (is_link_on chosen mine k) (lost (link' k) (place mine g)) (part' t) refl ∙ last_finish_tag-part t h.1
      last_finish_tag-part (refused k g ∷ t) h = skip (last_finish_tag (link' l) (place mine f)) (is_link_on chosen mine k) (refused (link' k) (place mine g))
          (part' t) refl ∙ last_finish_tag-part t h.1
      last_finish_tag-part (discarded g ∷ t) h = tag-discarded g t (last_finish_tag-part t h)
      last_finish_tag-part (collected at ∷ t) h = last_finish_tag-part t h
