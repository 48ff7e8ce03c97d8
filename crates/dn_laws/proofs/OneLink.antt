-- A settling as one link sees it: its own starts, one after the other, whatever starts on other links.
use Rattle.dn_laws.proofs.Words.{Bool, List, None, Option, Some, [], ap, append-none, arith, backlog-above, backlog-elsewhere, cond, drop, false, first_start-of, free-elsewhere}
use Rattle.dn_laws.proofs.Words.{last_due-elsewhere, leb_tells, link_eq-true, map, nat_le, nat_tests, next_start-link, option_and_then, option_map, refl, settled-ends, slice_get, subst, suc, sym}
use Rattle.dn_laws.proofs.Words.{take, true, true_or_false, virtual_time-elsewhere, zero, ℕ, ⊎_elim, ◌++◌, ◌+◌, ◌∙◌, ◌∷◌, ◌≡◌, ◌≤◌}
use Rattle.dn_laws.proofs.LawWords.{Settings, transmission_time, free, due_by, arrival_time, last_due, link_heads, virtual_time, next_packet, bandwidth_of, delay_of, start_at, next_start, first_start}
use Rattle.dn_laws.proofs.LawWords.{settle, settled, waiting_all, Link, own, shared, pipe_of, link_eq, Accepted, Start, Event, started, is_of, backlog, flow_bound, links, Stamped, heads, pick, grown}
use Rattle.dn_laws.proofs.LawWords.{Rule, ToPipe}

pub heads-above : (m n : ℕ) (q : ℕ → List Accepted) → n ≤ m → ((f : ℕ) → n ≤ f → q f ≡ []) → heads m q ≡ heads n q
heads-above zero n q le none = let e : zero ≡ n = omega arith in ap (λ k. heads k q) e
heads-above (suc m) n q le none =
    ⊎_elim (λ below. ap (λ (r : List Accepted). heads m q ++ take 1 r) (none m below.1) ∙ append-none (heads m q)
    ∙ heads-above m n q below.1 none) (λ above. let e : suc m ≡ n = omega (arith, le, above.1) in ap (λ k. heads k q) e) (leb_tells n m)

module _ (rule : Rule) (link : Link) where
  -- The link stands the same after both traces.
  abbrev pub IsAlike : List Event → List Event → Type 0
  IsAlike t u = ((flow : ℕ) → backlog link flow t ≡ backlog link flow u) × (free link t ≡ free link u) × (last_due rule link t ≡ last_due rule link u)
      × (virtual_time link t ≡ virtual_time link u)

  pub alike-refl : (t : List Event) → IsAlike t t
  alike-refl t = (λ flow. refl, refl, refl, refl)

  pub alike-sym : (t u : List Event) → IsAlike t u → IsAlike u t
  alike-sym t u h = (λ flow. sym (h.0 flow), sym h.1, sym h.2, sym h.3)

  pub alike-then : (t u v : List Event) → IsAlike t u → IsAlike u v → IsAlike t v
  alike-then t u v h k = (λ flow. h.0 flow ∙ k.0 flow, h.1 ∙ k.1, h.2 ∙ k.2, h.3 ∙ k.3)

  alike-heads : (t u : List Event) → IsAlike t u → link_heads link t ≡ link_heads link u
  alike-heads t u h = ap (λ (ps : List Accepted). map (λ p. p.stamped) ps) (⊎_elim (λ low. sym (wider (flow_bound u) (flow_bound t) t low.1 (λ f le. backlog-above link f t le))
      ∙ moved (flow_bound u)) (λ high. moved (flow_bound t)
      ∙ wider (flow_bound t) (flow_bound u) u (omega (arith, high.1)) (λ f le. backlog-above link f u le)) (leb_tells (flow_bound t) (flow_bound u)))
    where
      moved : (n : ℕ) → heads n (λ f. backlog link f t) ≡ heads n (λ f. backlog link f u)
      moved n = λ i. heads n (λ f. h.0 f i)

      wider : (m n : ℕ) (v : List Event) → n ≤ m → ((f : ℕ) → n ≤ f → backlog link f v ≡ []) → heads m (λ f. backlog link f v) ≡ heads n (λ f. backlog link f v)
      wider m n v le none = heads-above m n (λ f. backlog link f v) le none

alike-next : (rule : Rule) (link : Link) (t u : List Event) → IsAlike rule link t u → next_packet link t ≡ next_packet link u
alike-next rule (own pipe flow) t u h = ap (λ (q : List Accepted). slice_get q 0) (h.0 flow)
alike-next rule (shared pipe) t u h = let hs = alike-heads rule (shared pipe) t u h in λ i. option_and_then (λ (x : Stamped). slice_get (h.0 x.flow i) 0) (pick (h.3 i) (hs i))

module _ (rule : Rule) (link : Link) where
  alike-start : (set other : Settings) (at : ℕ) (t u : List Event) → set (ToPipe (pipe_of link)) ≡ other (ToPipe (pipe_of link)) → IsAlike rule link t u →
      next_start set at link t ≡ next_start other at link u
  alike-start set other at t u s h =
      let next = alike-next rule link t u h in
      λ i. cond (nat_le (h.1 i) at) (option_map (λ (p : Accepted).
      record { packet = p; moment = h.1 i; transmission = transmission_time (bandwidth_of (s i)) p.stamped.len; delay = delay_of (s i) }) (next i)) None

  alike-started : (s : Start) (t u : List Event) → IsAlike rule link t u → IsAlike rule link (started s ∷ t) (started s ∷ u)
  alike-started s t u h =
      let hs = alike-heads rule link t u h in (
        λ flow. ap (λ (q : List Accepted). cond (is_of link flow s.packet) (drop 1 q) q) (h.0 flow),
        ap {B = ℕ} (λ m. cond (link_eq s.packet.link link) (s.moment + s.transmission) m) h.1,
        ap {B = ℕ} (λ m. cond (link_eq s.packet.link link) (due_by rule (arrival_time s) m) m) h.2,
        (λ i. cond (link_eq s.packet.link link) (grown (h.3 i) (hs i) s.packet.stamped.len) (h.3 i)),
      )

  alike-elsewhere : (s : Start) (t : List Event) → link_eq s.packet.link link ≡ false → IsAlike rule link (started s ∷ t) t
  alike-elsewhere s t e = (λ flow. backlog-elsewhere link s t e flow, free-elsewhere link s t e, last_due-elsewhere link s t e rule, virtual_time-elsewhere link s t e)

  abbrev steps : ℕ → Settings → ℕ → List Event → List Event
  steps zero set at t = t
  steps (suc k) set at t = elim (next_start set at link t) [ None ↦ t | Some s ↦ steps k set at (started s ∷ t) ]

  abbrev after : ℕ → Settings → ℕ → List Event → Option Start → List Event
  after k set at t o = elim o as (λ _. List Event) [ None ↦ t | Some s ↦ steps k set at (started s ∷ t) ]

  step-is : (k : ℕ) (set : Settings) (at : ℕ) (t : List Event) (o : Option Start) → next_start set at link t ≡ o → steps (suc k) set at t ≡ after k set at t o
  step-is k set at t o e = ap (λ (x : Option Start). after k set at t x) e

  steps-stop : (k : ℕ) (set : Settings) (at : ℕ) (t : List Event) → next_start set at link t ≡ None → steps k set at t ≡ t
  steps-stop zero set at t e = refl
  steps-stop (suc k) set at t e = step-is k set at t None e

  steps-alike : (k : ℕ) (set other : Settings) (at : ℕ) (t u : List Event) → set (ToPipe (pipe_of link)) ≡ other (ToPipe (pipe_of link)) → IsAlike rule link t u →
      IsAlike rule link (steps k set at t) (steps k other at u)
  steps-alike zero set other at t u s h = h
  steps-alike (suc k) set other at t u s h = by (next_start set at link t) refl (λ x. steps-alike k set other at (started x ∷ t) (started x ∷ u) s (alike-started x t u h))
    where
      same : next_start set at link t ≡ next_start other at link u
      same = alike-start set other at t u s h

      by : (o : Option Start) → next_start set at link t ≡ o → ((x : Start) → IsAlike rule link (steps k set at (started x ∷ t)) (steps k other at (started x ∷ u))) →
          IsAlike rule link (steps (suc k) set at t) (steps (suc k) other at u)
      by None e rest = subst (λ (v : List Event). IsAlike rule link v (steps (suc k) other at u)) (sym (step-is k set at t None e))
          (subst (λ (v : List Event). IsAlike rule link t v) (sym (step-is k other at u None (sym same ∙ e))) h)
      by (Some x) e rest = subst (λ (v : List Event). IsAlike rule link v (steps (suc k) other at u)) (sym (step-is k set at t (Some x) e))
          (subst (λ (v : List Event). IsAlike rule link (steps k set at (started x ∷ t)) v) (sym (step-is k other at u (Some x) (sym same ∙ e))) (rest x))

  -- Where the starts have ended they are the same, however many were tried.
  steps-one : (k j : ℕ) (set : Settings) (at : ℕ) (t : List Event) → next_start set at link (steps k set at t) ≡ None → next_start set at link (steps j set at t) ≡ None →
      steps k set at t ≡ steps j set at t
  steps-one zero j set at t e f = sym (steps-stop j set at t e)
  steps-one (suc k) zero set at t e f = steps-stop (suc k) set at t f
  steps-one (suc k) (suc j) set at t e f = by (next_start set at link t) refl (λ x. steps-one k j set at (started x ∷ t))
    where
      by : (o : Option Start) → next_start set at link t ≡ o → ((x : Start) → next_start set at link (steps k set at (started x ∷ t)) ≡ None →
          next_start set at link (steps j set at (started x ∷ t)) ≡ None → steps k set at (started x ∷ t) ≡ steps j set at (started x ∷ t)) → steps (suc k) set at t ≡ steps (suc j) set at t
      by None is rest = step-is k set at t None is ∙ sym (step-is j set at t None is)
      by (Some x) is rest =
          let a = step-is k set at t (Some x) is in
          let b = step-is j set at t (Some x) is in
          a ∙ rest x (ap (λ (v : List Event). next_start set at link v) (sym a) ∙ e) (ap (λ (v : List Event). next_start set at link v) (sym b) ∙ f) ∙ sym b

  -- A settling is the link's own starts.
  settle-steps : (most : ℕ) (set : Settings) (at : ℕ) (t : List Event) → (k : ℕ) × IsAlike rule link (settle most set at t) (steps k set at t)
  settle-steps zero set at t = (0, alike-refl rule link t)
  settle-steps (suc most) set at t = step (first_start set at (links t) t) refl (λ x. settle-steps most set at (started x ∷ t))
    where
      step : (o : Option Start) → first_start set at (links t) t ≡ o → ((x : Start) → (k : ℕ) × IsAlike rule link (settle most set at (started x ∷ t)) (steps k set at (started x ∷ t))) →
          (k : ℕ) × IsAlike rule link (elim o as (λ _. List Event) [ None ↦ t | Some s ↦ settle most set at (started s ∷ t) ]) (steps k set at t)
      step None e rest = (0, alike-refl rule link t)
      step (Some s) e rest = ⊎_elim (λ here. mine here (rest s)) (λ there. others there (rest s)) (true_or_false (link_eq s.packet.link link))
        where
          found : (l : Link) × (next_start set at l t ≡ Some s)
          found = first_start-of set at (links t) t s e

          mine : link_eq s.packet.link link ≡ true → (k : ℕ) × IsAlike rule link (settle most set at (started s ∷ t)) (steps k set at (started s ∷ t)) → (k : ℕ)
              × IsAlike rule link (settle most set at (started s ∷ t)) (steps k set at t)
          mine here r =
              let l : found.0 ≡ link = sym (next_start-link set at found.0 t s found.1) ∙ link_eq-true s.packet.link link here in
              let is : next_start set at link t ≡ Some s = ap (λ (m : Link). next_start set at m t) (sym l) ∙ found.1 in
              (suc r.0, subst (λ (v : List Event). IsAlike rule link (settle most set at (started s ∷ t)) v) (sym (step-is r.0 set at t (Some s) is)) r.1)

          others : link_eq s.packet.link link ≡ false → (k : ℕ) × IsAlike rule link (settle most set at (started s ∷ t)) (steps k set at (started s ∷ t)) → (k : ℕ)
              × IsAlike rule link (settle most set at (started s ∷ t)) (steps k set at t)
          others there r = (
            r.0,
            alike-then rule link (settle most set at (started s ∷ t)) (steps r.0 set at (started s ∷ t)) (steps r.0 set at t) r.1
                (steps-alike r.0 set set at (started s ∷ t) t refl (alike-elsewhere s t there)),
          )

  settled-steps : (set : Settings) (at : ℕ) (t : List Event) → (k : ℕ) × IsAlike rule link (settled set at t) (steps k set at t) × (next_start set at link (steps k set at t) ≡ None)
  settled-steps set at t =
      let r = settle-steps (waiting_all (links t) t) set at t in
      (r.0, r.1, sym (alike-start set set at (settled set at t) (steps r.0 set at t) refl r.1) ∙ settled-ends set at link t)

  -- Where the link's own starts have ended after so many, the settling leaves it so.
  settled-is : (set : Settings) (at : ℕ) (t : List Event) (k : ℕ) → next_start set at link (steps k set at t) ≡ None → IsAlike rule link (settled set at t) (steps k set at t)
  settled-is set at t k e = let r = settled-steps set at t in subst (λ (v : List Event). IsAlike rule link (settled set at t) v) (steps-one r.0 k set at t r.2 e) r.1

  -- A settling of a link rests on where it stands, and on what is in force for its pipe.
  pub settled-alike : (set other : Settings) (at : ℕ) (t u : List Event) → set (ToPipe (pipe_of link)) ≡ other (ToPipe (pipe_of link)) → IsAlike rule link t u →
      IsAlike rule link (settled set at t) (settled other at u)
  settled-alike set other at t u s h =
      let r = settled-steps set at t in
      let moved = steps-alike r.0 set other at t u s h in
      let ends = sym (alike-start set other at (steps r.0 set at t) (steps r.0 other at u) s moved) ∙ r.2 in
      alike-then rule link (settled set at t) (steps r.0 set at t) (settled other at u) r.1
      (alike-then rule link (steps r.0 set at t) (steps r.0 other at u) (settled other at u) moved (alike-sym rule link (settled other at u) (steps r.0 other at u) (settled-is other at u r.0 ends)))

  -- Where none starts any more, a settling changes nothing.
  pub settled-still : (set : Settings) (at : ℕ) (t : List Event) → next_start set at link t ≡ None → IsAlike rule link (settled set at t) t
  settled-still set at t e = settled-is set at t 0 e

  later-start : (set : Settings) (at to : ℕ) (t : List Event) (s : Start) → at ≤ to → next_start set at link t ≡ Some s → next_start set to link t ≡ Some s
  later-start set at to t s le e = by (nat_le (free link t) at) refl e
    where
      soon : nat_le (free link t) at ≡ true → nat_le (free link t) to ≡ true
      soon h = grind (arith, nat_tests)

      by : (b : Bool) → nat_le (free link t) at ≡ b → cond b (option_map (λ p. start_at set link p (free link t)) (next_packet link t)) None ≡ Some s → next_start set to link t ≡ Some s
      by true is e = ap (λ b. cond b (option_map (λ p. start_at set link p (free link t)) (next_packet link t)) None) (soon is) ∙ e
      by false is e = absurd cc

  ahead : (k : ℕ) (set : Settings) (at to : ℕ) (t : List Event) → at ≤ to → IsAlike rule link (settled set to (steps k set at t)) (settled set to t)
  ahead zero set at to t le = alike-refl rule link (settled set to t)
  ahead (suc k) set at to t le = by (next_start set at link t) refl (λ x. ahead k set at to (started x ∷ t) le)
    where
      by : (o : Option Start) → next_start set at link t ≡ o → ((x : Start) → IsAlike rule link (settled set to (steps k set at (started x ∷ t))) (settled set to (started x ∷ t))) →
          IsAlike rule link (settled set to (steps (suc k) set at t)) (settled set to t)
      by None e rest = subst (λ (v : List Event). IsAlike rule link (settled set to v) (settled set to t)) (sym (step-is k set at t None e)) (alike-refl rule link (settled set to t))
      by (Some x) e rest =
          let r = settled-steps set to (started x ∷ t) in
          let more = step-is r.0 set to t (Some x) (later-start set at to t x le e) in
          let ends = ap (λ (v : List Event). next_start set to link v) more ∙ r.2 in
          let whole = subst (λ (v : List Event). IsAlike rule link (settled set to t) v) more (settled-is set to t (suc r.0) ends) in
          subst (λ (v : List Event). IsAlike rule link (settled set to v) (settled set to t)) (sym (step-is k set at t (Some x) e))
          (alike-then rule link (settled set to (steps k set at (started x ∷ t))) (settled set to (started x ∷ t)) (settled set to t) (rest x)
          (alike-then rule link (settled set to (started x ∷ t)) (steps r.0 set to (started x ∷ t)) (settled set to t) r.1
          (alike-sym rule link (settled set to t) (steps r.0 set to (started x ∷ t)) whole)))

  -- A settling up to one moment and then to a later one is one up to the later.
  pub settled-twice : (set : Settings) (at to : ℕ) (t : List Event) → at ≤ to → IsAlike rule link (settled set to (settled set at t)) (settled set to t)
  settled-twice set at to t le =
      let r = settled-steps set at t in
      alike-then rule link (settled set to (settled set at t)) (settled set to (steps r.0 set at t)) (settled set to t)
      (settled-alike set set to (settled set at t) (steps r.0 set at t) refl r.1) (ahead r.0 set at to t le)
