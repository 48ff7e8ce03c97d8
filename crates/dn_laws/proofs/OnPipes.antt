-- Links of some pipes: a settling and a packet go by what is in force for these pipes alone.
use Rattle.dn_laws.proofs.Words.{Bool, List, None, Option, Some, [], ap, cond, false, list_any, map, nat_eq, nat_le, option_map, pipe_of-link, refl, subst, suc, sym, true, with_link, zero, ℕ, ⊤}
use Rattle.dn_laws.proofs.Words.{◌&&◌, ◌++◌, ◌+◌, ◌∙◌, ◌∷◌, ◌≡◌}
use Rattle.dn_laws.proofs.LawWords.{link_of, Verdict, no_target, loses, refuses, takes, verdict_by, accept, join, after_verdict, reaches, discard_reached, after_command, Settings, is_lost, is_full}
use Rattle.dn_laws.proofs.LawWords.{Treatment, key_of, flow_number, free, transmission_time, waiting, opening, next_packet, bandwidth_of, delay_of, start_at, sooner, first_start, settle, settled}
use Rattle.dn_laws.proofs.LawWords.{waiting_all, Link, pipe_of, link_eq, Accepted, Start, Event, opened, arrived, started, discarded, backlog, links, Command, FlowKey, Packet, Reply, Deleted, Target}
use Rattle.dn_laws.proofs.LawWords.{ToPipe}

module _ (On : ℕ → Type 0) where
  -- All links are of such pipes.
  abbrev pub AreOn : List Link → Type 0
  AreOn [] = ⊤
  AreOn (l ∷ ls) = On (pipe_of l) × AreOn ls

  push-on : (k : Link) (ls : List Link) → On (pipe_of k) → AreOn ls → AreOn (ls ++ k ∷ [])
  push-on k [] e h = (e, tt)
  push-on k (l ∷ ls) e h = (h.0, push-on k ls e h.1)

  with-on : (k : Link) (ls : List Link) → On (pipe_of k) → AreOn ls → AreOn (with_link k ls)
  with-on k ls e h = by (list_any (link_eq k) ls)
    where
      by : (b : Bool) → AreOn (cond b ls (ls ++ k ∷ []))
      by true = h
      by false = push-on k ls e h

  settle-on : (set : Settings) (most at : ℕ) (t : List Event) → AreOn (links t) → AreOn (links (settle most set at t))
  settle-on set zero at t h = h
  settle-on set (suc most) at t h = step (first_start set at (links t) t) (λ x. settle-on set most at (started x ∷ t) h)
    where
      step : (o : Option Start) → ((x : Start) → AreOn (links (settle most set at (started x ∷ t))))
          → AreOn (links (elim o as (λ _. List Event) [ None ↦ t | Some s ↦ settle most set at (started s ∷ t) ]))
      step None rest = h
      step (Some s) rest = rest s

  pub settled-on : (set : Settings) (at : ℕ) (t : List Event) → AreOn (links t) → AreOn (links (settled set at t))
  settled-on set at t h = settle-on set (waiting_all (links t) t) at t h

  abbrev pub IsOn : Verdict → Type 0
  IsOn no_target = ⊤
  IsOn (loses l f) = On (pipe_of l)
  IsOn (refuses l f) = On (pipe_of l)
  IsOn (takes l f how) = On (pipe_of l)

  pub verdict-on : (known : List FlowKey) (target : Target) (packet : Packet) (o : Option Treatment) (t : List Event)
      → ((how : Treatment) → o ≡ Some how → On how.pipe) → IsOn (verdict_by known target packet o t)
  verdict-on known target packet None t h = tt
  verdict-on known target packet (Some how) t h =
      let flow = flow_number known (key_of target packet.tuple how) in
      let link = link_of target flow how.pipe in
      by link flow (subst On (sym (pipe_of-link target flow how.pipe)) (h how refl)) (is_lost how.loss packet.word) (is_full how.limit (map (λ p. p.stamped.len) (backlog link flow t)))
    where
      by : (l : Link) (f : ℕ) → On (pipe_of l) → (b c : Bool) → IsOn (cond b (loses l f) (cond c (refuses l f) (takes l f how)))
      by l f e true c = e
      by l f e false true = e
      by l f e false false = e

  opened-on : (b : Bool) (l : Link) (t : List Event) → AreOn (links t) → AreOn (links (cond b (opened l ∷ t) t))
  opened-on true l t h = h
  opened-on false l t h = h

  join-on : (set : Settings) (at : ℕ) (p : Accepted) (t : List Event) → On (pipe_of p.link) → AreOn (links t) → AreOn (links (join set at p t))
  join-on set at p t e h = by (nat_le (free p.link t) at)
    where
      by : (b : Bool) → AreOn (links (cond b (started (start_at set p.link p at) ∷ arrived p ∷ t) (arrived p ∷ t)))
      by true = with-on p.link (links t) e h
      by false = with-on p.link (links t) e h

  pub after-on : (set : Settings) (at : ℕ) (packet : Packet) (v : Verdict) (t : List Event) → IsOn v → AreOn (links t) → AreOn (links (after_verdict set at packet v t))
  after-on set at packet no_target t e h = h
  after-on set at packet (loses l f) t e h = with-on l (links t) e h
  after-on set at packet (refuses l f) t e h = with-on l (links t) e h
  after-on set at packet (takes l f how) t e h =
      join-on set at (accept l packet f how (opening l at t)) (opening l at t) e (opened-on (nat_eq (waiting l t) 0 && nat_le (free l t) at) l t h)

  discard-links : (command : Command) (from : ℕ) (known : List FlowKey) (t : List Event) → AreOn (links t) → AreOn (links (discard_reached command from known t))
  discard-links command from [] t h = h
  discard-links command from (key ∷ known) t h = discard-links command (from + 1) known (cond (reaches command key) (discarded from ∷ t) t) (by (reaches command key))
    where
      by : (b : Bool) → AreOn (links (cond b (discarded from ∷ t) t))
      by true = h
      by false = h

  pub after-links : (r : Reply) (command : Command) (known : List FlowKey) (t : List Event) → AreOn (links t) → AreOn (links (after_command r command known t))
  after-links Deleted command known t h = discard-links command 0 known t h
  after-links _ command known t h = h

  module _ (set other : Settings) (same : (n : ℕ) → On n → set (ToPipe n) ≡ other (ToPipe n)) where
    start-same : (l : Link) (p : Accepted) (m : ℕ) → On (pipe_of l) → start_at set l p m ≡ start_at other l p m
    start-same l p m e = let s = same (pipe_of l) e in λ i. record { packet = p; moment = m; transmission = transmission_time (bandwidth_of (s i)) p.stamped.len; delay = delay_of (s i) }

    first-same : (at : ℕ) (ls : List Link) (t : List Event) → AreOn ls → first_start set at ls t ≡ first_start other at ls t
    first-same at [] t h = refl
    first-same at (l ∷ ls) t h = let rest = first-same at ls t h.1 in
        λ i. sooner (cond (nat_le (free l t) at) (option_map (λ (p : Accepted). start-same l p (free l t) h.0 i) (next_packet l t)) None) (rest i)

    settle-same : (most at : ℕ) (t : List Event) → AreOn (links t) → settle most set at t ≡ settle most other at t
    settle-same zero at t h = refl
    settle-same (suc most) at t h =
        step (first_start set at (links t) t) (λ x. settle-same most at (started x ∷ t) h)
        ∙ ap (λ (o : Option Start). elim o as (λ _. List Event) [ None ↦ t | Some s ↦ settle most other at (started s ∷ t) ]) (first-same at (links t) t h)
      where
        step : (o : Option Start) → ((x : Start) → settle most set at (started x ∷ t) ≡ settle most other at (started x ∷ t)) →
            elim o as (λ _. List Event) [ None ↦ t | Some s ↦ settle most set at (started s ∷ t) ] ≡ elim o as (λ _. List Event) [ None ↦ t | Some s ↦ settle most other at (started s ∷ t) ]
        step None rest = refl
        step (Some s) rest = rest s

    pub settled-same : (at : ℕ) (t : List Event) → AreOn (links t) → settled set at t ≡ settled other at t
    settled-same at t h = settle-same (waiting_all (links t) t) at t h

    pub after-same : (at : ℕ) (packet : Packet) (v : Verdict) (t : List Event) → IsOn v → after_verdict set at packet v t ≡ after_verdict other at packet v t
    after-same at packet no_target t h = refl
    after-same at packet (loses l f) t h = refl
    after-same at packet (refuses l f) t h = refl
    after-same at packet (takes l f how) t h =
        let p = accept l packet f how (opening l at t) in
        let s = start-same l p at h in
        λ i. cond (nat_le (free l (opening l at t)) at) (started (s i) ∷ arrived (accept l packet f how (opening l at t)) ∷ opening l at t)
        (arrived (accept l packet f how (opening l at t)) ∷ opening l at t)
