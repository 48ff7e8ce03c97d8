-- What is given is of a known flow, so that it is in the part of one pipe.
use Rattle.dn_laws.proofs.Words.{All, All-filter, All-nil, AreKnown, Bool, List, None, Option, PartsAreWhole, Some, [], all-known, ap, cond, false, first_start-of, flow-start, in_order-all}
use Rattle.dn_laws.proofs.Words.{keys-stay, known-flow, known-started, map, max, nat_eq, nat_le, nat_lt, next_packet-first, next_start-packet, refl, slice_get, slice_get_within, subst, suc, sym}
use Rattle.dn_laws.proofs.Words.{true, zero, ℕ, ⊤, ◌&&◌, ◌∙◌, ◌∷◌, ◌≡◌}
use Rattle.dn_laws.proofs.LawWords.{link_of, Verdict, no_target, loses, refuses, takes, verdict_by, accept, join, after_verdict, trace_of, effective_moment, Settings, settings, delivery_of}
use Rattle.dn_laws.proofs.LawWords.{undelivered, given, is_lost, is_full, Treatment, treatment, key_of, keys, keys_with, flow_number, with_key, free, last_due, of_pipe, is_flow_of, is_key_on}
use Rattle.dn_laws.proofs.LawWords.{is_some_key_on, waiting, opening, start_at, first_start, settle, settled, waiting_all, Link, shared, Accepted, Start, Event, opened, arrived, started, backlog}
use Rattle.dn_laws.proofs.LawWords.{links, Call, Configure, Submit, Advance, Collect, Show, Delivery, FlowKey, Packet, Rule, Target, ToPipe, ToQueue}
use Rattle.dn_laws.proofs.Isolation.{commands-move-nothing}
use Rattle.dn_laws.proofs.PartCalls.{stands-there}

module _ (rule : Rule) where
  abbrev HasKey : List FlowKey → Delivery → Type 0
  HasKey known d = (key : FlowKey) × (slice_get known d.flow ≡ Some key)

  abbrev HaveKeys : List FlowKey → List Event → Type 0
  HaveKeys known t = All (HasKey known) (undelivered rule t)

  start-keyed : (set : Settings) (known : List FlowKey) (in_force : Settings) (at : ℕ) (t : List Event) (s : Start) → AreKnown set known t → first_start in_force at (links t) t ≡ Some s →
      (key : FlowKey) × (slice_get known s.packet.stamped.flow ≡ Some key)
  start-keyed set known in_force at t s h e =
      let l = first_start-of in_force at (links t) t s e in
      let first = next_packet-first l.0 t s.packet (next_start-packet in_force at l.0 t s l.1) in
      let k = h l.0 first.0 (slice_get_within (backlog l.0 first.0 t) 0 s.packet first.1) in
      (k.key, ap (slice_get known) (flow-start l.0 first.0 s t first.1) ∙ stands-there (of_pipe 0) known first.0 k.key k.at)

  settle-keyed : (set in_force : Settings) (known : List FlowKey) (most at : ℕ) (t : List Event) → AreKnown set known t → HaveKeys known t → HaveKeys known (settle most in_force at t)
  settle-keyed set in_force known zero at t h keyed = keyed
  settle-keyed set in_force known (suc most) at t h keyed = step (first_start in_force at (links t) t) refl (λ x g k. settle-keyed set in_force known most at (started x ∷ t) g k)
    where
      step : (o : Option Start) → first_start in_force at (links t) t ≡ o
          → ((x : Start) → AreKnown set known (started x ∷ t) → HaveKeys known (started x ∷ t) → HaveKeys known (settle most in_force at (started x ∷ t))) →
          HaveKeys known (elim o as (λ _. List Event) [ None ↦ t | Some s ↦ settle most in_force at (started s ∷ t) ])
      step None e rest = keyed
      step (Some s) e rest =
          rest s (known-started set known s t h) (in_order-all (HasKey known) (delivery_of rule s (last_due rule s.packet.link t)) (undelivered rule t)
          (start-keyed set known in_force at t s h e) keyed)

  settled-keyed : (calls : List Call) (at : ℕ) → HaveKeys (keys calls) (trace_of calls) → HaveKeys (keys calls) (settled (settings calls) at (trace_of calls))
  settled-keyed calls at keyed = settle-keyed (settings calls) (settings calls) (keys calls) (waiting_all (links (trace_of calls)) (trace_of calls)) at (trace_of calls) (all-known calls) keyed

  abbrev IsKeyed : List FlowKey → Verdict → Type 0
  IsKeyed known (takes l f how) = (key : FlowKey) × (slice_get known f ≡ Some key)
  IsKeyed known _ = ⊤

  verdict-keyed : (known : List FlowKey) (target : Target) (packet : Packet) (o : Option Treatment) (t : List Event)
      → IsKeyed (keys_with target packet.tuple o known) (verdict_by known target packet o t)
  verdict-keyed known target packet None t = tt
  verdict-keyed known target packet (Some how) t =
      let key = key_of target packet.tuple how in
      let flow = flow_number known key in
      let link = link_of target flow how.pipe in
      by link flow (stands-there (of_pipe 0) (with_key key known) flow key (known-flow key known)) (is_lost how.loss packet.word) (is_full how.limit (map (λ p. p.stamped.len) (backlog link flow t)))
    where
      by : (l : Link) (f : ℕ) → slice_get (with_key (key_of target packet.tuple how) known) f ≡ Some (key_of target packet.tuple how) → (b c : Bool) →
          IsKeyed (with_key (key_of target packet.tuple how) known) (cond b (loses l f) (cond c (refuses l f) (takes l f how)))
      by l f e true c = tt
      by l f e false true = tt
      by l f e false false = (key_of target packet.tuple how, e)

  opened-keyed : (known : List FlowKey) (b : Bool) (l : Link) (t : List Event) → HaveKeys known t → HaveKeys known (cond b (opened l ∷ t) t)
  opened-keyed known true l t h = h
  opened-keyed known false l t h = h

  join-keyed : (known : List FlowKey) (set : Settings) (at : ℕ) (p : Accepted) (t : List Event)
      → (key : FlowKey) × (slice_get known p.stamped.flow ≡ Some key) → HaveKeys known t → HaveKeys known (join set at p t)
  join-keyed known set at p t k h = by (nat_le (free p.link t) at)
    where
      by : (b : Bool) → HaveKeys known (cond b (started (start_at set p.link p at) ∷ arrived p ∷ t) (arrived p ∷ t))
      by true = in_order-all (HasKey known) (delivery_of rule (start_at set p.link p at) (last_due rule p.link t)) (undelivered rule t) k h
      by false = h

  after-keyed : (known : List FlowKey) (set : Settings) (at : ℕ) (packet : Packet) (v : Verdict) (t : List Event)
      → IsKeyed known v → HaveKeys known t → HaveKeys known (after_verdict set at packet v t)
  after-keyed known set at packet no_target t k h = h
  after-keyed known set at packet (loses l f) t k h = h
  after-keyed known set at packet (refuses l f) t k h = h
  after-keyed known set at packet (takes l f how) t k h =
      join-keyed known set at (accept l packet f how (opening l at t)) (opening l at t) k (opened-keyed known (nat_eq (waiting l t) 0 && nat_le (free l t) at) l t h)

  all-keyed : (calls : List Call) → HaveKeys (keys calls) (trace_of calls)
  all-keyed [] = All-nil (HasKey [])
  all-keyed (Configure command ∷ calls) =
      let still = commands-move-nothing rule calls command (shared 0) in
      subst (λ (ds : List Delivery). All (HasKey (keys calls)) ds) (sym still.3) (all-keyed calls)
  all-keyed (Submit target packet moment ∷ calls) =
      let at = max (effective_moment calls) moment in
      let before = settled (settings calls) at (trace_of calls) in
      let o = treatment (settings calls target) in
      let old = settled-keyed calls at (all-keyed calls) in
      after-keyed (keys (Submit target packet moment ∷ calls)) (settings calls) at packet (verdict_by (keys calls) target packet o before) before
      (verdict-keyed (keys calls) target packet o before)
      (λ k d lt. let had = old k d lt in (had.0, keys-stay calls (Submit target packet moment) _ had.0 had.1))
  all-keyed (Advance moment ∷ calls) = settled-keyed calls (max (effective_moment calls) moment) (all-keyed calls)
  all-keyed (Collect moment ∷ calls) =
      let at = max (effective_moment calls) moment in
      All-filter (λ d. nat_lt at d.due) (HasKey (keys calls)) (undelivered rule (settled (settings calls) at (trace_of calls))) (settled-keyed calls at (all-keyed calls))
  all-keyed (Show ∷ calls) = all-keyed calls

on-its-pipe : (key : FlowKey) (pipe : ℕ) → is_key_on (of_pipe pipe) key ≡ nat_eq key.pipe pipe
on-its-pipe key pipe = by key.target
  where
    by : (t : Target) → is_flow_of (of_pipe pipe) t key ≡ nat_eq key.pipe pipe
    by (ToPipe n) = refl
    by (ToQueue n) = refl

pub parts-are-whole : PartsAreWhole
parts-are-whole rule calls at = λ k d lt.
    let had = All-filter (λ d. nat_le d.due at) (HasKey rule (keys calls)) (undelivered rule (trace_of calls)) (all-keyed rule calls) k d lt in
    (had.0, had.1, λ pipe. ap (is_some_key_on (of_pipe pipe)) had.1 ∙ on-its-pipe had.0 pipe)
