-- A link keeps the configured rate while the command stays in force.
use Rattle.dn_laws.proofs.Words.{List, Option, Some, [], ap, append_assoc, append_cancel_right, link_eq-true, refl, subst, sym, true, ℕ, ◌*◌, ◌++◌, ◌+◌, ◌<◌, ◌^◌, ◌∙◌, ◌∷◌, ◌≡◌, ◌≤◌}
use Rattle.dn_laws.proofs.LawWords.{trace_of, effective_moment, Settings, settings, sent, IsAtBandwidth, transmission_time, StaysInForce, bandwidth_of, Link, link_eq, pipe_of, Start, Event, started}
use Rattle.dn_laws.proofs.LawWords.{Call, Command, Pipe, Limit, Mask, ToPipe}
use Rattle.dn_laws.proofs.Begun.{IsBegun, IsCaused, AllEvents, call-causes}
use Rattle.dn_laws.proofs.Rates.{keeps-the-rate}

module _ (bw : ℕ) (link : Link) where
  pub both-at : (f g : List Event) → IsAtBandwidth bw link f → IsAtBandwidth bw link g → IsAtBandwidth bw link (f ++ g)
  both-at [] g h k = k
  both-at (started s ∷ f) g h k = (h.0, both-at f g h.1 k)
  both-at (_ ∷ f) g h k = both-at f g h k

  pub front-at : (f g : List Event) → IsAtBandwidth bw link (f ++ g) → IsAtBandwidth bw link f
  front-at [] g h = tt
  front-at (started s ∷ f) g h = (h.0, front-at f g h.1)
  front-at (_ ∷ f) g h = front-at f g h

  pub back-at : (f g : List Event) → IsAtBandwidth bw link (f ++ g) → IsAtBandwidth bw link g
  back-at [] g h = h
  back-at (started s ∷ f) g h = back-at f g h.1
  back-at (_ ∷ f) g h = back-at f g h

module _ (number bw delay : ℕ) (limit : Limit) (loss : ℕ) (buckets : Option ℕ) (mask : Mask) (link : Link) (of_pipe : pipe_of link ≡ number) where
  abbrev pub command : Command
  command = Pipe number bw delay limit loss buckets mask

  start-at : (set : Settings) (at : ℕ) (old : List Event) (s : Start) (f : List Event) → set (ToPipe number) ≡ Some command → IsBegun set at old s f → link_eq s.packet.link link ≡ true →
      s.transmission ≡ transmission_time bw s.packet.stamped.len
  start-at set at old s f in_force h same =
      let pipe : pipe_of s.packet.link ≡ number = ap pipe_of (link_eq-true s.packet.link link same) ∙ of_pipe in
      ap (λ (x : Start). x.transmission) h.configured ∙ ap {B = ℕ} (λ n. transmission_time (bandwidth_of (set (ToPipe n))) s.packet.stamped.len) pipe
      ∙ ap {B = ℕ} (λ o. transmission_time (bandwidth_of o) s.packet.stamped.len) in_force

  pub call-at : (calls : List Call) (c : Call) (f : List Event) → settings calls (ToPipe number) ≡ Some command → AllEvents (IsCaused calls c) (trace_of calls) f → IsAtBandwidth bw link f
  call-at calls c [] in_force h = tt
  call-at calls c (started s ∷ f) in_force h = (λ same. start-at (settings calls) (effective_moment (c ∷ calls)) (trace_of calls) s f in_force h.0 same, call-at calls c f in_force h.1)
  call-at calls c (_ ∷ f) in_force h = call-at calls c f in_force h.1

  pub now : (after calls : List Call) → StaysInForce (ToPipe number) command after calls → settings (after ++ calls) (ToPipe number) ≡ Some command
  now [] calls h = h
  now (c ∷ after) calls h = h.0

  abbrev pub Adds-at : List Event → List Event → Type 0
  Adds-at new old = (g : List Event) × (new ≡ g ++ old) × IsAtBandwidth bw link g

  pub calls-at : (after calls : List Call) → StaysInForce (ToPipe number) command after calls → Adds-at (trace_of (after ++ calls)) (trace_of calls)
  calls-at [] calls h = ([], refl, tt)
  calls-at (c ∷ after) calls h =
      let rest = calls-at after calls h.1 in
      let new = call-causes (after ++ calls) c in (
        new.0 ++ rest.0,
        new.1 ∙ ap (λ (t : List Event). new.0 ++ t) rest.1
            ∙ sym (append_assoc new.0 rest.0 (trace_of calls)),
        both-at bw link new.0 rest.0 (call-at (after ++ calls) c new.0 (now after calls h.1) new.2) rest.2,
      )

pub keeps-the-configured-rate : (after calls : List Call) (number bw delay : ℕ) (limit : Limit) (loss : ℕ) (buckets : Option ℕ) (mask : Mask) (later between earlier : List Event) (s r : Start) →
    StaysInForce (ToPipe number) (Pipe number bw delay limit loss buckets mask) after calls → 0 < bw →
    trace_of (after ++ calls) ≡ (later ++ (started s ∷ (between ++ (started r ∷ earlier)))) ++ trace_of calls → pipe_of r.packet.link ≡ number → s.packet.link ≡ r.packet.link →
    sent r.packet.link (between ++ started r ∷ []) * 8 * 10 ^ 9 + r.moment * bw ≤ s.moment * bw
keeps-the-configured-rate after calls number bw delay limit loss buckets mask later between earlier s r stays some e of_pipe same =
    let added = calls-at number bw delay limit loss buckets mask r.packet.link of_pipe after calls stays in
    let parts : added.0 ≡ later ++ (started s ∷ (between ++ (started r ∷ earlier))) =
    append_cancel_right added.0 (later ++ (started s ∷ (between ++ (started r ∷ earlier)))) (trace_of calls) (sym added.1 ∙ e) in
    let all : IsAtBandwidth bw r.packet.link (later ++ (started s ∷ (between ++ (started r ∷ earlier)))) = subst (IsAtBandwidth bw r.packet.link) parts added.2 in
    let behind : IsAtBandwidth bw r.packet.link (started s ∷ (between ++ (started r ∷ earlier))) = back-at bw r.packet.link later (started s ∷ (between ++ (started r ∷ earlier))) all in
    let stretch : IsAtBandwidth bw r.packet.link (between ++ started r ∷ []) =
    front-at bw r.packet.link (between ++ started r ∷ []) earlier (subst (IsAtBandwidth bw r.packet.link) (sym (inner between)) behind.1) in
    keeps-the-rate (after ++ calls) later between (earlier ++ trace_of calls) s r bw (e ∙ outer later) same some stretch
  where
    inner : (xs : List Event) → (xs ++ started r ∷ []) ++ earlier ≡ xs ++ (started r ∷ earlier)
    inner [] = refl
    inner (x ∷ xs) = ap (λ (t : List Event). x ∷ t) (inner xs)

    middle : (xs : List Event) → (xs ++ (started r ∷ earlier)) ++ trace_of calls ≡ xs ++ (started r ∷ (earlier ++ trace_of calls))
    middle [] = refl
    middle (x ∷ xs) = ap (λ (t : List Event). x ∷ t) (middle xs)

    outer : (xs : List Event) → (xs ++ (started s ∷ (between ++ (started r ∷ earlier)))) ++ trace_of calls ≡ (xs ++ (started s ∷ between)) ++ (started r ∷ (earlier ++ trace_of calls))
    outer [] = ap (λ (t : List Event). started s ∷ t) (middle between)
    outer (x ∷ xs) = ap (λ (t : List Event). x ∷ t) (outer xs)
