-- When a packet starts, which one, and with what bandwidth and delay.
use Rattle.dn_laws.proofs.Words.{IsKept, IsOfTarget, List, None, Option, Some, StartsAsConfigured, ap, false, inl, inr, is_some, next-picked, refl, settings-kept, subst, sym, true, ℕ, ⊎_elim, ⊤}
use Rattle.dn_laws.proofs.Words.{◌++◌, ◌∙◌, ◌∷◌, ◌≡◌, ◌⊎◌}
use Rattle.dn_laws.proofs.LawWords.{trace_of, effective_moment, settings, IsStartBy, free, transmission_time, next_packet, virtual_time, link_heads, start_at, bandwidth_of, delay_of, Link, shared}
use Rattle.dn_laws.proofs.LawWords.{Start, Event, arrived, started, pipe_of, pick, Call, Command, Pipe, ToPipe}
use Rattle.dn_laws.proofs.Begun.{IsBegun, IsCaused, call-causes, adds-among}

abbrev IsPipe : Command → Type 0
IsPipe (Pipe number bw delay limit loss buckets mask) = ⊤
IsPipe _ = ⊥

module _ (calls : List Call) (c : Call) (later between : List Event) (s : Start) (e : trace_of (c ∷ calls) ≡ later ++ started s ∷ between ++ trace_of calls) where
  pub begun : IsBegun (settings calls) (effective_moment (c ∷ calls)) (trace_of calls) s between
  begun = adds-among (IsCaused calls c) (trace_of calls) (trace_of (c ∷ calls)) later between (started s) (call-causes calls c) e

  pub starts-at-once : (s.moment ≡ free s.packet.link (between ++ trace_of calls)) ⊎ ((s.moment ≡ effective_moment (c ∷ calls)) × ((before : List Event)
      × (between ≡ arrived s.packet ∷ before)))
  starts-at-once = ⊎_elim (λ free_then. inl free_then.0) (λ on_arrival. inr on_arrival) begun.when

  pub starts-the-next : next_packet s.packet.link (between ++ trace_of calls) ≡ Some s.packet
  starts-the-next = begun.picked

  pub starts-the-pick : (pipe : ℕ) → s.packet.link ≡ shared pipe →
      pick (virtual_time (shared pipe) (between ++ trace_of calls)) (link_heads (shared pipe) (between ++ trace_of calls)) ≡ Some s.packet.stamped
  starts-the-pick pipe on = next-picked pipe (between ++ trace_of calls) s.packet (ap (λ (l : Link). next_packet l (between ++ trace_of calls)) (sym on) ∙ starts-the-next)

  with-setting : (o : Option Command) → s ≡ start_at (settings calls) s.packet.link s.packet s.moment → settings calls (ToPipe (pipe_of s.packet.link)) ≡ o →
      (s.transmission ≡ transmission_time (bandwidth_of o) s.packet.stamped.len) × (s.delay ≡ delay_of o)
  with-setting o is set =
      (ap (λ (x : Start). x.transmission) is ∙ ap (λ (p : Option Command). transmission_time (bandwidth_of p) s.packet.stamped.len) set, ap (λ (x : Start). x.delay) is ∙ ap delay_of set)

  by-command : (command : Command) → settings calls (ToPipe (pipe_of s.packet.link)) ≡ Some command → IsPipe command → IsStartBy command s
  by-command (Pipe number bw delay limit loss buckets mask) set is = with-setting (Some (Pipe number bw delay limit loss buckets mask)) begun.configured set
  by-command _ set is = absurd is

pub starts-as-configured : StartsAsConfigured
starts-as-configured calls c later between s e =
    by (settings calls (ToPipe (pipe_of s.packet.link))) refl (begun calls c later between s e).carried (settings-kept calls (ToPipe (pipe_of s.packet.link)))
  where
    is-pipe : (n : ℕ) (command : Command) → IsOfTarget (ToPipe n) command → IsPipe command
    is-pipe n (Pipe number bw delay limit loss buckets mask) h = tt
    is-pipe n _ h = absurd h

    by : (o : Option Command) → settings calls (ToPipe (pipe_of s.packet.link)) ≡ o → is_some (settings calls (ToPipe (pipe_of s.packet.link))) ≡ true →
        IsKept (ToPipe (pipe_of s.packet.link)) (settings calls (ToPipe (pipe_of s.packet.link))) → (command : Command) × (settings calls (ToPipe (pipe_of s.packet.link)) ≡ Some command)
        × IsStartBy command s
    by None set there kept = let t : false ≡ true = sym (ap (λ (o : Option Command). is_some o) set) ∙ there in absurd cc
    by (Some command) set there kept =
        (command, set, by-command calls c later between s e command set (is-pipe (pipe_of s.packet.link) command (subst (IsKept (ToPipe (pipe_of s.packet.link))) set kept)))
