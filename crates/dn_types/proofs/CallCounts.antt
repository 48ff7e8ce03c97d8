-- Of arrivals, losses and refusals a call makes one at most, so there are at most as many as calls.
use Rattle.dn_types.proofs.Words.{Accepted, Advance, Bool, Call, Collect, Command, Configure, Deleted, Event, FlowKey, Link, List, None, Option, Packet, Reply, Settings, Show, Some, Start, Submit}
use Rattle.dn_types.proofs.Words.{Verdict, [], accept, after_command, after_verdict, ap, arith, arrived, collected, cond, count_by, discard_reached, discarded, effective_moment, false}
use Rattle.dn_types.proofs.Words.{first_start, free, join, keys, length, links, loses, lost, max, nat_eq, nat_le, no_target, opened, opening, reaches, refl, refused, refuses, reply_to_command}
use Rattle.dn_types.proofs.Words.{settings, settle, settled, start_at, started, suc, takes, trace_of, true, verdict, waiting, waiting_all, zero, ℕ, ◌&&◌, ◌+◌, ◌∙◌, ◌∷◌, ◌≡◌, ◌≤◌}
use Rattle.dn_types.proofs.Giving.{count-event}
use Rattle.dn_types.proofs.StepFacts.{at-most-one}

-- Events that the test counts: none of those of which a call can make several.
module _ (p : Event → Bool) (no_opening : (l : Link) → p (opened l) ≡ false) (no_start : (s : Start) → p (started s) ≡ false)
    (no_discard : (f : ℕ) → p (discarded f) ≡ false) (no_collect : (at : ℕ) → p (collected at) ≡ false) where
  pub count-none : (e : Event) (trace : List Event) → p e ≡ false → count_by p (e ∷ trace) ≡ count_by p trace
  count-none e trace h = let same = count-event p e trace in let none : cond {A = ℕ} (p e) 1 0 ≡ 0 = ap {B = ℕ} (λ b. cond b 1 0) h in omega (arith, same, none)

  count-one : (e : Event) (trace : List Event) → count_by p (e ∷ trace) ≤ count_by p trace + 1
  count-one e trace = let same = count-event p e trace in let most = at-most-one (p e) in omega (arith, same, most)

  settle-count : (most : ℕ) (set : Settings) (at : ℕ) (trace : List Event) → count_by p (settle most set at trace) ≡ count_by p trace
  settle-count zero set at trace = refl
  settle-count (suc most) set at trace = step (first_start set at (links trace) trace) (λ t. settle-count most set at t)
    where
      step : (o : Option Start) → ((t : List Event) → count_by p (settle most set at t) ≡ count_by p t)
          → count_by p (elim o as (λ _. List Event) [ None ↦ trace | Some s ↦ settle most set at (started s ∷ trace) ]) ≡ count_by p trace
      step None rest = refl
      step (Some s) rest = rest (started s ∷ trace) ∙ count-none (started s) trace (no_start s)

  -- A settling makes none.
  pub settled-count : (set : Settings) (at : ℕ) (trace : List Event) → count_by p (settled set at trace) ≡ count_by p trace
  settled-count set at trace = settle-count (waiting_all (links trace) trace) set at trace

  join-count : (set : Settings) (at : ℕ) (q : Accepted) (trace : List Event) → count_by p (join set at q trace) ≤ count_by p trace + 1
  join-count set at q trace = by (nat_le (free q.link trace) at)
    where
      by : (b : Bool) → count_by p (cond b (started (start_at set q.link q at) ∷ arrived q ∷ trace) (arrived q ∷ trace)) ≤ count_by p trace + 1
      by true = let one = count-one (arrived q) trace in
          let none = count-none (started (start_at set q.link q at)) (arrived q ∷ trace) (no_start (start_at set q.link q at)) in omega (arith, one, none)
      by false = count-one (arrived q) trace

  pub opened-count : (b : Bool) (link : Link) (trace : List Event) → count_by p (cond b (opened link ∷ trace) trace) ≡ count_by p trace
  opened-count true link trace = count-none (opened link) trace (no_opening link)
  opened-count false link trace = refl

  verdict-count : (set : Settings) (at : ℕ) (packet : Packet) (v : Verdict) (trace : List Event) → count_by p (after_verdict set at packet v trace) ≤ count_by p trace + 1
  verdict-count set at packet no_target trace = omega arith
  verdict-count set at packet (loses link flow) trace = count-one (lost link flow) trace
  verdict-count set at packet (refuses link flow) trace = count-one (refused link flow) trace
  verdict-count set at packet (takes link flow how) trace =
      let before = opening link at trace in
      let same = opened-count (nat_eq (waiting link trace) 0 && nat_le (free link trace) at) link trace in
      let one = join-count set at (accept link packet flow how before) before in
      omega (arith, same, one)

  discard-count : (command : Command) (flow : ℕ) (known : List FlowKey) (trace : List Event) → count_by p (discard_reached command flow known trace) ≡ count_by p trace
  discard-count command flow [] trace = refl
  discard-count command flow (key ∷ known) trace = discard-count command (flow + 1) known (cond (reaches command key) (discarded flow ∷ trace) trace) ∙ one (reaches command key)
    where
      one : (b : Bool) → count_by p (cond b (discarded flow ∷ trace) trace) ≡ count_by p trace
      one true = count-none (discarded flow) trace (no_discard flow)
      one false = refl

  pub command-count : (r : Reply) (command : Command) (known : List FlowKey) (trace : List Event) → count_by p (after_command r command known trace) ≡ count_by p trace
  command-count Deleted command known trace = discard-count command 0 known trace
  command-count _ command known trace = refl

  pub trace-count : (calls : List Call) → count_by p (trace_of calls) ≤ length calls
  trace-count [] = omega arith
  trace-count (Configure command ∷ calls) =
      let rest = trace-count calls in
      let none = command-count (reply_to_command calls command) command (keys calls) (trace_of calls) in
      omega (arith, rest, none)
  trace-count (Submit target packet moment ∷ calls) =
      let rest = trace-count calls in
      let at = max (effective_moment calls) moment in
      let before = settled (settings calls) at (trace_of calls) in
      let none = settled-count (settings calls) at (trace_of calls) in
      let one = verdict-count (settings calls) at packet (verdict calls target packet before) before in
      omega (arith, rest, none, one)
  trace-count (Advance moment ∷ calls) =
      let rest = trace-count calls in
      let none = settled-count (settings calls) (max (effective_moment calls) moment) (trace_of calls) in
      omega (arith, rest, none)
  trace-count (Collect moment ∷ calls) =
      let rest = trace-count calls in
      let at = max (effective_moment calls) moment in
      let none = settled-count (settings calls) at (trace_of calls) in
      let same = count-none (collected at) (settled (settings calls) at (trace_of calls)) (no_collect at) in
      omega (arith, rest, none, same)
  trace-count (Show ∷ calls) = let rest = trace-count calls in omega (arith, rest)
