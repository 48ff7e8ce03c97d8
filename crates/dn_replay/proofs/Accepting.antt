-- How many packets calls have accepted: a verdict takes one or none, and nothing else does.
use Rattle.dn_replay.proofs.Words.{Bool, Call, Event, List, Ordered, Packet, Settings, Verdict, accept, accepted_count, after_verdict, ap, arith, arrived, call_limit, cond, count-event}
use Rattle.dn_replay.proofs.Words.{counted_reply, false, free, is_arrival, join, length, loses, lost, nat_eq, nat_le, nat_tests, no_target, opened-count, opening, refl, refused, refuses, reply}
use Rattle.dn_replay.proofs.Words.{settled, settled-count, start_at, started, takes, true, waiting, ℕ, ◌&&◌, ◌+◌, ◌<◌, ◌∙◌, ◌∷◌, ◌≡◌, ◌≤◌}
use Rattle.dn_types.specs.Trace.{Accepted}

-- An event that is no arrival.
pub other-event : (e : Event) (trace : List Event) → is_arrival e ≡ false → accepted_count (e ∷ trace) ≡ accepted_count trace
other-event e trace is = let one = count-event is_arrival e trace in let none : cond {A = ℕ} (is_arrival e) 1 0 ≡ 0 = ap {B = ℕ} (λ b. cond b 1 0) is in omega (arith, one, none)

one-arrival : (p : Accepted) (trace : List Event) → accepted_count (arrived p ∷ trace) ≡ accepted_count trace + 1
one-arrival p trace = let one = count-event is_arrival (arrived p) trace in omega (arith, one)

pub settled-accepts : (set : Settings) (at : ℕ) (trace : List Event) → accepted_count (settled set at trace) ≡ accepted_count trace
settled-accepts set at trace = settled-count is_arrival (λ l. refl) (λ s. refl) (λ f. refl) (λ m. refl) set at trace

pub joined : (set : Settings) (at : ℕ) (q : Accepted) (trace : List Event) → accepted_count (join set at q trace) ≡ accepted_count trace + 1
joined set at q trace = by (nat_le (free q.link trace) at)
  where
    by : (b : Bool) → accepted_count (cond b (started (start_at set q.link q at) ∷ arrived q ∷ trace) (arrived q ∷ trace)) ≡ accepted_count trace + 1
    by true = other-event (started (start_at set q.link q at)) (arrived q ∷ trace) refl ∙ one-arrival q trace
    by false = one-arrival q trace

-- A verdict leaves no fewer.
pub verdict-grows : (set : Settings) (at : ℕ) (packet : Packet) (v : Verdict) (trace : List Event) → accepted_count trace ≤ accepted_count (after_verdict set at packet v trace)
verdict-grows set at packet no_target trace = omega arith
verdict-grows set at packet (loses link flow) trace = let same = other-event (lost link flow) trace refl in omega (arith, same)
verdict-grows set at packet (refuses link flow) trace = let same = other-event (refused link flow) trace refl in omega (arith, same)
verdict-grows set at packet (takes link flow how) trace =
    let before = opening link at trace in
    let same = opened-count (nat_eq (waiting link trace) 0 && nat_le (free link trace) at) link trace in
    let one = joined set at (accept link packet flow how before) before in
    omega (arith, same, one)

pub counts : (calls : List Call) (c : Call) → length calls < call_limit → reply Ordered calls c ≡ counted_reply Ordered calls c
counts calls c few = let here : nat_le call_limit (length calls) ≡ false = grind (arith, nat_tests) in rw here refl
