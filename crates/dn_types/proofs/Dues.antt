-- What a Collect gives and leaves, and how the due moments of a link go on.
use Rattle.dn_types.proofs.Words.{All, Bool, Call, Collect, Event, Link, List, Ordered, Rule, Start, [], ap, arith, arrival_time, collected, cond, delivery_of, due_by, effective_moment, false}
use Rattle.dn_types.proofs.Words.{filter_passes, get_or, given, given_count, last_due, leb-true, link_eq, ltb-true, max, nat_le, nat_lt, settings, settled, started, sym, trace_of, true}
use Rattle.dn_types.proofs.Words.{undelivered, ℕ, ◌++◌, ◌<◌, ◌∷◌, ◌≡◌, ◌≤◌}
use Rattle.dn_types.proofs.Giving.{gives-started}
use Rattle.dn_types.proofs.Settled.{link_eq-refl}
use Rattle.dn_types.proofs.Once.{starts-once}

pub gives-once : (rule : Rule) (number : ℕ) (calls : List Call) → given_count rule number (trace_of calls) ≤ 1
gives-once rule number calls = let all = gives-started rule number (trace_of calls) in let once = starts-once number calls in omega arith

pub gives-what-is-due : (rule : Rule) (at : ℕ) (trace : List Event) → All (λ d. d.due ≤ at) (given rule at trace)
gives-what-is-due rule at trace = λ k d h. leb-true (get_or (given rule at trace) k d).due at (filter_passes (λ d. nat_le d.due at) (undelivered rule trace) k d h)

pub leaves-what-is-not-due : (rule : Rule) (moment : ℕ) (calls : List Call) → All (λ d. effective_moment (Collect moment ∷ calls) < d.due) (undelivered rule (trace_of (Collect moment ∷ calls)))
leaves-what-is-not-due rule moment calls =
    let at = effective_moment (Collect moment ∷ calls) in
    let before = settled (settings calls) at (trace_of calls) in
    λ k d h. ltb-true at (get_or (undelivered rule (collected at ∷ before)) k d).due (filter_passes (λ d. nat_lt at d.due) (undelivered rule before) k d h)

-- ---- The due moments of a link

one-more : (link : Link) (e : Event) (trace : List Event) → last_due Ordered link trace ≤ last_due Ordered link (e ∷ trace)
one-more link (started s) trace = by (link_eq s.packet.link link)
  where
    by : (b : Bool) → last_due Ordered link trace ≤ cond b (max (last_due Ordered link trace) (arrival_time s)) (last_due Ordered link trace)
    by true = omega arith
    by false = omega arith
one-more link _ trace = omega arith

pub due-is-last : (rule : Rule) (s : Start) (trace : List Event) → (delivery_of rule s (last_due rule s.packet.link trace)).due ≡ last_due rule s.packet.link (started s ∷ trace)
due-is-last rule s trace = sym (ap (λ b. cond b (due_by rule (arrival_time s) (last_due rule s.packet.link trace)) (last_due rule s.packet.link trace)) (link_eq-refl s.packet.link))

pub due-moments-never-fall : (link : Link) (later trace : List Event) → last_due Ordered link trace ≤ last_due Ordered link (later ++ trace)
due-moments-never-fall link [] trace = omega arith
due-moments-never-fall link (e ∷ later) trace = let rest = due-moments-never-fall link later trace in let more = one-more link e (later ++ trace) in omega arith
