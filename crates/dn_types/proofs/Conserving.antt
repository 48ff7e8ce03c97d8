-- While a packet waits for a link, the link is busy beyond the clock.
use Rattle.dn_types.proofs.Words.{Accepted, Advance, Bool, Call, Collect, Command, Configure, Deleted, Event, FlowKey, Link, List, Packet, Reply, Settings, Show, Submit, Target, Verdict, []}
use Rattle.dn_types.proofs.Words.{accept, after_command, after_verdict, ap, arith, arrived, backlog, cond, discard_reached, discarded, drop, effective_moment, false, free, is_of, join, keys}
use Rattle.dn_types.proofs.Words.{leb_tells, length, link_eq, link_of, loses, max, nat_eq, nat_le, nat_tests, no_target, opened, opening, reaches, refl, refuses, reply_to_command, settings}
use Rattle.dn_types.proofs.Words.{settled, start_at, started, subst, takes, trace_of, true, verdict, waiting, ℕ, ⊎_elim, ◌&&◌, ◌++◌, ◌+◌, ◌<◌, ◌∷◌, ◌≡◌, ◌≤◌}
use Rattle.dn_types.proofs.Known.{all-known}
use Rattle.dn_types.proofs.Ordered.{IsHome, link_of-home, empty-home}
use Rattle.dn_types.proofs.Settled.{settled-ends, and-left, link_eq-true}
use Rattle.dn_types.proofs.StepFacts.{clear-some}

abbrev Busy : ℕ → List Event → Type 0
Busy at trace = (link : Link) (flow : ℕ) → IsHome link flow → 0 < length (backlog link flow trace) → at < free link trace

busy-settled : (set : Settings) (at : ℕ) (trace : List Event) → Busy at (settled set at trace)
busy-settled set at trace link flow home some =
    ⊎_elim (λ soon. let none = ap (λ (q : List Accepted). length q) (empty-home set at link flow (settled set at trace) home
    (settled-ends set at link trace) soon.1) in absurd (omega arith)) (λ later. later.1) (leb_tells (free link (settled set at trace)) at)

busy-opened : (at : ℕ) (b : Bool) (l : Link) (trace : List Event) → Busy at trace → Busy at (cond b (opened l ∷ trace) trace)
busy-opened at true l trace h = h
busy-opened at false l trace h = h

-- A packet more waits only where its link is busy.
busy-arrived : (at : ℕ) (p : Accepted) (trace : List Event) → at < free p.link trace → Busy at trace → Busy at (arrived p ∷ trace)
busy-arrived at p trace later h link flow home some = by (is_of link flow p) refl some
  where
    by : (b : Bool) → is_of link flow p ≡ b → 0 < length (cond b (backlog link flow trace ++ p ∷ []) (backlog link flow trace)) → at < free link trace
    by true e some = let same = ap (λ (l : Link). free l trace) (link_eq-true p.link link (and-left _ (nat_eq p.stamped.flow flow) e)) in omega arith
    by false e some = h link flow home some

-- A packet that starts on its arrival leaves none.
busy-started : (set : Settings) (at : ℕ) (p : Accepted) (trace : List Event) → free p.link trace ≤ at → Busy at trace → Busy at (started (start_at set p.link p at) ∷ arrived p ∷ trace)
busy-started set at p trace soon h link flow home some = by (link_eq p.link link) (nat_eq p.stamped.flow flow) refl some
  where
    idle : link_eq p.link link ≡ true → length (backlog link flow trace) ≡ 0
    idle e = ⊎_elim (λ none. omega (arith, none.1)) (λ more. let busy = h link flow home (omega (arith, more.1)) in let same =
        ap (λ (l : Link). free l trace) (link_eq-true p.link link e) in absurd (omega arith)) (leb_tells (length (backlog link flow trace)) 0)

    one : (q : List Accepted) → length q ≡ 0 → 0 < length (drop 1 (q ++ p ∷ [])) → ⊥
    one [] e some = absurd (omega arith)
    one (x ∷ q) e some = absurd (omega arith)

    by : (b c : Bool) → link_eq p.link link ≡ b →
        0 < length (cond (b && c) (drop 1 (cond (b && c) (backlog link flow trace ++ p ∷ []) (backlog link flow trace)))
        (cond (b && c) (backlog link flow trace ++ p ∷ []) (backlog link flow trace))) →
        at < cond b (at + (start_at set p.link p at).transmission) (free link trace)
    by true true e some = absurd (one (backlog link flow trace) (idle e) some)
    by true false e some = let none = idle e in absurd (omega arith)
    by false c e some = h link flow home some

busy-join : (set : Settings) (at : ℕ) (p : Accepted) (trace : List Event) → Busy at trace → Busy at (join set at p trace)
busy-join set at p trace h = by (nat_le (free p.link trace) at) refl
  where
    by : (b : Bool) → nat_le (free p.link trace) at ≡ b → Busy at (cond b (started (start_at set p.link p at) ∷ arrived p ∷ trace) (arrived p ∷ trace))
    by true e = busy-started set at p trace (grind (arith, nat_tests)) h
    by false e = busy-arrived at p trace (grind (arith, nat_tests)) h

busy-verdict : (set : Settings) (at : ℕ) (packet : Packet) (v : Verdict) (trace : List Event) → Busy at trace → Busy at (after_verdict set at packet v trace)
busy-verdict set at packet no_target trace h = h
busy-verdict set at packet (loses link flow) trace h = h
busy-verdict set at packet (refuses link flow) trace h = h
busy-verdict set at packet (takes link flow how) trace h =
    busy-join set at (accept link packet flow how (opening link at trace)) (opening link at trace) (busy-opened at (nat_eq (waiting link trace) 0 && nat_le (free link trace) at) link trace h)

busy-discard : (at : ℕ) (command : Command) (flow : ℕ) (known : List FlowKey) (trace : List Event) → Busy at trace → Busy at (discard_reached command flow known trace)
busy-discard at command flow [] trace h = h
busy-discard at command flow (key ∷ known) trace h = busy-discard at command (flow + 1) known (cond (reaches command key) (discarded flow ∷ trace) trace) (one (reaches command key))
  where
    one : (b : Bool) → Busy at (cond b (discarded flow ∷ trace) trace)
    one true = λ link g home some. h link g home (clear-some (nat_eq flow g) (backlog link g trace) some)
    one false = h

busy-until : (at to : ℕ) (trace : List Event) → at ≡ to → Busy at trace → Busy to trace
busy-until at to trace e h = subst (λ t. Busy t trace) e h

busy : (calls : List Call) → Busy (effective_moment calls) (trace_of calls)
busy [] = λ link flow home some. absurd (omega arith)
busy (Configure command ∷ calls) =
    by (reply_to_command calls command) (busy-until (effective_moment calls) (effective_moment (Configure command ∷ calls)) (trace_of calls) (omega arith) (busy calls))
  where
    by : (r : Reply) → Busy (effective_moment (Configure command ∷ calls)) (trace_of calls) →
        Busy (effective_moment (Configure command ∷ calls)) (after_command r command (keys calls) (trace_of calls))
    by Deleted same = busy-discard (effective_moment (Configure command ∷ calls)) command 0 (keys calls) (trace_of calls) same
    by _ same = same
busy (Submit target packet moment ∷ calls) =
    let at = max (effective_moment calls) moment in
    let before = settled (settings calls) at (trace_of calls) in
    busy-verdict (settings calls) at packet (verdict calls target packet before) before (busy-settled (settings calls) at (trace_of calls))
busy (Advance moment ∷ calls) = busy-settled (settings calls) (max (effective_moment calls) moment) (trace_of calls)
busy (Collect moment ∷ calls) = busy-settled (settings calls) (max (effective_moment calls) moment) (trace_of calls)
busy (Show ∷ calls) = busy-until (effective_moment calls) (effective_moment (Show ∷ calls)) (trace_of calls) (omega arith) (busy calls)

pub conserves-work : (calls : List Call) (target : Target) (flow pipe : ℕ) → 0 < length (backlog (link_of target flow pipe) flow (trace_of calls)) →
    effective_moment calls < free (link_of target flow pipe) (trace_of calls)
conserves-work calls target flow pipe some = busy calls (link_of target flow pipe) flow (link_of-home target flow pipe) some

-- So it is for any link.
pub busy-link : (calls : List Call) (link : Link) (flow : ℕ) → 0 < length (backlog link flow (trace_of calls)) → effective_moment calls < free link (trace_of calls)
busy-link calls link flow some =
    let k = all-known calls link flow some in
    let here = ap (λ (l : Link). length (backlog l flow (trace_of calls))) k.link_is in
    let there = ap (λ (l : Link). free l (trace_of calls)) k.link_is in
    let busy' = conserves-work calls k.key.target flow k.key.pipe (omega (arith, here, some)) in
    omega (arith, busy', there)
