-- The trace of calls is proper.
use Rattle.dn_types.proofs.Words.{Accepted, Advance, Bool, Call, Collect, Command, Configure, Deleted, Event, FlowKey, Link, List, None, Option, Packet, Reply, Settings, Show, Some, Start, Submit}
use Rattle.dn_types.proofs.Words.{Target, Treatment, Verdict, [], accept, accepted_count, accepted_since, after_command, after_verdict, and_from, ap, arith, arrived, backlog, cond}
use Rattle.dn_types.proofs.Words.{discard_reached, discarded, effective_moment, false, flow_number, free, is_full, is_lost, is_of, join, key_of, keys, link_of, links, loses, map, max, nat_eq}
use Rattle.dn_types.proofs.Words.{nat_le, nat_tests, next_start, no_target, opened, opening, own, reaches, refl, refuses, reply_to_command, settings, settled, shared, slice_get, start_at, started}
use Rattle.dn_types.proofs.Words.{started_since, subst, sym, takes, trace_of, treatment, true, verdict, verdict_by, waiting, waiting_all, ℕ, ⊤, ◌&&◌, ◌++◌, ◌+◌, ◌∙◌, ◌∷◌, ◌≡◌, ◌≤◌}
use Rattle.dn_types.specs.declared.target.Target.TheVariants.{Pipe as ToPipe, Queue as ToQueue}
use Rattle.dn_types.proofs.Settled.{settled-ends, link_eq-refl}
use Rattle.dn_types.proofs.Fifo.{IsProper, in-order-proper}
use Rattle.dn_types.proofs.Proper.{settle-proper, no-next, none-first}
use Rattle.dn_types.proofs.Firsts.{none-shared}

-- An own link is of the flow.
abbrev pub IsHome : Link → ℕ → Type 0
IsHome (own pipe f) flow = f ≡ flow
IsHome (shared pipe) flow = ⊤

-- A packet is taken on a link of its flow.
abbrev pub GoesHome : Verdict → Type 0
GoesHome (takes link flow how) = IsHome link flow
GoesHome _ = ⊤

pub link_of-home : (target : Target) (flow pipe : ℕ) → IsHome (link_of target flow pipe) flow
link_of-home (ToPipe n) flow pipe = refl
link_of-home (ToQueue n) flow pipe = tt

pub verdict-home : (known : List FlowKey) (target : Target) (packet : Packet) (o : Option Treatment) (trace : List Event) → GoesHome (verdict_by known target packet o trace)
verdict-home known target packet None trace = tt
verdict-home known target packet (Some how) trace =
    let flow = flow_number known (key_of target packet.tuple how) in
    let link = link_of target flow how.pipe in
    by_tests link flow (is_lost how.loss packet.word) (is_full how.limit (map (λ p. p.stamped.len) (backlog link flow trace))) (link_of-home target flow how.pipe)
  where
    by_tests : (link : Link) (flow : ℕ) (b c : Bool) → IsHome link flow → GoesHome (cond b (loses link flow) (cond c (refuses link flow) (takes link flow how)))
    by_tests link flow true c h = tt
    by_tests link flow false true h = tt
    by_tests link flow false false h = h

-- A free link has no packet of the flow after a settling.
pub empty-home : (set : Settings) (at : ℕ) (link : Link) (flow : ℕ) (trace : List Event) → IsHome link flow → next_start set at link trace ≡ None → free link trace ≤ at → backlog link flow trace ≡ []
empty-home set at (own pipe f) flow trace home e soon = ap (λ g. backlog (own pipe f) g trace) (sym home) ∙ none-first (backlog (own pipe f) f trace) (no-next set at (own pipe f) trace soon e)
empty-home set at (shared pipe) flow trace home e soon = none-shared pipe trace (no-next set at (shared pipe) trace soon e) flow

pub one-first : (link : Link) (flow : ℕ) (p : Accepted) (b : Bool) (q : List Accepted) → b ≡ true → q ≡ [] → slice_get (cond b (q ++ p ∷ []) q) 0 ≡ Some p
one-first link flow p b q e f = (λ i. slice_get (cond (e i) (f i ++ p ∷ []) (f i)) 0)

pub of-own : (p : Accepted) → is_of p.link p.stamped.flow p ≡ true
of-own p = and_from _ _ (link_eq-refl p.link) same
  where
    same : nat_eq p.stamped.flow p.stamped.flow ≡ true
    same = grind (arith, nat_tests)

join-proper : (set : Settings) (at : ℕ) (p : Accepted) (trace : List Event) → p.packet ≡ accepted_count trace
    → IsProper trace → (free p.link trace ≤ at → backlog p.link p.stamped.flow trace ≡ []) → IsProper (join set at p trace)
join-proper set at p trace number h empty = by (nat_le (free p.link trace) at) refl
  where
    by : (b : Bool) → nat_le (free p.link trace) at ≡ b → IsProper (cond b (started (start_at set p.link p at) ∷ arrived p ∷ trace) (arrived p ∷ trace))
    by true e = let soon : free p.link trace ≤ at = grind (arith, nat_tests) in
        (one-first p.link p.stamped.flow p (is_of p.link p.stamped.flow p) (backlog p.link p.stamped.flow trace) (of-own p) (empty soon), soon, (number, h))
    by false e = (number, h)

pub opened-proper : (b : Bool) (link : Link) (trace : List Event) → IsProper trace → IsProper (cond b (opened link ∷ trace) trace)
opened-proper true link trace h = h
opened-proper false link trace h = h

pub opened-free : (b : Bool) (l link : Link) (trace : List Event) → free l (cond b (opened link ∷ trace) trace) ≡ free l trace
opened-free true l link trace = refl
opened-free false l link trace = refl

pub opened-backlog : (b : Bool) (l link : Link) (flow : ℕ) (trace : List Event) → backlog l flow (cond b (opened link ∷ trace) trace) ≡ backlog l flow trace
opened-backlog true l link flow trace = refl
opened-backlog false l link flow trace = refl

verdict-proper : (set : Settings) (at : ℕ) (packet : Packet) (v : Verdict) (trace : List Event) → GoesHome v
    → IsProper trace → ((link : Link) → next_start set at link trace ≡ None) → IsProper (after_verdict set at packet v trace)
verdict-proper set at packet no_target trace home h ends = h
verdict-proper set at packet (loses link flow) trace home h ends = h
verdict-proper set at packet (refuses link flow) trace home h ends = h
verdict-proper set at packet (takes link flow how) trace home h ends =
    let b = nat_eq (waiting link trace) 0 && nat_le (free link trace) at in
    join-proper set at (accept link packet flow how (opening link at trace)) (opening link at trace) refl (opened-proper b link trace h)
    (λ soon. let e = opened-free b link link trace in opened-backlog b link link flow trace ∙ empty-home set at link flow trace home (ends link) (omega arith))

discard-proper : (command : Command) (flow : ℕ) (known : List FlowKey) (trace : List Event) → IsProper trace → IsProper (discard_reached command flow known trace)
discard-proper command flow [] trace h = h
discard-proper command flow (key ∷ known) trace h = discard-proper command (flow + 1) known (cond (reaches command key) (discarded flow ∷ trace) trace) (one (reaches command key))
  where
    one : (b : Bool) → IsProper (cond b (discarded flow ∷ trace) trace)
    one true = h
    one false = h

command-proper : (r : Reply) (command : Command) (known : List FlowKey) (trace : List Event) → IsProper trace → IsProper (after_command r command known trace)
command-proper Deleted command known trace h = discard-proper command 0 known trace h
command-proper _ command known trace h = h

pub settled-proper : (set : Settings) (at : ℕ) (trace : List Event) → IsProper trace → IsProper (settled set at trace)
settled-proper set at trace h = settle-proper (waiting_all (links trace) trace) set at trace h

-- The trace of calls is proper.
pub trace-proper : (calls : List Call) → IsProper (trace_of calls)
trace-proper [] = tt
trace-proper (Configure command ∷ calls) = command-proper (reply_to_command calls command) command (keys calls) (trace_of calls) (trace-proper calls)
trace-proper (Submit target packet moment ∷ calls) =
    let at = max (effective_moment calls) moment in
    let before = settled (settings calls) at (trace_of calls) in
    verdict-proper (settings calls) at packet
    (verdict calls target packet before) before (verdict-home (keys calls) target packet (treatment (settings calls target)) before)
    (settled-proper (settings calls) at (trace_of calls) (trace-proper calls)) (λ link. settled-ends (settings calls) at link (trace_of calls))
trace-proper (Advance moment ∷ calls) = settled-proper (settings calls) (max (effective_moment calls) moment) (trace_of calls) (trace-proper calls)
trace-proper (Collect moment ∷ calls) = settled-proper (settings calls) (max (effective_moment calls) moment) (trace_of calls) (trace-proper calls)
trace-proper (Show ∷ calls) = trace-proper calls

pub starts-in-order : (calls : List Call) (link : Link) (flow : ℕ) → accepted_since link flow (trace_of calls) ≡ started_since link flow (trace_of calls) ++ backlog link flow (trace_of calls)
starts-in-order calls link flow = in-order-proper link flow (trace_of calls) (trace-proper calls)

pub suffix-proper : (later earlier : List Event) → IsProper (later ++ earlier) → IsProper earlier
suffix-proper [] earlier h = h
suffix-proper (arrived p ∷ later) earlier h = suffix-proper later earlier h.1
suffix-proper (started s ∷ later) earlier h = suffix-proper later earlier h.2
suffix-proper (_ ∷ later) earlier h = suffix-proper later earlier h

pub sends-one-at-a-time : (calls : List Call) (later earlier : List Event) (s : Start) → trace_of calls ≡ later ++ started s ∷ earlier → free s.packet.link earlier ≤ s.moment
sends-one-at-a-time calls later earlier s e = (suffix-proper later (started s ∷ earlier) (subst IsProper e (trace-proper calls))).1
