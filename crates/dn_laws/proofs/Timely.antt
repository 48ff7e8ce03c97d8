-- Each start lies between the clock before its call and the clock after it, and no packet starts before it was accepted.
use Rattle.dn_laws.proofs.Words.{Bool, IsMadeBy, List, None, NoneStartsEarly, Option, Some, StartsInTime, [], ap, arith, cond, false, inl, inr, length, max, nat_le, refl, subst, suc, sym, true}
use Rattle.dn_laws.proofs.Words.{zero, ℕ, ⊎_elim, ◌++◌, ◌<◌, ◌∙◌, ◌∷◌, ◌≡◌, ◌≤◌, ◌⊎◌}
use Rattle.dn_laws.proofs.LawWords.{Verdict, no_target, loses, refuses, takes, verdict, trace_of, call_limit, effective_moment, Settings, settings, free, reply, counted_reply, reply_to_verdict}
use Rattle.dn_laws.proofs.LawWords.{settle, settled, first_start, waiting_all, Start, Event, started, backlog, links, is_arrival, accepted_count, Call, Submit, Packet, Queued, Exhausted, Rule, Target}
use Rattle.dn_laws.proofs.{Begun.IsBegun, Begun.call-causes, Rates.free-later, Rates.shape, StartLaws.begun, StartLaws.starts-as-configured}
use Rattle.dn_types.proofs.{Conserving.busy-link, Fifo.IsProper, Giving.count-event, Ordered.suffix-proper, Ordered.trace-proper, PacketCounts.start-below}

pub events-stay : (calls : List Call) (c : Call) → (added : List Event) × (trace_of (c ∷ calls) ≡ added ++ trace_of calls)
events-stay calls c = let adds = call-causes calls c in (adds.0, adds.1)

pub starts-in-time : StartsInTime
starts-in-time calls c later between s e = (⊎_elim (λ waited. when-free waited.0 waited.1.0.0 waited.1.0.1) (λ on_arrival. let same = on_arrival.0 in omega arith) b.when, b.soon)
  where
    b : IsBegun (settings calls) (effective_moment (c ∷ calls)) (trace_of calls) s between
    b = begun calls c later between s e

    proper : IsProper (started s ∷ (between ++ trace_of calls))
    proper = suffix-proper later (started s ∷ (between ++ trace_of calls)) (subst IsProper (e ∙ shape later between (started s) (trace_of calls)) (trace-proper (c ∷ calls)))

    when-free : s.moment ≡ free s.packet.link (between ++ trace_of calls) → (flow : ℕ) → 0 < length (backlog s.packet.link flow (trace_of calls)) → effective_moment calls ≤ s.moment
    when-free is flow waited =
        let busy = busy-link calls s.packet.link flow waited in
        let rises = free-later s.packet.link between (trace_of calls) proper.2 in
        omega (arith, is, busy, rises)

-- An event of a trace with some more is among these, or among those before.
abbrev pub IsSplit : List Event → List Event → List Event → Event → List Event → Type 0
IsSplit f old later e earlier =
    ((between : List Event) × (f ≡ later ++ e ∷ between) × (earlier ≡ between ++ old)) ⊎ ((rest : List Event) × (old ≡ rest ++ e ∷ earlier))

pub split : (f old later : List Event) (e : Event) (earlier : List Event) → f ++ old ≡ later ++ e ∷ earlier → IsSplit f old later e earlier
split [] old later e earlier h = inr (later, h)
split (x ∷ f) old [] e earlier h = let first : x ≡ e = cc in let rest : f ++ old ≡ earlier = cc in inl (f, ap (λ (y : Event). y ∷ f) first, sym rest)
split (x ∷ f) old (y ∷ later) e earlier h =
    let first : x ≡ y = cc in
    let rest : f ++ old ≡ later ++ e ∷ earlier = cc in
    ⊎_elim (λ (new : (between : List Event) × (f ≡ later ++ e ∷ between) × (earlier ≡ between ++ old)). inl (new.0, (λ i. first i ∷ new.1 i), new.2)) (λ (before : (rest : List Event)
    × (old ≡ rest ++ e ∷ earlier)). inr before) (split f old later e earlier rest)

-- A start is of the newest call, or of those before it.
pub placed : (calls : List Call) (c : Call) (later earlier : List Event) (s : Start) → trace_of (c ∷ calls) ≡ later ++ started s ∷ earlier →
    ((between : List Event) × (trace_of (c ∷ calls) ≡ later ++ started s ∷ between ++ trace_of calls) × (earlier ≡ between ++ trace_of calls)) ⊎ ((rest : List Event)
    × (trace_of calls ≡ rest ++ started s ∷ earlier))
placed calls c later earlier s e =
    let h = call-causes calls c in
    ⊎_elim (λ (new : (between : List Event) × (h.0 ≡ later ++ started s ∷ between) × (earlier ≡ between ++ trace_of calls)). inl (
      new.0,
      h.1
          ∙ ap (λ (f : List Event). f ++ trace_of calls) new.1,
      new.2,
    ))
    (λ (before : (rest : List Event) × (trace_of calls ≡ rest ++ started s ∷ earlier)). inr before) (split h.0 (trace_of calls) later (started s) earlier (sym h.1 ∙ e))

-- Each start is by the command in force when a call made it.
pub made-by : (calls : List Call) (later earlier : List Event) (s : Start) → trace_of calls ≡ later ++ started s ∷ earlier → IsMadeBy calls s
made-by [] [] earlier s e = absurd cc
made-by [] (x ∷ later) earlier s e = absurd cc
made-by (c ∷ calls) later earlier s e = ⊎_elim (λ new. now new.0 new.1) (λ before. more (made-by calls before.0 earlier s before.1)) (placed calls c later earlier s e)
  where
    now : (between : List Event) → trace_of (c ∷ calls) ≡ later ++ started s ∷ between ++ trace_of calls → IsMadeBy (c ∷ calls) s
    now between is = let by = starts-as-configured calls c later between s is in record {
      newer = [];
      call = c;
      older = calls;
      among = refl;
      command = by.0;
      in_force = by.1;
      by_command =
          by.2;
    }

    more : IsMadeBy calls s → IsMadeBy (c ∷ calls) s
    more h = record {
      newer = c ∷ h.newer;
      call = h.call;
      older = h.older;
      among = ap (λ (r : List Call). c ∷ r) h.among;
      command = h.command;
      in_force = h.in_force;
      by_command =
          h.by_command;
    }

count-settle : (most : ℕ) (set : Settings) (at : ℕ) (trace : List Event) → accepted_count (settle most set at trace) ≡ accepted_count trace
count-settle zero set at trace = refl
count-settle (suc most) set at trace = step (first_start set at (links trace) trace) (λ t. count-settle most set at t)
  where
    step : (o : Option Start) → ((t : List Event) → accepted_count (settle most set at t) ≡ accepted_count t) →
        accepted_count (elim o as (λ _. List Event) [ None ↦ trace | Some s ↦ settle most set at (started s ∷ trace) ]) ≡ accepted_count trace
    step None rest = refl
    step (Some s) rest = let more = count-event is_arrival (started s) trace in let all = rest (started s ∷ trace) in omega (arith, more, all)

pub count-later : (later trace : List Event) → accepted_count trace ≤ accepted_count (later ++ trace)
count-later [] trace = omega arith
count-later (e ∷ later) trace = let more = count-event is_arrival e (later ++ trace) in let rest = count-later later trace in omega arith

pub started-below : (s : Start) (later earlier : List Event) → IsProper (later ++ started s ∷ earlier) → s.packet.packet < accepted_count earlier
started-below s later earlier h =
    let below = start-below (accepted_count (started s ∷ earlier)) s earlier (suffix-proper later (started s ∷ earlier) h) (omega arith) in
    let same = count-event is_arrival (started s) earlier in
    omega arith

-- What a reply tells of an accepted packet.
pub queued : (rule : Rule) (calls : List Call) (target : Target) (packet : Packet) (moment at flow number : ℕ) → reply rule calls (Submit target packet moment) ≡ Queued at flow number →
    (at ≡ effective_moment (Submit target packet moment ∷ calls)) × (number ≡ accepted_count (trace_of calls))
queued rule calls target packet moment at flow number e = by (nat_le call_limit (length calls)) e
  where
    clock : ℕ
    clock = max (effective_moment calls) moment

    before : List Event
    before = settled (settings calls) (max (effective_moment calls) moment) (trace_of calls)

    same : accepted_count before ≡ accepted_count (trace_of calls)
    same = count-settle (waiting_all (links (trace_of calls)) (trace_of calls)) (settings calls) (max (effective_moment calls) moment) (trace_of calls)

    by-verdict : (v : Verdict) →
        reply_to_verdict (max (effective_moment calls) moment) v (settled (settings calls) (max (effective_moment calls) moment) (trace_of calls)) ≡ Queued at flow number →
        (at ≡ max (effective_moment calls) moment) × (number ≡ accepted_count (settled (settings calls) (max (effective_moment calls) moment) (trace_of calls)))
    by-verdict no_target e = absurd cc
    by-verdict (loses l f) e = absurd cc
    by-verdict (refuses l f) e = absurd cc
    by-verdict (takes l f how) e = let a : at ≡ max (effective_moment calls) moment =
        cc in let b : number ≡ accepted_count (settled (settings calls) (max (effective_moment calls) moment) (trace_of calls)) = cc in (a, b)

    by : (b : Bool) → cond b Exhausted (counted_reply rule calls (Submit target packet moment)) ≡ Queued at flow number → (at ≡ max (effective_moment calls) moment)
        × (number ≡ accepted_count (trace_of calls))
    by true e = absurd cc
    by false e = let v = by-verdict (verdict calls target packet before) e in (v.0, v.1 ∙ same)

pub clock-later : (after calls : List Call) → effective_moment calls ≤ effective_moment (after ++ calls)
clock-later [] calls = omega arith
clock-later (c ∷ after) calls = let rest = clock-later after calls in omega arith

-- A packet with the number of the newest call's starts no sooner than that call.
not-before : (after calls : List Call) (c : Call) (later earlier : List Event) (s : Start) → trace_of (after ++ c ∷ calls) ≡ later ++ started s ∷ earlier →
    accepted_count (trace_of calls) ≤ s.packet.packet →
    effective_moment (c ∷ calls) ≤ s.moment
not-before [] calls c later earlier s e number = ⊎_elim (λ new. now new.0 new.1 new.2) (λ before. absurd (old before.0 before.1)) (placed calls c later earlier s e)
  where
    below : s.packet.packet < accepted_count earlier
    below = started-below s later earlier (subst IsProper e (trace-proper (c ∷ calls)))

    now : (between : List Event) → trace_of (c ∷ calls) ≡ later ++ started s ∷ between ++ trace_of calls → earlier ≡ between ++ trace_of calls → effective_moment (c ∷ calls) ≤ s.moment
    now between is parts =
        let same = ap (λ (t : List Event). accepted_count t) parts in
        ⊎_elim (λ waited. let none = waited.1.1 in absurd (omega (arith, same, below, none, number))) (λ on_arrival. let at = on_arrival.0 in omega (arith, at))
        (begun calls c later between s is).when

    old : (rest : List Event) → trace_of calls ≡ rest ++ started s ∷ earlier → ⊥
    old rest is =
        let all = ap (λ (t : List Event). accepted_count t) (is ∙ sym (shape rest [] (started s) earlier)) in
        omega (arith, below, count-later (rest ++ started s ∷ []) earlier, all, number)
not-before (c' ∷ after) calls c later earlier s e number =
    let rises = clock-later after (c ∷ calls) in
    ⊎_elim (λ new. let in_time = (starts-in-time (after ++ c ∷ calls) c' later new.0 s new.1).0 in omega (arith, rises, in_time))
    (λ before. not-before after calls c before.0 earlier s before.1 number) (placed (after ++ c ∷ calls) c' later earlier s e)

pub none-starts-early : NoneStartsEarly
none-starts-early rule after calls target packet moment at flow number later earlier s told e same =
    let q = queued rule calls target packet moment at flow number told in
    let first = not-before after calls (Submit target packet moment) later earlier s e (omega (arith, same, q.1)) in
    omega (arith, first, q.0)
