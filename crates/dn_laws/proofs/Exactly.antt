-- An accepted packet starts at the later of two moments: its acceptance, and the end of the transmission before it on its link.
use Rattle.dn_laws.proofs.Words.{List, StartsBehind, WaitsForItsLink, [], ap, arith, inl, inr, subst, sym, ℕ, ⊎_elim, ◌++◌, ◌<◌, ◌∙◌, ◌∷◌, ◌≡◌, ◌≤◌, ◌⊎◌}
use Rattle.dn_laws.proofs.LawWords.{trace_of, effective_moment, free, reply, Start, Event, started, arrived, is_arrival, accepted_count, Call, Submit, Packet, Queued, Rule, Target}
use Rattle.dn_laws.proofs.{Acceptance.queued-packets-arrive, Kept.links-are-kept, Rates.shape, StartLaws.starts-at-once, Timely.placed, Timely.queued, Timely.events-stay, Timely.none-starts-early}
use Rattle.dn_laws.proofs.{Timely.count-later, Timely.started-below}
use Rattle.dn_types.proofs.{Fifo.IsProper, Giving.count-event, Ordered.sends-one-at-a-time, Ordered.suffix-proper, Ordered.trace-proper}

-- Later calls accept no fewer packets.
count-calls : (after calls : List Call) → accepted_count (trace_of calls) ≤ accepted_count (trace_of (after ++ calls))
count-calls [] calls = omega arith
count-calls (c ∷ after) calls =
    let rest = count-calls after calls in
    let adds = events-stay (after ++ calls) c in
    let same = ap (λ (t : List Event). accepted_count t) adds.1 in
    let more = count-later adds.0 (trace_of (after ++ calls)) in
    omega (arith, rest, same, more)

-- A packet of the call after these starts when its link is free, or with that call.
at-free : (after calls : List Call) (c : Call) (later earlier : List Event) (s : Start) → trace_of (after ++ c ∷ calls) ≡ later ++ started s ∷ earlier →
    s.packet.packet < accepted_count (trace_of (c ∷ calls)) → accepted_count (trace_of calls) ≤ s.packet.packet →
    (s.moment ≡ free s.packet.link earlier) ⊎ (s.moment ≡ effective_moment (c ∷ calls))
at-free [] calls c later earlier s e below above = ⊎_elim (λ new. now new.0 new.1 new.2) (λ before. absurd (old before.0 before.1)) (placed calls c later earlier s e)
  where
    low : s.packet.packet < accepted_count earlier
    low = started-below s later earlier (subst IsProper e (trace-proper (c ∷ calls)))

    now : (between : List Event) → trace_of (c ∷ calls) ≡ later ++ started s ∷ between ++ trace_of calls → earlier ≡ between ++ trace_of calls →
        (s.moment ≡ free s.packet.link earlier) ⊎ (s.moment ≡ effective_moment (c ∷ calls))
    now between is parts =
        ⊎_elim (λ waited. inl (waited ∙ ap (λ (t : List Event). free s.packet.link t) (sym parts))) (λ on_arrival. inr on_arrival.0) (starts-at-once calls c later between s is)

    old : (rest : List Event) → trace_of calls ≡ rest ++ started s ∷ earlier → ⊥
    old rest is =
        let under = low in
        let all = ap (λ (t : List Event). accepted_count t) (is ∙ sym (shape rest [] (started s) earlier)) in
        omega (arith, under, count-later (rest ++ started s ∷ []) earlier, all, above)
at-free (d ∷ after) calls c later earlier s e below above =
    ⊎_elim (λ new. now new.0 new.1 new.2) (λ before. at-free after calls c before.0 earlier s before.1 below above) (placed (after ++ c ∷ calls) d later earlier s e)
  where
    old : List Call
    old = after ++ c ∷ calls

    now : (between : List Event) → trace_of (d ∷ after ++ c ∷ calls) ≡ later ++ started s ∷ between ++ trace_of (after ++ c ∷ calls) → earlier ≡ between ++ trace_of (after ++ c ∷ calls) →
        (s.moment ≡ free s.packet.link earlier) ⊎ (s.moment ≡ effective_moment (c ∷ calls))
    now between is parts =
        ⊎_elim (λ waited. inl (waited ∙ ap (λ (t : List Event). free s.packet.link t) (sym parts))) (λ on_arrival. absurd (another on_arrival.1.0 on_arrival.1.1))
        (starts-at-once (after ++ c ∷ calls) d later between s is)
      where
        another : (older : List Event) → between ≡ arrived s.packet ∷ older → ⊥
        another older first =
            let whole = subst IsProper (e ∙ ap (λ (t : List Event). later ++ started s ∷ t) (parts ∙ ap (λ (t : List Event). t ++ trace_of (after ++ c ∷ calls)) first))
            (trace-proper (d ∷ after ++ c ∷ calls)) in
            let here : IsProper (arrived s.packet ∷ (older ++ trace_of (after ++ c ∷ calls))) = (suffix-proper later
            (started s ∷ arrived s.packet ∷ (older ++ trace_of (after ++ c ∷ calls))) whole).2 in
            let more = count-later older (trace_of (after ++ c ∷ calls)) in
            let calls_more = count-calls after (c ∷ calls) in
            omega (arith, here.0, more, calls_more, below)

-- A call that is told Queued accepts one packet.
one-more : (rule : Rule) (calls : List Call) (target : Target) (packet : Packet) (moment at flow number : ℕ) → reply rule calls (Submit target packet moment) ≡ Queued at flow number →
    accepted_count (trace_of calls) < accepted_count (trace_of (Submit target packet moment ∷ calls))
one-more rule calls target packet moment at flow number told =
    let a = queued-packets-arrive rule calls target packet moment at flow number told in
    let same = ap (λ (t : List Event). accepted_count t) (a.2.1 ∙ shape a.0 a.1 (arrived a.2.0) (trace_of calls)) in
    let later = count-later a.0 (arrived a.2.0 ∷ (a.1 ++ trace_of calls)) in
    let one = count-event is_arrival (arrived a.2.0) (a.1 ++ trace_of calls) in
    let rest = count-later a.1 (trace_of calls) in
    omega (arith, same, later, one, rest)

pub waits-for-its-link : WaitsForItsLink
waits-for-its-link rule after calls target packet moment at flow number later earlier s told e same =
    let early = none-starts-early rule after calls target packet moment at flow number later earlier s told e same in
    let apart = sends-one-at-a-time (after ++ Submit target packet moment ∷ calls) later earlier s e in
    let q = queued rule calls target packet moment at flow number told in
    let more = one-more rule calls target packet moment at flow number told in
    ⊎_elim (λ waited. let is = waited in omega (arith, early, apart, is)) (λ with_it. let is = with_it in omega (arith, early, apart, q.0, is))
    (at-free after calls (Submit target packet moment) later earlier s e (omega (arith, same, q.1, more)) (omega (arith, same, q.1)))

pub starts-behind : StartsBehind
starts-behind rule after calls target packet moment at flow number later between earlier s r told e same one none =
    let exact = waits-for-its-link rule after calls target packet moment at flow number later (between ++ (started r ∷ earlier)) s told e same in
    let sent = ((links-are-kept rule s.packet.link between earlier none).0 r one).0 in
    omega (arith, exact, sent)
