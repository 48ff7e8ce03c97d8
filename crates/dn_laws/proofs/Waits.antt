-- When a packet that was sent to a pipe starts, by what is ahead of it at its acceptance.
use Rattle.dn_laws.proofs.Words.{Bool, List, None, Option, Some, WaitIsKnown, WaitsForThoseAhead, [], ap, append_assoc, append_cancel_right, arith, cond, false, inl, inr, length, max, nat_eq}
use Rattle.dn_laws.proofs.Words.{nat_le, refl, subst, sum-map, sum_by, sum_by_push, sym, true, ℕ, ⊎_elim, ◌&&◌, ◌++◌, ◌+◌, ◌<◌, ◌∙◌, ◌∷◌, ◌≡◌}
use Rattle.dn_laws.proofs.LawWords.{trace_of, link_of, effective_moment, settings, IsAtBandwidth, Treatment, treatment, keys, key_of, flow_number, free, transmission_time, StaysInForce, reply}
use Rattle.dn_laws.proofs.LawWords.{waiting, opening, Link, own, link_eq, pipe_of, Accepted, Start, Event, opened, arrived, started, backlog, accepted_count, starting, sending, Call, Submit, Advance}
use Rattle.dn_laws.proofs.LawWords.{Command, Pipe, FlowKey, Limit, Mask, Packet, Queued, Rule, Target, ToPipe}
use Rattle.dn_laws.proofs.{Acceptance.queued-packets-arrive, Ahead.IsPrompt, Ahead.all-sent, AtHome.HaveHomes, AtHome.IsHomeOf, AtHome.have-homes, AtHome.start-home, Begun.IsCaused, Begun.IsTaken}
use Rattle.dn_laws.proofs.{Begun.AllEvents, Begun.call-causes, Begun.adds-among, ConfiguredRate.both-at, ConfiguredRate.front-at, ConfiguredRate.back-at, ConfiguredRate.call-at}
use Rattle.dn_laws.proofs.{ConfiguredRate.calls-at, Exactly.waits-for-its-link, Fates.all-stay, Rates.shape, Timely.split, Timely.queued, Timely.count-later, Timely.started-below}
use Rattle.dn_types.proofs.{Conserving.busy-link, Fifo.IsProper, InForce.IsKept, InForce.settings-kept, Ordered.IsHome, Ordered.link_of-home, Ordered.suffix-proper, Ordered.trace-proper}
use Rattle.dn_types.proofs.{Ordered.opened-backlog, Ordered.opened-free}

at-home : (known : List FlowKey) (s : Start) → IsHomeOf known s.packet.link s.packet.stamped.flow → IsHome s.packet.link s.packet.stamped.flow
at-home known s h = subst (λ (l : Link). IsHome l s.packet.stamped.flow) (sym h.is) (link_of-home h.key.target s.packet.stamped.flow h.key.pipe)

prompt-added : (calls : List Call) (c : Call) (known : List FlowKey) (f : List Event) → AllEvents (IsCaused calls c) (trace_of calls) f → IsProper (f ++ trace_of calls) →
    HaveHomes known (f ++ trace_of calls) → IsPrompt (trace_of calls) → IsPrompt (f ++ trace_of calls)
prompt-added calls c known [] all proper homes old = old
prompt-added calls c known (started s ∷ f) all proper homes old = (
  ⊎_elim (λ free_then. inl free_then.0) (λ on_arrival. inr (on_arrival.1.0 ++ trace_of calls, ap (λ (r : List Event). r ++ trace_of calls) on_arrival.1.1)) all.0.when,
  at-home known s (start-home known s (f ++ trace_of calls) proper homes),
  prompt-added calls c known f all.1 proper.2 homes old,
)
prompt-added calls c known (arrived p ∷ f) all proper homes old = prompt-added calls c known f all.1 proper.1 homes.1 old
prompt-added calls c known (_ ∷ f) all proper homes old = prompt-added calls c known f all.1 proper homes old

pub trace-prompt : (calls : List Call) → IsPrompt (trace_of calls)
trace-prompt [] = tt
trace-prompt (c ∷ calls) =
    let new = call-causes calls c in
    let proper = subst IsProper new.1 (trace-proper (c ∷ calls)) in
    let homes = subst (λ (t : List Event). HaveHomes (keys (c ∷ calls)) t) new.1 (have-homes (c ∷ calls)) in
    subst IsPrompt (sym new.1) (prompt-added calls c (keys (c ∷ calls)) new.0 new.2 proper homes (trace-prompt calls))

pub suffix-prompt : (later earlier : List Event) → IsPrompt (later ++ earlier) → IsPrompt earlier
suffix-prompt [] earlier h = h
suffix-prompt (started s ∷ later) earlier h = suffix-prompt later earlier h.2
suffix-prompt (_ ∷ later) earlier h = suffix-prompt later earlier h

pub record IsJoined (calls : List Call) (pipe : ℕ) (packet : Packet) (moment flow number : ℕ) : Type 0 where
  pub p : Accepted
  pub newer : List Event
  pub between : List Event
  pub opening : List Event
  pub parts : trace_of (Submit (ToPipe pipe) packet moment ∷ calls) ≡ newer ++ (arrived p ∷ (between ++ trace_of calls))
  pub before : between ++ trace_of calls ≡ opening ++ trace_of (Advance moment ∷ calls)
  pub number_is : p.packet ≡ number
  pub flow_is : p.stamped.flow ≡ flow
  pub len_is : p.stamped.len ≡ packet.len
  pub on : p.link ≡ own pipe flow
  pub none_start : (link : Link) → starting link opening ≡ []
  pub none_sends : (link : Link) → sending link opening ≡ 0
  pub same_free : free (own pipe flow) (between ++ trace_of calls) ≡ free (own pipe flow) (trace_of (Advance moment ∷ calls))
  pub same_queue : backlog (own pipe flow) flow (between ++ trace_of calls) ≡ backlog (own pipe flow) flow (trace_of (Advance moment ∷ calls))

-- A pipe's packets are carried by it.
pub own-pipe : (calls : List Call) (pipe : ℕ) (how : Treatment) → treatment (settings calls (ToPipe pipe)) ≡ Some how → how.pipe ≡ pipe
own-pipe calls pipe how e = by (settings calls (ToPipe pipe)) (settings-kept calls (ToPipe pipe)) e
  where
    pipe-or : ℕ → Option Treatment → ℕ
    pipe-or d None = d
    pipe-or d (Some h) = h.pipe

    by : (o : Option Command) → IsKept (ToPipe pipe) o → treatment o ≡ Some how → how.pipe ≡ pipe
    by None kept e = absurd cc
    by (Some (Pipe number bw delay limit loss buckets mask)) kept e = sym (ap (pipe-or 0) e) ∙ kept
    by (Some _) kept e = absurd kept

pub opening-of : (b : Bool) (link : Link) (trace : List Event) → (o : List Event) × (cond b (opened link ∷ trace) trace ≡ o ++ trace) × ((l : Link) → starting l o ≡ [])
    × ((l : Link) → sending l o ≡ 0)
opening-of true link trace = (opened link ∷ [], refl, λ l. refl, λ l. refl)
opening-of false link trace = ([], refl, λ l. refl, λ l. refl)

pub joined : (rule : Rule) (calls : List Call) (pipe : ℕ) (packet : Packet) (moment at flow number : ℕ) → reply rule calls (Submit (ToPipe pipe) packet moment) ≡ Queued at flow number →
    IsJoined calls pipe packet moment flow number
joined rule calls pipe packet moment at flow number told = record {
  p = h.2.0;
  newer = h.0;
  between = h.1;
  opening = o.0;
  parts = h.2.1 ∙ shape h.0 h.1 (arrived h.2.0) (trace_of calls);
  before = taken.3 ∙ o.1;
  number_is = h.2.2;
  flow_is = h.2.3;
  len_is = ap (λ (x : Accepted). x.stamped.len) taken.2;
  on = ap (λ (x : Accepted). x.link) taken.2 ∙ (λ i. own (own-pipe calls pipe taken.0 taken.1 i) (flow-is i));
  none_start = o.2;
  none_sends = o.3;
  same_free = ap (λ (t : List Event). free (own pipe flow) t) taken.3 ∙ opened-free tests (own pipe flow) link (trace_of (Advance moment ∷ calls));
  same_queue = ap (λ (t : List Event). backlog (own pipe flow) flow t) taken.3 ∙ opened-backlog tests (own pipe flow) link flow (trace_of (Advance moment ∷ calls));
}
  where
    h : (later between : List Event) × ((p : Accepted) × (trace_of (Submit (ToPipe pipe) packet moment ∷ calls) ≡ later ++ arrived p ∷ between ++ trace_of calls) × (p.packet ≡ number)
        × (p.stamped.flow ≡ flow))
    h = queued-packets-arrive rule calls (ToPipe pipe) packet moment at flow number told

    taken : IsTaken calls (Submit (ToPipe pipe) packet moment) h.2.0 h.1
    taken = adds-among (IsCaused calls (Submit (ToPipe pipe) packet moment)) (trace_of calls) (trace_of (Submit (ToPipe pipe) packet moment ∷ calls)) h.0 h.1 (arrived h.2.0)
        (call-causes calls (Submit (ToPipe pipe) packet moment)) h.2.1

    link : Link
    link = link_of (ToPipe pipe) (flow_number (keys calls) (key_of (ToPipe pipe) packet.tuple taken.0)) taken.0.pipe

    tests : Bool
    tests = nat_eq (waiting link (trace_of (Advance moment ∷ calls))) 0 && nat_le (free link (trace_of (Advance moment ∷ calls))) (effective_moment (Advance moment ∷ calls))

    o : (o : List Event) × (opening link (effective_moment (Advance moment ∷ calls)) (trace_of (Advance moment ∷ calls)) ≡ o ++ trace_of (Advance moment ∷ calls))
        × ((l : Link) → starting l o ≡ []) × ((l : Link) → sending l o ≡ 0)
    o = opening-of tests link (trace_of (Advance moment ∷ calls))

    flow-is : flow_number (keys calls) (key_of (ToPipe pipe) packet.tuple taken.0) ≡ flow
    flow-is = sym (ap (λ (x : Accepted). x.stamped.flow) taken.2) ∙ h.2.3

pub behind-arrival : (p : Accepted) (before newer later earlier : List Event) (s : Start) → IsProper (newer ++ (arrived p ∷ before)) → newer ++ (arrived p ∷ before) ≡ later ++ started s ∷ earlier →
    s.packet.packet ≡ p.packet → (g : List Event) × (newer ≡ later ++ started s ∷ g) × (earlier ≡ g ++ (arrived p ∷ before))
behind-arrival p before newer later earlier s proper e same =
    ⊎_elim (λ (new : (g : List Event) × (newer ≡ later ++ started s ∷ g) × (earlier ≡ g ++ (arrived p ∷ before))). new)
    (λ (old : (rest : List Event) × (arrived p ∷ before ≡ rest ++ started s ∷ earlier)). absurd (none old.0 old.1)) (split newer (arrived p ∷ before) later (started s) earlier e)
  where
    none : (rest : List Event) → arrived p ∷ before ≡ rest ++ started s ∷ earlier → ⊥
    none [] is = cc
    none (x ∷ rest) is =
        let tail : before ≡ rest ++ started s ∷ earlier = cc in
        let here = suffix-proper newer (arrived p ∷ before) proper in
        let low = started-below s rest earlier (subst IsProper tail here.1) in
        let all = ap (λ (t : List Event). accepted_count t) (tail ∙ sym (append_assoc rest (started s ∷ []) earlier)) in
        omega (arith, low, count-later (rest ++ started s ∷ []) earlier, all, here.0, same)

module _ (link : Link) where
  -- Where nothing starts nothing is sent.
  none-sent : (g : List Event) → starting link g ≡ [] → sending link g ≡ 0
  none-sent [] e = refl
  none-sent (started s ∷ g) e = by (link_eq s.packet.link link) e (none-sent g)
    where
      some : (xs : List Accepted) → xs ++ s.packet ∷ [] ≡ [] → ⊥
      some [] e = cc
      some (x ∷ xs) e = cc

      by : (b : Bool) → cond b (starting link g ++ s.packet ∷ []) (starting link g) ≡ [] → (starting link g ≡ [] → sending link g ≡ 0) → cond b s.transmission 0 + sending link g ≡ 0
      by true e rest = absurd (some (starting link g) e)
      by false e rest = let is = rest e in omega arith
  none-sent (_ ∷ g) e = none-sent g e

  -- Nothing is sent in the stretch before.
  pub none-before : (g old : List Event) → starting link old ≡ [] → sending link old ≡ 0 → (starting link (g ++ old) ≡ starting link g) × (sending link (g ++ old) ≡ sending link g)
  none-before [] old e f = (e, f)
  none-before (started s ∷ g) old e f =
      let rest = none-before g old e f in
      (ap (λ (qs : List Accepted). cond (link_eq s.packet.link link) (qs ++ s.packet ∷ []) qs) rest.0, ap {B = ℕ} (λ t. cond (link_eq s.packet.link link) s.transmission 0 + t) rest.1)
  none-before (_ ∷ g) old e f = none-before g old e f

  -- At a bandwidth it is the transmission times of the packets.
  by-lengths : (bw : ℕ) (g : List Event) → IsAtBandwidth bw link g → sending link g ≡ sum_by (λ q. transmission_time bw q.stamped.len) (starting link g)
  by-lengths bw [] at = refl
  by-lengths bw (started s ∷ g) at = by (link_eq s.packet.link link) at.0 (by-lengths bw g at.1)
    where
      by : (b : Bool) → (b ≡ true → s.transmission ≡ transmission_time bw s.packet.stamped.len) → sending link g ≡ sum_by (λ q. transmission_time bw q.stamped.len) (starting link g) →
          cond b s.transmission 0 + sending link g ≡ sum_by (λ q. transmission_time bw q.stamped.len) (cond b (starting link g ++ s.packet ∷ []) (starting link g))
      by true is rest =
          let own = is refl in
          let more = sum_by_push (λ (q : Accepted). transmission_time bw q.stamped.len) (starting link g) s.packet in
          omega (arith, own, more, rest)
      by false is rest = omega (arith, rest)
  by-lengths bw (_ ∷ g) at = by-lengths bw g at

-- What is known of a packet's start.
pub record IsAwaited (calls : List Call) (pipe : ℕ) (packet : Packet) (moment at flow number : ℕ) (j : IsJoined calls pipe packet moment flow number) (later earlier : List Event)
    (s : Start) : Type 0 where
  pub stretch : List Event
  pub parts : earlier ≡ stretch ++ (arrived j.p ∷ (j.between ++ trace_of calls))
  pub it : s.packet ≡ j.p
  pub sent : starting (own pipe flow) stretch ≡ backlog (own pipe flow) flow (trace_of (Advance moment ∷ calls))
  pub start : s.moment ≡ max at (free (own pipe flow) (trace_of (Advance moment ∷ calls))) + sending (own pipe flow) stretch

module _ (rule : Rule) (after calls : List Call) (pipe : ℕ) (packet : Packet) (moment at flow number : ℕ) (later earlier : List Event) (s : Start)
    (told : reply rule calls (Submit (ToPipe pipe) packet moment) ≡ Queued at flow number)
    (e : trace_of (after ++ Submit (ToPipe pipe) packet moment ∷ calls) ≡ later ++ started s ∷ earlier)
    (same : s.packet.packet ≡ number) (j : IsJoined calls pipe packet moment flow number) where
  abbrev free_then : ℕ
  free_then = free (own pipe flow) (trace_of (Advance moment ∷ calls))

  added : (more : List Event) × (trace_of (after ++ Submit (ToPipe pipe) packet moment ∷ calls) ≡ more ++ trace_of (Submit (ToPipe pipe) packet moment ∷ calls))
  added = all-stay after (Submit (ToPipe pipe) packet moment ∷ calls)

  whole : trace_of (after ++ Submit (ToPipe pipe) packet moment ∷ calls) ≡ (added.0 ++ j.newer) ++ (arrived j.p ∷ (j.between ++ trace_of calls))
  whole = added.1 ∙ ap (λ (t : List Event). added.0 ++ t) j.parts ∙ sym (append_assoc added.0 j.newer (arrived j.p ∷ (j.between ++ trace_of calls)))

  found : (g : List Event) × (added.0 ++ j.newer ≡ later ++ started s ∷ g) × (earlier ≡ g ++ (arrived j.p ∷ (j.between ++ trace_of calls)))
  found = behind-arrival j.p (j.between ++ trace_of calls) (added.0 ++ j.newer) later earlier s (subst IsProper whole (trace-proper (after ++ Submit (ToPipe pipe) packet moment ∷ calls)))
      (sym whole ∙ e) (same ∙ sym j.number_is)

  here : trace_of (after ++ Submit (ToPipe pipe) packet moment ∷ calls) ≡ later ++ started s ∷ (found.0 ++ (arrived j.p ∷ (j.between ++ trace_of calls)))
  here = e ∙ ap (λ (t : List Event). later ++ started s ∷ t) found.2

  sent-all : (s.packet ≡ j.p) × (starting (own pipe flow) found.0 ≡ backlog (own pipe flow) flow (j.between ++ trace_of calls))
      × (free (own pipe flow) (found.0 ++ (arrived j.p ∷ (j.between ++ trace_of calls))) ≡ free (own pipe flow) (j.between ++ trace_of calls) + sending (own pipe flow) found.0)
  sent-all = all-sent pipe flow j.p (j.between ++ trace_of calls) j.on j.flow_is s found.0
      (suffix-proper later (started s ∷ (found.0 ++ (arrived j.p ∷ (j.between ++ trace_of calls)))) (subst IsProper here (trace-proper (after ++ Submit (ToPipe pipe) packet moment ∷ calls))))
      (suffix-prompt later (started s ∷ (found.0 ++ (arrived j.p ∷ (j.between ++ trace_of calls)))) (subst IsPrompt here (trace-prompt (after ++ Submit (ToPipe pipe) packet moment ∷ calls))))
      (same ∙ sym j.number_is)

  -- Where something is ahead, the link is busy beyond the acceptance.
  goes-on : (q : List Accepted) → backlog (own pipe flow) flow (trace_of (Advance moment ∷ calls)) ≡ q → starting (own pipe flow) found.0 ≡ q →
      max at (free_then + sending (own pipe flow) found.0) ≡ max at free_then + sending (own pipe flow) found.0
  goes-on [] is none = let nothing = none-sent (own pipe flow) found.0 none in omega (arith, nothing)
  goes-on (x ∷ q) is some =
      let long : 0 < length (backlog (own pipe flow) flow (trace_of (Advance moment ∷ calls))) = let n = ap (λ (xs : List Accepted). length xs) is in omega (arith, n) in
      let busy = busy-link (Advance moment ∷ calls) (own pipe flow) flow long in
      let clock = (queued rule calls (ToPipe pipe) packet moment at flow number told).0 in
      omega (arith, busy, clock)

  pub awaited : IsAwaited calls pipe packet moment at flow number j later earlier s
  awaited =
      let queue = sent-all.1 ∙ j.same_queue in
      let exact = waits-for-its-link rule after calls (ToPipe pipe) packet moment at flow number later earlier s told e same in
      let on = ap (λ (x : Accepted). free x.link earlier) sent-all.0 ∙ ap (λ (l : Link). free l earlier) j.on ∙ ap (λ (t : List Event). free (own pipe flow) t) found.2 in
      let long = sent-all.2 in
      let on_it = goes-on (starting (own pipe flow) found.0) (sym queue) refl in
      record {
        stretch = found.0;
        parts = found.2;
        it = sent-all.0;
        sent = queue;
        start = omega (arith, exact, on, long, j.same_free, on_it);
      }

pub waits-for-those-ahead : WaitsForThoseAhead
waits-for-those-ahead rule after calls pipe packet moment at flow number later between s told e same =
    let j = joined rule calls pipe packet moment at flow number told in
    let w = awaited rule after calls pipe packet moment at flow number later (between ++ trace_of (Advance moment ∷ calls)) s told e same j in
    let parts : between ++ trace_of (Advance moment ∷ calls) ≡ (w.stretch ++ (arrived j.p ∷ j.opening)) ++ trace_of (Advance moment ∷ calls) =
    w.parts ∙ ap (λ (t : List Event). w.stretch ++ (arrived j.p ∷ t)) j.before ∙ sym (shape w.stretch j.opening (arrived j.p) (trace_of (Advance moment ∷ calls))) in
    let cut : between ≡ w.stretch ++ (arrived j.p ∷ j.opening) = append_cancel_right between (w.stretch ++ (arrived j.p ∷ j.opening)) (trace_of (Advance moment ∷ calls)) parts in
    let none = none-before (own pipe flow) w.stretch (arrived j.p ∷ j.opening) (j.none_start (own pipe flow)) (j.none_sends (own pipe flow)) in
    let sends = ap (λ (t : List Event). sending (own pipe flow) t) cut in
    let less = none.1 in
    (ap (λ (t : List Event). starting (own pipe flow) t) cut ∙ none.0 ∙ w.sent, omega (arith, sends, w.start, less))

module _ (pipe bw delay : ℕ) (limit : Limit) (loss : ℕ) (buckets : Option ℕ) (mask : Mask) (link : Link) (of_pipe : pipe_of link ≡ pipe) where
  before-at : (calls : List Call) (c : Call) → settings calls (ToPipe pipe) ≡ Some (Pipe pipe bw delay limit loss buckets mask) → (f : List Event) × (trace_of (c ∷ calls) ≡ f ++ trace_of calls)
      × IsAtBandwidth bw link f
  before-at calls c in_force = let new = call-causes calls c in (new.0, new.1, call-at pipe bw delay limit loss buckets mask link of_pipe calls c new.0 in_force new.2)

  -- What a call and those after it add.
  since-at : (after calls : List Call) (c : Call) → settings calls (ToPipe pipe) ≡ Some (Pipe pipe bw delay limit loss buckets mask) →
      StaysInForce (ToPipe pipe) (Pipe pipe bw delay limit loss buckets mask) after (c ∷ calls) → (f : List Event) × (trace_of (after ++ c ∷ calls) ≡ f ++ trace_of calls) × IsAtBandwidth bw link f
  since-at after calls c in_force stays =
      let first = before-at calls c in_force in
      let rest = calls-at pipe bw delay limit loss buckets mask link of_pipe after (c ∷ calls) stays in
      (rest.0 ++ first.0, rest.1 ∙ ap (λ (t : List Event). rest.0 ++ t) first.1 ∙ sym (append_assoc rest.0 first.0 (trace_of calls)), both-at bw link rest.0 first.0 rest.2 first.2)

pub at-first : (target : Target) (command : Command) (after calls : List Call) (packet : Packet) (moment : ℕ) (to : Target) → StaysInForce target command after (Submit to packet moment ∷ calls) →
    settings calls target ≡ Some command
at-first target command [] calls packet moment to h = h
at-first target command (c ∷ after) calls packet moment to h = at-first target command after calls packet moment to h.1

pub wait-is-known : WaitIsKnown
wait-is-known rule after calls pipe bw delay limit loss buckets mask packet moment at flow number later earlier s stays told e same =
    let j = joined rule calls pipe packet moment at flow number told in
    let w = awaited rule after calls pipe packet moment at flow number later earlier s told e same j in
    let first = at-first (ToPipe pipe) (Pipe pipe bw delay limit loss buckets mask) after calls packet moment (ToPipe pipe) stays in
    let new = since-at pipe bw delay limit loss buckets mask (own pipe flow) refl after calls (Submit (ToPipe pipe) packet moment) first stays in
    let shown : new.0 ++ trace_of calls ≡ (later ++ (started s ∷ (w.stretch ++ (arrived j.p ∷ j.between)))) ++ trace_of calls =
    sym new.1 ∙ e ∙ ap (λ (t : List Event). later ++ started s ∷ t) (w.parts ∙ sym (shape w.stretch j.between (arrived j.p) (trace_of calls)))
    ∙ sym (shape later (w.stretch ++ (arrived j.p ∷ j.between)) (started s) (trace_of calls)) in
    let cut = append_cancel_right new.0 (later ++ (started s ∷ (w.stretch ++ (arrived j.p ∷ j.between)))) (trace_of calls) shown in
    let behind = back-at bw (own pipe flow) later (started s ∷ (w.stretch ++ (arrived j.p ∷ j.between))) (subst (IsAtBandwidth bw (own pipe flow)) cut new.2) in
    let at_rate = front-at bw (own pipe flow) w.stretch (arrived j.p ∷ j.between) behind.1 in
    let sum_is = by-lengths (own pipe flow) bw w.stretch at_rate in
    let of_those = ap (λ (qs : List Accepted). sum_by (λ q. transmission_time bw q.stamped.len) qs) w.sent in
    let as_sum = sum-map (λ (q : Accepted). transmission_time bw q.stamped.len) (backlog (own pipe flow) flow (trace_of (Advance moment ∷ calls))) in
    omega (arith, w.start, sum_is, of_those, as_sum)
