-- An accepted packet is the one that was submitted and told to be queued: its flow, its number, its length and its link.
use Rattle.dn_laws.proofs.Words.{ArrivalsAreTold, Bool, IsKept, IsOfTarget, List, None, Option, QueuedPacketsArrive, Some, [], ap, arith, cond, count-event, false, length, map, max, refl}
use Rattle.dn_laws.proofs.Words.{settings-kept, subst, sym, true, ℕ, ◌++◌, ◌<◌, ◌∙◌, ◌∷◌, ◌≡◌}
use Rattle.dn_laws.proofs.LawWords.{link_of, Verdict, no_target, loses, refuses, takes, verdict_by, verdict, trace_of, effective_moment, settings, is_lost, is_full, Treatment, treatment, keys, key_of}
use Rattle.dn_laws.proofs.LawWords.{flow_number, IsAccepted, reply, counted_reply, reply_to_verdict, is_queued, IsCarriedBy, Link, own, shared, Accepted, Event, opened, arrived, started, lost}
use Rattle.dn_laws.proofs.LawWords.{refused, discarded, collected, backlog, is_arrival, accepted_count, Call, Submit, Advance, Command, Pipe, Queue, FlowKey, Packet, Reply, Queued, Exhausted, Target}
use Rattle.dn_laws.proofs.LawWords.{ToPipe, ToQueue}
use Rattle.dn_laws.proofs.{Begun.adds-among, Comes.Comes, Comes.Arrives, Comes.IsTakenBy, Comes.call-comes, DropLaws.not-exhausted, ToldCounts.arrival-told, ToldCounts.told-few}

pub record IsTakenAs (calls : List Call) (target : Target) (packet : Packet) (moment : ℕ) (p : Accepted) : Type 0 where
  pub how : Treatment
  pub by : treatment (settings calls target) ≡ Some how
  pub flow : p.stamped.flow ≡ flow_number (keys calls) (key_of target packet.tuple how)
  pub link : p.link ≡ link_of target p.stamped.flow how.pipe
  pub len : p.stamped.len ≡ packet.len
  pub told : reply_to_verdict (max (effective_moment calls) moment) (verdict calls target packet (trace_of (Advance moment ∷ calls))) (trace_of (Advance moment ∷ calls))
      ≡ Queued (max (effective_moment calls) moment) p.stamped.flow p.packet

abbrev pub IsVerdict : List FlowKey → Target → Packet → Option Treatment → Link → ℕ → Treatment → Type 0
IsVerdict known target packet o link flow how = (o ≡ Some how) × (link ≡ link_of target flow how.pipe) × (flow ≡ flow_number known (key_of target packet.tuple how))

pub verdict-takes : (known : List FlowKey) (target : Target) (packet : Packet) (o : Option Treatment) (trace : List Event) (link : Link) (flow : ℕ) (how : Treatment) →
    verdict_by known target packet o trace ≡ takes link flow how → IsVerdict known target packet o link flow how
verdict-takes known target packet None trace link flow how e = absurd cc
verdict-takes known target packet (Some h) trace link flow how e =
    by (is_lost h.loss packet.word) (is_full h.limit (map (λ p. p.stamped.len)
    (backlog (link_of target (flow_number known (key_of target packet.tuple h)) h.pipe) (flow_number known (key_of target packet.tuple h)) trace))) e
  where
    f : ℕ
    f = flow_number known (key_of target packet.tuple h)

    taken : link_of target (flow_number known (key_of target packet.tuple h)) h.pipe ≡ link → flow_number known (key_of target packet.tuple h) ≡ flow → h ≡ how →
        IsVerdict known target packet (Some h) link flow how
    taken l n t = (
      ap (λ (x : Treatment). Some x) t,
      sym l ∙ (λ i. link_of target (n i) (t i).pipe),
      sym n ∙ ap (λ (x : Treatment). flow_number known (key_of target packet.tuple x)) t,
    )

    by : (b c : Bool) →
        cond b (loses (link_of target (flow_number known (key_of target packet.tuple h)) h.pipe) (flow_number known (key_of target packet.tuple h)))
        (cond c (refuses (link_of target (flow_number known (key_of target packet.tuple h)) h.pipe) (flow_number known (key_of target packet.tuple h)))
        (takes (link_of target (flow_number known (key_of target packet.tuple h)) h.pipe) (flow_number known (key_of target packet.tuple h)) h))
        ≡ takes link flow how →
        IsVerdict known target packet (Some h) link flow how
    by true c e = absurd cc
    by false true e = absurd cc
    by false false e =
        let l : link_of target (flow_number known (key_of target packet.tuple h)) h.pipe ≡ link = cc in
        let n : flow_number known (key_of target packet.tuple h) ≡ flow = cc in
        let t : h ≡ how = cc in
        taken l n t

pub taken-as : (calls : List Call) (target : Target) (packet : Packet) (moment : ℕ) (p : Accepted) (now : List Event) → Arrives calls (Submit target packet moment) p now →
    IsTakenAs calls target packet moment p
taken-as calls target packet moment p now = by (verdict calls target packet (trace_of (Advance moment ∷ calls))) refl
  where
    before : List Event
    before = trace_of (Advance moment ∷ calls)

    by : (v : Verdict) → verdict calls target packet (trace_of (Advance moment ∷ calls)) ≡ v → IsTakenBy v packet p now (trace_of (Advance moment ∷ calls)) →
        IsTakenAs calls target packet moment p
    by no_target is h = absurd h
    by (loses link flow) is h = absurd h
    by (refuses link flow) is h = absurd h
    by (takes link flow how) is h =
        let v = verdict-takes (keys calls) target packet (treatment (settings calls target)) before link flow how is in
        let flow_is : p.stamped.flow ≡ flow = ap (λ (x : Accepted). x.stamped.flow) h.0 in
        let link_is : p.link ≡ link = ap (λ (x : Accepted). x.link) h.0 in
        let number_is : p.packet ≡ accepted_count before = ap (λ (x : Accepted). x.packet) h.0 ∙ h.1 in
        record {
          how = how;
          by = v.0;
          flow = flow_is ∙ v.2;
          link = link_is ∙ v.1 ∙ ap (λ (n : ℕ). link_of target n how.pipe) (sym flow_is);
          len = ap (λ (x : Accepted). x.stamped.len) h.0;
          told = ap (λ (x : Verdict). reply_to_verdict (max (effective_moment calls) moment) x before) is
              ∙ (λ i. Queued (max (effective_moment calls) moment) (sym flow_is i) (sym number_is i));
        }

pub carried-by : (t : Target) (command : Command) → IsOfTarget t command → (how : Treatment) → treatment (Some command) ≡ Some how → (flow : ℕ) →
    IsCarriedBy command flow (link_of t flow how.pipe)
carried-by (ToPipe n) (Pipe number bw delay limit loss buckets mask) kept how e flow = ap (λ (m : ℕ). own m flow) (sym (ap (pipe-or 0) e))
  where
    pipe-or : ℕ → Option Treatment → ℕ
    pipe-or d None = d
    pipe-or d (Some h) = h.pipe
carried-by (ToQueue n) (Queue number pipe weight limit loss buckets mask) kept how e flow = ap (λ (m : ℕ). shared m) (sym (ap (pipe-or 0) e))
  where
    pipe-or : ℕ → Option Treatment → ℕ
    pipe-or d None = d
    pipe-or d (Some h) = h.pipe
carried-by (ToPipe n) _ kept how e flow = absurd kept
carried-by (ToQueue n) _ kept how e flow = absurd kept

-- Each arrival is of a packet that was told to be queued.
pub arrivals-are-told : ArrivalsAreTold
arrivals-are-told rule calls c later between p few e =
    by c (adds-among (Comes calls c) (trace_of calls) (trace_of (c ∷ calls)) later between (arrived p) (call-comes calls c) e)
  where
    by : (c : Call) → Arrives calls c p (between ++ trace_of calls) → IsAccepted rule calls c p
    by (Submit target packet moment) h = accepted (settings calls target) refl (settings-kept calls target)
      where
        as' : IsTakenAs calls target packet moment p
        as' = taken-as calls target packet moment p (between ++ trace_of calls) h

        accepted : (o : Option Command) → settings calls target ≡ o → IsKept target o → IsAccepted rule calls (Submit target packet moment) p
        accepted None set kept = let t : treatment None ≡ Some as'.how = ap treatment (sym set) ∙ as'.by in absurd cc
        accepted (Some command) set kept = record {
          target = target;
          packet = packet;
          moment = moment;
          submitted = refl;
          told = not-exhausted rule calls (Submit target packet moment) few ∙ as'.told;
          own_length = as'.len;
          command = command;
          in_force = set;
          carried = subst (λ (l : Link). IsCarriedBy command p.stamped.flow l) (sym as'.link) (carried-by target command kept as'.how (ap treatment (sym set) ∙ as'.by) p.stamped.flow);
        }
    by _ h = absurd h

abbrev HasArrival : List Event → List Event → Type 0
HasArrival new old = (later between : List Event) × ((p : Accepted) × (new ≡ later ++ arrived p ∷ between ++ old))

further : (f old : List Event) (e : Event) → HasArrival (f ++ old) old → HasArrival (e ∷ f ++ old) old
further f old e h = (e ∷ h.0, h.1, (h.2.0, ap (λ (r : List Event). e ∷ r) h.2.1))

find-arrival : (f old : List Event) → accepted_count old < accepted_count (f ++ old) → HasArrival (f ++ old) old
find-arrival [] old more = absurd (omega (arith, more))
find-arrival (arrived p ∷ f) old more = ([], f, (p, refl))
find-arrival (opened l ∷ f) old more = further f old (opened l) (find-arrival f old (omega (arith, more, count-event is_arrival (opened l) (f ++ old))))
find-arrival (started s ∷ f) old more = further f old (started s) (find-arrival f old (omega (arith, more, count-event is_arrival (started s) (f ++ old))))
find-arrival (lost l n ∷ f) old more = further f old (lost l n) (find-arrival f old (omega (arith, more, count-event is_arrival (lost l n) (f ++ old))))
find-arrival (refused l n ∷ f) old more = further f old (refused l n) (find-arrival f old (omega (arith, more, count-event is_arrival (refused l n) (f ++ old))))
find-arrival (discarded n ∷ f) old more = further f old (discarded n) (find-arrival f old (omega (arith, more, count-event is_arrival (discarded n) (f ++ old))))
find-arrival (collected m ∷ f) old more = further f old (collected m) (find-arrival f old (omega (arith, more, count-event is_arrival (collected m) (f ++ old))))

queued-once : (r : Reply) (at a flow f number n : ℕ) → r ≡ Queued at flow number → r ≡ Queued a f n → (n ≡ number) × (f ≡ flow)
queued-once r at a flow f number n e h = ((cc), (cc))

pub queued-packets-arrive : QueuedPacketsArrive
queued-packets-arrive rule calls target packet moment at flow number e =
    let c = Submit target packet moment in
    let few = told-few rule calls c (λ none. let t : Exhausted ≡ Queued at flow number = sym none ∙ e in cc) in
    let counted : counted_reply rule calls c ≡ Queued at flow number = sym (not-exhausted rule calls c few) ∙ e in
    let comes = call-comes calls c in
    let one = arrival-told rule calls c in
    let yes' : cond {A = ℕ} (is_queued (counted_reply rule calls c)) 1 0 ≡ 1 = ap {B = ℕ} (λ (r : Reply). cond (is_queued r) 1 0) counted in
    let all = ap accepted_count comes.1 in
    let found = find-arrival comes.0 (trace_of calls) (omega (arith, one, yes', all)) in
    let parts = comes.1 ∙ found.2.1 in
    let h = arrivals-are-told rule calls c found.0 found.1 found.2.0 few parts in
    let same = queued-once (reply rule calls c) at (effective_moment (c ∷ calls)) flow found.2.0.stamped.flow number found.2.0.packet e h.told in
    (found.0, found.1, (found.2.0, parts, same.0, same.1))
