-- What the definitions make of a packet on the links is what the laws of a packet ask for.
use Rattle.dn_laws.proofs.Words.{Bool, List, None, Option, Some, [], and_from, ap, arith, cond, false, is_some, length, max, nat_eq, nat_le, nat_tests, refl, subst, suc, sym, true, zero, ℕ, ◌&&◌}
use Rattle.dn_laws.proofs.Words.{◌<◌, ◌∙◌, ◌∷◌, ◌≡◌, ◌≢◌, ◌≤◌}
use Rattle.dn_laws.proofs.LawWords.{trace_of, link_of, Verdict, no_target, loses, refuses, takes, verdict, accept, join, after_verdict, call_limit, effective_moment, settings, IsWeight, IsBy}
use Rattle.dn_laws.proofs.LawWords.{IsTaggedBy, Joins, is_on, on_link, Treatment, treatment, keys, free, reply, reply_to_verdict, waiting, opening, start_at, is_queued, IsCarriedBy, Link, pipe_of}
use Rattle.dn_laws.proofs.LawWords.{link_eq, Accepted, Start, Event, opened, arrived, started, backlog, flow_bound, accepted_count, total, Call, Submit, Advance, Command, Pipe, Queue, DeletePipe}
use Rattle.dn_laws.proofs.LawWords.{DeleteQueue, Packet, Queued, Rule, Target, ToPipe}
use Rattle.dn_laws.proofs.{Acceptance.verdict-takes, Acceptance.carried-by, DropLaws.not-exhausted, ReadingsObey.read, ReadingsObey.apart, ReadingsObey.kept-on, ReadingsObey.queue-on}
use Rattle.dn_laws.proofs.{ReadingsObey.free-on, ReadingsObey.tag-on, ReadingsObey.virtual-on, SettlingHolds.is-by, SettlingHolds.busy-beyond, Shares.tagged}
use Rattle.dn_types.proofs.{InForce.IsKept, InForce.pipe-there, InForce.settings-kept, Known.pipe_of-link, Ordered.opened-free, Settled.link_eq-refl, StepFacts.opened-count}

carried-one : (command : Command) (flow : ℕ) (a b : Link) → IsCarriedBy command flow a → IsCarriedBy command flow b → a ≡ b
carried-one (Pipe number bw delay limit loss buckets mask) flow a b h k = h ∙ sym k
carried-one (Queue number pipe weight limit loss buckets mask) flow a b h k = h ∙ sym k
carried-one (DeletePipe number) flow a b h k = absurd h
carried-one (DeleteQueue number) flow a b h k = absurd h

abbrev weight-or : ℕ → Option Treatment → ℕ
weight-or d None = d
weight-or d (Some how) = how.weight

weight-is : (command : Command) (how : Treatment) (weight : ℕ) → treatment (Some command) ≡ Some how → IsWeight command weight → how.weight ≡ weight
weight-is (Pipe number bw delay limit loss buckets mask) how weight e h = sym (ap (weight-or 0) e) ∙ sym h
weight-is (Queue number pipe own limit loss buckets mask) how weight e h = sym (ap (weight-or 0) e) ∙ sym h
weight-is (DeletePipe number) how weight e h = absurd h
weight-is (DeleteQueue number) how weight e h = absurd h

total-none : (n : ℕ) (q : ℕ → List Accepted) → ((flow : ℕ) → q flow ≡ []) → total n q ≡ 0
total-none zero q h = refl
total-none (suc n) q h = let rest = total-none n q h in let here = ap (λ (ps : List Accepted). length ps) (h n) in omega (arith, rest, here)

and-no' : (a b : Bool) → b ≡ false → (a && b) ≡ false
and-no' true b e = e
and-no' false b e = refl

module _ (rule : Rule) (calls : List Call) (moment : ℕ) where
  abbrev now : ℕ
  now = max (effective_moment calls) moment

  abbrev before : List Event
  before = trace_of (Advance moment ∷ calls)

  none-waits : (link : Link) → free link before ≤ now → (flow : ℕ) → backlog link flow before ≡ []
  none-waits link le flow = by (backlog link flow before) refl
    where
      by : (q : List Accepted) → backlog link flow (trace_of (Advance moment ∷ calls)) ≡ q → q ≡ []
      by [] e = refl
      by (p ∷ q) e =
          let some = ap (λ (ps : List Accepted). length ps) e in
          let busy = busy-beyond (Advance moment ∷ calls) link flow (omega (arith, some)) in
          absurd (omega (arith, busy, le))

  module _ (link : Link) (packet : Packet) (flow : ℕ) (how : Treatment) where
    abbrev start' : List Event
    start' = opening link now before

    abbrev taken : Accepted
    taken = accept link packet flow how (opening link now before)

    opens : free link before ≤ now → opening link now before ≡ opened link ∷ before
    opens le =
        let none : waiting link before ≡ 0 = total-none (flow_bound before) (λ f. backlog link f before) (none-waits link le) in
        ap (λ b. cond b (opened link ∷ before) before) (and_from (nat_eq (waiting link before) 0) (nat_le (free link before) now) (zero-is (waiting link before) none) (low (free link before) le))
      where
        zero-is : (n : ℕ) → n ≡ 0 → nat_eq n 0 ≡ true
        zero-is n h = grind (arith, nat_tests)

        low : (n : ℕ) → n ≤ max (effective_moment calls) moment → nat_le n (max (effective_moment calls) moment) ≡ true
        low n h = grind (arith, nat_tests)

    high : (n at : ℕ) → at < n → nat_le n at ≡ false
    high n at h = grind (arith, nat_tests)

    low : (n at : ℕ) → n ≤ at → nat_le n at ≡ true
    low n at h = grind (arith, nat_tests)

    stays-shut : now < free link before → opening link now before ≡ before
    stays-shut lt = ap (λ b. cond b (opened link ∷ before) before) (and-no' (nat_eq (waiting link before) 0) (nat_le (free link before) now) (high (free link before) now lt))

    free-same : free link (opening link now before) ≡ free link before
    free-same = opened-free (nat_eq (waiting link before) 0 && nat_le (free link before) now) link link before

    -- The packet is tagged by what was on its link before it.
    is-tagged : IsTaggedBy (read rule) link (accepted_count before) flow packet.len how.weight (on_link link (opening link now before)) (accept link packet flow how (opening link now before))
    is-tagged =
        let u = opening link now before in
        let t = tagged link packet flow how u in
        record {
          own_number = opened-count (nat_eq (waiting link before) 0 && nat_le (free link before) now) link before;
          on_link = refl;
          own_flow = refl;
          own_length = refl;
          own_weight = refl;
          cost = t.cost;
          behind = λ some. t.behind (waits (backlog link flow u) (λ e. some (queue-on link flow u ∙ e))) ∙ sym (tag-on link flow u);
          alone = λ none. t.alone (ap (λ (q : List Accepted). length q) (sym (queue-on link flow u) ∙ none)) ∙ (λ i. max (sym (tag-on link flow u) i) (sym (virtual-on link u) i));
        }
      where
        waits : (q : List Accepted) → q ≢ [] → 0 < length q
        waits [] h = absurd (h refl)
        waits (p ∷ q) h = omega arith

    kept-here : (e : Event) (t : List Event) → is_on link e ≡ true → on_link link (e ∷ t) ≡ e ∷ on_link link t
    kept-here e t h = kept-on link e t h

    waits' : now < free link (on_link link before) →
        (on_link link (join (settings calls) now (accept link packet flow how (opening link now before)) (opening link now before))
        ≡ arrived (accept link packet flow how (opening link now before)) ∷ on_link link before)
        × IsTaggedBy (read rule) link (accepted_count before) flow packet.len how.weight (on_link link before) (accept link packet flow how (opening link now before))
    waits' h =
        let on = free-on link before in
        let lt : now < free link before = omega (arith, h, on) in
        let shut = stays-shut lt in
        let busy : nat_le (free link (opening link now before)) now ≡ false = ap (λ n. nat_le n now) free-same ∙ high (free link before) now lt in
        let u = opening link now before in
        let p = accept link packet flow how u in (
          ap (on_link link) (ap (λ b. cond b (started (start_at (settings calls) link p now) ∷ arrived p ∷ u) (arrived p ∷ u)) busy)
              ∙ kept-here (arrived p) u (link_eq-refl link) ∙ ap (λ (t : List Event). arrived p ∷ on_link link t) shut,
          subst (λ (t : List Event). IsTaggedBy (read rule) link (accepted_count before) flow packet.len how.weight (on_link link t) p) shut is-tagged,
        )

    goes' : is_some (settings calls (ToPipe (pipe_of link))) ≡ true → free link (on_link link before) ≤ now →
        (s : Start) × ((on_link link (join (settings calls) now (accept link packet flow how (opening link now before)) (opening link now before))
        ≡ started s ∷ arrived (accept link packet flow how (opening link now before)) ∷ opened link ∷ on_link link before)
        × IsTaggedBy (read rule) link (accepted_count before) flow packet.len how.weight (opened link ∷ on_link link before) (accept link packet flow how (opening link now before))
        × (s.packet ≡ accept link packet flow how (opening link now before)) × (s.moment ≡ now) × IsBy (settings calls (ToPipe (pipe_of link))) s)
    goes' there h =
        let on = free-on link before in
        let le : free link before ≤ now = omega (arith, h, on) in
        let open' = opens le in
        let idle : nat_le (free link (opening link now before)) now ≡ true = ap (λ n. nat_le n now) free-same ∙ low (free link before) now le in
        let u = opening link now before in
        let p = accept link packet flow how u in
        let s = start_at (settings calls) link p now in
        let opened-on : on_link link u ≡ opened link ∷ on_link link before = ap (on_link link) open' ∙ kept-here (opened link) before (link_eq-refl link) in (
          s,
          (
            ap (on_link link) (ap (λ b. cond b (started s ∷ arrived p ∷ u) (arrived p ∷ u)) idle)
                ∙ kept-here (started s) (arrived p ∷ u) (link_eq-refl link) ∙ ap (λ (t : List Event). started s ∷ t) (kept-here (arrived p) u (link_eq-refl link))
                ∙ ap (λ (t : List Event). started s ∷ arrived p ∷ t) opened-on,
            subst (λ (t : List Event). IsTaggedBy (read rule) link (accepted_count before) flow packet.len how.weight t p) opened-on is-tagged,
            refl,
            refl,
            is-by rule (settings calls) link s now refl there (settings-kept calls (ToPipe (pipe_of link))),
          ),
        )

    pub joined : is_some (settings calls (ToPipe (pipe_of link))) ≡ true →
        Joins (read rule) (settings calls) link now (accepted_count before) flow packet.len how.weight (on_link link before)
        (on_link link (join (settings calls) now (accept link packet flow how (opening link now before)) (opening link now before)))
    joined there = record { packet = accept link packet flow how (opening link now before); waits = waits'; goes = goes' there }

    left-out : (other : Link) (e : Event) (t : List Event) → is_on other e ≡ false → on_link other (e ∷ t) ≡ on_link other t
    left-out other e t h = ap (λ b. cond b (e ∷ on_link other t) (on_link other t)) h

    pub joined-elsewhere : (other : Link) → other ≢ link →
        on_link other (join (settings calls) now (accept link packet flow how (opening link now before)) (opening link now before)) ≡ on_link other before
    joined-elsewhere other not' = by (nat_le (free link u) now) ∙ opened-elsewhere (nat_eq (waiting link before) 0 && nat_le (free link before) now)
      where
        u : List Event
        u = opening link (max (effective_moment calls) moment) (trace_of (Advance moment ∷ calls))

        p : Accepted
        p = accept link packet flow how (opening link (max (effective_moment calls) moment) (trace_of (Advance moment ∷ calls)))

        no' : link_eq link other ≡ false
        no' = apart link other (λ e. not' (sym e))

        opened-elsewhere : (b : Bool) → on_link other (cond b (opened link ∷ trace_of (Advance moment ∷ calls)) (trace_of (Advance moment ∷ calls))) ≡ on_link other (trace_of (Advance moment ∷ calls))
        opened-elsewhere true = left-out other (opened link) (trace_of (Advance moment ∷ calls)) no'
        opened-elsewhere false = refl

        arrives : on_link other (arrived (accept link packet flow how (opening link (max (effective_moment calls) moment) (trace_of (Advance moment ∷ calls)))) ∷
            opening link (max (effective_moment calls) moment) (trace_of (Advance moment ∷ calls))) ≡ on_link other (opening link (max (effective_moment calls) moment) (trace_of (Advance moment ∷ calls)))
        arrives = left-out other (arrived p) u no'

        by : (b : Bool) →
            on_link other (cond b (started (start_at (settings calls) link (accept link packet flow how (opening link (max (effective_moment calls) moment) (trace_of (Advance moment ∷ calls)))) (max (effective_moment calls) moment))
            ∷ arrived (accept link packet flow how (opening link (max (effective_moment calls) moment) (trace_of (Advance moment ∷ calls)))) ∷ opening link (max (effective_moment calls) moment) (trace_of (Advance moment ∷ calls)))
            (arrived (accept link packet flow how (opening link (max (effective_moment calls) moment) (trace_of (Advance moment ∷ calls)))) ∷ opening link (max (effective_moment calls) moment) (trace_of (Advance moment ∷ calls))))
            ≡ on_link other (opening link (max (effective_moment calls) moment) (trace_of (Advance moment ∷ calls)))
        by true = left-out other (started (start_at (settings calls) link p (max (effective_moment calls) moment))) (arrived p ∷ u) no' ∙ arrives
        by false = arrives

-- What a packet that is told to be queued was taken as.
pub record IsTakenSo (calls : List Call) (target : Target) (packet : Packet) (moment at flow number : ℕ) : Type 0 where
  pub link : Link
  pub how : Treatment
  pub treats : treatment (settings calls target) ≡ Some how
  pub link_is : link ≡ link_of target flow how.pipe
  pub at_now : max (effective_moment calls) moment ≡ at
  pub counted : accepted_count (trace_of (Advance moment ∷ calls)) ≡ number
  pub makes : trace_of (Submit target packet moment ∷ calls)
      ≡ join (settings calls) (max (effective_moment calls) moment) (accept link packet flow how (opening link (max (effective_moment calls) moment) (trace_of (Advance moment ∷ calls))))
      (opening link (max (effective_moment calls) moment) (trace_of (Advance moment ∷ calls)))

module _ (rule : Rule) (calls : List Call) (lt : length calls < call_limit) (target : Target) (packet : Packet) (moment : ℕ) where
  told-by : reply rule calls (Submit target packet moment)
      ≡ reply_to_verdict (max (effective_moment calls) moment) (verdict calls target packet (trace_of (Advance moment ∷ calls))) (trace_of (Advance moment ∷ calls))
  told-by = not-exhausted rule calls (Submit target packet moment) lt

  pub taken-so : (at flow number : ℕ) → reply rule calls (Submit target packet moment) ≡ Queued at flow number → IsTakenSo calls target packet moment at flow number
  taken-so at flow number told = by (verdict calls target packet (trace_of (Advance moment ∷ calls))) refl (sym told-by ∙ told)
    where
      by : (v : Verdict) → verdict calls target packet (trace_of (Advance moment ∷ calls)) ≡ v →
          reply_to_verdict (max (effective_moment calls) moment) v (trace_of (Advance moment ∷ calls)) ≡ Queued at flow number → IsTakenSo calls target packet moment at flow number
      by no_target is e = absurd cc
      by (loses l f) is e = absurd cc
      by (refuses l f) is e = absurd cc
      by (takes l f how) is e =
          let v = verdict-takes (keys calls) target packet (treatment (settings calls target)) (trace_of (Advance moment ∷ calls)) l f how is in
          let same : f ≡ flow = cc in
          record {
            link = l;
            how = how;
            treats = v.0;
            link_is = v.1 ∙ ap (λ (n : ℕ). link_of target n how.pipe) same;
            at_now = cc;
            counted = cc;
            makes = ap (λ (x : Verdict). after_verdict (settings calls) (max (effective_moment calls) moment) packet x (trace_of (Advance moment ∷ calls))) is
                ∙ ap (λ (n : ℕ). join (settings calls) (max (effective_moment calls) moment) (accept l packet n how (opening l (max (effective_moment calls) moment) (trace_of (Advance moment ∷ calls))))
                (opening l (max (effective_moment calls) moment) (trace_of (Advance moment ∷ calls)))) same;
          }

  link-same : (at flow number : ℕ) (command : Command) (link : Link) (t : IsTakenSo calls target packet moment at flow number) → settings calls target ≡ Some command → IsCarriedBy command flow link → t.link ≡ link
  link-same at flow number command link t set carried =
      let by-it = carried-by target command (subst (λ (o : Option Command). IsKept target o) set (settings-kept calls target)) t.how (ap treatment (sym set) ∙ t.treats) flow in
      t.link_is ∙ carried-one command flow (link_of target flow t.how.pipe) link by-it carried

  pub joins-hold : (at flow number : ℕ) (command : Command) (weight : ℕ) (link : Link) → reply rule calls (Submit target packet moment) ≡ Queued at flow number → settings calls target ≡ Some command →
      IsWeight command weight → IsCarriedBy command flow link →
      Joins (read rule) (settings calls) link at number flow packet.len weight (on_link link (trace_of (Advance moment ∷ calls))) (on_link link (trace_of (Submit target packet moment ∷ calls)))
  joins-hold at flow number command weight link told set weighs carried =
      let t = taken-so at flow number told in
      let on : t.link ≡ link = link-same at flow number command link t set carried in
      let pipe : pipe_of t.link ≡ t.how.pipe = ap pipe_of t.link_is ∙ pipe_of-link target flow t.how.pipe in
      let there = ap (λ (n : ℕ). is_some (settings calls (ToPipe n))) pipe ∙ pipe-there calls target t.how t.treats in
      let weight' : t.how.weight ≡ weight = weight-is command t.how weight (ap treatment (sym set) ∙ t.treats) weighs in
      let before = trace_of (Advance moment ∷ calls) in
      let after = trace_of (Submit target packet moment ∷ calls) in
      let one = joined rule calls moment t.link packet flow t.how there in
      let two = subst (λ (u : List Event). Joins (read rule) (settings calls) t.link (max (effective_moment calls) moment) (accepted_count before) flow packet.len t.how.weight (on_link t.link before) (on_link t.link u)) (sym t.makes) one in
      let three = subst (λ (n : ℕ). Joins (read rule) (settings calls) t.link n (accepted_count before) flow packet.len t.how.weight (on_link t.link before) (on_link t.link after)) t.at_now two in
      let four = subst (λ (n : ℕ). Joins (read rule) (settings calls) t.link at n flow packet.len t.how.weight (on_link t.link before) (on_link t.link after)) t.counted three in
      let five = subst (λ (n : ℕ). Joins (read rule) (settings calls) t.link at number flow packet.len n (on_link t.link before) (on_link t.link after)) weight' four in
      subst (λ (l : Link). Joins (read rule) (settings calls) l at number flow packet.len weight (on_link l before) (on_link l after)) on five

  pub keeps-apart : (at flow number : ℕ) (command : Command) (link other : Link) → reply rule calls (Submit target packet moment) ≡ Queued at flow number → settings calls target ≡ Some command →
      IsCarriedBy command flow link → other ≢ link → on_link other (trace_of (Submit target packet moment ∷ calls)) ≡ on_link other (trace_of (Advance moment ∷ calls))
  keeps-apart at flow number command link other told set carried not' =
      let t = taken-so at flow number told in
      let on : t.link ≡ link = link-same at flow number command link t set carried in
      ap (on_link other) t.makes ∙ joined-elsewhere rule calls moment t.link packet flow t.how other (λ e. not' (e ∙ on))

  pub drops : (link : Link) → is_queued (reply rule calls (Submit target packet moment)) ≡ false → on_link link (trace_of (Submit target packet moment ∷ calls)) ≡ on_link link (trace_of (Advance moment ∷ calls))
  drops link h = by (verdict calls target packet (trace_of (Advance moment ∷ calls))) refl (ap is_queued (sym told-by) ∙ h)
    where
      made : (v : Verdict) → verdict calls target packet (trace_of (Advance moment ∷ calls)) ≡ v →
          trace_of (Submit target packet moment ∷ calls) ≡ after_verdict (settings calls) (max (effective_moment calls) moment) packet v (trace_of (Advance moment ∷ calls))
      made v is = ap (λ (x : Verdict). after_verdict (settings calls) (max (effective_moment calls) moment) packet x (trace_of (Advance moment ∷ calls))) is

      by : (v : Verdict) → verdict calls target packet (trace_of (Advance moment ∷ calls)) ≡ v →
          is_queued (reply_to_verdict (max (effective_moment calls) moment) v (trace_of (Advance moment ∷ calls))) ≡ false →
          on_link link (trace_of (Submit target packet moment ∷ calls)) ≡ on_link link (trace_of (Advance moment ∷ calls))
      by no_target is e = ap (on_link link) (made no_target is)
      by (loses l f) is e = ap (on_link link) (made (loses l f) is)
      by (refuses l f) is e = ap (on_link link) (made (refuses l f) is)
      by (takes l f how) is e = absurd cc
