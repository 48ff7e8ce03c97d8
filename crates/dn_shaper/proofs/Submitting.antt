-- A packet of a known flow is lost, refused or accepted after a settling.
use Rattle.dn_shaper.proofs.Words.{Accepted, Accepts, AgreesWith, Answers, AreCountsWithin, Bool, CanAccept, CanSee, Event, FlowKey, FlowState, Heap, IsMade, Link, LinkView, List, NextStart, None}
use Rattle.dn_shaper.proofs.Words.{OnlyStarts, Option, Packet, Parts, Sees, Settings, SettlesAll, Some, Start, Take, Treatment, Verdict, Within, [], accept, after_verdict, ap, arith, as_queued}
use Rattle.dn_shaper.proofs.Words.{backlog, cond, false, first_start, flow_at, home, is_full, is_lost, join, length, lengths, links, loses, lost, map, opening, places, places-same, refl, refused}
use Rattle.dn_shaper.proofs.Words.{refuses, reply_to_verdict, set, settle, settled, settled-ends, slice_get, started, subst, suc, sym, takes, true, verdict_of, verdict_on, views_of, waiting_all}
use Rattle.dn_shaper.proofs.Words.{waits_in_all, with_link, zero, ℕ, ◌+◌, ◌<◌, ◌^◌, ◌∙◌, ◌∷◌, ◌≡◌}
use Rattle.dn_types.specs.declared.reply.Reply.TheVariants.{Queued, Lost as ReplyLost, Full as ReplyFull}
use Rattle.dn_flows.specs.declared.verdict.Verdict.TheVariants.{Full, Lost}
use Rattle.dn_shaper.proofs.OnePlace.{each-flow}

-- Starts leave the links as they are.
links-settle : (most : ℕ) (settings : Settings) (at : ℕ) (trace : List Event) → links (settle most settings at trace) ≡ links trace
links-settle zero settings at trace = refl
links-settle (suc most) settings at trace = by (first_start settings at (links trace) trace) (λ t. links-settle most settings at t)
  where
    by : (o : Option Start) → ((t : List Event) → links (settle most settings at t) ≡ links t) →
        links (elim o as (λ _. List Event) [ None ↦ trace | Some s ↦ settle most settings at (started s ∷ trace) ]) ≡ links trace
    by None rest = refl
    by (Some s) rest = rest (started s ∷ trace)

pub links-settled : (settings : Settings) (at : ℕ) (trace : List Event) → links (settled settings at trace) ≡ links trace
links-settled settings at trace = links-settle (waiting_all (links trace) trace) settings at trace

pub length-lens : (q : List Accepted) → lengths (map as_queued q) ≡ map (λ p. p.stamped.len) q
length-lens [] = refl
length-lens (p ∷ q) = λ i. p.stamped.len ∷ length-lens q i

-- No count is near its limit after the settling either.
pub within-settled : {old mid : Parts} {heap heap' : Heap NextStart} → OnlyStarts old heap mid heap' → (n : ℕ) × (n < 2 ^ 62) × Within n old → (n : ℕ) × (n < 2 ^ 62) × Within n mid
within-settled only few = (few.0, few.1, only.within few.0 few.2)

module _ (flow : ℕ) {settings : Settings} {at : ℕ} {old mid : Parts} {heap heap' : Heap NextStart} (only : OnlyStarts old heap mid heap') (settles : SettlesAll settings at old mid) where
  pub made-settled : (trace : List Event) → IsMade flow old trace → IsMade flow mid (settled settings at trace)
  made-settled trace made = only.names ∙ made ∙ (λ i. with_link (home (sym only.keys i) flow) (sym (links-settled settings at trace) i))

  pub can-see : CanSee flow old → CanSee flow mid
  can-see c = (c.0, settled settings at c.1, settles c.0 c.1 c.2, made-settled c.1 c.3)

  pub can-accept : CanSee flow old → CanAccept settings at flow mid
  can-accept c = (c.0, settled settings at c.1, settles c.0 c.1 c.2, made-settled c.1 c.3, settled-ends settings at (home mid.flows.keys flow) c.1)

  module _ (packet : Packet) (how : Treatment) where
    full-is : (more : List Link) (before : List Event) → AgreesWith mid more before →
        is_full how.limit (map (λ p. p.stamped.len) (backlog (home old.flows.keys flow) flow before)) ≡ is_full how.limit (lengths (flow_at mid.flows.flows flow).backlog)
    full-is more before b =
        ap (is_full how.limit)
        (ap (λ (ks : List FlowKey). map (λ (p : Accepted). p.stamped.len) (backlog (home ks flow) flow before)) (sym only.keys)
        ∙ sym (length-lens (backlog (home mid.flows.keys flow) flow before))
        ∙ ap lengths (sym (b.flows_are flow).backlog_is))

    was_lost : (x y : Bool) → Lost ≡ cond x Lost (cond y Full Take) → x ≡ true
    was_lost true y e = refl
    was_lost false true e = absurd cc
    was_lost false false e = absurd cc

    was_full : (x y : Bool) → Full ≡ cond x Lost (cond y Full Take) → (x ≡ false) × (y ≡ true)
    was_full true y e = absurd cc
    was_full false true e = (refl, refl)
    was_full false false e = absurd cc

    was_taken : (x y : Bool) → Take ≡ cond x Lost (cond y Full Take) → (x ≡ false) × (y ≡ false)
    was_taken true y e = absurd cc
    was_taken false true e = absurd cc
    was_taken false false e = (refl, refl)

    abbrev link : Link
    link = home old.flows.keys flow

    pub answers-lost : (new : Parts) → Lost ≡ verdict_of how.loss how.limit packet.word (flow_at mid.flows.flows flow).backlog → Sees flow lost mid new →
        Answers settings at flow packet how old new (ReplyLost at flow)
    answers-lost new value sees more trace a made =
        let b = settles more trace a in
        let is : verdict_on link flow how packet (settled settings at trace) ≡ loses link flow =
        ap
        (λ t. cond t (loses link flow) (cond (is_full how.limit (map (λ (p : Accepted). p.stamped.len) (backlog link flow (settled settings at trace)))) (refuses link flow) (takes link flow how)))
        (was_lost (is_lost how.loss packet.word) (is_full how.limit (lengths (flow_at mid.flows.flows flow).backlog)) value) in (
          ap (λ (v : Verdict). reply_to_verdict at v (settled settings at trace)) (sym is),
          subst (λ (v : Verdict). AgreesWith new [] (after_verdict settings at packet v (settled settings at trace))) (sym is)
              (subst (λ (ks : List FlowKey). AgreesWith new [] (lost (home ks flow) flow ∷ settled settings at trace)) only.keys (sees more (settled settings at trace) b (made-settled trace made))),
        )

    pub answers-full : (new : Parts) → Full ≡ verdict_of how.loss how.limit packet.word (flow_at mid.flows.flows flow).backlog → Sees flow refused mid new →
        Answers settings at flow packet how old new (ReplyFull at flow)
    answers-full new value sees more trace a made =
        let b = settles more trace a in
        let w = was_full (is_lost how.loss packet.word) (is_full how.limit (lengths (flow_at mid.flows.flows flow).backlog)) value in
        let is : verdict_on link flow how packet (settled settings at trace) ≡ refuses link flow =
        ap
        (λ t. cond t (loses link flow)
        (cond (is_full how.limit (map (λ (p : Accepted). p.stamped.len) (backlog link flow (settled settings at trace)))) (refuses link flow) (takes link flow how))) w.0
        ∙ ap (λ t. cond t (refuses link flow) (takes link flow how)) (full-is more (settled settings at trace) b ∙ w.1) in (
          ap (λ (v : Verdict). reply_to_verdict at v (settled settings at trace)) (sym is),
          subst (λ (v : Verdict). AgreesWith new [] (after_verdict settings at packet v (settled settings at trace))) (sym is)
              (subst (λ (ks : List FlowKey). AgreesWith new [] (refused (home ks flow) flow ∷ settled settings at trace)) only.keys
              (sees more (settled settings at trace) b (made-settled trace made))),
        )

    pub answers-taken : (new : Parts) {number : ℕ} → Take ≡ verdict_of how.loss how.limit packet.word (flow_at mid.flows.flows flow).backlog →
        Accepts settings at flow packet.len how.weight mid new → number ≡ mid.accepted → Answers settings at flow packet how old new (Queued at flow number)
    answers-taken new {number = number} value accepts number_is more trace a made =
        let b = settles more trace a in
        let w = was_taken (is_lost how.loss packet.word) (is_full how.limit (lengths (flow_at mid.flows.flows flow).backlog)) value in
        let is : verdict_on link flow how packet (settled settings at trace) ≡ takes link flow how =
        ap
        (λ t. cond t (loses link flow)
        (cond (is_full how.limit (map (λ (p : Accepted). p.stamped.len) (backlog link flow (settled settings at trace)))) (refuses link flow) (takes link flow how))) w.0
        ∙ ap (λ t. cond t (refuses link flow) (takes link flow how)) (full-is more (settled settings at trace) b ∙ w.1) in (
          ap (λ n. Queued at flow n) (number_is ∙ b.accepted_is) ∙ ap (λ (v : Verdict). reply_to_verdict at v (settled settings at trace)) (sym is),
          subst (λ (v : Verdict). AgreesWith new [] (after_verdict settings at packet v (settled settings at trace))) (sym is)
              (subst
              (λ (ks : List FlowKey). AgreesWith new []
              (join settings at (accept (home ks flow) packet flow how (opening (home ks flow) at (settled settings at trace))) (opening (home ks flow) at (settled settings at trace)))) only.keys
              (accepts more (settled settings at trace) packet how refl refl (made-settled trace made) (settled-ends settings at (home mid.flows.keys flow) trace) b)),
        )

-- ---- A flow's counts

pub noted-within : (n flow : ℕ) (x : FlowState) (old new : Parts) → flow < length old.flows.flows → new.flows.flows ≡ set old.flows.flows flow x →
    AreCountsWithin (n + 1) x → x.reserved ≡ (flow_at old.flows.flows flow).reserved → views_of new ≡ views_of old → new.waiting ≡ old.waiting → new.line ≡ old.line → new.accepted ≡ old.accepted → Within n old →
    Within (n + 1) new
noted-within n flow x old new lt flows inside placed views waiting line accepted w = record {
  waiting_is = waiting ∙ w.waiting_is ∙ ap (λ (vs : List LinkView). waits_in_all vs) (sym views);
  room =
      let a = w.room in
      let b = ap {B = ℕ} (λ l. l.room) line in
      let c = ap {B = ℕ} places flows in
      let d = places-same old.flows.flows flow x lt placed in
      omega arith;
  pushed = let a = w.pushed in let b = ap {B = ℕ} (λ l. l.pushed) line in omega arith;
  sums = let a = w.sums in let b = ap {B = ℕ} (λ l. length l.pending) line in omega arith;
  flows_are = λ g. subst (λ (fs : List FlowState). AreCountsWithin (n + 1) (flow_at fs g)) (sym flows)
      (each-flow (λ g s. AreCountsWithin (n + 1) s) old.flows.flows flow x lt inside
      (λ g ne. let i = w.flows_are g in let a = i.0 in let b = i.1 in let c = i.2 in (omega arith, omega arith, omega arith)) g);
  arrivals = λ k v e. let a = w.arrivals k v (ap (λ (vs : List LinkView). slice_get vs k) (sym views) ∙ e) in omega arith;
  accepted = let a = w.accepted in omega arith;
}
