-- All queues of a pipe together keep its rate, since they are on one link.
use Rattle.dn_laws.proofs.Words.{Bool, IsProper, List, Option, [], ap, append_assoc, arith, cond, false, is_of_queues, link_eq-true, nat_eq, refl, sent_by_queues, slice_get, subst, suffix-proper}
use Rattle.dn_laws.proofs.Words.{sym, trace-proper, true, ℕ, ◌*◌, ◌++◌, ◌+◌, ◌<◌, ◌^◌, ◌∙◌, ◌∷◌, ◌≡◌, ◌≤◌}
use Rattle.dn_laws.proofs.LawWords.{link_of, trace_of, sent, keys, StaysInForce, Link, shared, link_eq, pipe_of, Start, Event, arrived, started, Call, Pipe, FlowKey, Limit, Mask, Target, ToPipe}
use Rattle.dn_laws.proofs.LawWords.{ToQueue}
use Rattle.dn_laws.proofs.AtHome.{IsHomeOf, HaveHomes, have-homes, start-home}
use Rattle.dn_laws.proofs.ConfiguredRate.{keeps-the-configured-rate}

pub suffix-homes : (known : List FlowKey) (later earlier : List Event) → HaveHomes known (later ++ earlier) → HaveHomes known earlier
suffix-homes known [] earlier h = h
suffix-homes known (arrived p ∷ later) earlier h = suffix-homes known later earlier h.1
suffix-homes known (_ ∷ later) earlier h = suffix-homes known later earlier h

module _ (number : ℕ) (known : List FlowKey) where
  -- A packet is on the pipe's shared link where its flow is of a queue on the pipe.
  on-shared : (link : Link) (flow : ℕ) → IsHomeOf known link flow → link_eq link (shared number) ≡ is_of_queues number (slice_get known flow)
  on-shared link flow h = ap (λ (l : Link). link_eq l (shared number)) h.is ∙ by h.key.target ∙ ap (is_of_queues number) (sym h.at)
    where
      by : (t : Target) → link_eq (link_of t flow h.key.pipe) (shared number) ≡ elim t as (λ _. Bool) [ ToPipe n ↦ false | ToQueue n ↦ nat_eq h.key.pipe number ]
      by (ToPipe n) = refl
      by (ToQueue n) = refl

  same-sent : (f rest : List Event) → IsProper (f ++ rest) → HaveHomes known (f ++ rest) → sent_by_queues number known f ≡ sent (shared number) f
  same-sent [] rest proper h = refl
  same-sent (started s ∷ f) rest proper h =
      let more = same-sent f rest proper.2 h in
      let same = on-shared s.packet.link s.packet.stamped.flow (start-home known s (f ++ rest) proper h) in
      let one : cond (link_eq s.packet.link (shared number)) s.packet.stamped.len 0 ≡ cond (is_of_queues number (slice_get known s.packet.stamped.flow)) s.packet.stamped.len 0 =
      ap {B = ℕ} (λ b. cond b s.packet.stamped.len 0) same in
      omega (arith, more, one)
  same-sent (arrived p ∷ f) rest proper h = same-sent f rest proper.1 h.1
  same-sent (_ ∷ f) rest proper h = same-sent f rest proper h

pub queues-share-the-rate : (after calls : List Call) (number bw delay : ℕ) (limit : Limit) (loss : ℕ) (buckets : Option ℕ) (mask : Mask) (later between earlier : List Event) (s r : Start) →
    StaysInForce (ToPipe number) (Pipe number bw delay limit loss buckets mask) after calls → 0 < bw →
    trace_of (after ++ calls) ≡ (later ++ (started s ∷ (between ++ (started r ∷ earlier)))) ++ trace_of calls →
    is_of_queues number (slice_get (keys (after ++ calls)) r.packet.stamped.flow) ≡ true →
    is_of_queues number (slice_get (keys (after ++ calls)) s.packet.stamped.flow) ≡ true →
    sent_by_queues number (keys (after ++ calls)) (between ++ started r ∷ []) * 8 * 10 ^ 9 + r.moment * bw ≤ s.moment * bw
queues-share-the-rate after calls number bw delay limit loss buckets mask later between earlier s r stays some e of_r of_s =
    subst (λ (n : ℕ). n * 8 * 10 ^ 9 + r.moment * bw ≤ s.moment * bw) (ap (λ (l : Link). sent l (between ++ started r ∷ [])) on_r ∙ sym same)
    (keeps-the-configured-rate after calls number bw delay limit loss buckets mask later between earlier s r stays some e (ap pipe_of on_r) (on_s ∙ sym on_r))
  where
    known : List FlowKey
    known = keys (after ++ calls)

    rest : List Event
    rest = earlier ++ trace_of calls

    stretch : List Event
    stretch = between ++ started r ∷ []

    parts : trace_of (after ++ calls) ≡ later ++ (started s ∷ ((between ++ started r ∷ []) ++ (earlier ++ trace_of calls)))
    parts = e ∙ append_assoc later (started s ∷ (between ++ (started r ∷ earlier))) (trace_of calls)
        ∙ ap (λ (t : List Event). later ++ (started s ∷ t)) (append_assoc between (started r ∷ earlier) (trace_of calls) ∙ sym (append_assoc between (started r ∷ []) (earlier ++ trace_of calls)))

    proper : IsProper (started s ∷ ((between ++ started r ∷ []) ++ (earlier ++ trace_of calls)))
    proper = suffix-proper later (started s ∷ (stretch ++ rest)) (subst IsProper parts (trace-proper (after ++ calls)))

    homes : HaveHomes (keys (after ++ calls)) ((between ++ started r ∷ []) ++ (earlier ++ trace_of calls))
    homes = suffix-homes known later (started s ∷ (stretch ++ rest)) (subst (HaveHomes known) parts (have-homes (after ++ calls)))

    on_s : s.packet.link ≡ shared number
    on_s = link_eq-true s.packet.link (shared number) (on-shared number known s.packet.link s.packet.stamped.flow (start-home known s (stretch ++ rest) proper homes) ∙ of_s)

    shape : (between ++ started r ∷ []) ++ (earlier ++ trace_of calls) ≡ between ++ (started r ∷ (earlier ++ trace_of calls))
    shape = append_assoc between (started r ∷ []) (earlier ++ trace_of calls)

    on_r : r.packet.link ≡ shared number
    on_r = link_eq-true r.packet.link (shared number)
        (on-shared number known r.packet.link r.packet.stamped.flow (start-home known r rest (suffix-proper between (started r ∷ rest)
        (subst IsProper shape proper.2)) (suffix-homes known between (started r ∷ rest) (subst (HaveHomes known) shape homes))) ∙ of_r)

    same : sent_by_queues number (keys (after ++ calls)) (between ++ started r ∷ []) ≡ sent (shared number) (between ++ started r ∷ [])
    same = same-sent number known stretch rest proper.2 homes
