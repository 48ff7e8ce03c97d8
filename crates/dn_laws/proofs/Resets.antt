-- A busy period begins with tags of 0, a delete forgets its flows' tags, and a packet that is dropped changes nothing.
use Rattle.dn_laws.proofs.Words.{Bool, DroppedChangesNothing, IsDropped, List, PipeDeleteResets, QueueDeleteResets, TagsBeginAfresh, [], and_from, ap, arith, cond, eq-eqb, false, le-leb, length}
use Rattle.dn_laws.proofs.Words.{max, nat_eq, nat_le, refl, suc, true, zero, ℕ, ◌∙◌, ◌∷◌, ◌≡◌, ◌≤◌}
use Rattle.dn_laws.proofs.LawWords.{link_of, Verdict, no_target, loses, refuses, takes, accept, after_verdict, verdict, trace_of, call_limit, effective_moment, Settings, settings, target_eq}
use Rattle.dn_laws.proofs.LawWords.{undelivered, Treatment, keys, key_of, flow_number, free, last_due, counted_reply, reply_to_verdict, waiting, opening, virtual_time, last_finish_tag, settled, Link}
use Rattle.dn_laws.proofs.LawWords.{Accepted, Event, opened, arrived, backlog, flow_bound, total, start_tag_on_arrival, Call, Submit, Advance, DeletePipe, DeleteQueue, Packet, Exhausted, Rule, Target}
use Rattle.dn_laws.proofs.LawWords.{ToQueue}
use Rattle.dn_laws.proofs.Begun.{IsCaused, IsTaken, call-causes, adds-among}
use Rattle.dn_types.proofs.{Conserving.busy-link, Keys.target_eq-refl, Known.reached-cleared, Settled.link_eq-refl}
use Rattle.dn_laws.proofs.Isolation.{after-deleted, none-left}

total-none : (n : ℕ) (q : ℕ → List Accepted) → ((flow : ℕ) → q flow ≡ []) → total n q ≡ 0
total-none zero q h = refl
total-none (suc n) q h = let rest = total-none n q h in let one = ap (λ (ps : List Accepted). length ps) (h n) in omega arith

-- For a link that is free none waits.
idle : (calls : List Call) (link : Link) → free link (trace_of calls) ≤ effective_moment calls → waiting link (trace_of calls) ≡ 0
idle calls link soon =
    total-none (flow_bound (trace_of calls)) (λ flow. backlog link flow (trace_of calls))
    (λ flow. none-left (backlog link flow (trace_of calls)) (λ some. let busy = busy-link calls link flow some in omega (arith, busy, soon)))

zero-tag : (b : Bool) (last v : ℕ) → last ≡ 0 → v ≡ 0 → start_tag_on_arrival b last v ≡ 0
zero-tag true last v e f = omega arith
zero-tag false last v e f = e

opened-tag : (link : Link) (packet : Packet) (flow : ℕ) (how : Treatment) (at : ℕ) (before : List Event) → waiting link before ≡ 0 → free link before ≤ at →
    (accept link packet flow how (opening link at before)).stamped.start_tag ≡ 0
opened-tag link packet flow how at before none soon =
    ap (λ (b : Bool). (accept link packet flow how (cond b (opened link ∷ before) before)).stamped.start_tag)
    (and_from (nat_eq (waiting link before) 0) (nat_le (free link before) at) (eq-eqb (waiting link before) 0 none) (le-leb (free link before) at soon))
    ∙ zero-tag (nat_eq (length (backlog link flow (opened link ∷ before))) 0) (last_finish_tag link flow (opened link ∷ before)) (virtual_time link (opened link ∷ before))
    (ap {B = ℕ} (λ b. cond b 0 (last_finish_tag link flow before)) (link_eq-refl link)) (ap {B = ℕ} (λ b. cond b 0 (virtual_time link before)) (link_eq-refl link))

pub tags-begin-afresh : TagsBeginAfresh
tags-begin-afresh calls target packet moment later between p e soon =
    let taken : IsTaken calls (Submit target packet moment) p between = adds-among (IsCaused calls (Submit target packet moment)) (trace_of calls)
    (trace_of (Submit target packet moment ∷ calls)) later between (arrived p) (call-causes calls (Submit target packet moment)) e in
    let how : Treatment = taken.0 in
    let flow = flow_number (keys calls) (key_of target packet.tuple how) in
    let link = link_of target flow how.pipe in
    let here = ap (λ (a : Accepted). free a.link (trace_of (Advance moment ∷ calls))) taken.2 in
    let free_then : free link (trace_of (Advance moment ∷ calls)) ≤ effective_moment (Advance moment ∷ calls) = omega (arith, here, soon) in
    ap (λ (a : Accepted). a.stamped.start_tag) taken.2
    ∙ ap (λ (t : List Event). (accept link packet flow how t).stamped.start_tag) taken.3
    ∙ opened-tag link packet flow how (effective_moment (Advance moment ∷ calls)) (trace_of (Advance moment ∷ calls)) (idle (Advance moment ∷ calls) link free_then) free_then

pub queue-delete-resets : QueueDeleteResets
queue-delete-resets calls number link before behind key e parts mine =
    ap (last_finish_tag link (length before)) (after-deleted calls (DeleteQueue number) e)
    ∙ reached-cleared (length before) (last_finish_tag link (length before)) 0 (λ f t. refl) (DeleteQueue number) (keys calls) (trace_of calls) key
    (record { before = before; behind = behind; parts = parts; place = refl })
    (ap (λ (t : Target). target_eq t (ToQueue number)) mine ∙ target_eq-refl (ToQueue number))

pub pipe-delete-resets : PipeDeleteResets
pipe-delete-resets calls number link before behind key e parts mine =
    ap (last_finish_tag link (length before)) (after-deleted calls (DeletePipe number) e)
    ∙ reached-cleared (length before) (last_finish_tag link (length before)) 0 (λ f t. refl) (DeletePipe number) (keys calls) (trace_of calls) key
    (record { before = before; behind = behind; parts = parts; place = refl })
    (eq-eqb key.pipe number mine)

module _ (rule : Rule) (link : Link) where
  abbrev IsUnchanged : List Event → List Event → Type 0
  IsUnchanged with_it without =
      ((flow : ℕ) → (backlog link flow with_it ≡ backlog link flow without) × (last_finish_tag link flow with_it ≡ last_finish_tag link flow without))
      × (free link with_it ≡ free link without) × (last_due rule link with_it ≡ last_due rule link without) × (virtual_time link with_it ≡ virtual_time link without)
      × (undelivered rule with_it ≡ undelivered rule without)

  dropped-verdict : (set : Settings) (at : ℕ) (packet : Packet) (v : Verdict) (trace : List Event) → IsDropped (reply_to_verdict at v trace) →
      IsUnchanged (after_verdict set at packet v trace) trace
  dropped-verdict set at packet no_target trace h = (λ flow. (refl, refl), refl, refl, refl, refl)
  dropped-verdict set at packet (loses l f) trace h = (λ flow. (refl, refl), refl, refl, refl, refl)
  dropped-verdict set at packet (refuses l f) trace h = (λ flow. (refl, refl), refl, refl, refl, refl)
  dropped-verdict set at packet (takes l f how) trace h = absurd h

pub dropped-changes-nothing : DroppedChangesNothing
dropped-changes-nothing rule calls target packet moment link dropped =
    let at = max (effective_moment calls) moment in
    let before = settled (settings calls) at (trace_of calls) in
    dropped-verdict rule link (settings calls) at packet (verdict calls target packet before) before (by (nat_le call_limit (length calls)) dropped)
  where
    by : (b : Bool) → IsDropped (cond b Exhausted (counted_reply rule calls (Submit target packet moment))) → IsDropped (counted_reply rule calls (Submit target packet moment))
    by true h = absurd h
    by false h = h
