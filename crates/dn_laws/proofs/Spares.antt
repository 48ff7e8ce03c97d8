-- What a command that deletes nothing leaves, and what leaves the last finish tags of a link.
use Rattle.dn_laws.proofs.Words.{Bool, CommandsSpare, List, None, Option, PacketsSpareTags, Some, ap, cond, false, max, nat_eq, nat_le, refl, suc, sym, true, zero, ℕ, ◌&&◌, ◌∙◌, ◌∷◌, ◌≡◌, ◌≢◌}
use Rattle.dn_laws.proofs.LawWords.{Verdict, no_target, loses, refuses, takes, verdict, accept, join, after_verdict, after_command, trace_of, effective_moment, Settings, settings, target_eq, subject}
use Rattle.dn_laws.proofs.LawWords.{setting_after, reply_to_command, treatment, keys, free, reply, waiting, opening, last_finish_tag, first_start, settle, start_at, waiting_all, Link, link_eq}
use Rattle.dn_laws.proofs.LawWords.{Accepted, Start, Event, opened, arrived, started, backlog, links, Call, Configure, Advance, Command, Packet, Reply, Configured, Deleted, Rule, Target}
use Rattle.dn_laws.proofs.DropLaws.{not-exhausted}
use Rattle.dn_laws.proofs.Isolation.{IsElsewhere, elsewhere-by, carried-by}

no-discard : (calls : List Call) (command : Command) (r : Reply) → r ≢ Deleted → after_command r command (keys calls) (trace_of calls) ≡ trace_of calls
no-discard calls command Deleted other = absurd (other refl)
no-discard calls command _ other = refl

no-setting : (command : Command) (r : Reply) (before : Option Command) → r ≢ Configured → r ≢ Deleted → setting_after r command before ≡ before
no-setting command Configured before refused other = absurd (refused refl)
no-setting command Deleted before refused other = absurd (other refl)
no-setting command _ before refused other = refl

pub commands-spare : CommandsSpare
commands-spare rule calls command few other =
    (λ link flow. (ap (backlog link flow) still, ap (last_finish_tag link flow) still), still, λ refused target. by target (λ e. refused (answered ∙ e)) (target_eq (subject command) target))
  where
    answered : reply rule calls (Configure command) ≡ reply_to_command calls command
    answered = not-exhausted rule calls (Configure command) few

    still : trace_of (Configure command ∷ calls) ≡ trace_of calls
    still = no-discard calls command (reply_to_command calls command) (λ e. other (not-exhausted rule calls (Configure command) few ∙ e))

    by : (target : Target) → reply_to_command calls command ≢ Configured → (b : Bool) →
        cond b (setting_after (reply_to_command calls command) command (settings calls target)) (settings calls target) ≡ settings calls target
    by target refused true = no-setting command (reply_to_command calls command) (settings calls target) refused (λ e. other (not-exhausted rule calls (Configure command) few ∙ e))
    by target refused false = refl

tags-settle : (most : ℕ) (set : Settings) (at : ℕ) (link : Link) (flow : ℕ) (t : List Event) → last_finish_tag link flow (settle most set at t) ≡ last_finish_tag link flow t
tags-settle zero set at link flow t = refl
tags-settle (suc most) set at link flow t = step (first_start set at (links t) t) (λ s. tags-settle most set at link flow (started s ∷ t))
  where
    step : (o : Option Start) → ((s : Start) → last_finish_tag link flow (settle most set at (started s ∷ t)) ≡ last_finish_tag link flow (started s ∷ t)) →
        last_finish_tag link flow (elim o as (λ _. List Event) [ None ↦ t | Some s ↦ settle most set at (started s ∷ t) ]) ≡ last_finish_tag link flow t
    step None rest = refl
    step (Some s) rest = rest s

-- A settling leaves each last finish tag.
pub clock-spares-tags : (calls : List Call) (moment : ℕ) (link : Link) (flow : ℕ) → last_finish_tag link flow (trace_of (Advance moment ∷ calls)) ≡ last_finish_tag link flow (trace_of calls)
clock-spares-tags calls moment link flow = tags-settle (waiting_all (links (trace_of calls)) (trace_of calls)) (settings calls) (max (effective_moment calls) moment) link flow (trace_of calls)

module _ (rule : Rule) (link : Link) (flow : ℕ) where
  tags-arrived : (p : Accepted) (t : List Event) → link_eq p.link link ≡ false → last_finish_tag link flow (arrived p ∷ t) ≡ last_finish_tag link flow t
  tags-arrived p t other = ap {B = ℕ} (λ b. cond (b && nat_eq p.stamped.flow flow) p.stamped.finish_tag (last_finish_tag link flow t)) other

  tags-join : (set : Settings) (at : ℕ) (p : Accepted) (t : List Event) → link_eq p.link link ≡ false → last_finish_tag link flow (join set at p t) ≡ last_finish_tag link flow t
  tags-join set at p t other = by (nat_le (free p.link t) at)
    where
      by : (b : Bool) → last_finish_tag link flow (cond b (started (start_at set p.link p at) ∷ arrived p ∷ t) (arrived p ∷ t)) ≡ last_finish_tag link flow t
      by true = tags-arrived p t other
      by false = tags-arrived p t other

  tags-opened : (b : Bool) (l : Link) (t : List Event) → link_eq l link ≡ false → last_finish_tag link flow (cond b (opened l ∷ t) t) ≡ last_finish_tag link flow t
  tags-opened true l t other = ap {B = ℕ} (λ b. cond b 0 (last_finish_tag link flow t)) other
  tags-opened false l t other = refl

  tags-verdict : (set : Settings) (at : ℕ) (packet : Packet) (v : Verdict) (t : List Event) → IsElsewhere rule link v
      → last_finish_tag link flow (after_verdict set at packet v t) ≡ last_finish_tag link flow t
  tags-verdict set at packet no_target t other = refl
  tags-verdict set at packet (loses l f) t other = refl
  tags-verdict set at packet (refuses l f) t other = refl
  tags-verdict set at packet (takes l f how) t other =
      tags-join set at (accept l packet f how (opening l at t)) (opening l at t) other ∙ tags-opened (nat_eq (waiting l t) 0 && nat_le (free l t) at) l t other

-- So does a packet on another pipe.
pub packets-spare-tags : PacketsSpareTags
packets-spare-tags rule calls target packet moment command rate most carrier link flow set judged other =
    let before = trace_of (Advance moment ∷ calls) in
    tags-verdict rule link flow (settings calls) (max (effective_moment calls) moment) packet (verdict calls target packet before) before
    (elsewhere-by rule link (keys calls) target packet (treatment (settings calls target)) before carrier (λ how e. carried-by command rate most carrier judged how (ap treatment (sym set) ∙ e)) other)
