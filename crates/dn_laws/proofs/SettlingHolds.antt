-- What the definitions settle on a link is what the law of settling asks for.
use Rattle.dn_laws.proofs.Words.{All, All-head, All-tail, Bool, List, None, Option, Some, [], ap, arith, cond, false, is_some, length, map, max, option_and_then, refl, slice_get, subst, suc, sym}
use Rattle.dn_laws.proofs.Words.{true, zero, ℕ, ⊎_elim, ◌++◌, ◌<◌, ◌∙◌, ◌∷◌, ◌≡◌, ◌≤◌}
use Rattle.dn_laws.proofs.LawWords.{trace_of, link_of, effective_moment, Settings, settings, Readings, Has, IsFirst, IsRaised, IsPick, IsTransmission, IsBy, IsStart, AreStarts, Settles, on_link, keys}
use Rattle.dn_laws.proofs.LawWords.{free, transmission_time, virtual_time, link_heads, next_packet, bandwidth_of, delay_of, start_at, next_start, first_start, settle, waiting_all, Link, own, shared}
use Rattle.dn_laws.proofs.LawWords.{pipe_of, link_eq, Accepted, Start, Event, started, backlog, flow_bound, links, Stamped, heads, raised, pick, Call, Advance, Command, Pipe, Queue, DeletePipe}
use Rattle.dn_laws.proofs.LawWords.{DeleteQueue, FlowKey, Rule, Target, ToPipe, ToQueue}
use Rattle.dn_laws.proofs.{AtHome.have-homes, AtHome.waits-home, Begun.HasSettled, Begun.none-settled, Begun.settled-more, Begun.next_start-is, Begun.begun-next, PickLaws.pick-is-first}
use Rattle.dn_laws.proofs.{ReadingsObey.read, ReadingsObey.read-on, ReadingsObey.reads-on, ReadingsObey.mine-is, ReadingsObey.is-raised, ReadingsObey.first-head, ReadingsObey.queue-on}
use Rattle.dn_laws.proofs.{ReadingsObey.free-on, SameAnswers.first-one, Shares.pick-is-least}
use Rattle.dn_types.proofs.{Conserving.conserves-work, Firsts.next-picked, InForce.IsKept, InForce.settings-kept, Known.AreKnown, Known.all-known, Settled.first_start-of, Settled.link_eq-true}
use Rattle.dn_types.proofs.{Settled.next_start-link, Settling.backlog-own, Settling.first-own, Settling.next_start-packet, TransmissionTime.unlimited-takes-no-time}
use Rattle.dn_types.proofs.{TransmissionTime.transmission-is-least}

all-at : (P : Stamped → Type 0) (ps : List Accepted) (p : Accepted) → All P (map (λ q. q.stamped) ps) → Has ps p → P p.stamped
all-at P [] p h there = absurd there
all-at P (x ∷ ps) p h there = ⊎_elim
    (λ e. subst (λ (q : Accepted). P q.stamped) e (All-head P x.stamped (map (λ q. q.stamped) ps) h))
    (λ rest. all-at P ps p (All-tail P x.stamped (map (λ q. q.stamped) ps) h) rest) there

first-of : (ps : List Accepted) (p : Accepted) → slice_get ps 0 ≡ Some p → (behind : List Accepted) × (ps ≡ p ∷ behind)
first-of [] p e = absurd cc
first-of (x ∷ xs) p e = let same : x ≡ p = cc in (xs, ap (λ (y : Accepted). y ∷ xs) same)

module _ (rule : Rule) where
  pub raised-on : (link : Link) (t : List Event) → IsRaised (read rule) link (on_link link t) (raised (virtual_time link t) (link_heads link t))
  raised-on link t =
      let there : IsRaised (read-on rule) link t (raised (virtual_time link t) (link_heads link t)) =
      subst (λ (r : Readings). IsRaised r link t (raised (virtual_time link t) (link_heads link t))) (sym (reads-on rule)) (is-raised rule link t) in
      record { rises = there.rises; no_further = there.no_further; far_enough = there.far_enough }

  first-on : (link : Link) (t : List Event) (flow : ℕ) (p : Accepted) → slice_get (backlog link flow t) 0 ≡ Some p → IsFirst (read rule) link (on_link link t) p × (p.stamped.flow ≡ flow)
  first-on link t flow p e =
      let some = first-of (backlog link flow t) p e in
      let own = mine-is link flow p (first-own link flow p (backlog link flow t) e (backlog-own link flow t)) in
      ((some.0, queue-on link p.stamped.flow t ∙ ap (λ n. backlog link n t) own.1 ∙ some.1), own.1)

  own-flow : (target : Target) (other carrier pipe flow : ℕ) → own pipe flow ≡ link_of target other carrier → other ≡ flow
  own-flow (ToPipe n) other carrier pipe flow e = let is : own pipe flow ≡ own carrier other = e in cc
  own-flow (ToQueue n) other carrier pipe flow e = let is : own pipe flow ≡ shared carrier = e in absurd cc

  -- On a link of its own, a flow's first is picked since no other flow waits.
  alone-on : (set : Settings) (known : List FlowKey) (pipe flow : ℕ) (t : List Event) (p : Accepted) → AreKnown set known t → next_packet (own pipe flow) t ≡ Some p →
      IsPick (read rule) (own pipe flow) (on_link (own pipe flow) t) p
  alone-on set known pipe flow t p are_known e = record {
    first = mine.0;
    to = raised (virtual_time (own pipe flow) t) (link_heads (own pipe flow) t);
    raised = there;
    eligible = ⊎_elim
        (λ (some : (q : Accepted) × IsFirst (read rule) (own pipe flow) (on_link (own pipe flow) t) q × (q.stamped.start_tag ≤ raised (virtual_time (own pipe flow) t) (link_heads (own pipe flow) t))).
        let tags = ap (λ (x : Accepted). x.stamped.start_tag) (same some.0 some.1) in let low = some.2 in omega (arith, tags, low))
        (λ (none : ((other : ℕ) → backlog (own pipe flow) other (on_link (own pipe flow) t) ≡ []) × (raised (virtual_time (own pipe flow) t) (link_heads (own pipe flow) t) ≡ virtual_time (own pipe flow) (on_link (own pipe flow) t))).
        let f : p ∷ mine.0.0 ≡ [] = sym mine.0.1 ∙ none.0 p.stamped.flow in absurd cc)
        there.far_enough;
    least = λ q head low. (
      (let tags = ap (λ (x : Accepted). x.stamped.finish_tag) (same q head) in omega (arith, tags)),
      (λ tags. let flows = ap (λ (x : Accepted). x.stamped.flow) (same q head) in omega (arith, flows)),
    );
  }
    where
      mine : IsFirst (read rule) (own pipe flow) (on_link (own pipe flow) t) p × (p.stamped.flow ≡ flow)
      mine = first-on (own pipe flow) t flow p e

      there : IsRaised (read rule) (own pipe flow) (on_link (own pipe flow) t) (raised (virtual_time (own pipe flow) t) (link_heads (own pipe flow) t))
      there = raised-on (own pipe flow) t

      same : (q : Accepted) → IsFirst (read rule) (own pipe flow) (on_link (own pipe flow) t) q → q ≡ p
      same q head =
          let waits : backlog (own pipe flow) q.stamped.flow t ≡ q ∷ head.0 = sym (queue-on (own pipe flow) q.stamped.flow t) ∙ head.1 in
          let some = ap (λ (ps : List Accepted). length ps) waits in
          let home = are_known (own pipe flow) q.stamped.flow (omega (arith, some)) in
          first-one (read rule) (own pipe flow) (on_link (own pipe flow) t) q p (own-flow home.key.target q.stamped.flow home.key.pipe pipe flow home.link_is ∙ sym mine.1) head mine.0

  next-on : (set : Settings) (known : List FlowKey) (link : Link) (t : List Event) (p : Accepted) → AreKnown set known t → next_packet link t ≡ Some p → IsPick (read rule) link (on_link link t) p
  next-on set known (own pipe flow) t p are_known e = alone-on set known pipe flow t p are_known e
  next-on set known (shared pipe) t p are_known e = picked
    where
      v : ℕ
      v = virtual_time (shared pipe) t

      hs : List Stamped
      hs = link_heads (shared pipe) t

      is : pick (virtual_time (shared pipe) t) (link_heads (shared pipe) t) ≡ Some p.stamped
      is = next-picked pipe t p e

      by : (o : Option Stamped) → pick (virtual_time (shared pipe) t) (link_heads (shared pipe) t) ≡ o → IsFirst (read rule) (shared pipe) (on_link (shared pipe) t) p
      by None h = let f = sym is ∙ h in absurd cc
      by (Some head) h =
          let there : slice_get (backlog (shared pipe) head.flow t) 0 ≡ Some p = ap (option_and_then (λ (x : Stamped). slice_get (backlog (shared pipe) x.flow t) 0)) (sym h) ∙ e in
          (first-on (shared pipe) t head.flow p there).0

      picked : IsPick (read rule) (shared pipe) (on_link (shared pipe) t) p
      picked = record {
        first = by (pick v hs) refl;
        to = raised v hs;
        raised = raised-on (shared pipe) t;
        eligible = (pick-is-first v hs p.stamped is).may_go;
        least = λ q head low. all-at (λ x. x.start_tag ≤ raised v hs → (p.stamped.finish_tag ≤ x.finish_tag) × (p.stamped.finish_tag ≡ x.finish_tag → p.stamped.flow ≤ x.flow))
            (heads (flow_bound t) (λ flow. backlog (shared pipe) flow t)) q (pick-is-least v hs p.stamped is)
            (first-head rule (shared pipe) t q (head.0, sym (queue-on (shared pipe) q.stamped.flow t) ∙ head.1)) low;
      }

  pub is-transmission : (bw len : ℕ) → IsTransmission bw len (transmission_time bw len)
  is-transmission bw len = record {
    unlimited = λ e. ap (λ n. transmission_time n len) e ∙ unlimited-takes-no-time len;
    carries = λ some. (transmission-is-least bw len some).0;
    least = λ some. (transmission-is-least bw len some).1;
  }

  pub is-by : (set : Settings) (link : Link) (s : Start) (at : ℕ) → s ≡ start_at set link s.packet at → is_some (set (ToPipe (pipe_of link))) ≡ true → IsKept (ToPipe (pipe_of link)) (set (ToPipe (pipe_of link))) →
      IsBy (set (ToPipe (pipe_of link))) s
  is-by set link s at is there kept = by (set (ToPipe (pipe_of link))) refl there kept
    where
      by : (o : Option Command) → set (ToPipe (pipe_of link)) ≡ o → is_some o ≡ true → IsKept (ToPipe (pipe_of link)) o → IsBy o s
      by None e t k = absurd cc
      by (Some (Pipe number bw delay limit loss buckets mask)) e t k =
          let time : s.transmission ≡ transmission_time bw s.packet.stamped.len =
          ap (λ (x : Start). x.transmission) is ∙ ap (λ (o : Option Command). transmission_time (bandwidth_of o) s.packet.stamped.len) e in (
            subst (λ (n : ℕ). IsTransmission bw s.packet.stamped.len n) (sym time) (is-transmission bw s.packet.stamped.len),
            ap (λ (x : Start). x.delay) is ∙ ap delay_of e,
          )
      by (Some (Queue number pipe weight limit loss buckets mask)) e t k = absurd k
      by (Some (DeletePipe number)) e t k = absurd k
      by (Some (DeleteQueue number)) e t k = absurd k

  module _ (set : Settings) (known : List FlowKey) (at : ℕ) (old : List Event) (link : Link) (kept : IsKept (ToPipe (pipe_of link)) (set (ToPipe (pipe_of link)))) where
    start-on : (other : Link) (s : Start) (f : List Event) → HasSettled set known old f → next_start set at other (f ++ old) ≡ Some s → link_eq s.packet.link link ≡ true →
        IsStart (read rule) set link at s (on_link link (f ++ old))
    start-on other s f h e here =
        let on : s.packet.link ≡ link = link_eq-true s.packet.link link here in
        let same : other ≡ link = sym (next_start-link set at other (f ++ old) s e) ∙ on in
        let mine : next_start set at link (f ++ old) ≡ Some s = subst (λ (l : Link). next_start set at l (f ++ old) ≡ Some s) same e in
        let is = next_start-is set at link (f ++ old) s mine in
        let begun = begun-next set known at old link s f h mine in
        record {
          next = next-on set known link (f ++ old) s.packet h.are_known (next_start-packet set at link (f ++ old) s mine);
          at_once = is.1 ∙ sym (free-on link (f ++ old));
          in_time = is.2;
          by_command = is-by set link s (free link (f ++ old)) is.0 (ap (λ (l : Link). is_some (set (ToPipe (pipe_of l)))) (sym on) ∙ begun.carried) kept;
        }

    abbrev AtEnd : List Event → Type 0
    AtEnd t = AreStarts (read rule) set link at [] (on_link link t)

    settle-on : (most : ℕ) (f : List Event) → HasSettled set known old f → AtEnd (settle most set at (f ++ old)) →
        Settles (read rule) set link at (on_link link (f ++ old)) (on_link link (settle most set at (f ++ old)))
    settle-on zero f h end = record { starts = []; adds = refl; are_starts = end }
    settle-on (suc most) f h end = step (first_start set at (links (f ++ old)) (f ++ old)) refl end (λ s last. settle-on most (started s ∷ f) (settled-more set known old s f h) last)
      where
        step : (o : Option Start) → first_start set at (links (f ++ old)) (f ++ old) ≡ o →
            AtEnd (elim o as (λ _. List Event) [ None ↦ f ++ old | Some s ↦ settle most set at (started s ∷ (f ++ old)) ]) →
            ((s : Start) → AtEnd (settle most set at (started s ∷ (f ++ old))) →
            Settles (read rule) set link at (on_link link (started s ∷ (f ++ old))) (on_link link (settle most set at (started s ∷ (f ++ old))))) →
            Settles (read rule) set link at (on_link link (f ++ old)) (on_link link (elim o as (λ _. List Event) [ None ↦ f ++ old | Some s ↦ settle most set at (started s ∷ (f ++ old)) ]))
        step None e end rest = record { starts = []; adds = refl; are_starts = end }
        step (Some s) e end rest = by (link_eq s.packet.link link) refl (rest s end)
          where
            after : List Event
            after = on_link link (settle most set at (started s ∷ (f ++ old)))

            by : (b : Bool) → link_eq s.packet.link link ≡ b →
                Settles (read rule) set link at (cond b (started s ∷ on_link link (f ++ old)) (on_link link (f ++ old))) (on_link link (settle most set at (started s ∷ (f ++ old)))) →
                Settles (read rule) set link at (on_link link (f ++ old)) (on_link link (settle most set at (started s ∷ (f ++ old))))
            by true here r =
                let of = first_start-of set at (links (f ++ old)) (f ++ old) s e in
                record { starts = s ∷ r.starts; adds = r.adds; are_starts = (start-on of.0 s f h of.1 here, r.are_starts) }
            by false here r = r

-- A packet waits only where its link is busy beyond the clock.
pub busy-beyond : (calls : List Call) (link : Link) (flow : ℕ) → 0 < length (backlog link flow (trace_of calls)) → effective_moment calls < free link (trace_of calls)
busy-beyond calls link flow waits =
    let home = waits-home (keys calls) (trace_of calls) (have-homes calls) link flow waits in
    let busy = conserves-work calls home.key.target flow home.key.pipe (subst (λ (l : Link). 0 < length (backlog l flow (trace_of calls))) home.is waits) in
    let same = ap (λ (l : Link). free l (trace_of calls)) home.is in
    omega (arith, busy, same)

pub settles-hold : (rule : Rule) (calls : List Call) (moment : ℕ) (link : Link) →
    Settles (read rule) (settings calls) link (effective_moment (Advance moment ∷ calls)) (on_link link (trace_of calls)) (on_link link (trace_of (Advance moment ∷ calls)))
settles-hold rule calls moment link =
    settle-on rule (settings calls) (keys calls) (max (effective_moment calls) moment) (trace_of calls) link (settings-kept calls (ToPipe (pipe_of link)))
    (waiting_all (links (trace_of calls)) (trace_of calls)) [] (none-settled (settings calls) (keys calls) (trace_of calls) (all-known calls)) end
  where
    some : (flow : ℕ) (p : Accepted) (behind : List Accepted) → backlog link flow (trace_of (Advance moment ∷ calls)) ≡ p ∷ behind → 0 < length (backlog link flow (trace_of (Advance moment ∷ calls)))
    some flow p behind e = let l = ap (λ (q : List Accepted). length q) e in omega (arith, l)

    end : (flow : ℕ) (p : Accepted) (behind : List Accepted) → backlog link flow (on_link link (trace_of (Advance moment ∷ calls))) ≡ p ∷ behind →
        max (effective_moment calls) moment < free link (on_link link (trace_of (Advance moment ∷ calls)))
    end flow p behind e =
        let busy = busy-beyond (Advance moment ∷ calls) link flow (some flow p behind (sym (queue-on link flow (trace_of (Advance moment ∷ calls))) ∙ e)) in
        let on = free-on link (trace_of (Advance moment ∷ calls)) in
        omega (arith, busy, on)
