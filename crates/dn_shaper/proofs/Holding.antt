-- How many packets wait or are under way, and how many items the list in a reply has.
use Rattle.dn_shaper.proofs.Words.{Advance, Bool, Call, Collect, Command, Configure, Configured, DeletePipe, DeleteQueue, Deleted, Delivery, Event, FlowKey, IsSound, Link, LinkView, List}
use Rattle.dn_shaper.proofs.Words.{NoSuchPipe, NoSuchQueue, None, Option, Pipe, PipeHasQueues, Queue, Reply, Rule, Settings, Show, Some, StandsAt, Start, State, Submit, Verdict, [], ap}
use Rattle.dn_shaper.proofs.Words.{append-nil, arith, command_reply, cond, count_by-le-length, counted, counted_reply, delivery_of, effective_moment, false, first_start, given, has_queues, held}
use Rattle.dn_shaper.proofs.Words.{is_some, items_in, keys, last_due, length, length-filter, link_names, links, loses, max, nat_le, no_target, queue_numbers, refl, refuses, reply}
use Rattle.dn_shaper.proofs.Words.{reply_to_verdict, settings, settle, settled, slice_get, started, statuses_from, subst, suc, sum_by-cons, sym, takes, trace_of, true, undelivered, verdict}
use Rattle.dn_shaper.proofs.Words.{views_of, waiting, waiting_all, waiting_all-first, waits_in_all, zero, ℕ, ⊎_elim, ◌+◌, ◌∙◌, ◌∷◌, ◌≡◌, ◌≤◌}
use Rattle.dn_types.specs.declared.target.Target.TheVariants.{Pipe as ToPipe, Queue as ToQueue}
use Rattle.dn_shaper.proofs.Counting.{counts}
use Rattle.dn_shaper.proofs.FirstStart.{settle-none, settle-some}
use Rattle.dn_shaper.proofs.Starting.{length-in_order}

-- ---- What a state holds is what its calls do

waits-all : (views : List LinkView) (trace : List Event) → ((k : ℕ) (v : LinkView) → slice_get views k ≡ Some v → v.waits ≡ waiting v.link trace) →
    waits_in_all views ≡ waiting_all (link_names views) trace
waits-all [] trace h = refl
waits-all (v ∷ views) trace h =
    let here : v.waits ≡ waiting v.link trace = h 0 v refl in
    let rest = waits-all views trace (λ k w e. h (suc k) w e) in
    sum_by-cons (λ (w : LinkView). w.waits) v views ∙ (λ i. here i + rest i)

module _ (rule : Rule) (calls : List Call) (s : State) (sound : IsSound s) (stands : StandsAt rule s calls) where
  names-are : link_names (views_of s.parts) ≡ links (trace_of calls)
  names-are = stands.agrees.links_are ∙ append-nil (links (trace_of calls))

  waits-are : s.parts.waiting ≡ waiting_all (links (trace_of calls)) (trace_of calls)
  waits-are =
      sound.within.waiting_is
      ∙ waits-all (views_of s.parts) (trace_of calls) (λ k v e. (stands.agrees.views_are k v e).waits_are)
      ∙ ap (λ (ls : List Link). waiting_all ls (trace_of calls)) names-are

  under-way : length s.parts.line.pending ≡ length (undelivered rule (trace_of calls))
  under-way = ap (λ (ds : List Delivery). length ds) stands.agrees.pending_is ∙ ap (λ (r : Rule). length (undelivered r (trace_of calls))) stands.rule_is

  holds-are : s.parts.waiting + length s.parts.line.pending ≡ held rule (trace_of calls)
  holds-are = λ i. waits-are i + under-way i

  -- What is held, and the count of flows.
  pub held-is : (n : ℕ) → n ≡ length s.parts.line.pending → s.parts.waiting + n ≡ held rule (trace_of calls)
  held-is n line = (λ i. s.parts.waiting + line i) ∙ holds-are

  pub flows-are : length s.parts.flows.keys ≡ length (keys calls)
  flows-are = ap (λ (ks : List FlowKey). length ks) stands.keys_are

-- ---- A settling holds no more

held-one : (rule : Rule) (settings : Settings) (at : ℕ) (trace : List Event) (s : Start) → first_start settings at (links trace) trace ≡ Some s → held rule (started s ∷ trace) ≤ held rule trace
held-one rule settings at trace s e =
    let fewer = waiting_all-first settings at (links trace) trace s e in
    let more = length-in_order (delivery_of rule s (last_due rule s.packet.link trace)) (undelivered rule trace) in
    omega arith

held-settle : (rule : Rule) (settings : Settings) (at most : ℕ) (trace : List Event) → held rule (settle most settings at trace) ≤ held rule trace
held-settle rule settings at zero trace = omega arith
held-settle rule settings at (suc most) trace = by (first_start settings at (links trace) trace) refl (λ s. held-settle rule settings at most (started s ∷ trace))
  where
    by : (o : Option Start) → first_start settings at (links trace) trace ≡ o →
        ((s : Start) → held rule (settle most settings at (started s ∷ trace)) ≤ held rule (started s ∷ trace)) →
        held rule (settle (suc most) settings at trace) ≤ held rule trace
    by None e after = subst (λ (t : List Event). held rule t ≤ held rule trace) (sym (settle-none (suc most) settings at trace e)) (omega arith)
    by (Some s) e after =
        let rest = after s in
        let one = held-one rule settings at trace s e in
        subst (λ (t : List Event). held rule t ≤ held rule trace) (sym (settle-some most settings at trace s e)) (omega arith)

-- ---- The list in each reply

none-configured : (settings : Settings) (queues : List ℕ) (command : Command) → items_in (command_reply settings queues command) ≡ 0
none-configured settings queues (Pipe number bw delay limit loss buckets mask) = refl
none-configured settings queues (Queue number pipe weight limit loss buckets mask) = by (is_some (settings (ToPipe pipe)))
  where
    by : (b : Bool) → items_in (cond b Configured NoSuchPipe) ≡ 0
    by true = refl
    by false = refl
none-configured settings queues (DeletePipe number) = by (is_some (settings (ToPipe number))) (has_queues settings queues number)
  where
    by : (b d : Bool) → items_in (cond b (cond d PipeHasQueues Deleted) NoSuchPipe) ≡ 0
    by true true = refl
    by true false = refl
    by false d = refl
none-configured settings queues (DeleteQueue number) = by (is_some (settings (ToQueue number)))
  where
    by : (b : Bool) → items_in (cond b Deleted NoSuchQueue) ≡ 0
    by true = refl
    by false = refl

none-submitted : (at : ℕ) (v : Verdict) (trace : List Event) → items_in (reply_to_verdict at v trace) ≡ 0
none-submitted at no_target trace = refl
none-submitted at (loses link flow) trace = refl
none-submitted at (refuses link flow) trace = refl
none-submitted at (takes link flow how) trace = refl

length-statuses : (flow : ℕ) (known : List FlowKey) (trace : List Event) → length (statuses_from flow known trace) ≡ length known
length-statuses flow [] trace = refl
length-statuses flow (key ∷ known) trace = ap suc (length-statuses (flow + 1) known trace)

given-few : (rule : Rule) (at : ℕ) (trace : List Event) → length (given rule at trace) ≤ held rule trace
given-few rule at trace =
    let a = length-filter (λ (d : Delivery). nat_le d.due at) (undelivered rule trace) in
    let b = count_by-le-length (λ (d : Delivery). nat_le d.due at) (undelivered rule trace) in
    omega arith

collected-few : (rule : Rule) (calls : List Call) (moment : ℕ) → items_in (counted_reply rule calls (Collect moment)) ≤ held rule (trace_of calls)
collected-few rule calls moment =
    let at = max (effective_moment calls) moment in
    let a = given-few rule at (settled (settings calls) at (trace_of calls)) in
    let b = held-settle rule (settings calls) at (waiting_all (links (trace_of calls)) (trace_of calls)) (trace_of calls) in
    omega arith

shown-few : (rule : Rule) (calls : List Call) → items_in (counted_reply rule calls Show) ≤ length (keys calls)
shown-few rule calls = let all = length-statuses 0 (keys calls) (trace_of calls) in omega arith

counted-items : (rule : Rule) (calls : List Call) (call : Call) → items_in (counted_reply rule calls call) ≤ max (held rule (trace_of calls)) (length (keys calls))
counted-items rule calls (Configure command) = let none = none-configured (settings calls) (queue_numbers calls) command in omega arith
counted-items rule calls (Submit target packet moment) =
    let at = max (effective_moment calls) moment in
    let before = settled (settings calls) at (trace_of calls) in
    let none = none-submitted at (verdict calls target packet before) before in
    omega arith
counted-items rule calls (Advance moment) = omega arith
counted-items rule calls (Collect moment) = let few = collected-few rule calls moment in omega arith
counted-items rule calls Show = let few = shown-few rule calls in omega arith

-- What bounds the list of a call that counts bounds that of the call, since Exhausted has none.
bounded : (most : List Call → ℕ) (rule : Rule) (calls : List Call) (call : Call) → ((cs : List Call) → items_in (counted_reply rule cs call) ≤ most cs) →
    items_in (reply rule calls call) ≤ most (counted calls)
bounded most rule calls call few = ⊎_elim
    (λ below. subst (λ (x : Reply × List Call). items_in x.0 ≤ most x.1) (λ i. (sym below.2 i, sym below.1 i)) (few calls))
    (λ many. subst (λ (r : Reply). items_in r ≤ most (counted calls)) (sym many.1) (omega arith))
    (counts rule calls call)

-- No list in the next reply is longer than these.
pub collects-few : (rule : Rule) (calls : List Call) (moment : ℕ) → items_in (reply rule calls (Collect moment)) ≤ held rule (trace_of (counted calls))
collects-few rule calls moment = bounded (λ cs. held rule (trace_of cs)) rule calls (Collect moment) (λ cs. collected-few rule cs moment)

pub shows-few : (rule : Rule) (calls : List Call) → items_in (reply rule calls Show) ≤ length (keys (counted calls))
shows-few rule calls = bounded (λ cs. length (keys cs)) rule calls Show (λ cs. shown-few rule cs)

pub items-few : (rule : Rule) (calls : List Call) (call : Call) → items_in (reply rule calls call) ≤ max (held rule (trace_of (counted calls))) (length (keys (counted calls)))
items-few rule calls call = bounded (λ cs. max (held rule (trace_of cs)) (length (keys cs))) rule calls call (λ cs. counted-items rule cs call)
