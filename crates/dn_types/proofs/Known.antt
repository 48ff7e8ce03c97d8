-- A packet that waits is of a known flow, on a configured pipe, and a delete empties every queue that it reaches.
use Rattle.dn_types.proofs.Words.{Accepted, Advance, Bool, Call, Collect, Command, Configure, DeletePipe, DeleteQueue, Deleted, Event, FlowKey, Link, List, NoSuchPipe, None, Option, Packet, Pipe}
use Rattle.dn_types.proofs.Words.{PipeHasQueues, Queue, Reply, Settings, Show, Some, Start, Submit, Target, Treatment, Verdict, [], accept, after_command, after_verdict, ap, arith, arrived}
use Rattle.dn_types.proofs.Words.{backlog, cond, discard_reached, discarded, drop, effective_moment, eq-eqb, eqb-true, false, first_start, flow_number, free, has_queues, is_full, is_lost, is_of}
use Rattle.dn_types.proofs.Words.{is_position_or_len, is_some, join, key_eq, key_of, keys, keys_with, length, link_eq, link_of, links, list_any, loses, map, max, nat_eq, nat_le, no_target, opened}
use Rattle.dn_types.proofs.Words.{opening, pipe_of, queue_numbers, reaches, refl, refuses, reply_to_command, setting_after, settings, settle, settled, start_at, started, subst, suc, sym, takes}
use Rattle.dn_types.proofs.Words.{trace_of, treatment, true, verdict, verdict_by, waiting, waiting_all, with_key, zero, ℕ, ⊤, ◌&&◌, ◌++◌, ◌+◌, ◌<◌, ◌||◌, ◌∙◌, ◌∷◌, ◌≡◌}
use Rattle.dn_types.specs.declared.target.Target.TheVariants.{Pipe as ToPipe, Queue as ToQueue}
use Rattle.dn_types.proofs.Settled.{and-left, link_eq-true}
use Rattle.dn_types.proofs.Settling.{and-right}
use Rattle.dn_types.proofs.InForce.{pipe-there}
use Rattle.dn_types.proofs.Keys.{key_eq-true}
use Rattle.dn_types.proofs.StepFacts.{clear-some}

-- The key stands in the list at the flow's number.
pub record StandsAt (known : List FlowKey) (flow : ℕ) (key : FlowKey) : Type 0 where
  pub before : List FlowKey
  pub behind : List FlowKey
  pub parts : known ≡ before ++ key ∷ behind
  pub place : length before ≡ flow

pub record IsKnown (set : Settings) (known : List FlowKey) (link : Link) (flow : ℕ) : Type 0 where
  pub key : FlowKey
  pub at : StandsAt known flow key
  pub link_is : link ≡ link_of key.target flow key.pipe
  pub pipe_is : is_some (set (ToPipe key.pipe)) ≡ true

abbrev pub AreKnown : Settings → List FlowKey → List Event → Type 0
AreKnown set known trace = (link : Link) (flow : ℕ) → 0 < length (backlog link flow trace) → IsKnown set known link flow

stands-more : (known : List FlowKey) (flow : ℕ) (key more : FlowKey) (b : Bool) → StandsAt known flow key → StandsAt (cond b known (known ++ more ∷ [])) flow key
stands-more known flow key more true h = h
stands-more known flow key more false h = record {
  before = h.before;
  behind = h.behind ++ more ∷ [];
  parts = ap (λ (r : List FlowKey). r ++ more ∷ []) h.parts ∙ shape h.before;
  place =
      h.place;
}
  where
    shape : (xs : List FlowKey) → (xs ++ key ∷ h.behind) ++ more ∷ [] ≡ xs ++ (key ∷ (h.behind ++ more ∷ []))
    shape [] = refl
    shape (x ∷ xs) = ap (λ (r : List FlowKey). x ∷ r) (shape xs)

abbrev pub place : FlowKey → List FlowKey → ℕ
place key [] = 0
place key (k ∷ known) = cond (key_eq key k) 0 (1 + place key known)

pub place-is : (key : FlowKey) (known : List FlowKey) → place key known ≡ flow_number known key
place-is key known = is_position_or_len (place key) (key_eq key) refl (λ k ks. refl) known

flow-of : (key : FlowKey) (known : List FlowKey) → StandsAt (with_key key known) (place key known) key
flow-of key [] = record { before = []; behind = []; parts = refl; place = refl }
flow-of key (k ∷ known) = by (key_eq key k) refl (flow-of key known)
  where
    cons : (c : Bool) → cond c (k ∷ known) (k ∷ known ++ key ∷ []) ≡ k ∷ cond c known (known ++ key ∷ [])
    cons true = refl
    cons false = refl

    by : (b : Bool) → key_eq key k ≡ b → StandsAt (with_key key known) (place key known) key →
        StandsAt (cond (b || list_any (key_eq key) known) (k ∷ known) (k ∷ known ++ key ∷ [])) (cond b 0 (1 + place key known)) key
    by true e rest = record { before = []; behind = known; parts = ap (λ (x : FlowKey). x ∷ known) (sym (key_eq-true key k e)); place = refl }
    by false e rest = record {
      before = k ∷ rest.before;
      behind = rest.behind;
      parts = cons (list_any (key_eq key) known) ∙ ap (λ (r : List FlowKey). k ∷ r) rest.parts;
      place = let p = rest.place in omega arith;
    }

-- The key of a packet's flow, once it is known, stands at the flow's number.
pub known-flow : (key : FlowKey) (known : List FlowKey) → StandsAt (with_key key known) (flow_number known key) key
known-flow key known = subst (λ (n : ℕ). StandsAt (with_key key known) n key) (place-is key known) (flow-of key known)

-- ---- Events

pub fewer-started : (b : Bool) (q : List Accepted) → 0 < length (cond b (drop 1 q) q) → 0 < length q
fewer-started true [] some = some
fewer-started true (p ∷ q) some = omega arith
fewer-started false q some = some

pub known-started : (set : Settings) (known : List FlowKey) (s : Start) (trace : List Event) → AreKnown set known trace → AreKnown set known (started s ∷ trace)
known-started set known s trace h link flow some = h link flow (fewer-started (is_of link flow s.packet) (backlog link flow trace) some)

known-settle : (set in_force : Settings) (known : List FlowKey) (most at : ℕ) (trace : List Event) → AreKnown set known trace → AreKnown set known (settle most in_force at trace)
known-settle set in_force known zero at trace h = h
known-settle set in_force known (suc most) at trace h = step (first_start in_force at (links trace) trace) (λ t g. known-settle set in_force known most at t g)
  where
    step : (o : Option Start) → ((t : List Event) → AreKnown set known t → AreKnown set known (settle most in_force at t)) →
        AreKnown set known (elim o as (λ _. List Event) [ None ↦ trace | Some s ↦ settle most in_force at (started s ∷ trace) ])
    step None rest = h
    step (Some s) rest = rest (started s ∷ trace) (known-started set known s trace h)

known-arrived : (set : Settings) (known : List FlowKey) (p : Accepted) (trace : List Event) → IsKnown set known p.link p.stamped.flow → AreKnown set known trace →
    AreKnown set known (arrived p ∷ trace)
known-arrived set known p trace here h link flow some = by (is_of link flow p) refl some
  where
    by : (b : Bool) → is_of link flow p ≡ b → 0 < length (cond b (backlog link flow trace ++ p ∷ []) (backlog link flow trace)) → IsKnown set known link flow
    by true e some =
        let l = link_eq-true p.link link (and-left _ (nat_eq p.stamped.flow flow) e) in
        let f = eqb-true p.stamped.flow flow (and-right (link_eq p.link link) (nat_eq p.stamped.flow flow) e) in
        subst (λ (g : ℕ). IsKnown set known link g) f (subst (λ (m : Link). IsKnown set known m p.stamped.flow) l here)
    by false e some = h link flow some

known-more : (set : Settings) (known : List FlowKey) (more : FlowKey) (trace : List Event) → AreKnown set known trace → AreKnown set (with_key more known) trace
known-more set known more trace h link flow some =
    let k = h link flow some in
    record { key = k.key; at = stands-more known flow k.key more (list_any (key_eq more) known) k.at; link_is = k.link_is; pipe_is = k.pipe_is }

-- ---- Deletes

-- What a discard of a flow's queue sets to a value, a delete that reaches the flow sets to it.
module _ {X : Type 0} (flow : ℕ) (measure : List Event → X) (value : X) (clears : (f : ℕ) (t : List Event) → measure (discarded f ∷ t) ≡ cond (nat_eq f flow) value (measure t)) where
  still : (command : Command) (from : ℕ) (known : List FlowKey) (trace : List Event) → measure trace ≡ value → measure (discard_reached command from known trace) ≡ value
  still command from [] trace h = h
  still command from (key ∷ known) trace h = still command (from + 1) known (cond (reaches command key) (discarded from ∷ trace) trace) (one (reaches command key))
    where
      either : (b : Bool) → cond b value (measure trace) ≡ value
      either true = refl
      either false = h

      one : (b : Bool) → measure (cond b (discarded from ∷ trace) trace) ≡ value
      one true = clears from trace ∙ either (nat_eq from flow)
      one false = h

  cleared : (command : Command) (key : FlowKey) (before behind : List FlowKey) (from : ℕ) (trace : List Event) → length before + from ≡ flow → reaches command key ≡ true →
      measure (discard_reached command from (before ++ key ∷ behind) trace) ≡ value
  cleared command key [] behind from trace place reached = still command (from + 1) behind (cond (reaches command key) (discarded from ∷ trace) trace) (by (reaches command key) reached)
    where
      by : (b : Bool) → b ≡ true → measure (cond b (discarded from ∷ trace) trace) ≡ value
      by true is = clears from trace ∙ ap (λ d. cond d value (measure trace)) (eq-eqb from flow (omega arith))
      by false is = absurd cc
  cleared command key (k ∷ before) behind from trace place reached =
      cleared command key before behind (from + 1) (cond (reaches command k) (discarded from ∷ trace) trace) (omega arith) reached

  pub reached-cleared : (command : Command) (known : List FlowKey) (trace : List Event) (key : FlowKey) → StandsAt known flow key → reaches command key ≡ true →
      measure (discard_reached command 0 known trace) ≡ value
  reached-cleared command known trace key at reached =
      ap (λ (ks : List FlowKey). measure (discard_reached command 0 ks trace)) at.parts ∙ cleared command key at.before at.behind 0 trace (let p = at.place in omega arith) reached

-- A delete empties the queue of each flow that it reaches.
pub reached-emptied : (link : Link) (flow : ℕ) (command : Command) (known : List FlowKey) (trace : List Event) (key : FlowKey) → StandsAt known flow key → reaches command key ≡ true →
    backlog link flow (discard_reached command 0 known trace) ≡ []
reached-emptied link flow command known trace key at reached = reached-cleared flow (backlog link flow) [] (λ f t. refl) command known trace key at reached

pub fewer-discarded : (link : Link) (flow : ℕ) (command : Command) (from : ℕ) (known : List FlowKey) (trace : List Event) →
    0 < length (backlog link flow (discard_reached command from known trace)) → 0 < length (backlog link flow trace)
fewer-discarded link flow command from [] trace some = some
fewer-discarded link flow command from (key ∷ known) trace some =
    one (reaches command key) (fewer-discarded link flow command (from + 1) known (cond (reaches command key) (discarded from ∷ trace) trace) some)
  where
    one : (b : Bool) → 0 < length (backlog link flow (cond b (discarded from ∷ trace) trace)) → 0 < length (backlog link flow trace)
    one true some = clear-some (nat_eq from flow) (backlog link flow trace) some
    one false some = some

-- ---- Calls

pub pipe_of-link : (target : Target) (flow pipe : ℕ) → pipe_of (link_of target flow pipe) ≡ pipe
pipe_of-link (ToPipe n) flow pipe = refl
pipe_of-link (ToQueue n) flow pipe = refl

abbrev is_pipe_delete : Command → ℕ → Bool
is_pipe_delete (DeletePipe number) n = nat_eq n number
is_pipe_delete _ n = false

reached-by : (command : Command) (key : FlowKey) → is_pipe_delete command key.pipe ≡ true → reaches command key ≡ true
reached-by (DeletePipe number) key e = e
reached-by _ key e = absurd cc

module _ (calls : List Call) where
  abbrev set : Settings
  set = settings calls

  -- What is in force for a pipe after a command that doesn't delete it.
  stays : (command : Command) (n : ℕ) → (reply_to_command calls command ≡ Deleted → is_pipe_delete command n ≡ true → ⊥) → is_some (set (ToPipe n)) ≡ true →
      is_some (settings (Configure command ∷ calls) (ToPipe n)) ≡ true
  stays (Pipe number bw delay limit loss buckets mask) n spared there = by (nat_eq number n)
    where
      by : (b : Bool) → is_some (cond b (Some (Pipe number bw delay limit loss buckets mask)) (set (ToPipe n))) ≡ true
      by true = refl
      by false = there
  stays (Queue number pipe weight limit loss buckets mask) n spared there = there
  stays (DeletePipe number) n spared there = by (is_some (set (ToPipe number))) (has_queues set (queue_numbers calls) number) (nat_eq n number) refl (nat_eq number n) refl spared
    where
      by : (c d e : Bool) → nat_eq n number ≡ e → (b : Bool) → nat_eq number n ≡ b → (cond c (cond d PipeHasQueues Deleted) NoSuchPipe ≡ Deleted → e ≡ true → ⊥) →
          is_some (cond b (setting_after (cond c (cond d PipeHasQueues Deleted) NoSuchPipe) (DeletePipe number) (set (ToPipe n))) (set (ToPipe n))) ≡ true
      by c d e is false f gone = there
      by false d e is true f gone = there
      by true true e is true f gone = there
      by true false e is true f gone = absurd (gone refl (sym is ∙ eq-eqb n number (sym (eqb-true number n f))))
  stays (DeleteQueue number) n spared there = there

  known-command : (command : Command) → AreKnown set (keys calls) (trace_of calls) →
      AreKnown (settings (Configure command ∷ calls)) (keys calls) (after_command (reply_to_command calls command) command (keys calls) (trace_of calls))
  known-command command h link flow some = by (reply_to_command calls command) refl some
    where
      moved : (k : IsKnown set (keys calls) link flow) → (reply_to_command calls command ≡ Deleted → reaches command k.key ≡ true → ⊥) →
          IsKnown (settings (Configure command ∷ calls)) (keys calls) link flow
      moved k spared = record { key = k.key; at = k.at; link_is = k.link_is; pipe_is = stays command k.key.pipe (λ gone mine. spared gone (reached-by command k.key mine)) k.pipe_is }

      by : (r : Reply) → reply_to_command calls command ≡ r → 0 < length (backlog link flow (after_command r command (keys calls) (trace_of calls))) →
          IsKnown (settings (Configure command ∷ calls)) (keys calls) link flow
      by Deleted e some =
          let k = h link flow (fewer-discarded link flow command 0 (keys calls) (trace_of calls) some) in
          moved k (λ gone reached. let none = ap (λ (q : List Accepted). length q) (reached-emptied link flow command (keys calls) (trace_of calls) k.key k.at reached) in omega arith)
      by _ e some = moved (h link flow some) (λ gone reached. let t = sym e ∙ gone in cc)

  -- A packet that is taken is of a known flow.
  taken-known : (target : Target) (packet : Packet) (how : Treatment) → treatment (set target) ≡ Some how →
      IsKnown set (with_key (key_of target packet.tuple how) (keys calls))
      (link_of target (flow_number (keys calls) (key_of target packet.tuple how)) how.pipe) (flow_number (keys calls) (key_of target packet.tuple how))
  taken-known target packet how is =
      record {
        key = key_of target packet.tuple how;
        at = known-flow (key_of target packet.tuple how) (keys calls);
        link_is = refl;
        pipe_is = pipe-there calls target how is;
      }

  known-join : (known : List FlowKey) (at : ℕ) (p : Accepted) (trace : List Event) → IsKnown set known p.link p.stamped.flow → AreKnown set known trace →
      AreKnown set known (join set at p trace)
  known-join known at p trace here h = by (nat_le (free p.link trace) at)
    where
      by : (b : Bool) → AreKnown set known (cond b (started (start_at set p.link p at) ∷ arrived p ∷ trace) (arrived p ∷ trace))
      by true = known-started set known (start_at set p.link p at) (arrived p ∷ trace) (known-arrived set known p trace here h)
      by false = known-arrived set known p trace here h

  known-opened : (known : List FlowKey) (b : Bool) (l : Link) (trace : List Event) → AreKnown set known trace → AreKnown set known (cond b (opened l ∷ trace) trace)
  known-opened known true l trace h = h
  known-opened known false l trace h = h

  -- A packet is taken as a known one.
  abbrev IsTakenKnown : List FlowKey → Verdict → Type 0
  IsTakenKnown known (takes link flow how) = IsKnown set known link flow
  IsTakenKnown known _ = ⊤

  known-verdict : (known : List FlowKey) (packet : Packet) (at : ℕ) (v : Verdict) (trace : List Event) → IsTakenKnown known v → AreKnown set known trace →
      AreKnown set known (after_verdict set at packet v trace)
  known-verdict known packet at no_target trace here h = h
  known-verdict known packet at (loses link flow) trace here h = h
  known-verdict known packet at (refuses link flow) trace here h = h
  known-verdict known packet at (takes link flow how) trace here h =
      known-join known at (accept link packet flow how (opening link at trace)) (opening link at trace) here
      (known-opened known (nat_eq (waiting link trace) 0 && nat_le (free link trace) at) link trace h)

  verdict-known : (target : Target) (packet : Packet) (o : Option Treatment) (trace : List Event) → treatment (set target) ≡ o →
      IsTakenKnown (keys_with target packet.tuple o (keys calls)) (verdict_by (keys calls) target packet o trace)
  verdict-known target packet None trace is = tt
  verdict-known target packet (Some how) trace is =
      let flow = flow_number (keys calls) (key_of target packet.tuple how) in
      let link = link_of target flow how.pipe in
      by link flow (taken-known target packet how is) (is_lost how.loss packet.word) (is_full how.limit (map (λ p. p.stamped.len) (backlog link flow trace)))
    where
      by : (link : Link) (flow : ℕ) → IsKnown set (with_key (key_of target packet.tuple how) (keys calls)) link flow → (b c : Bool) →
          IsTakenKnown (with_key (key_of target packet.tuple how) (keys calls)) (cond b (loses link flow) (cond c (refuses link flow) (takes link flow how)))
      by link flow here true c = tt
      by link flow here false true = tt
      by link flow here false false = here

  known-with : (target : Target) (packet : Packet) (o : Option Treatment) (trace : List Event) → AreKnown set (keys calls) trace →
      AreKnown set (keys_with target packet.tuple o (keys calls)) trace
  known-with target packet None trace h = h
  known-with target packet (Some how) trace h = known-more set (keys calls) (key_of target packet.tuple how) trace h

-- Each packet that waits is of a known flow, on a configured pipe.
pub all-known : (calls : List Call) → AreKnown (settings calls) (keys calls) (trace_of calls)
all-known [] = λ link flow some. absurd (omega arith)
all-known (Configure command ∷ calls) = known-command calls command (all-known calls)
all-known (Submit target packet moment ∷ calls) =
    let at = max (effective_moment calls) moment in
    let before = settled (settings calls) at (trace_of calls) in
    let o = treatment (settings calls target) in
    known-verdict calls (keys_with target packet.tuple o (keys calls)) packet at (verdict calls target packet before) before
    (verdict-known calls target packet o before refl) (known-with calls target packet o before (known-settle (settings calls) (settings calls) (keys calls)
    (waiting_all (links (trace_of calls)) (trace_of calls)) at (trace_of calls) (all-known calls)))
all-known (Advance moment ∷ calls) =
    known-settle (settings calls) (settings calls) (keys calls) (waiting_all (links (trace_of calls)) (trace_of calls)) (max (effective_moment calls) moment) (trace_of calls) (all-known calls)
all-known (Collect moment ∷ calls) =
    known-settle (settings calls) (settings calls) (keys calls) (waiting_all (links (trace_of calls)) (trace_of calls)) (max (effective_moment calls) moment) (trace_of calls) (all-known calls)
all-known (Show ∷ calls) = all-known calls
