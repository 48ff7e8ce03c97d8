-- The standing after one call more is one step from the standing before it.
use Rattle.dn_types.proofs.Words.{Accepted, Advance, Bool, Call, Collect, Command, Configure, DeletePipe, DeleteQueue, Deleted, Delivered, Event, Exhausted, FlowKey, FlowStatus, Link, List, None}
use Rattle.dn_types.proofs.Words.{Option, Packet, Pipe, Queue, Reply, Rule, Settings, Show, Some, Standing, Start, Status, Submit, Target, Traffic, Treatment, Verdict, [], accept, after_command}
use Rattle.dn_types.proofs.Words.{after_verdict, ap, arith, arrived, call_limit, collected, cond, counted, counted_reply, discard_reached, discarded, drop, effective_moment, false, filter}
use Rattle.dn_types.proofs.Words.{first_start, free, is_arrival, is_loss_of, is_refusal_of, is_start_of, join, keys, le-leb, leb_tells, length, length-drop, links, loses, lost, lt-leb, max}
use Rattle.dn_types.proofs.Words.{nat_eq, nat_le, next_start, no_target, opened, opening, own, queue_numbers, reaches, refl, refused, refuses, reply, reply_to_command, reply_to_verdict, settings}
use Rattle.dn_types.proofs.Words.{settle, settled, shared, sooner, standing, standing_of_counted, start_at, started, status_of, statuses_from, suc, sym, takes, trace_of, traffic, treatment, true}
use Rattle.dn_types.proofs.Words.{verdict, verdict_by, waiting, waiting_all, zero, ℕ, ⊎_elim, ◌&&◌, ◌+◌, ◌-◌, ◌<◌, ◌∙◌, ◌∷◌, ◌≡◌, ◌≤◌}
use Rattle.dn_types.proofs.Giving.{count-event}
use Rattle.dn_types.proofs.Step.{after_event, next_start_in, first_start_in, settle_most_in, settle_in, waiting_all_in, verdict_in, opening_in, accept_in, join_in}
use Rattle.dn_types.proofs.Step.{after_verdict_in, discard_reached_in, after_command_in, queue_numbers_after, counted_step, step, statuses_in, verdict_reply_in, counted_step_reply, step_reply}

-- ---- One event

pub traffic-cons : (rule : Rule) (e : Event) (trace : List Event) → traffic rule (e ∷ trace) ≡ after_event rule e (traffic rule trace)
traffic-cons rule (opened l) trace = λ i. record (traffic rule (opened l ∷ trace)) {
  lost = λ flow. count-event (is_loss_of flow) (opened l) trace i;
  full = λ flow. count-event (is_refusal_of flow) (opened l) trace i;
  started = λ flow. count-event (is_start_of flow) (opened l) trace i;
  accepted = count-event is_arrival (opened l) trace i;
}
traffic-cons rule (arrived p) trace = λ i. record (traffic rule (arrived p ∷ trace)) {
  lost = λ flow. count-event (is_loss_of flow) (arrived p) trace i;
  full = λ flow. count-event (is_refusal_of flow) (arrived p) trace i;
  started = λ flow. count-event (is_start_of flow) (arrived p) trace i;
  accepted = count-event is_arrival (arrived p) trace i;
}
traffic-cons rule (started s) trace = λ i. record (traffic rule (started s ∷ trace)) {
  lost = λ flow. count-event (is_loss_of flow) (started s) trace i;
  full = λ flow. count-event (is_refusal_of flow) (started s) trace i;
  started = λ flow. count-event (is_start_of flow) (started s) trace i;
  accepted = count-event is_arrival (started s) trace i;
}
traffic-cons rule (lost l f) trace = λ i. record (traffic rule (lost l f ∷ trace)) {
  lost = λ flow. count-event (is_loss_of flow) (lost l f) trace i;
  full = λ flow. count-event (is_refusal_of flow) (lost l f) trace i;
  started = λ flow. count-event (is_start_of flow) (lost l f) trace i;
  accepted = count-event is_arrival (lost l f) trace i;
}
traffic-cons rule (refused l f) trace = λ i. record (traffic rule (refused l f ∷ trace)) {
  lost = λ flow. count-event (is_loss_of flow) (refused l f) trace i;
  full = λ flow. count-event (is_refusal_of flow) (refused l f) trace i;
  started = λ flow. count-event (is_start_of flow) (refused l f) trace i;
  accepted = count-event is_arrival (refused l f) trace i;
}
traffic-cons rule (discarded f) trace = λ i. record (traffic rule (discarded f ∷ trace)) {
  lost = λ flow. count-event (is_loss_of flow) (discarded f) trace i;
  full = λ flow. count-event (is_refusal_of flow) (discarded f) trace i;
  started = λ flow. count-event (is_start_of flow) (discarded f) trace i;
  accepted = count-event is_arrival (discarded f) trace i;
}
traffic-cons rule (collected at) trace = λ i. record (traffic rule (collected at ∷ trace)) {
  lost = λ flow. count-event (is_loss_of flow) (collected at) trace i;
  full = λ flow. count-event (is_refusal_of flow) (collected at) trace i;
  started = λ flow. count-event (is_start_of flow) (collected at) trace i;
  accepted = count-event is_arrival (collected at) trace i;
}

-- ---- Settling

next_start-traffic : (rule : Rule) (settings : Settings) (at : ℕ) (link : Link) (trace : List Event) → next_start settings at link trace ≡ next_start_in settings at link (traffic rule trace)
next_start-traffic rule settings at (own n f) trace = refl
next_start-traffic rule settings at (shared n) trace = refl

first_start-traffic : (rule : Rule) (settings : Settings) (at : ℕ) (ls : List Link) (trace : List Event) → first_start settings at ls trace ≡ first_start_in settings at ls (traffic rule trace)
first_start-traffic rule settings at [] trace = refl
first_start-traffic rule settings at (link ∷ others) trace =
    ap (λ (o : Option Start). sooner o (first_start settings at others trace)) (next_start-traffic rule settings at link trace)
    ∙ ap (λ (o : Option Start). sooner (next_start_in settings at link (traffic rule trace)) o) (first_start-traffic rule settings at others trace)

-- One more start, where the rest of the settling agrees.
settle-one : (rule : Rule) (settings : Settings) (at : ℕ) (most : ℕ) (trace : List Event) (o : Option Start) →
    ((t : List Event) → traffic rule (settle most settings at t) ≡ settle_most_in rule most settings at (traffic rule t)) →
    traffic rule (elim o [ None ↦ trace | Some s ↦ settle most settings at (started s ∷ trace) ])
    ≡ elim o [ None ↦ traffic rule trace | Some s ↦ settle_most_in rule most settings at (after_event rule (started s) (traffic rule trace)) ]
settle-one rule settings at most trace None rest = refl
settle-one rule settings at most trace (Some s) rest = rest (started s ∷ trace) ∙ ap (λ (x : Traffic). settle_most_in rule most settings at x) (traffic-cons rule (started s) trace)

settle-traffic : (rule : Rule) (most : ℕ) (settings : Settings) (at : ℕ) (trace : List Event) → traffic rule (settle most settings at trace) ≡ settle_most_in rule most settings at (traffic rule trace)
settle-traffic rule zero settings at trace = refl
settle-traffic rule (suc most) settings at trace =
    settle-one rule settings at most trace (first_start settings at (links trace) trace) (λ t. settle-traffic rule most settings at t)
    ∙ ap (λ (o : Option Start). elim o as
    (λ _. Traffic) [ None ↦ traffic rule trace | Some s ↦ settle_most_in rule most settings at (after_event rule (started s) (traffic rule trace)) ])
    (first_start-traffic rule settings at (links trace) trace)

waiting_all-traffic : (rule : Rule) (ls : List Link) (trace : List Event) → waiting_all ls trace ≡ waiting_all_in ls (traffic rule trace)
waiting_all-traffic rule [] trace = refl
waiting_all-traffic rule (link ∷ others) trace = ap (λ k. waiting link trace + k) (waiting_all-traffic rule others trace)

pub settled-traffic : (rule : Rule) (settings : Settings) (at : ℕ) (trace : List Event) → traffic rule (settled settings at trace) ≡ settle_in rule settings at (traffic rule trace)
settled-traffic rule settings at trace =
    settle-traffic rule (waiting_all (links trace) trace) settings at trace
    ∙ ap (λ most. settle_most_in rule most settings at (traffic rule trace)) (waiting_all-traffic rule (links trace) trace)

-- ---- Submits

verdict-traffic : (rule : Rule) (known : List FlowKey) (target : Target) (packet : Packet) (how : Option Treatment) (trace : List Event)
    → verdict_by known target packet how trace ≡ verdict_in known target packet how (traffic rule trace)
verdict-traffic rule known target packet None trace = refl
verdict-traffic rule known target packet (Some how) trace = refl

traffic-cond : (rule : Rule) (test : Bool) (s t : List Event) → traffic rule (cond test s t) ≡ cond test (traffic rule s) (traffic rule t)
traffic-cond rule true s t = refl
traffic-cond rule false s t = refl

opening-traffic : (rule : Rule) (link : Link) (at : ℕ) (trace : List Event) → traffic rule (opening link at trace) ≡ opening_in rule link at (traffic rule trace)
opening-traffic rule link at trace =
    traffic-cond rule (nat_eq (waiting link trace) 0 && nat_le (free link trace) at) (opened link ∷ trace) trace
    ∙ ap (λ (x : Traffic). cond (nat_eq (waiting link trace) 0 && nat_le (free link trace) at) x (traffic rule trace)) (traffic-cons rule (opened link) trace)

join-traffic : (rule : Rule) (settings : Settings) (at : ℕ) (p : Accepted) (trace : List Event) → traffic rule (join settings at p trace) ≡ join_in rule settings at p (traffic rule trace)
join-traffic rule settings at p trace =
    traffic-cond rule (nat_le (free p.link trace) at) (started (start_at settings p.link p at) ∷ arrived p ∷ trace) (arrived p ∷ trace)
    ∙ ap (λ (x : Traffic). cond (nat_le (free p.link trace) at) x (traffic rule (arrived p ∷ trace))) (traffic-cons rule (started (start_at settings p.link p at)) (arrived p ∷ trace))
    ∙ ap (λ (x : Traffic). cond (nat_le (free p.link trace) at) (after_event rule (started (start_at settings p.link p at)) x) x) (traffic-cons rule (arrived p) trace)

after_verdict-traffic : (rule : Rule) (settings : Settings) (at : ℕ) (packet : Packet) (v : Verdict) (trace : List Event)
    → traffic rule (after_verdict settings at packet v trace) ≡ after_verdict_in rule settings at packet v (traffic rule trace)
after_verdict-traffic rule settings at packet no_target trace = refl
after_verdict-traffic rule settings at packet (loses link flow) trace = traffic-cons rule (lost link flow) trace
after_verdict-traffic rule settings at packet (refuses link flow) trace = traffic-cons rule (refused link flow) trace
after_verdict-traffic rule settings at packet (takes link flow how) trace =
    join-traffic rule settings at (accept link packet flow how (opening link at trace)) (opening link at trace)
    ∙ ap (λ (y : Traffic). join_in rule settings at (accept_in link packet flow how y) y) (opening-traffic rule link at trace)

-- ---- Commands

discard_reached-traffic : (rule : Rule) (command : Command) (flow : ℕ) (known : List FlowKey) (trace : List Event)
    → traffic rule (discard_reached command flow known trace) ≡ discard_reached_in rule command flow known (traffic rule trace)
discard_reached-traffic rule command flow [] trace = refl
discard_reached-traffic rule command flow (key ∷ known) trace =
    discard_reached-traffic rule command (flow + 1) known (cond (reaches command key) (discarded flow ∷ trace) trace)
    ∙ ap (λ (x : Traffic). discard_reached_in rule command (flow + 1) known x)
    (traffic-cond rule (reaches command key) (discarded flow ∷ trace) trace ∙ ap (λ (x : Traffic). cond (reaches command key) x (traffic rule trace)) (traffic-cons rule (discarded flow) trace))

after_command-traffic : (rule : Rule) (r : Reply) (command : Command) (known : List FlowKey) (trace : List Event)
    → traffic rule (after_command r command known trace) ≡ after_command_in rule r command known (traffic rule trace)
after_command-traffic rule Deleted command known trace = discard_reached-traffic rule command 0 known trace
after_command-traffic rule _ command known trace = refl

-- ---- One call

command-step : (rule : Rule) (calls : List Call) (command : Command) → queue_numbers (Configure command ∷ calls) ≡ queue_numbers_after command (queue_numbers calls)
    → standing_of_counted rule (Configure command ∷ calls) ≡ counted_step rule (standing_of_counted rule calls) (Configure command)
command-step rule calls command e = λ i. record (standing_of_counted rule (Configure command ∷ calls))
    { queue_numbers = e i; traffic = after_command-traffic rule (reply_to_command calls command) command (keys calls) (trace_of calls) i }

submit-traffic : (rule : Rule) (calls : List Call) (target : Target) (packet : Packet) (moment : ℕ)
    → traffic rule (trace_of (Submit target packet moment ∷ calls)) ≡ (counted_step rule (standing_of_counted rule calls) (Submit target packet moment)).traffic
submit-traffic rule calls target packet moment =
    let at = max (effective_moment calls) moment in
    let before = settled (settings calls) at (trace_of calls) in
    let how = treatment (settings calls target) in
    after_verdict-traffic rule (settings calls) at packet (verdict calls target packet before) before
    ∙ ap (λ (v : Verdict). after_verdict_in rule (settings calls) at packet v (traffic rule before)) (verdict-traffic rule (keys calls) target packet how before)
    ∙ ap (λ (x : Traffic). after_verdict_in rule (settings calls) at packet (verdict_in (keys calls) target packet how x) x) (settled-traffic rule (settings calls) at (trace_of calls))

-- A further counted call is one step.
pub standing_of_counted-cons : (rule : Rule) (calls : List Call) (c : Call) → standing_of_counted rule (c ∷ calls) ≡ counted_step rule (standing_of_counted rule calls) c
standing_of_counted-cons rule calls (Configure (Pipe number bw delay limit loss buckets mask)) = command-step rule calls (Pipe number bw delay limit loss buckets mask) refl
standing_of_counted-cons rule calls (Configure (Queue number pipe weight limit loss buckets mask)) = command-step rule calls (Queue number pipe weight limit loss buckets mask) refl
standing_of_counted-cons rule calls (Configure (DeletePipe number)) = command-step rule calls (DeletePipe number) refl
standing_of_counted-cons rule calls (Configure (DeleteQueue number)) = command-step rule calls (DeleteQueue number) refl
standing_of_counted-cons rule calls (Submit target packet moment) =
    λ i. record (standing_of_counted rule (Submit target packet moment ∷ calls)) { traffic = submit-traffic rule calls target packet moment i }
standing_of_counted-cons rule calls (Advance moment) = λ i. record (standing_of_counted rule (Advance moment ∷ calls))
    { traffic = settled-traffic rule (settings calls) (max (effective_moment calls) moment) (trace_of calls) i }
standing_of_counted-cons rule calls (Collect moment) =
    let at = max (effective_moment calls) moment in
    let before = settled (settings calls) at (trace_of calls) in
    let e = traffic-cons rule (collected at) before ∙ ap (λ (x : Traffic). after_event rule (collected at) x) (settled-traffic rule (settings calls) at (trace_of calls)) in
    λ i. record (standing_of_counted rule (Collect moment ∷ calls)) { traffic = e i }
standing_of_counted-cons rule calls Show = refl

-- ---- Replies

statuses-traffic : (rule : Rule) (flow : ℕ) (known : List FlowKey) (trace : List Event) → statuses_from flow known trace ≡ statuses_in flow known (traffic rule trace)
statuses-traffic rule flow [] trace = refl
statuses-traffic rule flow (key ∷ known) trace = ap (λ (rest : List FlowStatus). status_of flow key trace ∷ rest) (statuses-traffic rule (flow + 1) known trace)

verdict_reply-traffic : (rule : Rule) (at : ℕ) (v : Verdict) (trace : List Event) → reply_to_verdict at v trace ≡ verdict_reply_in at v (traffic rule trace)
verdict_reply-traffic rule at no_target trace = refl
verdict_reply-traffic rule at (loses link flow) trace = refl
verdict_reply-traffic rule at (refuses link flow) trace = refl
verdict_reply-traffic rule at (takes link flow how) trace = refl

pub counted_reply-standing : (rule : Rule) (calls : List Call) (c : Call) → counted_reply rule calls c ≡ counted_step_reply rule (standing_of_counted rule calls) c
counted_reply-standing rule calls (Configure command) = refl
counted_reply-standing rule calls (Submit target packet moment) =
    let at = max (effective_moment calls) moment in
    let before = settled (settings calls) at (trace_of calls) in
    let how = treatment (settings calls target) in
    verdict_reply-traffic rule at (verdict calls target packet before) before
    ∙ ap (λ (v : Verdict). verdict_reply_in at v (traffic rule before)) (verdict-traffic rule (keys calls) target packet how before)
    ∙ ap (λ (x : Traffic). verdict_reply_in at (verdict_in (keys calls) target packet how x) x) (settled-traffic rule (settings calls) at (trace_of calls))
counted_reply-standing rule calls (Advance moment) = refl
counted_reply-standing rule calls (Collect moment) = let at = max (effective_moment calls) moment in
    ap (λ (x : Traffic). Delivered at (filter (λ d. nat_le d.due at) x.undelivered)) (settled-traffic rule (settings calls) at (trace_of calls))
counted_reply-standing rule calls Show = ap Status (statuses-traffic rule 0 (keys calls) (trace_of calls))

-- ---- The limit of calls

counted-below : (calls : List Call) → length calls ≤ call_limit → counted calls ≡ calls
counted-below calls h = let e : length calls - call_limit ≡ 0 = omega arith in ap (λ n. drop n calls) e

counted-full : (c : Call) (calls : List Call) → call_limit ≤ length calls → counted (c ∷ calls) ≡ counted calls
counted-full c calls h = let e : suc (length calls) - call_limit ≡ suc (length calls - call_limit) = omega arith in ap (λ n. drop n (c ∷ calls)) e

length-counted : (calls : List Call) → call_limit ≤ length calls → length (counted calls) ≡ call_limit
length-counted calls h = length-drop (length calls - call_limit) calls ∙ omega arith

step-below : (rule : Rule) (s : Standing) (c : Call) → s.calls < call_limit → step rule s c ≡ counted_step rule s c
step-below rule s c h = ap (λ b. cond b s (counted_step rule s c)) (lt-leb call_limit s.calls h)

step-full : (rule : Rule) (s : Standing) (c : Call) → call_limit ≤ s.calls → step rule s c ≡ s
step-full rule s c h = ap (λ b. cond b s (counted_step rule s c)) (le-leb call_limit s.calls h)

standing-below : (rule : Rule) (calls : List Call) → length calls ≤ call_limit → standing rule calls ≡ standing_of_counted rule calls
standing-below rule calls h = ap (λ (cs : List Call). standing_of_counted rule cs) (counted-below calls h)

-- Where one call more leaves the emulator is one step from where it stood.
pub standing-cons : (rule : Rule) (calls : List Call) (c : Call) → standing rule (c ∷ calls) ≡ step rule (standing rule calls) c
standing-cons rule calls c = ⊎_elim (λ full. at_limit full.1) (λ below. below_limit below.1) (leb_tells call_limit (length calls))
  where
    at_limit : call_limit ≤ length calls → standing rule (c ∷ calls) ≡ step rule (standing rule calls) c
    at_limit h =
        let many : call_limit ≤ (standing rule calls).calls = omega (arith, length-counted calls h) in
        ap (λ (cs : List Call). standing_of_counted rule cs) (counted-full c calls h) ∙ sym (step-full rule (standing rule calls) c many)

    below_limit : length calls < call_limit → standing rule (c ∷ calls) ≡ step rule (standing rule calls) c
    below_limit h =
        let e = standing-below rule calls (omega arith) in
        standing-below rule (c ∷ calls) h ∙ standing_of_counted-cons rule calls c ∙ sym (step-below rule (standing_of_counted rule calls) c h) ∙ ap (λ (s : Standing). step rule s c) (sym e)

-- And the reply is that of the step.
pub reply-standing : (rule : Rule) (calls : List Call) (c : Call) → reply rule calls c ≡ step_reply rule (standing rule calls) c
reply-standing rule calls c = ⊎_elim (λ full. at_limit full.1) (λ below. below_limit below.1) (leb_tells call_limit (length calls))
  where
    at_limit : call_limit ≤ length calls → reply rule calls c ≡ step_reply rule (standing rule calls) c
    at_limit h =
        let many : call_limit ≤ (standing rule calls).calls = omega (arith, length-counted calls h) in
        ap (λ b. cond b Exhausted (counted_reply rule calls c)) (le-leb call_limit (length calls) h)
        ∙ sym (ap (λ b. cond b Exhausted (counted_step_reply rule (standing rule calls) c)) (le-leb call_limit (standing rule calls).calls many))

    below_limit : length calls < call_limit → reply rule calls c ≡ step_reply rule (standing rule calls) c
    below_limit h =
        let e = standing-below rule calls (omega arith) in
        ap (λ b. cond b Exhausted (counted_reply rule calls c)) (lt-leb call_limit (length calls) h)
        ∙ counted_reply-standing rule calls c
        ∙ sym (ap (λ b. cond b Exhausted (counted_step_reply rule (standing_of_counted rule calls) c)) (lt-leb call_limit (length calls) h))
        ∙ ap (λ (s : Standing). step_reply rule s c) (sym e)

-- Where two lists of calls leave the emulator the same, so does one call more, and its reply is the same.
pub replies-by-standing : (rule : Rule) (calls others : List Call) → standing rule calls ≡ standing rule others
    → (c : Call) → (reply rule calls c ≡ reply rule others c) × (standing rule (c ∷ calls) ≡ standing rule (c ∷ others))
replies-by-standing rule calls others same c = (
  reply-standing rule calls c ∙ ap (λ (s : Standing). step_reply rule s c) same ∙ sym (reply-standing rule others c),
  standing-cons rule calls c ∙ ap (λ (s : Standing). step rule s c) same ∙ sym (standing-cons rule others c),
)

-- A call after as many as the limit changes nothing.
pub exhausted-changes-nothing : (rule : Rule) (calls : List Call) (c : Call) → call_limit ≤ length calls → (reply rule calls c ≡ Exhausted) × (standing rule (c ∷ calls) ≡ standing rule calls)
exhausted-changes-nothing rule calls c h = (
  ap (λ b. cond b Exhausted (counted_reply rule calls c)) (le-leb call_limit (length calls) h),
  ap (λ (cs : List Call). standing_of_counted rule cs) (counted-full c calls h),
)
