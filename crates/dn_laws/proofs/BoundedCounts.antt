-- The counts of a reply are at most the count of calls before it, which is below 2^62.
use Rattle.dn_laws.proofs.Words.{All, All-cons, All-filter, All-nil, Bool, List, [], arith, cond, false, length, length-map, max, nat_le, nat_tests, refl, true, ℕ, ◌+◌, ◌<◌, ◌^◌, ◌∷◌, ◌≡◌, ◌≤◌}
use Rattle.dn_laws.proofs.LawWords.{HasBoundedCounts, Verdict, no_target, loses, refuses, takes, link_of, verdict, trace_of, effective_moment, call_limit, queue_numbers, settings, undelivered, keys}
use Rattle.dn_laws.proofs.LawWords.{statuses_from, status_of, reply_to_verdict, counted_reply, reply, settled, Event, is_arrival, is_loss_of, is_refusal_of, accepted_count, backlog, Call, Configure}
use Rattle.dn_laws.proofs.LawWords.{Submit, Advance, Collect, Show, FlowKey, FlowStatus, Exhausted, Rule}
use Rattle.dn_types.proofs.{Bounded.len_of, BoundedReplies.command-has, CallCounts.settled-count, CallCounts.trace-count, Once.starts-once, Ordered.trace-proper, PacketCounts.joins}
use Rattle.dn_types.proofs.{PacketCounts.IsNumbered, PacketCounts.queue-count, PacketCounts.starts-few, PacketCounts.undelivered-below}

-- Each call brings one accepted packet at most.
accepted : (calls : List Call) → accepted_count (trace_of calls) ≤ length calls
accepted calls = trace-count is_arrival (λ l. refl) (λ s. refl) (λ f. refl) (λ at. refl) calls

settled-accepted : (calls : List Call) (at : ℕ) → accepted_count (settled (settings calls) at (trace_of calls)) ≤ length calls
settled-accepted calls at =
    let same = settled-count is_arrival (λ l. refl) (λ s. refl) (λ f. refl) (λ moment. refl) (settings calls) at (trace_of calls) in
    let few = accepted calls in
    omega (arith, same, few)

abbrev AreFew : FlowStatus → Type 0
AreFew s = (s.queued < 2 ^ 62) × (s.lost < 2 ^ 62) × (s.full < 2 ^ 62) × (s.started < 2 ^ 62) × (s.discarded < 2 ^ 62)

status-few : (calls : List Call) (flow : ℕ) (key : FlowKey) → length calls < 2 ^ 62 → AreFew (status_of flow key (trace_of calls))
status-few calls flow key h =
    let link = link_of key.target flow key.pipe in
    let trace = trace_of calls in
    let same = length-map (backlog link flow trace) len_of in
    let queue = queue-count link flow trace in
    let arrivals = trace-count (joins link flow) (λ l. refl) (λ s. refl) (λ f. refl) (λ at. refl) calls in
    let losses = trace-count (is_loss_of flow) (λ l. refl) (λ s. refl) (λ f. refl) (λ at. refl) calls in
    let refusals = trace-count (is_refusal_of flow) (λ l. refl) (λ s. refl) (λ f. refl) (λ at. refl) calls in
    let starts = starts-few (length calls) flow trace (trace-proper calls) (accepted calls) (λ k. starts-once k calls) in
    (omega (arith, same, queue, arrivals, h), omega (arith, losses, h), omega (arith, refusals, h), omega (arith, starts, h), omega (arith, queue, arrivals, h))

statuses-few : (calls : List Call) (flow : ℕ) (known : List FlowKey) → length calls < 2 ^ 62 → All AreFew (statuses_from flow known (trace_of calls))
statuses-few calls flow [] h = All-nil AreFew
statuses-few calls flow (key ∷ known) h = All-cons AreFew (status_of flow key (trace_of calls)) (statuses_from (flow + 1) known (trace_of calls))
    (status-few calls flow key h) (statuses-few calls (flow + 1) known h)

verdict-few : (at : ℕ) (v : Verdict) (trace : List Event) → accepted_count trace < 2 ^ 62 → HasBoundedCounts (reply_to_verdict at v trace)
verdict-few at no_target trace h = tt
verdict-few at (loses link flow) trace h = tt
verdict-few at (refuses link flow) trace h = tt
verdict-few at (takes link flow how) trace h = h

counted-few : (rule : Rule) (calls : List Call) (c : Call) → length calls < 2 ^ 62 → HasBoundedCounts (counted_reply rule calls c)
counted-few rule calls (Configure command) h = command-has HasBoundedCounts tt tt tt tt tt (settings calls) (queue_numbers calls) command
counted-few rule calls (Submit target packet moment) h =
    let at = max (effective_moment calls) moment in
    let trace = settled (settings calls) at (trace_of calls) in
    let few = settled-accepted calls at in
    verdict-few at (verdict calls target packet trace) trace (omega (arith, few, h))
counted-few rule calls (Advance moment) h = tt
counted-few rule calls (Collect moment) h =
    let at = max (effective_moment calls) moment in
    let trace = settled (settings calls) at (trace_of calls) in
    let below = undelivered-below (length calls) rule trace (trace-proper (Advance moment ∷ calls)) (settled-accepted calls at) in
    let due = All-filter (λ d. nat_le d.due at) (IsNumbered (length calls)) (undelivered rule trace) below in
    λ k d place. let number = due k d place in omega (arith, number, h)
counted-few rule calls Show h = statuses-few calls 0 (keys calls) h

pub bounded-counts : (rule : Rule) (calls : List Call) (c : Call) → HasBoundedCounts (reply rule calls c)
bounded-counts rule calls c = by (nat_le call_limit (length calls)) refl
  where
    by : (b : Bool) → nat_le call_limit (length calls) ≡ b → HasBoundedCounts (cond b Exhausted (counted_reply rule calls c))
    by true e = tt
    by false e = let few : length calls < 2 ^ 62 = grind (arith, nat_tests) in counted-few rule calls c few
