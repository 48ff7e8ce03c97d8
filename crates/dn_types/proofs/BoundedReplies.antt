-- The replies to calls in range have bounded moments and bytes.
use Rattle.dn_types.proofs.Words.{Advance, All, All-cons, All-filter, All-nil, Bool, Call, Collect, Command, Configure, Configured, DeletePipe, DeleteQueue, Deleted, Delivery, Event, Exhausted}
use Rattle.dn_types.proofs.Words.{FlowKey, FlowStatus, Free, HasBoundedBytes, HasBoundedMoments, IsInRange, Link, List, NoSuchPipe, NoSuchQueue, Ordered, Pipe, PipeHasQueues, Queue, Reply, Rule}
use Rattle.dn_types.proofs.Words.{Settings, Show, Start, Submit, Verdict, [], arith, arrival_time, arrived, backlog, call_limit, collected, command_reply, cond, counted_reply, delivery_of, due_by}
use Rattle.dn_types.proofs.Words.{effective_moment, false, has_queues, in_order, is_given_before, is_some, keys, last_due, length, link_eq, link_of, loses, max, nat_le, nat_lt, no_target}
use Rattle.dn_types.proofs.Words.{queue_numbers, refuses, reply, reply_to_verdict, settings, settled, started, status_of, statuses_from, suc, sum-map, takes, trace_of, true, undelivered, verdict}
use Rattle.dn_types.proofs.Words.{ℕ, ◌+◌, ◌<◌, ◌^◌, ◌∷◌, ◌≤◌}
use Rattle.dn_types.specs.declared.target.Target.TheVariants.{Pipe as ToPipe, Queue as ToQueue}
use Rattle.dn_types.proofs.Bounded.{IsBounded, len_of, bytes-bounded, settled-bounded, later-in-range, trace-bounded}
use Rattle.dn_types.proofs.Dues.{gives-what-is-due}
use Rattle.dn_types.proofs.Ranges.{settings-in-range}

-- ---- Due moments

-- The transmission and the delay of a packet that starts at 2^62 ns have passed by then.
abbrev latest : ℕ
latest = 4612213898427387904

-- One more in its place.
pub in_order-all : (P : Delivery → Type 0) (d : Delivery) (ds : List Delivery) → P d → All P ds → All P (in_order d ds)
in_order-all P d [] one h = All-cons P d [] one h
in_order-all P d (e ∷ es) one h = by (is_given_before d e) (in_order-all P d es one rest)
  where
    rest : All P es
    rest = λ k x below. h (suc k) x (omega arith)

    by : (b : Bool) → All P (in_order d es) → All P (cond b (d ∷ e ∷ es) (e ∷ in_order d es))
    by true more = All-cons P d (e ∷ es) one h
    by false more = All-cons P e (in_order d es) (h 0 e (omega arith)) more

abbrev IsInTime : Delivery → Type 0
IsInTime d = (d.start ≤ 2 ^ 62) × (d.due < 2 ^ 63)

module _ (rule : Rule) where
  due-bounded : (r : Rule) (arrival last : ℕ) → arrival ≤ latest → last ≤ latest → due_by r arrival last ≤ latest
  due-bounded Free arrival last h g = h
  due-bounded Ordered arrival last h g = omega arith

  arrives : (s : Start) (trace : List Event) → IsBounded (started s ∷ trace) → arrival_time s ≤ latest
  arrives s trace h = let soon = h.0 in let short = h.1 in let delay = h.2 in omega arith

  last-bounded : (link : Link) (trace : List Event) → IsBounded trace → last_due rule link trace ≤ latest
  last-bounded link [] h = omega arith
  last-bounded link (arrived p ∷ trace) h = last-bounded link trace h.2
  last-bounded link (started s ∷ trace) h = by (link_eq s.packet.link link) (last-bounded link trace h.3)
    where
      by : (b : Bool) → last_due rule link trace ≤ latest → cond b (due_by rule (arrival_time s) (last_due rule link trace)) (last_due rule link trace) ≤ latest
      by true rest = due-bounded rule (arrival_time s) (last_due rule link trace) (arrives s trace h) rest
      by false rest = rest
  last-bounded link (_ ∷ trace) h = last-bounded link trace h

  -- ---- Deliveries

  delivery-bounded : (s : Start) (trace : List Event) → IsBounded (started s ∷ trace) → IsInTime (delivery_of rule s (last_due rule s.packet.link trace))
  delivery-bounded s trace h =
      let due = due-bounded rule (arrival_time s) (last_due rule s.packet.link trace) (arrives s trace h) (last-bounded s.packet.link trace h.3) in
      (h.0, omega (arith, due))

  undelivered-bounded : (trace : List Event) → IsBounded trace → All IsInTime (undelivered rule trace)
  undelivered-bounded [] h = All-nil IsInTime
  undelivered-bounded (arrived p ∷ trace) h = undelivered-bounded trace h.2
  undelivered-bounded (started s ∷ trace) h = in_order-all IsInTime (delivery_of rule s (last_due rule s.packet.link trace)) (undelivered rule trace)
      (delivery-bounded s trace h) (undelivered-bounded trace h.3)
  undelivered-bounded (collected at ∷ trace) h = All-filter (λ d. nat_lt at d.due) IsInTime (undelivered rule trace) (undelivered-bounded trace h)
  undelivered-bounded (_ ∷ trace) h = undelivered-bounded trace h

-- ---- Replies to commands

-- Such a reply has no number.
module _ (P : Reply → Type 0) (configured : P Configured) (no_pipe : P NoSuchPipe) (deleted : P Deleted) (has_queues' : P PipeHasQueues) (no_queue : P NoSuchQueue) where
  either : (b : Bool) (x y : Reply) → P x → P y → P (cond b x y)
  either true x y h g = h
  either false x y h g = g

  pub command-has : (set : Settings) (queues : List ℕ) (command : Command) → P (command_reply set queues command)
  command-has set queues (Pipe number bw delay limit loss buckets mask) = configured
  command-has set queues (Queue number pipe weight limit loss buckets mask) = either (is_some (set (ToPipe pipe))) Configured NoSuchPipe configured no_pipe
  command-has set queues (DeletePipe number) = either (is_some (set (ToPipe number))) (cond (has_queues set queues number) PipeHasQueues Deleted) NoSuchPipe
      (either (has_queues set queues number) PipeHasQueues Deleted has_queues' deleted) no_pipe
  command-has set queues (DeleteQueue number) = either (is_some (set (ToQueue number))) Deleted NoSuchQueue deleted no_queue

-- ---- Moments

verdict-moments : (at : ℕ) (v : Verdict) (trace : List Event) → at ≤ 2 ^ 62 → HasBoundedMoments (reply_to_verdict at v trace)
verdict-moments at no_target trace h = h
verdict-moments at (loses link flow) trace h = h
verdict-moments at (refuses link flow) trace h = h
verdict-moments at (takes link flow how) trace h = h

counted-moments : (rule : Rule) (calls : List Call) (c : Call) → All IsInRange calls → IsInRange c → HasBoundedMoments (counted_reply rule calls c)
counted-moments rule calls (Configure command) h one = command-has HasBoundedMoments tt tt tt tt tt (settings calls) (queue_numbers calls) command
counted-moments rule calls (Submit target packet moment) h one =
    let at = max (effective_moment calls) moment in
    let trace = settled (settings calls) at (trace_of calls) in
    verdict-moments at (verdict calls target packet trace) trace (later-in-range calls moment h one.1)
counted-moments rule calls (Advance moment) h one = later-in-range calls moment h one
counted-moments rule calls (Collect moment) h one =
    let at = max (effective_moment calls) moment in
    let soon = later-in-range calls moment h one in
    let trace = settled (settings calls) at (trace_of calls) in
    let bounded = settled-bounded (settings calls) at (trace_of calls) (settings-in-range calls h) soon (trace-bounded calls h) in
    let starts = All-filter (λ d. nat_le d.due at) IsInTime (undelivered rule trace) (undelivered-bounded rule trace bounded) in
    let dues = gives-what-is-due rule at trace in
    (soon, λ k d below. let due = dues k d below in ((starts k d below).0, omega (arith, due, soon)))
counted-moments rule calls Show h one = tt

pub bounded-moments : (rule : Rule) (calls : List Call) (c : Call) → All IsInRange calls → IsInRange c → HasBoundedMoments (reply rule calls c)
bounded-moments rule calls c h one = by (nat_le call_limit (length calls))
  where
    by : (b : Bool) → HasBoundedMoments (cond b Exhausted (counted_reply rule calls c))
    by true = tt
    by false = counted-moments rule calls c h one

pub due-moments-bounded : (rule : Rule) (calls : List Call) → All IsInRange calls → All IsInTime (undelivered rule (trace_of calls))
due-moments-bounded rule calls h = undelivered-bounded rule (trace_of calls) (trace-bounded calls h)

-- ---- Bytes

abbrev IsSmall : FlowStatus → Type 0
IsSmall s = s.bytes < 2 ^ 32

statuses-bytes : (flow : ℕ) (known : List FlowKey) (trace : List Event) → IsBounded trace → All IsSmall (statuses_from flow known trace)
statuses-bytes flow [] trace h = All-nil IsSmall
statuses-bytes flow (key ∷ known) trace h =
    let link = link_of key.target flow key.pipe in
    let few = bytes-bounded link flow trace h in
    let same = sum-map len_of (backlog link flow trace) in
    All-cons IsSmall (status_of flow key trace) (statuses_from (flow + 1) known trace) (omega (arith, few, same)) (statuses-bytes (flow + 1) known trace h)

verdict-bytes : (at : ℕ) (v : Verdict) (trace : List Event) → HasBoundedBytes (reply_to_verdict at v trace)
verdict-bytes at no_target trace = tt
verdict-bytes at (loses link flow) trace = tt
verdict-bytes at (refuses link flow) trace = tt
verdict-bytes at (takes link flow how) trace = tt

counted-bytes : (rule : Rule) (calls : List Call) (c : Call) → All IsInRange calls → HasBoundedBytes (counted_reply rule calls c)
counted-bytes rule calls (Configure command) h = command-has HasBoundedBytes tt tt tt tt tt (settings calls) (queue_numbers calls) command
counted-bytes rule calls (Submit target packet moment) h =
    let at = max (effective_moment calls) moment in
    let trace = settled (settings calls) at (trace_of calls) in
    verdict-bytes at (verdict calls target packet trace) trace
counted-bytes rule calls (Advance moment) h = tt
counted-bytes rule calls (Collect moment) h = tt
counted-bytes rule calls Show h = statuses-bytes 0 (keys calls) (trace_of calls) (trace-bounded calls h)

pub bounded-bytes : (rule : Rule) (calls : List Call) (c : Call) → All IsInRange calls → HasBoundedBytes (reply rule calls c)
bounded-bytes rule calls c h = by (nat_le call_limit (length calls))
  where
    by : (b : Bool) → HasBoundedBytes (cond b Exhausted (counted_reply rule calls c))
    by true = tt
    by false = counted-bytes rule calls c h
