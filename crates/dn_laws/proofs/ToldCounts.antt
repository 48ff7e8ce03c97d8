-- What was told of packets and of flows is what happened: as many are queued, lost and refused.
use Rattle.dn_laws.proofs.Words.{Bool, List, PacketsAreNumbered, [], ap, arith, command-count, cond, count-event, count-none, count_by, false, is_some, leb_tells, length, max, nat_eq, nat_le}
use Rattle.dn_laws.proofs.Words.{refl, settled-count, sum_by-cons, sym, true, ℕ, ⊎_elim, ⊤, ◌&&◌, ◌+◌, ◌<◌, ◌∙◌, ◌∷◌, ◌≡◌, ◌≢◌, ◌≤◌}
use Rattle.dn_laws.proofs.LawWords.{Verdict, no_target, loses, refuses, takes, verdict, accept, join, after_verdict, trace_of, call_limit, effective_moment, Settings, settings, has_queues}
use Rattle.dn_laws.proofs.LawWords.{queue_numbers, command_reply, reply_to_command, keys, free, reply, counted_reply, reply_to_verdict, replies, waiting, opening, settled, start_at, is_queued}
use Rattle.dn_laws.proofs.LawWords.{is_queued_of, is_lost_of, is_full_of, is_arrival_of, Link, Accepted, Start, Event, opened, arrived, started, lost, refused, discarded, collected, is_arrival}
use Rattle.dn_laws.proofs.LawWords.{is_loss_of, is_refusal_of, accepted_count, Call, Configure, Submit, Advance, Collect, Show, Command, Pipe, Queue, DeletePipe, DeleteQueue, Packet, Reply, Queued}
use Rattle.dn_laws.proofs.LawWords.{Lost, Full, NoTarget, Exhausted, Configured, NoSuchPipe, Deleted, PipeHasQueues, NoSuchQueue, Rule, ToPipe, ToQueue}
use Rattle.dn_types.proofs.CallCounts.{opened-count}
use Rattle.dn_laws.proofs.DropLaws.{not-exhausted}
use Rattle.dn_laws.proofs.Timely.{queued}

-- A reply that tells of no packet's end in a queue.
abbrev pub IsQuiet : Reply → Type 0
IsQuiet (Queued at flow number) = ⊥
IsQuiet (Lost at flow) = ⊥
IsQuiet (Full at flow) = ⊥
IsQuiet _ = ⊤

pub command-quiet : (set : Settings) (queues : List ℕ) (command : Command) → IsQuiet (command_reply set queues command)
command-quiet set queues (Pipe number bw delay limit loss buckets mask) = tt
command-quiet set queues (Queue number pipe weight limit loss buckets mask) = by (is_some (set (ToPipe pipe)))
  where
    by : (b : Bool) → IsQuiet (cond b Configured NoSuchPipe)
    by true = tt
    by false = tt
command-quiet set queues (DeletePipe number) = by (is_some (set (ToPipe number))) (has_queues set queues number)
  where
    by : (b c : Bool) → IsQuiet (cond b (cond c PipeHasQueues Deleted) NoSuchPipe)
    by true true = tt
    by true false = tt
    by false c = tt
command-quiet set queues (DeleteQueue number) = by (is_some (set (ToQueue number)))
  where
    by : (b : Bool) → IsQuiet (cond b Deleted NoSuchQueue)
    by true = tt
    by false = tt

-- A call that is told more than Exhausted counts.
pub told-few : (rule : Rule) (calls : List Call) (c : Call) → reply rule calls c ≢ Exhausted → length calls < call_limit
told-few rule calls c told = ⊎_elim (λ many. absurd (told (ap (λ b. cond b Exhausted (counted_reply rule calls c)) many.0))) (λ few. few.1) (leb_tells call_limit (length calls))

-- Events that a call makes one of at most, each with the reply that tells it.
module _ (p : Event → Bool) (no_opening : (l : Link) → p (opened l) ≡ false) (no_start : (s : Start) → p (started s) ≡ false)
    (no_discard : (f : ℕ) → p (discarded f) ≡ false) (no_collect : (at : ℕ) → p (collected at) ≡ false) where
  module _ (q : Reply → Bool) (quiet : (r : Reply) → IsQuiet r → q r ≡ false) (one_lost : (at flow : ℕ) (link : Link) → p (lost link flow) ≡ q (Lost at flow))
      (one_full : (at flow : ℕ) (link : Link) → p (refused link flow) ≡ q (Full at flow))
      (one_queued : (at number : ℕ) (a : Accepted) → p (arrived a) ≡ q (Queued at a.stamped.flow number)) where
    count-reply : (r : Reply) (rs : List Reply) → count_by q (r ∷ rs) ≡ cond (q r) 1 0 + count_by q rs
    count-reply r rs = sum_by-cons (λ x. cond (q x) 1 0) r rs

    none-told : (r : Reply) → IsQuiet r → cond {A = ℕ} (q r) 1 0 ≡ 0
    none-told r h = ap {B = ℕ} (λ b. cond b 1 0) (quiet r h)

    same : (e : Event) (r : Reply) (trace : List Event) → p e ≡ q r → count_by p (e ∷ trace) ≡ count_by p trace + cond (q r) 1 0
    same e r trace is = let one = count-event p e trace in let as' : cond {A = ℕ} (p e) 1 0 ≡ cond (q r) 1 0 = ap {B = ℕ} (λ b. cond b 1 0) is in omega (arith, one, as')

    join-told : (set : Settings) (at number : ℕ) (a : Accepted) (trace : List Event) →
        count_by p (join set at a trace) ≡ count_by p trace + cond (q (Queued at a.stamped.flow number)) 1 0
    join-told set at number a trace = by (nat_le (free a.link trace) at)
      where
        one : count_by p (arrived a ∷ trace) ≡ count_by p trace + cond (q (Queued at a.stamped.flow number)) 1 0
        one = same (arrived a) (Queued at a.stamped.flow number) trace (one_queued at number a)

        by : (b : Bool) → count_by p (cond b (started (start_at set a.link a at) ∷ arrived a ∷ trace) (arrived a ∷ trace)) ≡ count_by p trace + cond (q (Queued at a.stamped.flow number)) 1 0
        by true = count-none p no_opening no_start no_discard no_collect (started (start_at set a.link a at)) (arrived a ∷ trace) (no_start (start_at set a.link a at)) ∙ one
        by false = one

    verdict-told : (set : Settings) (at : ℕ) (packet : Packet) (v : Verdict) (trace : List Event) →
        count_by p (after_verdict set at packet v trace) ≡ count_by p trace + cond (q (reply_to_verdict at v trace)) 1 0
    verdict-told set at packet no_target trace = let none = none-told (NoTarget at) tt in omega (arith, none)
    verdict-told set at packet (loses link flow) trace = same (lost link flow) (Lost at flow) trace (one_lost at flow link)
    verdict-told set at packet (refuses link flow) trace = same (refused link flow) (Full at flow) trace (one_full at flow link)
    verdict-told set at packet (takes link flow how) trace =
        let before = opening link at trace in
        let opens = opened-count p no_opening no_start no_discard no_collect (nat_eq (waiting link trace) 0 && nat_le (free link trace) at) link trace in
        let joins = join-told set at (accepted_count trace) (accept link packet flow how before) before in
        omega (arith, opens, joins)

    pub call-told : (rule : Rule) (calls : List Call) (c : Call) → count_by p (trace_of (c ∷ calls)) ≡ count_by p (trace_of calls) + cond (q (counted_reply rule calls c)) 1 0
    call-told rule calls (Configure command) =
        let still = command-count p no_opening no_start no_discard no_collect (reply_to_command calls command) command (keys calls) (trace_of calls) in
        let none = none-told (reply_to_command calls command) (command-quiet (settings calls) (queue_numbers calls) command) in
        omega (arith, still, none)
    call-told rule calls (Submit target packet moment) =
        let at = max (effective_moment calls) moment in
        let before = settled (settings calls) at (trace_of calls) in
        let still = settled-count p no_opening no_start no_discard no_collect (settings calls) at (trace_of calls) in
        let one = verdict-told (settings calls) at packet (verdict calls target packet before) before in
        omega (arith, still, one)
    call-told rule calls (Advance moment) =
        let still = settled-count p no_opening no_start no_discard no_collect (settings calls) (max (effective_moment calls) moment) (trace_of calls) in
        let none = none-told (counted_reply rule calls (Advance moment)) tt in
        omega (arith, still, none)
    call-told rule calls (Collect moment) =
        let at = max (effective_moment calls) moment in
        let still = settled-count p no_opening no_start no_discard no_collect (settings calls) at (trace_of calls) in
        let gathers = count-none p no_opening no_start no_discard no_collect (collected at) (settled (settings calls) at (trace_of calls)) (no_collect at) in
        let none = none-told (counted_reply rule calls (Collect moment)) tt in
        omega (arith, still, gathers, none)
    call-told rule calls Show = let none = none-told (counted_reply rule calls Show) tt in omega (arith, none)

    pub all-told : (rule : Rule) (calls : List Call) → length calls ≤ call_limit → count_by p (trace_of calls) ≡ count_by q (replies rule calls)
    all-told rule [] few = refl
    all-told rule (c ∷ calls) few =
        let rest = all-told rule calls (omega (arith, few)) in
        let one = call-told rule calls c in
        let here = count-reply (reply rule calls c) (replies rule calls) in
        let as' : cond {A = ℕ} (q (reply rule calls c)) 1 0 ≡ cond (q (counted_reply rule calls c)) 1 0 =
        ap {B = ℕ} (λ (r : Reply). cond (q r) 1 0) (not-exhausted rule calls c (omega (arith, few))) in
        omega (arith, rest, one, here, as')

pub quiet-queued : (r : Reply) → IsQuiet r → is_queued r ≡ false
quiet-queued (Queued at f number) h = absurd h
quiet-queued (Lost at f) h = absurd h
quiet-queued (Full at f) h = absurd h
quiet-queued _ h = refl

quiet-queued-of : (flow : ℕ) (r : Reply) → IsQuiet r → is_queued_of flow r ≡ false
quiet-queued-of flow (Queued at f number) h = absurd h
quiet-queued-of flow (Lost at f) h = absurd h
quiet-queued-of flow (Full at f) h = absurd h
quiet-queued-of flow _ h = refl

quiet-lost : (flow : ℕ) (r : Reply) → IsQuiet r → is_lost_of flow r ≡ false
quiet-lost flow (Queued at f number) h = absurd h
quiet-lost flow (Lost at f) h = absurd h
quiet-lost flow (Full at f) h = absurd h
quiet-lost flow _ h = refl

quiet-full : (flow : ℕ) (r : Reply) → IsQuiet r → is_full_of flow r ≡ false
quiet-full flow (Queued at f number) h = absurd h
quiet-full flow (Lost at f) h = absurd h
quiet-full flow (Full at f) h = absurd h
quiet-full flow _ h = refl

pub arrival-told : (rule : Rule) (calls : List Call) (c : Call) → accepted_count (trace_of (c ∷ calls)) ≡ accepted_count (trace_of calls) + cond (is_queued (counted_reply rule calls c)) 1 0
arrival-told = call-told is_arrival (λ l. refl) (λ s. refl) (λ f. refl) (λ at. refl) is_queued quiet-queued (λ at f link. refl) (λ at f link. refl) (λ at number a. refl)

pub queued-count : (rule : Rule) (calls : List Call) → length calls ≤ call_limit → accepted_count (trace_of calls) ≡ count_by is_queued (replies rule calls)
queued-count = all-told is_arrival (λ l. refl) (λ s. refl) (λ f. refl) (λ at. refl) is_queued quiet-queued (λ at f link. refl) (λ at f link. refl) (λ at number a. refl)

pub queued-of-count : (flow : ℕ) (rule : Rule) (calls : List Call) → length calls ≤ call_limit → count_by (is_arrival_of flow) (trace_of calls) ≡ count_by (is_queued_of flow) (replies rule calls)
queued-of-count flow = all-told (is_arrival_of flow) (λ l. refl) (λ s. refl) (λ f. refl) (λ at. refl) (is_queued_of flow) (quiet-queued-of flow)
    (λ at f link. refl) (λ at f link. refl) (λ at number a. refl)

pub lost-of-count : (flow : ℕ) (rule : Rule) (calls : List Call) → length calls ≤ call_limit → count_by (is_loss_of flow) (trace_of calls) ≡ count_by (is_lost_of flow) (replies rule calls)
lost-of-count flow = all-told (is_loss_of flow) (λ l. refl) (λ s. refl) (λ f. refl) (λ at. refl) (is_lost_of flow) (quiet-lost flow) (λ at f link. refl) (λ at f link. refl) (λ at number a. refl)

pub full-of-count : (flow : ℕ) (rule : Rule) (calls : List Call) → length calls ≤ call_limit → count_by (is_refusal_of flow) (trace_of calls) ≡ count_by (is_full_of flow) (replies rule calls)
full-of-count flow = all-told (is_refusal_of flow) (λ l. refl) (λ s. refl) (λ f. refl) (λ at. refl) (is_full_of flow) (quiet-full flow) (λ at f link. refl) (λ at f link. refl) (λ at number a. refl)

-- A packet that is queued is told how many were before it.
pub packets-are-numbered : PacketsAreNumbered
packets-are-numbered rule calls target packet moment at flow number e =
    let few = told-few rule calls (Submit target packet moment) (λ none. let t : Exhausted ≡ Queued at flow number = sym none ∙ e in cc) in
    (queued rule calls target packet moment at flow number e).1 ∙ queued-count rule calls (omega (arith, few))
