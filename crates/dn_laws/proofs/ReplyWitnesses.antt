-- The laws of replies, of acceptance, of discards and of what stays at examples: what they ask for is there.
use Rattle.dn_laws.proofs.Words.{List, None, Some, Waits, WasDiscarded, [], arith, count_by, delivery, drop, key, leb-true, length, no_mask, pipe, queue, refl, sized, status, take, to_pipe}
use Rattle.dn_laws.proofs.Words.{to_queue, ℕ, ◌*◌, ◌++◌, ◌+◌, ◌<◌, ◌^◌, ◌∷◌, ◌≡◌, ◌≢◌, ◌≤◌, ◌⊎◌}
use Rattle.dn_laws.proofs.LawWords.{trace_of, effective_moment, settings, free, IsAccepted, IsDelete, reply, replies, HasStarted, IsDelivered, last_finish_tag, moment_told, is_queued, times_told, own}
use Rattle.dn_laws.proofs.LawWords.{shared, is_start_of, Accepted, Start, Call, Configure, Advance, Collect, Show, Command, Pipe, Queue, DeletePipe, DeleteQueue, Slots, NoSuchPipe, PipeHasQueues}
use Rattle.dn_laws.proofs.LawWords.{Deleted, Configured, Queued, Full, Delivered, Status, Exhausted, Ordered, ToPipe, ToQueue}
use Rattle.dn_laws.proofs.{Acceptance.arrivals-are-told, AtHome.packets-add-up, AtHome.shows-are-told, Comes.discards-are-deletes, Delivered.queued-packets-are-delivered, Fates.queued-packets-stay}
use Rattle.dn_laws.proofs.{Obeyed.obeys-as-told, Obeyed.clock-follows, Obeyed.starts-are-counted, QueuesRate.queues-share-the-rate, Seen.flows-were-told, Spares.commands-spare}
use Rattle.dn_laws.proofs.{Spares.packets-spare-tags, Tags.busy-periods-begin, ToldCommands.limit-is-counted, ToldCommands.replies-tell-the-clock, ToldCommands.clock-is-the-greatest}
use Rattle.dn_laws.proofs.{ToldCommands.commands-are-told, ToldCounts.packets-are-numbered, ToldDeliveries.told-once, ToldDeliveries.told-when-due}
use Rattle.dn_types.proofs.ExampleWords.{tuple}

abbrev narrow : Command
narrow = Pipe 1 8000000 0 (Slots 1) 0 None no_mask

abbrev two : List Call
two = to_pipe 1 0 ∷ to_pipe 1 0 ∷ Configure narrow ∷ []

answers : reply Ordered two Show ≢ Exhausted
answers = (limit-is-counted Ordered two Show).0 (omega arith)

-- The third is refused half a millisecond later.
refused : reply Ordered two (to_pipe 1 500000) ≡ Full 500000 0
refused = refl

its_moment : moment_told (reply Ordered two (to_pipe 1 500000)) ≡ Some 500000
its_moment = (replies-tell-the-clock Ordered two (to_pipe 1 500000) (omega arith)).0 tt

greatest : 7 ≤ effective_moment (Advance 3 ∷ Collect 7 ∷ two)
greatest = (clock-is-the-greatest (Advance 3 ∷ Collect 7 ∷ two)).0 (Advance 3 ∷ []) (Collect 7) two refl

moves_the_clock : effective_moment (to_pipe 1 500000 ∷ two) ≡ 500000
moves_the_clock = (clock-follows two).0 (ToPipe 1) (sized 1000) 500000

no_pipe : reply Ordered two (queue 1 2 1) ≡ NoSuchPipe
no_pipe = (commands-are-told Ordered two (Queue 1 2 1 (Slots 50) 0 None no_mask) (omega arith)).1 refl

has_queues : reply Ordered (queue 3 1 1 ∷ two) (Configure (DeletePipe 1)) ≡ PipeHasQueues
has_queues = (commands-are-told Ordered (queue 3 1 1 ∷ two) (DeletePipe 1) (omega arith)).1 tt (3, refl)

-- What is told Configured is in force, and is no longer once it is told Deleted.
in_force : settings (Configure narrow ∷ []) (ToPipe 1) ≡ Some narrow
in_force = (obeys-as-told Ordered [] (omega arith)).0 1 8000000 0 (Slots 1) 0 None no_mask refl

its_queue : settings (queue 3 1 1 ∷ two) (ToQueue 3) ≡ Some (Queue 3 1 1 (Slots 50) 0 None no_mask)
its_queue = (obeys-as-told Ordered two (omega arith)).1 3 1 1 (Slots 50) 0 None no_mask refl

pipe_gone : settings (Configure (DeletePipe 1) ∷ two) (ToPipe 1) ≡ None
pipe_gone = (obeys-as-told Ordered two (omega arith)).2 1 refl

queue_gone : settings (Configure (DeleteQueue 3) ∷ queue 3 1 1 ∷ two) (ToQueue 3) ≡ None
queue_gone = (obeys-as-told Ordered (queue 3 1 1 ∷ two) (omega arith)).3 3 refl

-- A millisecond later there is room, and the packet is the third to be queued.
the_third : 2 ≡ count_by is_queued (replies Ordered two)
the_third = packets-are-numbered Ordered two (ToPipe 1) (sized 1000) 1000000 1000000 0 2 refl

-- Both are delivered by a Collect at 2 ms, and the first by one at 1 ms.
delivered : replies Ordered (Collect 2000000 ∷ Collect 1000000 ∷ two)
    ≡ Delivered 2000000 (delivery 1 0 1000000 2000000 ∷ []) ∷ Delivered 1000000 (delivery 0 0 0 1000000 ∷ []) ∷ Queued 0 0 1 ∷ Queued 0 0 0 ∷ Configured ∷ []
delivered = refl

abbrev first : Accepted
first = record { packet = 0; link = own 1 0; stamped = record { flow = 0; len = 1000; weight = 1; start_tag = 0; finish_tag = 65536000 } }

abbrev its_start : Start
its_start = record { packet = first; moment = 0; transmission = 1000000; delay = 0 }

once : times_told 0 (replies Ordered (Collect 2000000 ∷ Collect 1000000 ∷ two)) ≤ 1
once = told-once Ordered 0 (Collect 2000000 ∷ Collect 1000000 ∷ two)

when_due : times_told 0 (replies Ordered (Collect 2000000 ∷ two)) ≡ 1
when_due =
    let t = trace_of (Collect 2000000 ∷ two) in
    told-when-due Ordered two 2000000 1000000 (take 3 t) (drop 4 t) its_start (omega arith) refl refl (leb-true 1000000 2000000 refl)

-- The second waits. Once the pipe is deleted it was discarded.
stays : let t = trace_of two in Waits 1 0 t ⊎ (WasDiscarded 1 0 t ⊎ HasStarted 1 0 t)
stays = queued-packets-stay Ordered [] (drop 1 two) (ToPipe 1) (sized 1000) 0 0 0 1 refl

-- A Collect at 2 ms has delivered it.
is_delivered : let all = Collect 2000000 ∷ two in Waits 1 0 (trace_of all) ⊎ (WasDiscarded 1 0 (trace_of all) ⊎ IsDelivered Ordered 1 0 all)
is_delivered = queued-packets-are-delivered Ordered [] (drop 1 two) (ToPipe 1) (sized 1000) 0 0 0 1 2000000 refl (omega arith)

abbrev deleted : List Call
deleted = Configure (DeletePipe 1) ∷ two

by_the_delete : IsDelete Ordered two (Configure (DeletePipe 1)) 0
by_the_delete = discards-are-deletes Ordered two (Configure (DeletePipe 1)) [] [] 0 (omega arith) refl

-- A slower pipe takes nothing from it.
spared : last_finish_tag (own 1 0) 0 (trace_of (pipe 1 1000 0 ∷ two)) ≡ 131072000
spared = ((commands-spare Ordered two (Pipe 1 1000 0 (Slots 50) 0 None no_mask) (omega arith) (λ (e : Configured ≡ Deleted). (absurd cc))).0 (own 1 0) 0).1

-- One started, none waits, and one was discarded.
sums : 2 ≡ 1 + 0 + 1
sums = packets-add-up deleted 0 (key (ToPipe 1) 1 no_mask (tuple 0 0 0 0 0)) refl

shown : reply Ordered (to_pipe 1 0 ∷ two) Show ≡ Status (status 0 (key (ToPipe 1) 1 no_mask (tuple 0 0 0 0 0)) 1 1000 0 1 1 0 ∷ [])
shown = refl

one_started : count_by (is_start_of 0) (trace_of deleted) ≡ 1
one_started = starts-are-counted 0 (trace_of deleted)

as_many : length (shows-are-told Ordered (to_pipe 1 0 ∷ two) (omega arith)).0 ≡ 1
as_many = (shows-are-told Ordered (to_pipe 1 0 ∷ two) (omega arith)).2

its_flow : 0 < 2 + 0 + 1
its_flow = flows-were-told Ordered (to_pipe 1 0 ∷ two) 0 (key (ToPipe 1) 1 no_mask (tuple 0 0 0 0 0)) (omega arith) refl

arrives : IsAccepted Ordered (drop 2 two) (to_pipe 1 0) first
arrives = let t = trace_of (drop 1 two) in arrivals-are-told Ordered (drop 2 two) (to_pipe 1 0) (take 1 t) (drop 2 t) first (omega arith) refl

abbrev both : List Call
both = Advance 1000000 ∷ to_queue 2 0 ∷ to_queue 1 0 ∷ queue 2 1 1 ∷ queue 1 1 1 ∷ []

abbrev accepted : ℕ → Accepted
accepted n = record { packet = n; link = shared 1; stamped = record { flow = n; len = 1000; weight = 1; start_tag = n * 65536000; finish_tag = n * 65536000 + 65536000 } }

abbrev start : ℕ → ℕ → Start
start n moment = record { packet = accepted n; moment = moment; transmission = 1000000; delay = 0 }

at_the_rate : 1000 * 8 * 10 ^ 9 + 0 * 8000000 ≤ 1000000 * 8000000
at_the_rate =
    let t = trace_of (both ++ (pipe 1 8000000 0 ∷ [])) in
    queues-share-the-rate both (pipe 1 8000000 0 ∷ []) 1 8000000 0 (Slots 50) 0 None no_mask [] (take 1 (drop 1 t)) (drop 3 t) (start 1 1000000) (start 0 0)
    (refl, (refl, (refl, (refl, (refl, refl))))) (omega arith) refl refl refl

abbrev apart : List Call
apart = to_pipe 2 0 ∷ pipe 2 8000000 0 ∷ two

tag_stays : last_finish_tag (own 1 0) 0 (trace_of apart) ≡ 131072000
tag_stays = packets-spare-tags Ordered (drop 1 apart) (ToPipe 2) (sized 1000) 0 (Pipe 2 8000000 0 (Slots 50) 0 None no_mask) 0 (Slots 50) 2 (own 1 0) 0 refl
    (refl, refl, refl) (λ (same : 1 ≡ 2). absurd (omega arith))

free_stays : free (own 1 0) (trace_of apart) ≡ 1000000
free_stays = refl

begins : free (own 2 1) (trace_of (drop 1 apart)) ≤ 0
begins = let t = trace_of apart in (busy-periods-begin (drop 1 apart) (to_pipe 2 0) (take 2 t) [] (own 2 1) refl).0
