-- Each law at the calls of a worked example, where it says something: its premises hold, and what it speaks of is there.
use Rattle.dn_laws.proofs.Words.{All, All-cons, All-nil, HasBoundedBytes, HasBoundedMoments, IsFirstEligible, IsInRange, List, None, Some, [], arith, count_by, counted, delivery, drop, is_some}
use Rattle.dn_laws.proofs.Words.{key, length, length-append, length-replicate, map, no_mask, own_entries, pipe, queue, refl, replicate, reverse, standing, status, take, to_pipe, to_queue, true, ℕ}
use Rattle.dn_laws.proofs.Words.{◌*◌, ◌++◌, ◌+◌, ◌-◌, ◌<◌, ◌^◌, ◌∷◌, ◌≡◌, ◌≤◌}
use Rattle.dn_laws.proofs.LawWords.{HasBoundedCounts, trace_of, call_limit, settings, delivery_of, given, undelivered, accepted_since, started_since, is_packet, start_count, given_count, IsLawful}
use Rattle.dn_laws.proofs.LawWords.{calls_of, free, last_due, replies, reply, link_heads, virtual_time, waiting, next_start, settled, Event, own, shared, backlog, Start, started, Stamped, pick, Call}
use Rattle.dn_laws.proofs.LawWords.{Advance, Collect, Show, Entry, Reply, Configured, Delivered, Exhausted, Queued, Status, Ordered, ToPipe}
use Rattle.dn_laws.proofs.{BoundedCounts.bounded-counts, PickLaws.pick-is-first, Shares.grows-by-work, Shares.pick-is-least, StartLaws.starts-the-pick}
use Rattle.dn_types.proofs.{BoundedReplies.bounded-bytes, BoundedReplies.bounded-moments, BoundedReplies.due-moments-bounded, Bridge.exhausted-changes-nothing, Bridge.replies-by-standing}
use Rattle.dn_types.proofs.{Dues.due-is-last, Dues.due-moments-never-fall, Dues.gives-once, Dues.gives-what-is-due, Dues.leaves-what-is-not-due, Giving.gives-started, Histories.own-entries-begin}
use Rattle.dn_types.proofs.{Histories.counts-up-to-the-limit, Histories.lawful-more, Histories.lawful-replies, Histories.own-entries-grow, Once.starts-once, Ordered.sends-one-at-a-time}
use Rattle.dn_types.proofs.{Ordered.starts-in-order, Picks.pick-some, Settled.settled-ends, TransmissionTime.transmission-is-least}
use Rattle.dn_types.proofs.ExampleWords.{tuple}

-- Two packets to queue 1 of weight 1 and three to queue 2 of weight 3, all at 0, newest first.
abbrev calls : List Call
calls = to_queue 2 0 ∷ to_queue 2 0 ∷ to_queue 2 0 ∷ to_queue 1 0 ∷ to_queue 1 0 ∷ queue 2 1 3 ∷ queue 1 1 1 ∷ pipe 1 8000000 0 ∷ []

abbrev before : List Event
before = trace_of (Advance 1000000 ∷ calls)

abbrev at_two : List Event
at_two = settled (settings calls) 2000000 before

-- At 2 ms two packets wait and none of them starts.
two_wait : waiting (shared 1) at_two ≡ 2
two_wait = refl

none_starts : next_start (settings calls) 2000000 (shared 1) at_two ≡ None
none_starts = settled-ends (settings calls) 2000000 (shared 1) before

-- The newest event is the start of a packet of queue 2 at 1 ms, at which the link is free of the packet before it.
abbrev newest : Start
newest = record {
  packet = record {
    packet = 2;
    link = shared 1;
    stamped = record { flow = 1; len = 1000; weight = 3; start_tag = 65536000; finish_tag = 87381333 };
  };
  moment = 1000000;
  transmission = 1000000;
  delay = 0;
}

starts_when_free : free (shared 1) (drop 1 before) ≤ 1000000
starts_when_free = sends-one-at-a-time (Advance 1000000 ∷ calls) [] (drop 1 before) newest refl

-- Of the three packets of queue 2 one has started and two wait.
one_started : length (started_since (shared 1) 1 before) ≡ 1
one_started = refl

in_order : accepted_since (shared 1) 1 before ≡ started_since (shared 1) 1 before ++ backlog (shared 1) 1 before
in_order = starts-in-order (Advance 1000000 ∷ calls) (shared 1) 1

it_started : start_count 2 before ≡ 1
it_started = refl

it_started_once : start_count 2 before ≤ 1
it_started_once = starts-once 2 (Advance 1000000 ∷ calls)

abbrev picked : Stamped
picked = record { flow = 0; len = 1000; weight = 1; start_tag = 65536000; finish_tag = 131072000 }

one_is_there : is_some (pick (virtual_time (shared 1) before) (link_heads (shared 1) before)) ≡ true
one_is_there = pick-some (virtual_time (shared 1) before) (link_heads (shared 1) before) (omega arith)

it_is_picked : pick (virtual_time (shared 1) before) (link_heads (shared 1) before) ≡ Some picked
it_is_picked = refl

it_is_first : IsFirstEligible (virtual_time (shared 1) before) (link_heads (shared 1) before) picked
it_is_first = pick-is-first (virtual_time (shared 1) before) (link_heads (shared 1) before) picked refl

-- What starts at 1 ms is the pick among what waits then.
it_is_started : pick (virtual_time (shared 1) (drop 1 before)) (link_heads (shared 1) (drop 1 before)) ≡ Some newest.packet.stamped
it_is_started = starts-the-pick calls (Advance 1000000) [] [] newest refl 1 refl

-- At 1 ms the first packets of both queues have the start tag 65536000, which virtual time has reached. That of queue 2 is
-- picked, and its finish tag is the lesser.
lesser_finish_tag : 87381333 ≤ 131072000
lesser_finish_tag = (pick-is-least (virtual_time (shared 1) (drop 1 before)) (link_heads (shared 1) (drop 1 before)) newest.packet.stamped refl 0 picked (omega arith) (omega arith)).0

-- The weights of both are 4 together, so its 1,000 bytes let virtual time grow by 250.
grown_by_250 : (81920000 * 4 ≤ 65536000 * 4 + 1000 * 65536) × (65536000 * 4 + 1000 * 65536 < (81920000 + 1) * 4)
grown_by_250 = grows-by-work (shared 1) (drop 1 before) newest refl (omega arith)

-- 8,000 bits at 300 Kbit/s
in_time : (1000 * 8 * 10 ^ 9 ≤ 26666667 * 300000) × ((t : ℕ) → 1000 * 8 * 10 ^ 9 ≤ t * 300000 → 26666667 ≤ t)
in_time = transmission-is-least 300000 1000 (omega arith)

-- A packet with a delay of 50 ms and one after it without.
abbrev two_delays : List Call
two_delays = pipe 1 8000000 0 ∷ to_pipe 1 0 ∷ pipe 1 8000000 50 ∷ []

-- The second packet is due with the first, and by its own delay it would be due at 3 ms.
due_with_the_first : last_due Ordered (own 1 0) (trace_of (to_pipe 1 2000000 ∷ two_delays)) ≡ 51000000
due_with_the_first = refl

abbrev without_delay : Start
without_delay = record {
  packet = record { packet = 1; link = own 1 0; stamped = record { flow = 0; len = 1000; weight = 1; start_tag = 65536000; finish_tag = 131072000 } };
  moment = 1000000;
  transmission = 1000000;
  delay = 0;
}

-- Its own due moment is then the last of its link.
it_is_the_last : (delivery_of Ordered without_delay 51000000).due ≡ last_due Ordered (own 1 0) (started without_delay ∷ trace_of two_delays)
it_is_the_last = due-is-last Ordered without_delay (trace_of two_delays)

never_falls : last_due Ordered (own 1 0) (trace_of two_delays) ≤ last_due Ordered (own 1 0) (trace_of (to_pipe 1 2000000 ∷ two_delays))
never_falls = due-moments-never-fall (own 1 0) (take 3 (trace_of (to_pipe 1 2000000 ∷ two_delays))) (trace_of two_delays)

abbrev collected_at_two : List Call
collected_at_two = Collect 2000000 ∷ calls

-- Packet 2 is given, and packet 1, which starts at 2 ms, is still to be given.
it_is_given : given_count Ordered 2 (trace_of collected_at_two) ≡ 1
it_is_given = refl

it_is_given_once : given_count Ordered 2 (trace_of (Collect 3000000 ∷ collected_at_two)) ≤ 1
it_is_given_once = gives-once Ordered 2 (Collect 3000000 ∷ collected_at_two)

it_is_left : count_by (is_packet 1) (undelivered Ordered (trace_of collected_at_two)) ≡ 1
it_is_left = refl

as_started : given_count Ordered 1 (trace_of collected_at_two) + count_by (is_packet 1) (undelivered Ordered (trace_of collected_at_two)) ≡ start_count 1 (trace_of collected_at_two)
as_started = gives-started Ordered 1 (trace_of collected_at_two)

given_when_due : All (λ d. d.due ≤ 2000000) (given Ordered 2000000 at_two)
given_when_due = gives-what-is-due Ordered 2000000 at_two

left_when_not_due : All (λ d. 2000000 < d.due) (undelivered Ordered (trace_of collected_at_two))
left_when_not_due = leaves-what-is-not-due Ordered 2000000 calls

abbrev entry : ℕ → Call → Reply → Entry
entry caller call reply = record { caller = caller; call = call; reply = reply }

abbrev history : List Entry
history = entry 0 (pipe 1 8000000 0) Configured ∷ entry 1 (to_pipe 1 0) (Queued 0 0 0) ∷ entry 0 (Collect 1000000) (Delivered 1000000 (delivery 0 0 0 1000000 ∷ [])) ∷ []

it_is_lawful : IsLawful Ordered history
it_is_lawful = (refl, (refl, (refl, tt)))

its_replies : replies Ordered (calls_of history) ≡ reverse (map (λ e. e.reply) history)
its_replies = lawful-replies Ordered history it_is_lawful

it_stays_lawful : IsLawful Ordered (history ++ entry 1 (to_pipe 1 2000000) (Queued 2000000 0 1) ∷ [])
it_stays_lawful = lawful-more Ordered history (entry 1 (to_pipe 1 2000000) (Queued 2000000 0 1)) it_is_lawful refl

one_own_entry_more : own_entries 0 history ≡ own_entries 0 (entry 0 (pipe 1 8000000 0) Configured ∷ entry 1 (to_pipe 1 0) (Queued 0 0 0) ∷ [])
    ++ entry 0 (Collect 1000000) (Delivered 1000000 (delivery 0 0 0 1000000 ∷ [])) ∷ []
one_own_entry_more = own-entries-grow 0 (entry 0 (pipe 1 8000000 0) Configured ∷ entry 1 (to_pipe 1 0) (Queued 0 0 0) ∷ [])
    (entry 0 (Collect 1000000) (Delivered 1000000 (delivery 0 0 0 1000000 ∷ [])))

no_own_entry : own_entries 1 [] ≡ []
no_own_entry = own-entries-begin 1

all_count : counted (Collect 2000000 ∷ calls) ≡ Collect 2000000 ∷ calls
all_count = counts-up-to-the-limit (Collect 2000000) calls

-- A pipe, and then so many calls that ask for the states of the flows.
shows : ℕ → List Call
shows count = replicate count Show ++ pipe 1 8000000 0 ∷ []

one_more : (count : ℕ) → length (shows count) ≡ count + 1
unfolding shows
one_more count = let all = length-append (replicate count Show) (pipe 1 8000000 0 ∷ []) in let first = length-replicate count Show in omega arith

as_many : call_limit ≤ length (shows (2 ^ 62 - 1))
as_many = let counts = one_more (2 ^ 62 - 1) in omega arith

-- After 2^62 calls a packet is answered Exhausted, and leaves all as it is. After the first of them alone it is Queued.
exhausted : (reply Ordered (shows (2 ^ 62 - 1)) (to_pipe 1 0) ≡ Exhausted) × (standing Ordered (to_pipe 1 0 ∷ shows (2 ^ 62 - 1)) ≡ standing Ordered (shows (2 ^ 62 - 1)))
exhausted = exhausted-changes-nothing Ordered (shows (2 ^ 62 - 1)) (to_pipe 1 0) as_many

not_yet : reply Ordered (pipe 1 8000000 0 ∷ []) (to_pipe 1 0) ≡ Queued 0 0 0
not_yet = refl

-- A lowered clock changes nothing: the same calls, made at other moments before the greatest.
abbrev advanced : ℕ → List Call
advanced moment = Advance moment ∷ Advance 5000000 ∷ pipe 1 8000000 0 ∷ []

stands_the_same : standing Ordered (advanced 1000000) ≡ standing Ordered (advanced 2000000)
stands_the_same = refl

replies_the_same : reply Ordered (advanced 1000000) (to_pipe 1 0) ≡ reply Ordered (advanced 2000000) (to_pipe 1 0)
replies_the_same = (replies-by-standing Ordered (advanced 1000000) (advanced 2000000) refl (to_pipe 1 0)).0

-- A packet to a pipe of 1 Kbit/s with a delay of an hour, sent twice at the last moment of the clock.
abbrev latest : List Call
latest = to_pipe 1 (2 ^ 62) ∷ to_pipe 1 (2 ^ 62) ∷ pipe 1 1000 3600000 ∷ []

latest_in_range : All IsInRange latest
latest_in_range =
    let one = pipe 1 1000 3600000 ∷ [] in
    let two = to_pipe 1 (2 ^ 62) ∷ one in
    let first = All-cons IsInRange (pipe 1 1000 3600000) [] (omega arith, omega arith) (All-nil IsInRange) in
    let second = All-cons IsInRange (to_pipe 1 (2 ^ 62)) one (omega arith, omega arith) first in
    All-cons IsInRange (to_pipe 1 (2 ^ 62)) two (omega arith, omega arith) second

-- The first of them starts then, and is due after it.
due_later : undelivered Ordered (trace_of latest) ≡ delivery 0 0 4611686018427387904 4611689626427387904 ∷ []
due_later = refl

due_in_time : All (λ d. (d.start ≤ 2 ^ 62) × (d.due < 2 ^ 63)) (undelivered Ordered (trace_of latest))
due_in_time = due-moments-bounded Ordered latest latest_in_range

answered_in_time : HasBoundedMoments (reply Ordered latest (Collect (2 ^ 62)))
answered_in_time = bounded-moments Ordered latest (Collect (2 ^ 62)) latest_in_range (omega arith)

-- The second waits.
a_thousand_bytes : reply Ordered latest Show ≡ Status (status 0 (key (ToPipe 1) 1 no_mask (tuple 0 0 0 0 0)) 1 1000 0 0 1 0 ∷ [])
a_thousand_bytes = refl

few_bytes : HasBoundedBytes (reply Ordered latest Show)
few_bytes = bounded-bytes Ordered latest Show latest_in_range

few_counts : HasBoundedCounts (reply Ordered latest Show)
few_counts = bounded-counts Ordered latest Show
