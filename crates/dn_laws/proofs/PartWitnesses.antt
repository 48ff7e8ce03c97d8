-- The laws of parts at examples: what they speak of is there, and the numbers differ.
use Rattle.dn_laws.proofs.Words.{All, List, None, Option, Some, [], ap, arith, delivery, false, filter, key, length, map, mask, nat_eq, nat_le, nat_tests, no_mask, packet, pipe, queue, refl}
use Rattle.dn_laws.proofs.Words.{slice_get, status, sym, take, ten, to_pipe, to_queue, true, ℕ, ◌++◌, ◌∷◌, ◌≡◌, ◌≤◌}
use Rattle.dn_laws.proofs.LawWords.{trace_of, call_limit, settings, given, Treatment, treatment, keys, FlowKey, Choice, of_pipe, calls_on, is_flow_on, part_of, own_calls, replies, reply_on, is_told}
use Rattle.dn_laws.proofs.LawWords.{Call, Configure, Submit, Advance, Collect, Show, Pipe, DeleteQueue, Slots, Reply, Configured, Deleted, Queued, Full, Advanced, Delivered, Status, Ordered, ToPipe}
use Rattle.dn_laws.proofs.LawWords.{ToQueue}
use Rattle.dn_laws.proofs.{Advances.advances-are-no-more, PartCalls.other-links-change-nothing, PartReplays.agreeing-calls-agree, PartReplays.replays-fall-apart, PartSettings.commands-act-by-force}
use Rattle.dn_laws.proofs.{PartSettings.parts-rest-on-their-pipe, PartsWhole.parts-are-whole, PartReplies.other-links-change-no-reply}
use Rattle.dn_types.proofs.ExampleWords.{tuple}

abbrev mixed : List Call
mixed =
    Show ∷ Collect 100000000 ∷ Configure (DeleteQueue 3) ∷ to_queue 3 1500000 ∷ to_queue 3 1500000 ∷ queue 3 2 4 ∷ to_pipe 2 1000000 ∷ to_queue 3 0 ∷
    to_queue 3 0 ∷ to_pipe 1 0 ∷ to_pipe 2 0 ∷ to_pipe 1 0
    ∷ queue 3 1 1 ∷ pipe 2 8000000 10 ∷ pipe 1 1000000 0 ∷ []

-- The fast pipe's packets are numbered 1, 5, 6 and 7 in all, and its flows 1 and 3. Of its own they are the first.
abbrev on_the_fast : List Reply
on_the_fast =
    Status (status 0 (key (ToPipe 2) 2 no_mask (tuple 0 0 0 0 0)) 0 0 0 0 2 0 ∷ status 1 (key (ToQueue 3) 2 no_mask (tuple 0 0 0 0 0)) 0 0 0 0 1 1 ∷ [])
    ∷ Delivered 100000000 (delivery 0 0 0 11000000 ∷ delivery 1 0 1000000 12000000 ∷ delivery 2 1 1500000 12500000 ∷ [])
    ∷ Deleted ∷ Queued 1500000 1 3 ∷ Queued 1500000 1 2 ∷ Configured ∷ Queued 1000000 0 1 ∷ Advanced 0 ∷ Advanced 0 ∷ Advanced 0 ∷ Queued 0 0 0 ∷ Advanced 0 ∷ Configured ∷ Configured ∷ Configured ∷ []

alone : replies Ordered (calls_on (of_pipe 2) mixed) ≡ on_the_fast
alone = refl

among_others : map (reply_on (of_pipe 2) mixed) (replies Ordered mixed) ≡ on_the_fast
among_others = refl

the_same : replies Ordered (calls_on (of_pipe 2) mixed) ≡ map (reply_on (of_pipe 2) mixed) (replies Ordered mixed)
the_same = other-links-change-no-reply Ordered (of_pipe 2) mixed

the_same_trace : trace_of (calls_on (of_pipe 1) mixed) ≡ part_of (of_pipe 1) mixed
the_same_trace = other-links-change-nothing (of_pipe 1) mixed

abbrev by_source : Call
by_source = Configure (Pipe 1 8000000 0 (Slots 1) 0 None (mask 4294967295 0 0 0 0))

abbrev from_the : ℕ → ℕ → Call
from_the host moment = Submit (ToPipe 1) (packet (tuple (ten 0 host) (ten 0 9) 17 1000 2000) 1000 0) moment

abbrev replay : List Call
replay = Collect 100000000 ∷ from_the 2 500000 ∷ from_the 3 500000 ∷ from_the 3 500000 ∷ from_the 2 0 ∷ from_the 3 0 ∷ by_source ∷ []

-- The flow of one address, and no shared link.
abbrev of_host : ℕ → Choice
of_host host = record { own_flow = λ k. nat_eq k.tuple.src (ten 0 host); shared_link = λ number. false }

abbrev told_alone : List Reply
told_alone = Delivered 100000000 (delivery 0 0 0 1000000 ∷ delivery 1 0 1000000 2000000 ∷ []) ∷ Queued 500000 0 1 ∷ Queued 0 0 0 ∷ Configured ∷ []

own_alone : replies Ordered (own_calls (of_host 2) replay) ≡ told_alone
own_alone = refl

own_among_others : filter is_told (map (reply_on (of_host 2) replay) (replies Ordered replay)) ≡ told_alone
own_among_others = refl

falls_apart : replies Ordered (own_calls (of_host 2) replay) ≡ filter is_told (map (reply_on (of_host 2) replay) (replies Ordered replay))
falls_apart = replays-fall-apart Ordered (of_host 2) replay tt few
  where
    few : length replay ≤ call_limit
    few = let h : nat_le (length replay) call_limit ≡ true = refl in grind (arith, nat_tests)

-- The other address's third packet is refused: its queue holds one.
refused : replies Ordered (own_calls (of_host 3) replay)
    ≡ Delivered 100000000 (delivery 0 0 0 1000000 ∷ delivery 1 0 1000000 2000000 ∷ []) ∷ Full 500000 0 ∷ Queued 500000 0 1 ∷ Queued 0 0 0 ∷ Configured ∷ []
refused = refl

no_more : trace_of (from_the 2 500000 ∷ Advance 400000 ∷ by_source ∷ []) ≡ trace_of (from_the 2 500000 ∷ by_source ∷ [])
no_more = advances-are-no-more (by_source ∷ []) 400000 (from_the 2 500000) tt (let h : nat_le 400000 500000 ≡ true = refl in grind (arith, nat_tests))

abbrev both_pipes : List Call
both_pipes = queue 7 2 3 ∷ pipe 2 1000000 9 ∷ pipe 1 8000000 0 ∷ []

abbrev one_pipe : List Call
one_pipe = pipe 1 8000000 0 ∷ []

abbrev two_packets : List Call
two_packets = Collect 100000000 ∷ to_pipe 1 500000 ∷ to_pipe 1 0 ∷ []

abbrev carrier : Option Treatment → ℕ
carrier None = 0
carrier (Some how) = how.pipe

on_the_first : (how : Treatment) → treatment (settings both_pipes (ToPipe 1)) ≡ Some how → how.pipe ≡ 1
on_the_first how e = sym (ap carrier e)

rests_on_its_pipe : take 3 (replies Ordered (two_packets ++ both_pipes)) ≡ take 3 (replies Ordered (two_packets ++ one_pipe))
rests_on_its_pipe = parts-rest-on-their-pipe Ordered 1 both_pipes one_pipe two_packets tt tt refl (refl, on_the_first, (refl, on_the_first, tt)) few less
  where
    few : length (two_packets ++ both_pipes) ≤ call_limit
    few = let h : nat_le (length (two_packets ++ both_pipes)) call_limit ≡ true = refl in grind (arith, nat_tests)

    less : length (two_packets ++ one_pipe) ≤ call_limit
    less = let h : nat_le (length (two_packets ++ one_pipe)) call_limit ≡ true = refl in grind (arith, nat_tests)

is_told_so : take 3 (replies Ordered (two_packets ++ one_pipe)) ≡ Delivered 100000000 (delivery 0 0 0 1000000 ∷ delivery 1 0 1000000 2000000 ∷ []) ∷ Queued 500000 0 1 ∷ Queued 0 0 0 ∷ []
is_told_so = refl

abbrev on_two : List Call
on_two = to_pipe 2 0 ∷ to_pipe 1 0 ∷ both_pipes

is_whole : All (λ d. (k : FlowKey) × (slice_get (keys on_two) d.flow ≡ Some k)
    × ((number : ℕ) → is_flow_on (of_pipe number) (keys on_two) d.flow ≡ nat_eq k.pipe number)) (given Ordered 100000000 (trace_of on_two))
is_whole = parts-are-whole Ordered on_two 100000000

two_given : given Ordered 100000000 (trace_of on_two) ≡ delivery 0 0 0 1000000 ∷ delivery 1 1 0 17000000 ∷ []
two_given = refl

on_the_second : is_flow_on (of_pipe 2) (keys on_two) 1 ≡ true
on_the_second = refl

not_on_the_first : is_flow_on (of_pipe 1) (keys on_two) 1 ≡ false
not_on_the_first = refl

abbrev on_two_else : List Call
on_two_else = to_pipe 2 0 ∷ to_queue 9 0 ∷ both_pipes

agree : (part_of (of_pipe 2) on_two ≡ part_of (of_pipe 2) on_two_else)
    × (map (reply_on (of_pipe 2) on_two) (replies Ordered on_two) ≡ map (reply_on (of_pipe 2) on_two_else) (replies Ordered on_two_else))
agree = agreeing-calls-agree Ordered (of_pipe 2) on_two on_two_else refl

abbrev with_it : List Call
with_it = to_pipe 1 500000 ∷ pipe 2 1000000 9 ∷ to_pipe 1 0 ∷ pipe 1 8000000 0 ∷ []

abbrev without_it : List Call
without_it = to_pipe 1 500000 ∷ Show ∷ to_pipe 1 0 ∷ pipe 1 8000000 0 ∷ []

by_force : part_of (of_pipe 1) with_it ≡ part_of (of_pipe 1) without_it
by_force =
    commands-act-by-force 1 with_it without_it
    ((refl, refl, λ how e. sym (ap carrier e)), refl, refl, (tt, refl, refl, ((refl, refl, λ how e. sym (ap carrier e)), refl, refl, (tt, refl, refl, tt))))

-- The beginning of a busy period, an arrival and its start, and an arrival that waits.
four_events : length (part_of (of_pipe 1) with_it) ≡ 4
four_events = refl
