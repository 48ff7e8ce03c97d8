-- Worked examples: queues that share a pipe of 8 Mbit/s, on which a packet of 1,000 bytes takes 1 ms. `a` is a packet to
-- queue 1, of flow 0, and `b` one to queue 2, of flow 1. The prover computes the replies.
use Rattle.dn_types.proofs.Words.{Advance, Call, Collect, Configured, Delivered, List, Ordered, Queued, [], map, refl, shared, trace_of, virtual_time, ℕ, ◌++◌, ◌∷◌, ◌≡◌}
use Rattle.dn_types.proofs.ExampleWords.{Answered, Answers, ◌⇒◌, call_of, delivery, pipe, queue, to_queue}
use mathlib.Core.List.{reverse}

abbrev a : ℕ → Call
a moment = to_queue 1 moment

abbrev b : ℕ → Call
b moment = to_queue 2 moment

-- The pipe and the two queues, with their weights.
abbrev two_queues : ℕ → ℕ → List Answered
two_queues weight_a weight_b = (pipe 1 8000000 0 ⇒ Configured) ∷ (queue 1 1 weight_a ⇒ Configured) ∷ (queue 2 1 weight_b ⇒ Configured) ∷ []

abbrev five_packets : List Answered
five_packets = two_queues 1 3 ++
    (a 0 ⇒ Queued 0 0 0) ∷
    (a 0 ⇒ Queued 0 0 1) ∷
    (b 0 ⇒ Queued 0 1 2) ∷
    (b 0 ⇒ Queued 0 1 3) ∷
    (b 0 ⇒ Queued 0 1 4) ∷
    []

-- At 2 ms b's second packet has the lesser finish tag, but its start tag is above virtual time.
shares_by_weight : Answers Ordered (five_packets ++
    (Collect 10000000 ⇒ Delivered 10000000 (delivery 0 0 0 1000000 ∷ delivery 2 1 1000000 2000000 ∷ delivery 1 0 2000000 3000000 ∷ delivery 3 1 3000000 4000000 ∷ delivery 4 1 4000000 5000000 ∷ [])) ∷
    [])
shares_by_weight = refl

-- Virtual time after the packets of a list, settled up to the moment.
abbrev virtual_time_at : List Answered → ℕ → ℕ
virtual_time_at rows moment = virtual_time (shared 1) (trace_of (Advance moment ∷ reverse (map call_of rows)))

-- Virtual time after each of those picks.
virtual_time_of_shares_by_weight : map (virtual_time_at five_packets) (0 ∷ 1000000 ∷ 2000000 ∷ 3000000 ∷ 4000000 ∷ []) ≡ 65536000 ∷ 81920000 ∷ 98304000 ∷ 120149333 ∷ 141994666 ∷ []
virtual_time_of_shares_by_weight = refl

-- Equal tags: the lesser flow number goes first, though the other packet came first.
ties_by_flow_number : Answers Ordered (two_queues 1 1 ++
    (a 0 ⇒ Queued 0 0 0) ∷
    (b 0 ⇒ Queued 0 1 1) ∷
    (a 0 ⇒ Queued 0 0 2) ∷
    (Collect 10000000 ⇒ Delivered 10000000 (delivery 0 0 0 1000000 ∷ delivery 2 0 1000000 2000000 ∷ delivery 1 1 2000000 3000000 ∷ [])) ∷
    [])
ties_by_flow_number = refl

abbrev a_late_packet : List Answered
a_late_packet = two_queues 1 3 ++
    (a 0 ⇒ Queued 0 0 0) ∷
    (a 0 ⇒ Queued 0 0 1) ∷
    (b 0 ⇒ Queued 0 1 2) ∷
    (b 0 ⇒ Queued 0 1 3) ∷
    (a 3500000 ⇒ Queued 3500000 0 4) ∷
    []

-- No head is eligible at 4 ms until virtual time is raised to the start tag of a's third packet.
raised_virtual_time : Answers Ordered (a_late_packet ++
    (Collect 10000000 ⇒ Delivered 10000000 (delivery 0 0 0 1000000 ∷ delivery 2 1 1000000 2000000 ∷ delivery 1 0 2000000 3000000 ∷ delivery 3 1 3000000 4000000 ∷ delivery 4 0 4000000 5000000 ∷ [])) ∷
    [])
raised_virtual_time = refl

-- Virtual time before and after that pick.
virtual_time_of_raised_virtual_time : map (virtual_time_at a_late_packet) (3500000 ∷ 4000000 ∷ []) ≡ 120149333 ∷ 196608000 ∷ []
virtual_time_of_raised_virtual_time = refl

-- A new busy period begins at 10 ms: finish tags of the one before count no more.
a_new_busy_period : Answers Ordered (two_queues 1 1 ++
    (a 0 ⇒ Queued 0 0 0) ∷
    (a 0 ⇒ Queued 0 0 1) ∷
    (b 10000000 ⇒ Queued 10000000 1 2) ∷
    (b 10000000 ⇒ Queued 10000000 1 3) ∷
    (a 10000000 ⇒ Queued 10000000 0 4) ∷
    (Collect 20000000 ⇒ Delivered 20000000 (delivery 0 0 0 1000000 ∷ delivery 1 0 1000000 2000000 ∷ delivery 2 1 10000000 11000000 ∷
    delivery 4 0 11000000 12000000 ∷ delivery 3 1 12000000 13000000 ∷ [])) ∷
    [])
a_new_busy_period = refl

-- Weights act on later arrivals, and bandwidth on later starts.
later_settings : Answers Ordered (two_queues 1 1 ++
    (a 0 ⇒ Queued 0 0 0) ∷
    (a 0 ⇒ Queued 0 0 1) ∷
    (b 0 ⇒ Queued 0 1 2) ∷
    (queue 2 1 100 ⇒ Configured) ∷
    (pipe 1 16000000 0 ⇒ Configured) ∷
    (Collect 10000000 ⇒ Delivered 10000000 (delivery 0 0 0 1000000 ∷ delivery 1 0 1000000 1500000 ∷ delivery 2 1 1500000 2000000 ∷ [])) ∷
    [])
later_settings = refl
