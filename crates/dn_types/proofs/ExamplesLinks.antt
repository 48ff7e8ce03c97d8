-- Worked examples: the clock, links, limits, loss, flows and due moments. The prover computes the replies.
use Rattle.dn_types.proofs.Words.{Advance, Advanced, Call, Collect, Configure, Configured, Delivered, Free, Full, Kbytes, Limit, Lost, None, Ordered, Pipe, Queued, Show, Slots, Status, Submit, []}
use Rattle.dn_types.proofs.Words.{refl, ℕ, ◌∷◌}
use Rattle.dn_types.proofs.ExampleWords.{Answers, ◌⇒◌, delivery, key, mask, no_mask, packet, pipe, sized, status, ten, to_pipe, tuple, worded}
use Rattle.dn_types.specs.declared.target.Target.TheVariants.{Pipe as ToPipe}

-- 8,000 bits at 300 Kbit/s take 26,666,667 ns, rounded up, and then come 50 ms of delay.
one_packet_with_delay : Answers Ordered (
    (pipe 1 300000 50 ⇒ Configured) ∷
    (to_pipe 1 0 ⇒ Queued 0 0 0) ∷
    (Collect 100000000 ⇒ Delivered 100000000 (delivery 0 0 0 76666667 ∷ [])) ∷
    [])
one_packet_with_delay = refl

-- `pipe 1 config bw 8Mbit/s` with a limit: a packet of 1,000 bytes takes 1 ms.
abbrev limited : Limit → Call
limited limit = Configure (Pipe 1 8000000 0 limit 0 None no_mask)

-- The second packet starts when the link is free of the first, so the fourth finds an empty queue.
a_full_queue : Answers Ordered (
    (limited (Slots 1) ⇒ Configured) ∷
    (to_pipe 1 0 ⇒ Queued 0 0 0) ∷
    (to_pipe 1 0 ⇒ Queued 0 0 1) ∷
    (to_pipe 1 0 ⇒ Full 0 0) ∷
    (to_pipe 1 1000000 ⇒ Queued 1000000 0 2) ∷
    (Collect 10000000 ⇒ Delivered 10000000 (delivery 0 0 0 1000000 ∷ delivery 1 0 1000000 2000000 ∷ delivery 2 0 2000000 3000000 ∷ [])) ∷
    [])
a_full_queue = refl

-- The state of the flow before that Collect.
a_status : Answers Ordered (
    (limited (Slots 1) ⇒ Configured) ∷
    (to_pipe 1 0 ⇒ Queued 0 0 0) ∷
    (to_pipe 1 0 ⇒ Queued 0 0 1) ∷
    (to_pipe 1 0 ⇒ Full 0 0) ∷
    (to_pipe 1 1000000 ⇒ Queued 1000000 0 2) ∷
    (Show ⇒ Status (status 0 (key (ToPipe 1) 1 no_mask (tuple 0 0 0 0 0)) 1 1000 0 1 2 0 ∷ [])) ∷
    [])
a_status = refl

abbrev of_bytes : ℕ → Call
of_bytes len = Submit (ToPipe 1) (sized len) 0

-- The first packet is under way. 1,024 bytes queued aren't above the limit of 1,024, and 1,025 are.
a_byte_limit : Answers Ordered (
    (limited (Kbytes 1) ⇒ Configured) ∷
    (of_bytes 1000 ⇒ Queued 0 0 0) ∷
    (of_bytes 512 ⇒ Queued 0 0 1) ∷
    (of_bytes 512 ⇒ Queued 0 0 2) ∷
    (of_bytes 1 ⇒ Queued 0 0 3) ∷
    (of_bytes 1 ⇒ Full 0 0) ∷
    [])
a_byte_limit = refl

-- A call with an earlier moment counts as made at the effective moment.
the_clock_never_goes_back : Answers Ordered (
    (pipe 1 8000000 0 ⇒ Configured) ∷
    (Advance 9000000 ⇒ Advanced 9000000) ∷
    (to_pipe 1 5000000 ⇒ Queued 9000000 0 0) ∷
    (Collect 0 ⇒ Delivered 9000000 []) ∷
    (Collect 10000000 ⇒ Delivered 10000000 (delivery 0 0 9000000 10000000 ∷ [])) ∷
    [])
the_clock_never_goes_back = refl

-- ---- Loss and flows

abbrev losing : ℕ → Call
losing loss = Configure (Pipe 1 0 0 (Slots 50) loss None no_mask)

abbrev with_word : ℕ → Call
with_word word = Submit (ToPipe 1) (worded word) 0

-- The low 31 bits of the word decide: half of all packets, all of them, and none.
loss_by_word : Answers Ordered (
    (losing 1073741824 ⇒ Configured) ∷
    (with_word 1073741823 ⇒ Lost 0 0) ∷
    (with_word 2147483648 ⇒ Lost 0 0) ∷
    (with_word 1073741824 ⇒ Queued 0 0 0) ∷
    (with_word 3221225472 ⇒ Queued 0 0 1) ∷
    (losing 2147483648 ⇒ Configured) ∷
    (with_word 4294967295 ⇒ Lost 0 0) ∷
    (losing 0 ⇒ Configured) ∷
    (with_word 0 ⇒ Queued 0 0 2) ∷
    [])
loss_by_word = refl

-- `mask dst-ip 0x000000ff`, with a loss rate
abbrev by_last_byte : ℕ → Call
by_last_byte loss = Configure (Pipe 1 8000000 0 (Slots 50) loss None (mask 0 255 0 0 0))

-- A packet to 10.x.0.y.
abbrev to_host : ℕ → ℕ → ℕ → Call
to_host x y moment = Submit (ToPipe 1) (packet (tuple (ten 0 1) (ten x y) 17 1000 2000) 1000 0) moment

-- Each flow has a link of its own, and a lost packet makes its flow.
flows_by_mask : Answers Ordered (
    (by_last_byte 0 ⇒ Configured) ∷
    (to_host 0 1 0 ⇒ Queued 0 0 0) ∷
    (to_host 1 1 0 ⇒ Queued 0 0 1) ∷
    (to_host 0 2 0 ⇒ Queued 0 1 2) ∷
    (Collect 2000000 ⇒ Delivered 2000000 (delivery 0 0 0 1000000 ∷ delivery 2 1 0 1000000 ∷ delivery 1 0 1000000 2000000 ∷ [])) ∷
    (by_last_byte 2147483648 ⇒ Configured) ∷
    (to_host 0 3 2000000 ⇒ Lost 2000000 2) ∷
    (by_last_byte 0 ⇒ Configured) ∷
    (to_host 0 4 2000000 ⇒ Queued 2000000 3 3) ∷
    (to_host 0 3 2000000 ⇒ Queued 2000000 2 4) ∷
    [])
flows_by_mask = refl

-- ---- Due moments

-- A packet with 50 ms of delay, and one after it without. No packet is due before the one ahead of it on its link.
a_link_keeps_its_order : Answers Ordered (
    (pipe 1 8000000 50 ⇒ Configured) ∷
    (to_pipe 1 0 ⇒ Queued 0 0 0) ∷
    (pipe 1 8000000 0 ⇒ Configured) ∷
    (to_pipe 1 2000000 ⇒ Queued 2000000 0 1) ∷
    (Collect 3000000 ⇒ Delivered 3000000 []) ∷
    (Collect 51000000 ⇒ Delivered 51000000 (delivery 0 0 0 51000000 ∷ delivery 1 0 2000000 51000000 ∷ [])) ∷
    (Collect 60000000 ⇒ Delivered 60000000 []) ∷
    [])
a_link_keeps_its_order = refl

-- By the rule Free the later packet overtakes the other.
a_link_keeps_no_order_by_free : Answers Free (
    (pipe 1 8000000 50 ⇒ Configured) ∷
    (to_pipe 1 0 ⇒ Queued 0 0 0) ∷
    (pipe 1 8000000 0 ⇒ Configured) ∷
    (to_pipe 1 2000000 ⇒ Queued 2000000 0 1) ∷
    (Collect 3000000 ⇒ Delivered 3000000 (delivery 1 0 2000000 3000000 ∷ [])) ∷
    (Collect 51000000 ⇒ Delivered 51000000 (delivery 0 0 0 51000000 ∷ [])) ∷
    (Collect 60000000 ⇒ Delivered 60000000 []) ∷
    [])
a_link_keeps_no_order_by_free = refl

-- The order is kept for each link, and not over all links.
order_is_per_link : Answers Ordered (
    (pipe 1 8000000 50 ⇒ Configured) ∷
    (pipe 2 8000000 0 ⇒ Configured) ∷
    (to_pipe 1 0 ⇒ Queued 0 0 0) ∷
    (to_pipe 2 0 ⇒ Queued 0 1 1) ∷
    (Collect 51000000 ⇒ Delivered 51000000 (delivery 1 1 0 1000000 ∷ delivery 0 0 0 51000000 ∷ [])) ∷
    [])
order_is_per_link = refl
