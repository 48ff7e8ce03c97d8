-- Each law of waiting at an example: its premises hold, and no bound is loose.
use Rattle.dn_laws.proofs.Words.{All, All-cons, All-nil, List, None, [], delivery, drop, leb-true, max, no_mask, pipe, queue, refl, sized, take, to_pipe, to_queue, ℕ, ◌*◌, ◌++◌, ◌+◌, ◌-◌, ◌^◌}
use Rattle.dn_laws.proofs.Words.{◌∷◌, ◌≡◌, ◌≤◌}
use Rattle.dn_laws.proofs.LawWords.{trace_of, reply, own, Accepted, Start, Event, arrived, started, shared, starting, ahead, free_from, IsAtMost, Call, Configure, Advance, Collect, Command, Pipe}
use Rattle.dn_laws.proofs.LawWords.{Delivery, Limit, Slots, Kbytes, Queued, Full, Delivered, Ordered, ToQueue}
use Rattle.dn_laws.proofs.DelayBound.{slots-bound-the-delay, kbytes-bound-the-delay}
use Rattle.dn_laws.proofs.Pauses.{links-make-no-pause}
use Rattle.dn_laws.proofs.WaitBounds.{slots-bound-the-wait, kbytes-bound-the-wait}
use Rattle.dn_laws.proofs.Waits.{waits-for-those-ahead, wait-is-known}

abbrev by : Limit → Command
by limit = Pipe 1 8000000 50 limit 0 None no_mask

abbrev two : Limit → List Call
two limit = to_pipe 1 0 ∷ to_pipe 1 0 ∷ Configure (by limit) ∷ []

abbrev third : Limit → List Call
third limit = to_pipe 1 0 ∷ two limit

it_is_accepted : reply Ordered (two (Slots 2)) (to_pipe 1 0) ≡ Queued 0 0 2
it_is_accepted = refl

the_next_is_not : reply Ordered (third (Slots 2)) (to_pipe 1 0) ≡ Full 0 0
the_next_is_not = refl

abbrev numbered : ℕ → ℕ → ℕ → Accepted
numbered number start_tag finish_tag = record { packet = number; link = own 1 0; stamped = record { flow = 0; len = 1000; weight = 1; start_tag = start_tag; finish_tag = finish_tag } }

abbrev start : ℕ → ℕ → ℕ → Start
start number moment transmission = record { packet = numbered number (number * 65536000) ((number + 1) * 65536000); moment = moment; transmission = transmission; delay = 50000000 }

-- The second is ahead of it, and the link sends the first until 1 ms.
one_is_ahead : ahead 1 0 0 (two (Slots 2)) ≡ numbered 1 65536000 131072000 ∷ []
one_is_ahead = refl

sends_the_first : free_from 1 0 0 (two (Slots 2)) ≡ 1000000
sends_the_first = refl

abbrev stretch : ℕ → List Event
stretch time = started (start 1 1000000 time) ∷ arrived (numbered 2 131072000 196608000) ∷ []

waits : (starting (own 1 0) (stretch 1000000) ≡ numbered 1 65536000 131072000 ∷ []) × (2000000 ≡ max 0 1000000 + 1000000)
waits = waits-for-those-ahead Ordered (Advance 2000000 ∷ []) (two (Slots 2)) 1 (sized 1000) 0 0 0 2 [] (stretch 1000000) (start 2 2000000 1000000) refl refl refl

is_known : 2000000 ≡ max 0 1000000 + 1000000
is_known = wait-is-known Ordered (Advance 2000000 ∷ []) (two (Slots 2)) 1 8000000 50 (Slots 2) 0 None no_mask (sized 1000) 0 0 0 2 [] (stretch 1000000 ++ trace_of (two (Slots 2)))
    (start 2 2000000 1000000) (refl, refl) refl refl refl

-- The pipe is slowed to 1 Mbit/s after the acceptance, so that the second takes 8 ms.
abbrev slowed : Call
slowed = Configure (Pipe 1 1000000 50 (Slots 2) 0 None no_mask)

waits_longer : (starting (own 1 0) (stretch 8000000) ≡ numbered 1 65536000 131072000 ∷ []) × (9000000 ≡ max 0 1000000 + 8000000)
waits_longer = waits-for-those-ahead Ordered (Advance 9000000 ∷ slowed ∷ []) (two (Slots 2)) 1 (sized 1000) 0 0 0 2 [] (stretch 8000000) (start 2 9000000 8000000) refl refl refl

abbrev queued : List Call
queued = to_queue 2 0 ∷ to_queue 2 0 ∷ queue 1 1 1 ∷ queue 2 1 1 ∷ pipe 1 8000000 50 ∷ []

abbrev all : List Event
all = trace_of (Advance 3000000 ∷ to_queue 1 0 ∷ queued)

abbrev last : Start
last = record {
  packet = record {
    packet = 2;
    link = shared 1;
    stamped = record { flow = 1; len = 1000; weight = 1; start_tag = 65536000; finish_tag = 131072000 };
  };
  moment = 2000000;
  transmission = 1000000;
  delay = 50000000;
}

no_pause : 2000000 ≡ max 0 1000000 + 1000000
no_pause = links-make-no-pause Ordered (Advance 3000000 ∷ []) queued (ToQueue 1) (sized 1000) 0 0 1 2 [] (take 2 (drop 1 all)) last refl refl refl

all_short : (limit : Limit) → All (IsAtMost 1 1000) (third limit)
all_short limit =
    All-cons (IsAtMost 1 1000) (to_pipe 1 0) (two limit) (λ e. leb-true 1000 1000 refl)
    (All-cons (IsAtMost 1 1000) (to_pipe 1 0) (to_pipe 1 0 ∷ Configure (by limit) ∷ []) (λ e. leb-true 1000 1000 refl)
    (All-cons (IsAtMost 1 1000) (to_pipe 1 0) (Configure (by limit) ∷ []) (λ e. leb-true 1000 1000 refl)
    (All-cons (IsAtMost 1 1000) (Configure (by limit)) [] tt (All-nil (IsAtMost 1 1000)))))

by_slots : 2000000 ≤ max 0 1000000 + (2 - 1) * 1000000
by_slots = slots-bound-the-wait Ordered (Advance 2000000 ∷ []) (two (Slots 2)) 1 8000000 50 2 0 None no_mask (sized 1000) 0 0 0 2 1000 [] (stretch 1000000 ++ trace_of (two (Slots 2)))
    (start 2 2000000 1000000) (refl, refl) refl refl refl
    (All-cons (λ (p : Accepted). p.stamped.len ≤ 1000) (numbered 1 65536000 131072000) [] (leb-true 1000 1000 refl) (All-nil (λ (p : Accepted). p.stamped.len ≤ 1000)))

abbrev delivered : List Delivery
delivered = delivery 0 0 0 51000000 ∷ delivery 1 0 1000000 52000000 ∷ delivery 2 0 2000000 53000000 ∷ []

they_are_delivered : reply Ordered (third (Slots 2)) (Collect 60000000) ≡ Delivered 60000000 delivered
they_are_delivered = refl

-- It starts after two transmissions and is due after three and the delay.
soon : All (λ d. d.packet ≡ 2 → (d.start ≤ 0 + 2 * 1000000) × (d.due ≤ 0 + (2 + 1) * 1000000 + 50 * 10 ^ 6)) delivered
soon = slots-bound-the-delay Ordered [] (to_pipe 1 0 ∷ to_pipe 1 0 ∷ []) (Configure (by (Slots 2)) ∷ []) 1 8000000 50 2 0 None no_mask (sized 1000) 0 0 0 2 1000 60000000 60000000 delivered
    (refl, (refl, refl)) refl (leb-true 0 0 refl) (all_short (Slots 2)) refl refl

-- With 1,024 bytes in the place of two packets the same happens: 1,000 bytes are ahead of the third.
by_kbytes : 2000000 ≤ max 0 1000000 + 1024000 + 1
by_kbytes = kbytes-bound-the-wait Ordered (Advance 2000000 ∷ []) (two (Kbytes 1)) 1 8000000 50 1 0 None no_mask (sized 1000) 0 0 0 2 [] (stretch 1000000 ++ trace_of (two (Kbytes 1)))
    (start 2 2000000 1000000) (refl, refl) refl refl refl

soon_by_kbytes : All (λ d. d.packet ≡ 2 → (d.start ≤ 0 + (1024000 + 1 + 1000000)) × (d.due ≤ 0 + (1024000 + 1 + 1000000) + 1000000 + 50 * 10 ^ 6)) delivered
soon_by_kbytes = kbytes-bound-the-delay Ordered [] (to_pipe 1 0 ∷ to_pipe 1 0 ∷ []) (Configure (by (Kbytes 1)) ∷ []) 1 8000000 50 1 0 None no_mask (sized 1000) 0 0 0 2 1000 60000000 60000000 delivered
    (refl, (refl, refl)) refl (leb-true 0 0 refl) (all_short (Kbytes 1)) refl refl
