-- Each law of what a user configures at an example: its premises hold, and what it speaks of is there.
use Rattle.dn_laws.proofs.Words.{All, All-cons, All-nil, List, None, Some, [], arith, delivery, drop, key, leb-true, ltb-true, mask, max, no_mask, packet, pipe, queue, refl, slice_get, take}
use Rattle.dn_laws.proofs.Words.{to_pipe, to_queue, worded, ℕ, ◌%◌, ◌*◌, ◌++◌, ◌+◌, ◌-◌, ◌<◌, ◌^◌, ◌∷◌, ◌≡◌, ◌≤◌, ◌⊎◌}
use Rattle.dn_laws.proofs.LawWords.{trace_of, effective_moment, settings, undelivered, given, AreInOrder, IsStartBy, IsTagged, IsDeliveryOf, AgreeUnder, keys, IsNoStart, free, transmission_time}
use Rattle.dn_laws.proofs.LawWords.{reply, next_packet, last_finish_tag, virtual_time, IsDelayed, own, shared, Accepted, Start, Event, arrived, started, backlog, Call, Configure, Submit, Advance}
use Rattle.dn_laws.proofs.LawWords.{Collect, Command, Pipe, DeletePipe, DeleteQueue, Slots, Queued, Lost, Full, Ordered, ToPipe, ToQueue}
use Rattle.dn_types.proofs.{Conserving.conserves-work, InTurn.gives-in-order, Keys.keys-stay, TransmissionTime.unlimited-takes-no-time}
use Rattle.dn_laws.proofs.{ConfiguredRate.keeps-the-configured-rate, Delays.delays-are-explained, DropLaws.drops-are-explained, Exactly.waits-for-its-link, Exactly.starts-behind}
use Rattle.dn_laws.proofs.{Isolation.queue-delete-empties, Isolation.packets-keep-apart, Masks.flows-are-by-mask, Rates.starts-apart, Rates.keeps-the-rate, Resets.tags-begin-afresh}
use Rattle.dn_laws.proofs.{Resets.queue-delete-resets, Resets.dropped-changes-nothing, Shares.tags-by-weight, StartLaws.starts-at-once, StartLaws.starts-the-next, StartLaws.starts-as-configured}
use Rattle.dn_laws.proofs.{Sums.delays-add-up, Sums.delivered-delays-add-up, Timely.events-stay, Timely.starts-in-time, Timely.none-starts-early}
use Rattle.dn_types.proofs.ExampleWords.{tuple}

abbrev lossy : Command
lossy = Pipe 1 8000000 0 (Slots 1) 1073741824 None no_mask

abbrev one_waits : List Call
one_waits = Submit (ToPipe 1) (worded 1073741824) 0 ∷ Submit (ToPipe 1) (worded 1073741824) 0 ∷ Configure lossy ∷ []

is_lost : reply Ordered one_waits (Submit (ToPipe 1) (worded 1073741823) 0) ≡ Lost 0 0
is_lost = refl

lost_by_the_rate : 1073741823 % 2 ^ 31 < 1073741824
lost_by_the_rate = drops-are-explained Ordered one_waits (ToPipe 1) (worded 1073741823) 0 lossy 1073741824 (Slots 1) 1 (omega arith) refl (refl, refl, refl)

is_full : reply Ordered one_waits (Submit (ToPipe 1) (worded 1073741824) 0) ≡ Full 0 0
is_full = refl

full_by_the_limit : (1073741824 ≤ 1073741824 % 2 ^ 31) × (1 ≤ 1)
full_by_the_limit = drops-are-explained Ordered one_waits (ToPipe 1) (worded 1073741824) 0 lossy 1073741824 (Slots 1) 1 (omega arith) refl (refl, refl, refl)

refused_for_nothing : backlog (own 1 0) 0 (trace_of (Submit (ToPipe 1) (worded 1073741824) 0 ∷ one_waits)) ≡ backlog (own 1 0) 0 (trace_of (Advance 0 ∷ one_waits))
refused_for_nothing = ((dropped-changes-nothing Ordered one_waits (ToPipe 1) (worded 1073741824) 0 (own 1 0) tt).0 0).0

abbrev by_port : List Call
by_port = Configure (Pipe 1 8000000 0 (Slots 50) 0 None (mask 0 0 0 0 65280)) ∷ []

abbrev to_port : ℕ → Call
to_port port = Submit (ToPipe 1) (packet (tuple 1 2 17 1000 port) 1000 0) 0

-- 2000 and 1800 agree in their upper half.
agree : AgreeUnder (mask 0 0 0 0 65280) (tuple 1 2 17 1000 2000) (tuple 1 2 17 1000 1800)
agree = (flows-are-by-mask Ordered by_port [] (ToPipe 1) (packet (tuple 1 2 17 1000 2000) 1000 0) (packet (tuple 1 2 17 1000 1800) 1000 0) 0 0
    (Pipe 1 8000000 0 (Slots 50) 0 None (mask 0 0 0 0 65280)) (Pipe 1 8000000 0 (Slots 50) 0 None (mask 0 0 0 0 65280)) (mask 0 0 0 0 65280) 1 0 0 refl
    (refl, refl) refl (refl, refl) refl refl).1 refl

-- 3000 and 2000 don't.
another_flow : reply Ordered (to_port 2000 ∷ by_port) (to_port 3000) ≡ Queued 0 1 1
another_flow = refl

-- The flow keeps its number once its pipe is deleted.
it_stays : slice_get (keys (Configure (DeletePipe 1) ∷ to_port 2000 ∷ by_port)) 0 ≡ Some (key (ToPipe 1) 1 (mask 0 0 0 0 65280) (tuple 0 0 0 0 1792))
it_stays = keys-stay (to_port 2000 ∷ by_port) (Configure (DeletePipe 1)) 0 (key (ToPipe 1) 1 (mask 0 0 0 0 65280) (tuple 0 0 0 0 1792)) refl

abbrev two : List Call
two = to_pipe 1 0 ∷ to_pipe 1 0 ∷ pipe 1 8000000 50 ∷ []

abbrev start : ℕ → ℕ → ℕ → ℕ → Start
start number moment start_tag finish_tag = record {
  packet = record {
    packet = number;
    link = own 1 0;
    stamped = record {
      flow = 0;
      len = 1000;
      weight = 1;
      start_tag =
          start_tag;
      finish_tag = finish_tag;
    };
  };
  moment = moment;
  transmission = 1000000;
  delay = 50000000;
}

abbrev first : Start
first = start 0 0 0 65536000

abbrev second : Start
second = start 1 1000000 65536000 131072000

at_once : (second.moment ≡ free (own 1 0) (trace_of two)) ⊎ ((second.moment ≡ effective_moment (Advance 1000000 ∷ two)) × ((before : List Event) × ([] ≡ arrived second.packet ∷ before)))
at_once = starts-at-once two (Advance 1000000) [] [] second refl

the_next : next_packet (own 1 0) (trace_of two) ≡ Some second.packet
the_next = starts-the-next two (Advance 1000000) [] [] second refl

as_configured : (command : Command) × (settings two (ToPipe 1) ≡ Some command) × IsStartBy command second
as_configured = starts-as-configured two (Advance 1000000) [] [] second refl

never_idle : 0 < free (own 1 0) (trace_of two)
never_idle = conserves-work two (ToPipe 1) 0 1 (ltb-true 0 1 refl)

apart : 0 + 1000000 ≤ 1000000
apart = starts-apart (Advance 1000000 ∷ two) [] (take 1 (trace_of two)) (drop 2 (trace_of two)) second first refl refl

-- 8,000 bits in a millisecond
at_the_rate : 1000 * 8 * 10 ^ 9 + 0 * 8000000 ≤ 1000000 * 8000000
at_the_rate = keeps-the-configured-rate (Advance 1000000 ∷ to_pipe 1 0 ∷ to_pipe 1 0 ∷ []) (pipe 1 8000000 50 ∷ []) 1 8000000 50 (Slots 50) 0 None no_mask []
    (take 1 (trace_of two)) (drop 2 (trace_of two)) second first
    (refl, (refl, (refl, refl))) (omega arith) refl refl refl

-- The pipe is then slowed to 1 Mbit/s, at which the second starts. The first still counts at its own rate.
abbrev slowed : List Call
slowed = pipe 1 1000000 50 ∷ two

abbrev slow : Start
slow = record second { transmission = 8000000 }

at_its_own_rate : 1000 * 8 * 10 ^ 9 + 0 * 8000000 ≤ 1000000 * 8000000
at_its_own_rate = keeps-the-rate (Advance 1000000 ∷ slowed) [] (take 1 (trace_of two)) (drop 2 (trace_of two)) slow first 8000000 refl refl (ltb-true 0 8000000 refl) ((λ e. refl), tt)

-- Each is due 51 ms after its start, and the first is due by then.
explained : All (IsDeliveryOf Ordered (trace_of (Advance 1000000 ∷ two))) (delivery 0 0 0 51000000 ∷ delivery 1 0 1000000 52000000 ∷ [])
    × All (IsDeliveryOf Ordered (trace_of (Advance 1000000 ∷ two))) (delivery 0 0 0 51000000 ∷ [])
explained = delays-are-explained Ordered 51000000 (trace_of (Advance 1000000 ∷ two))

they_stay : (added : List Event) × (trace_of (Advance 1000000 ∷ two) ≡ added ++ trace_of two)
they_stay = events-stay two (Advance 1000000)

-- The second start is all that is added.
one_is_added : trace_of (Advance 1000000 ∷ two) ≡ started second ∷ trace_of two
one_is_added = refl

in_time : (0 ≤ 1000000) × (1000000 ≤ 1000000)
in_time = starts-in-time two (Advance 1000000) [] [] second refl

not_early : 0 ≤ 1000000
not_early = none-starts-early Ordered (Advance 1000000 ∷ []) (drop 1 two) (ToPipe 1) (worded 0) 0 0 0 1 [] (trace_of two) second refl refl refl

exactly : 1000000 ≡ max 0 1000000
exactly = waits-for-its-link Ordered (Advance 1000000 ∷ []) (drop 1 two) (ToPipe 1) (worded 0) 0 0 0 1 [] (trace_of two) second refl refl refl

behind : 1000000 ≡ max 0 (0 + 1000000)
behind = starts-behind Ordered (Advance 1000000 ∷ []) (drop 1 two) (ToPipe 1) (worded 0) 0 0 0 1 [] (take 1 (trace_of two)) (drop 2 (trace_of two)) second first refl refl refl refl
    (All-cons (IsNoStart (own 1 0)) (arrived second.packet) [] tt (All-nil (IsNoStart (own 1 0))))

it_adds_up : All (λ d. d.packet ≡ 1 → IsDelayed Ordered (Advance 1000000 ∷ two) 0 d) (undelivered Ordered (trace_of (Advance 1000000 ∷ two)))
it_adds_up = delays-add-up Ordered (Advance 1000000 ∷ []) (drop 1 two) (ToPipe 1) (worded 0) 0 0 0 1 refl

-- Its wait is what its link then still sends.
abbrev its_delay : IsDelayed Ordered (Advance 1000000 ∷ two) 0 (delivery 1 0 1000000 52000000)
its_delay = it_adds_up 1 (delivery 1 0 1000000 52000000) (ltb-true 1 2 refl) refl

its_wait : 1000000 ≡ free its_delay.start.packet.link its_delay.earlier - 0
its_wait = let start = its_delay.waits in let wait = its_delay.busy in omega (arith, start, wait)

-- And so it is for both as a Collect gives them.
given_add_up : All (λ d. d.packet ≡ 1 → IsDelayed Ordered (Collect 60000000 ∷ two) 0 d) (delivery 0 0 0 51000000 ∷ delivery 1 0 1000000 52000000 ∷ [])
given_add_up = delivered-delays-add-up Ordered [] (drop 1 two) (ToPipe 1) (worded 0) 0 0 0 1 60000000 60000000 (delivery 0 0 0 51000000 ∷ delivery 1 0 1000000 52000000 ∷ []) refl refl

-- At bandwidth 0 both start at once, and their link is free at once.
takes_no_time : transmission_time 0 1000 ≡ 0
takes_no_time = unlimited-takes-no-time 1000

free_at_once : free (own 1 0) (trace_of (to_pipe 1 0 ∷ to_pipe 1 0 ∷ pipe 1 0 50 ∷ [])) ≡ 0
free_at_once = refl

both_in_order : AreInOrder (given Ordered 60000000 (trace_of (Advance 1000000 ∷ two)))
both_in_order = gives-in-order Ordered 60000000 (trace_of (Advance 1000000 ∷ two))

abbrev weighted : List Call
weighted = queue 1 1 4 ∷ pipe 1 8000000 0 ∷ []

abbrev tagged : ℕ → ℕ → ℕ → Accepted
tagged number start_tag finish_tag = record { packet = number; link = shared 1; stamped = record { flow = 0; len = 1000; weight = 4; start_tag = start_tag; finish_tag = finish_tag } }

-- 1,000 bytes cost 250 at weight 4.
by_weight : IsTagged 1000 4 (trace_of (to_queue 1 0 ∷ weighted)) (tagged 1 16384000 32768000)
by_weight = tags-by-weight (to_queue 1 0 ∷ weighted) (ToQueue 1) (worded 0) 0 [] [] (tagged 1 16384000 32768000) 1 1 4 (Slots 50) 0 None no_mask refl refl

begins_afresh : (tagged 0 0 16384000).stamped.start_tag ≡ 0
begins_afresh = tags-begin-afresh weighted (ToQueue 1) (worded 0) 0 (take 1 (trace_of (to_queue 1 0 ∷ weighted))) (drop 2 (trace_of (to_queue 1 0 ∷ weighted)))
    (tagged 0 0 16384000) refl (leb-true 0 0 refl)

abbrev one_queued : List Call
one_queued = to_queue 1 0 ∷ to_queue 1 0 ∷ weighted

emptied : backlog (shared 1) 0 (trace_of (Configure (DeleteQueue 1) ∷ one_queued)) ≡ []
emptied = queue-delete-empties one_queued 1 (shared 1) [] [] (key (ToQueue 1) 1 no_mask (tuple 0 0 0 0 0)) refl refl refl

forgotten : last_finish_tag (shared 1) 0 (trace_of (Configure (DeleteQueue 1) ∷ one_queued)) ≡ 0
forgotten = queue-delete-resets one_queued 1 (shared 1) [] [] (key (ToQueue 1) 1 no_mask (tuple 0 0 0 0 0)) refl refl refl

-- It had been another.
remembered : last_finish_tag (shared 1) 0 (trace_of one_queued) ≡ 32768000
remembered = refl

kept_apart : virtual_time (shared 1) (trace_of (to_pipe 2 0 ∷ pipe 2 8000000 0 ∷ one_queued)) ≡ virtual_time (shared 1) (trace_of (Advance 0 ∷ pipe 2 8000000 0 ∷ one_queued))
kept_apart = (packets-keep-apart Ordered (pipe 2 8000000 0 ∷ one_queued) (ToPipe 2) (worded 0) 0 (Pipe 2 8000000 0 (Slots 50) 0 None no_mask) 0 (Slots 50) 2
    (shared 1) refl (refl, refl, refl) (λ (same : 1 ≡ 2). absurd (omega arith))).3
