-- The law that a written history reads back, at the history of one caller: its numbers are in range, and its file is read
-- as its four entries.
use Rattle.dn_history.proofs.Words.{All, All-cons, All-nil, AreEntries, AreShared, Entry, IsDelivery, IsEntry, IsKey, IsMask, IsPacket, IsStatus, IsTuple, None, Ok, Ordered, Slots, [], ap, arith}
use Rattle.dn_history.proofs.Words.{history_in, no_bits, sym, ◌<◌, ◌∙◌, ◌∷◌, ◌≡◌}
use Rattle.dn_history.proofs.EntriesBack.{reads_back}
use Rattle.dn_history.proofs.HistoryExample.{configured, delivered, delivery, file_of_four, four, key, no_tuple, one_caller, packet, queued, shown, status, tuple}

tuple_in_range : IsTuple tuple
tuple_in_range = record { src = omega arith; dst = omega arith; proto = omega arith; sport = omega arith; dport = omega arith }

no_tuple_in_range : IsTuple no_tuple
no_tuple_in_range = record { src = omega arith; dst = omega arith; proto = omega arith; sport = omega arith; dport = omega arith }

no_bits_in_range : IsMask no_bits
no_bits_in_range = record { src = omega arith; dst = omega arith; proto = omega arith; sport = omega arith; dport = omega arith }

shared_in_range : AreShared (Slots 50) 0 None no_bits
shared_in_range = record { limit_in_range = (omega arith, omega arith); loss_in_range = omega arith; buckets_in_range = tt; mask_in_range = no_bits_in_range }

configured_in_range : IsEntry configured
configured_in_range = record { call = ((omega arith, omega arith), omega arith, omega arith, shared_in_range); reply = tt }

packet_in_range : IsPacket packet
packet_in_range = record { tuple = tuple_in_range; len = (omega arith, omega arith); word = omega arith }

queued_in_range : IsEntry queued
queued_in_range = record { call = ((omega arith, omega arith), packet_in_range, omega arith); reply = (omega arith, omega arith, omega arith) }

delivery_in_range : IsDelivery delivery
delivery_in_range = record { due = omega arith; packet = omega arith; flow = omega arith; start = omega arith }

delivered_in_range : IsEntry delivered
delivered_in_range = record { call = omega arith; reply = (omega arith, omega arith, All-cons IsDelivery delivery [] delivery_in_range (All-nil IsDelivery)) }

key_in_range : IsKey key
key_in_range = record { target = (omega arith, omega arith); pipe = (omega arith, omega arith); mask = no_bits_in_range; tuple = no_tuple_in_range }

status_in_range : IsStatus status
status_in_range = record {
  flow = omega arith;
  key = key_in_range;
  queued = omega arith;
  bytes = omega arith;
  lost = omega arith;
  full = omega arith;
  started = omega arith;
  discarded = omega arith;
}

shown_in_range : IsEntry shown
shown_in_range = record { call = tt; reply = (omega arith, All-cons IsStatus status [] status_in_range (All-nil IsStatus)) }

-- a fact of each of the four entries
of_four : (P : Entry → Type 0) → P configured → P queued → P delivered → P shown → All P four
of_four P a b c d =
    let last = All-cons P shown [] d (All-nil P) in
    let third = All-cons P delivered (shown ∷ []) c last in
    let second = All-cons P queued (delivered ∷ shown ∷ []) b third in
    All-cons P configured (queued ∷ delivered ∷ shown ∷ []) a second

four_in_range : AreEntries four
four_in_range = record { count = omega arith; each = of_four IsEntry configured_in_range queued_in_range delivered_in_range shown_in_range }

four_callers : All (λ e. e.caller < 16) four
four_callers = of_four (λ e. e.caller < 16) (omega arith) (omega arith) (omega arith) (omega arith)

file_read_back : history_in file_of_four ≡ Ok (Ordered, four)
file_read_back = sym (ap history_in one_caller) ∙ reads_back four four_in_range four_callers
