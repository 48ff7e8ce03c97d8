-- The records of what a reply lists, read back.
use Rattle.dn_history.proofs.Words.{All, All-head, All-tail, Delivery, Fields, FiveTuple, FlowStatus, HistoryVersion, IsDelivery, IsLong, IsMask, IsStatus, IsTuple, List, Mask, Ok, Result, []}
use Rattle.dn_history.proofs.Words.{arith, column, decimal, delivery_item, delivery_record, field_at, has_deletes, item_from, items_from, key_item, length, long_at, map, mask_item, next_record}
use Rattle.dn_history.proofs.Words.{refl, status_item, status_record, true, ℕ, ◌++◌, ◌+◌, ◌∷◌, ◌≡◌}
use Rattle.dn_history.specs.RecordsLeft.{Read}
use Rattle.dn_history.proofs.FieldsBack.{HasTuple, number_back, target_back, tuple_back}

-- A value is read, and these records are left.
abbrev pub Reads : {A : Type 0} → Read A → A → List Fields → Type 0
Reads read value left = (number : ℕ) × (read ≡ Ok (value, record { number = number; records = left }))

pub long_back : (place n : ℕ) (fields : Fields) → column place fields ≡ decimal n → IsLong n → long_at place fields ≡ Ok n
long_back place n fields is l = number_back place 0 18446744073709551615 n fields is l (omega arith) (omega (arith, l))

delivery_back : (d : Delivery) → IsDelivery d → delivery_item (delivery_record d) ≡ Ok d
unfolding delivery_item field_at
delivery_back d h =
    let fields = delivery_record d in
    rw (long_back 2 d.packet fields refl h.packet, long_back 3 d.flow fields refl h.flow, long_back 4 d.start fields refl h.start, long_back 5 d.due fields refl h.due) refl

-- The bits of a mask, as they are read.
abbrev bits_of : Mask → FiveTuple
bits_of m = record { src = m.src; dst = m.dst; proto = m.proto; sport = m.sport; dport = m.dport }

mask_back : (place : ℕ) (fields : Fields) (m : Mask) → IsMask m → HasTuple place fields (bits_of m) → mask_item place fields ≡ Ok m
unfolding mask_item
mask_back place fields m h at =
    let inside : IsTuple (bits_of m) = record { src = h.src; dst = h.dst; proto = h.proto; sport = h.sport; dport = h.dport } in
    rw (tuple_back place fields (bits_of m) inside at) refl

key_back : (s : FlowStatus) → IsStatus s → key_item (status_record s) ≡ Ok s.key
unfolding key_item field_at
key_back s h =
    let fields = status_record s in
    let at_six : HasTuple 6 fields (bits_of s.key.mask) = record { src_at = refl; dst_at = refl; proto_at = refl; sport_at = refl; dport_at = refl } in
    let at_eleven : HasTuple 11 fields s.key.tuple = record { src_at = refl; dst_at = refl; proto_at = refl; sport_at = refl; dport_at = refl } in
    let pipe = number_back 5 1 65535 s.key.pipe fields refl (omega (arith, h.key.pipe)) h.key.pipe.0 h.key.pipe.1 in
    rw (target_back 3 fields s.key.target h.key.target refl refl, pipe, mask_back 6 fields s.key.mask h.key.mask at_six, tuple_back 11 fields s.key.tuple h.key.tuple at_eleven) refl

status_back : (version : HistoryVersion) (s : FlowStatus) → has_deletes version ≡ true → IsStatus s → status_item version (status_record s) ≡ Ok s
unfolding status_item field_at
status_back version s has h =
    let fields = status_record s in
    let flow = long_back 2 s.flow fields refl h.flow in
    let queued = long_back 16 s.queued fields refl h.queued in
    let bytes = long_back 17 s.bytes fields refl h.bytes in
    let lost = long_back 18 s.lost fields refl h.lost in
    let full = long_back 19 s.full fields refl h.full in
    let started = long_back 20 s.started fields refl h.started in
    let discarded = long_back 21 s.discarded fields refl h.discarded in
    rw (has, flow, key_back s h, queued, bytes, lost, full, started, discarded) refl

-- As many items as were written, where each is read back.
listed : {A : Type 0} (P : A → Type 0) (item : Fields → Result A ℕ) (fields_of : A → Fields) → ((x : A) → P x → item (fields_of x) ≡ Ok x)
    → (list : List A) → All P list → (number : ℕ) (left : List Fields) → Reads (items_from item (length list) (record { number = number; records = map fields_of list ++ left })) list left
unfolding items_from item_from next_record
listed P item fields_of back [] all number left = (number, refl)
listed P item fields_of back (x ∷ list) all number left =
    let more = listed P item fields_of back list (All-tail P x list all) (number + 1) left in
    (more.0, rw (back x (All-head P x list all), more.1) refl)

pub deliveries_back : (list : List Delivery) → All IsDelivery list → (number : ℕ) (left : List Fields)
    → Reads (items_from delivery_item (length list) (record { number = number; records = map delivery_record list ++ left })) list left
deliveries_back = listed IsDelivery delivery_item delivery_record delivery_back

pub statuses_back : (version : HistoryVersion) (list : List FlowStatus) → has_deletes version ≡ true → All IsStatus list → (number : ℕ) (left : List Fields)
    → Reads (items_from (status_item version) (length list) (record { number = number; records = map status_record list ++ left })) list left
statuses_back version list has = listed IsStatus (status_item version) status_record (λ s h. status_back version s has h) list
