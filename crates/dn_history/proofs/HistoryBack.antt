-- The records of a written history file are those that were written.
use Rattle.dn_history.proofs.Words.{AllFilled, Delivery, Entry, Fields, FlowStatus, HasNoMark, List, Reply, [], ap, call_record, delivery_record, end_record, entry_records, escaped, field_at}
use Rattle.dn_history.proofs.Words.{fields_text, flat_map, history_records, history_text, is_blank, item_records, length, map, read-back, records_of, refl, reply_record, status_record, strip_bom}
use Rattle.dn_history.proofs.Words.{text_of, without_remarks, ◌++◌, ◌∷◌, ◌≡◌}
use Rattle.dn_types.specs.declared.reply.Reply.TheVariants as r

pub filled-append : (front back : List Fields) → AllFilled front → AllFilled back → AllFilled (front ++ back)
filled-append [] back f b = b
filled-append ([] ∷ front) back f b = absurd f
filled-append ((field ∷ fields) ∷ front) back f b = filled-append front back f b

deliveries-filled : (list : List Delivery) → AllFilled (map delivery_record list)
deliveries-filled [] = tt
deliveries-filled (d ∷ list) = deliveries-filled list

statuses-filled : (list : List FlowStatus) → AllFilled (map status_record list)
statuses-filled [] = tt
statuses-filled (s ∷ list) = statuses-filled list

items-filled : (reply : Reply) → AllFilled (item_records reply)
items-filled (r.Delivered at list) = deliveries-filled list
items-filled (r.Status list) = statuses-filled list
items-filled _ = tt

pub entry-filled : (e : Entry) → AllFilled (entry_records e)
entry-filled e = items-filled e.reply

entries-filled : (entries : List Entry) → AllFilled (flat_map entry_records entries)
entries-filled [] = tt
entries-filled (e ∷ rest) = filled-append (entry_records e) (flat_map entry_records rest) (entry-filled e) (entries-filled rest)

-- A history file begins with a letter.
no-mark : (entries : List Entry) → HasNoMark (history_text entries)
unfolding history_text text_of fields_text is_blank escaped strip_bom
no-mark entries = refl

pub records-back : (entries : List Entry) → records_of (history_text entries) ≡ history_records entries
unfolding history_text
records-back entries =
    let filled = filled-append (flat_map entry_records entries) (end_record (length entries) ∷ []) (entries-filled entries) tt in
    read-back (history_records entries) filled (no-mark entries)

-- No written record is a remark.
deliveries-plain : (list : List Delivery) → without_remarks (map delivery_record list) ≡ map delivery_record list
unfolding field_at
deliveries-plain [] = refl
deliveries-plain (d ∷ list) = ap (λ (rs : List Fields). delivery_record d ∷ rs) (deliveries-plain list)

statuses-plain : (list : List FlowStatus) → without_remarks (map status_record list) ≡ map status_record list
unfolding field_at
statuses-plain [] = refl
statuses-plain (s ∷ list) = ap (λ (rs : List Fields). status_record s ∷ rs) (statuses-plain list)

items-plain : (reply : Reply) → without_remarks (item_records reply) ≡ item_records reply
items-plain (r.Delivered at list) = deliveries-plain list
items-plain (r.Status list) = statuses-plain list
items-plain _ = refl

pub entry-plain : (e : Entry) → without_remarks (entry_records e) ≡ entry_records e
unfolding field_at
entry-plain e = ap (λ (rs : List Fields). call_record e.caller e.call ∷ reply_record e.reply ∷ rs) (items-plain e.reply)
