-- The records of an entry, and of a history file, one after the other.
use Rattle.dn_history.proofs.Words.{Entry, List, ap, append_assoc, call_record, end_record, entry_records, flat_map, history_header, history_text, item_records, length, line_of, reply_record, sym}
use Rattle.dn_history.proofs.Words.{text-push, text_of, ℕ, ◌++◌, ◌∙◌, ◌≡◌}

-- A call, its reply and what the reply lists are an entry.
pub entry_is : (start : List ℕ) (e : Entry)
    → ((start ++ line_of (call_record e.caller e.call)) ++ line_of (reply_record e.reply)) ++ text_of (item_records e.reply) ≡ start ++ text_of (entry_records e)
unfolding text_of
entry_is start e =
    let call = line_of (call_record e.caller e.call) in
    let reply = line_of (reply_record e.reply) in
    let items = text_of (item_records e.reply) in
    append_assoc (start ++ call) reply items ∙ append_assoc start call (reply ++ items)

-- The header, the records of the entries and the last record are the file.
pub history_is : (entries : List Entry) → (line_of history_header ++ text_of (flat_map entry_records entries)) ++ line_of (end_record (length entries)) ≡ history_text entries
unfolding history_text text_of
history_is entries =
    let body = flat_map entry_records entries in
    let last = end_record (length entries) in
    append_assoc (line_of history_header) (text_of body) (line_of last) ∙ ap (λ (t : List ℕ). line_of history_header ++ t) (sym (text-push body last))
