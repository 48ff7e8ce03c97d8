-- A written history, and a transcript of a live session, are read as the entries that were written.
use Rattle.dn_history.proofs.Words.{All, All-cons, All-head, All-nil, All-tail, AreEntries, Call, Entry, Err, Fields, HistoryVersion, IsEntry, IsLong, List, None, Ok, Ordered, Result, Some, Third}
use Rattle.dn_history.proofs.Words.{[], ap, append_assoc, arith, call_record, end_by, end_record, entries_from, entry_by, entry_from, entry_records, false, field_at, flat_map, has_deletes}
use Rattle.dn_history.proofs.Words.{has_remarks, history_from, history_in, history_text, is_remark, item_records, length, length-append, map, next_record, records_of, refl, reply_from}
use Rattle.dn_history.proofs.Words.{reply_record, rule_of, suc, true, zero, ℕ, ◌++◌, ◌+◌, ◌<◌, ◌∙◌, ◌∷◌, ◌≡◌, ◌≤◌}
use Rattle.dn_history.proofs.CallsBack.{call_back, caller_back}
use Rattle.dn_history.proofs.FieldsBack.{number_back}
use Rattle.dn_history.proofs.HistoryBack.{records-back}
use Rattle.dn_history.proofs.ItemsBack.{Reads}
use Rattle.dn_history.proofs.PartsRead.{header-tells}
use Rattle.dn_history.proofs.Remarks.{ahead_plain}
use Rattle.dn_history.proofs.RepliesBack.{reply_back}
use Rattle.dn_history.proofs.VersionLines.{version_record}

-- A piece of what is written: an entry, or else a remark.
abbrev pub Piece : Type 0
Piece = Result Entry Fields

abbrev pub piece_records : Piece → List Fields
piece_records (Ok e) = entry_records e
piece_records (Err remark) = remark ∷ []

abbrev pub piece_entries : Piece → List Entry
piece_entries (Ok e) = e ∷ []
piece_entries (Err remark) = []

-- A piece that can be in a file of this version, and is read back.
abbrev pub IsPiece : HistoryVersion → Piece → Type 0
IsPiece version (Ok e) = (e.caller < 16) × IsEntry e
IsPiece version (Err remark) = (has_remarks version ≡ true) × (is_remark remark ≡ true)

call-plain : (caller : ℕ) (call : Call) → is_remark (call_record caller call) ≡ false
unfolding field_at
call-plain caller call = refl

-- The next entry.
entry_back : (version : HistoryVersion) (e : Entry) → has_deletes version ≡ true → e.caller < 16 → IsEntry e → (count number : ℕ) (left : List Fields)
    → Reads (entry_from version count (record { number = number; records = entry_records e ++ left })) (Some e) left
unfolding entry_from entry_by reply_from next_record field_at
entry_back version e has l h count number left =
    let plain = ahead_plain (has_remarks version) (call_record e.caller e.call) (reply_record e.reply ∷ (item_records e.reply ++ left)) (call-plain e.caller e.call) in
    let reply = reply_back version e.reply has h.reply (number + 1) (number + 1 + 1) left in
    (reply.0, rw (plain, caller_back e.caller e.call l, call_back version number e.caller e.call has h.call, reply.1) refl)

end-plain : (count : ℕ) → is_remark (end_record count) ≡ false
unfolding field_at
end-plain count = refl

-- The last record tells the count of the entries.
end_back : (version : HistoryVersion) (count number : ℕ) → IsLong count → Reads (entry_from version count (record { number = number; records = end_record count ∷ [] })) None []
unfolding entry_from end_by next_record field_at
end_back version count number l =
    let plain = ahead_plain (has_remarks version) (end_record count) [] (end-plain count) in
    let told = number_back 2 count count count (end_record count) refl l (omega arith) (omega arith) in
    (number + 1, rw (plain, told) refl)

-- A remark before the next entry changes nothing.
remark_back : (version : HistoryVersion) (turns count number : ℕ) (remark : Fields) (left : List Fields) → has_remarks version ≡ true → is_remark remark ≡ true
    → entries_from turns version count (record { number = number; records = remark ∷ left }) ≡ entries_from turns version count (record { number = number; records = left })
unfolding entries_from entry_from
remark_back version zero count number remark left has is = refl
remark_back version (suc turns) count number remark left has is = rw (has, is) refl

-- The pieces and the last record, where the turns are enough.
pieces_back : (version : HistoryVersion) → has_deletes version ≡ true → (pieces : List Piece) → All (IsPiece version) pieces → (turns count number total : ℕ)
    → length (flat_map piece_entries pieces) < turns → count + length (flat_map piece_entries pieces) ≡ total → IsLong total
    → entries_from turns version count (record { number = number; records = flat_map piece_records pieces ++ end_record total ∷ [] }) ≡ Ok (flat_map piece_entries pieces)
unfolding entries_from
pieces_back version has pieces held zero count number total enough is l = absurd (omega (arith, enough))
pieces_back version has [] held (suc turns) count number total enough is l =
    let all : count ≡ total = omega (arith, is) in
    rw (all, (end_back version total number l).1) refl
pieces_back version has (Ok e ∷ rest) held (suc turns) count number total enough is l =
    let good = All-head (IsPiece version) (Ok e) rest held in
    let first = entry_back version e has good.0 good.1 count number (flat_map piece_records rest ++ end_record total ∷ []) in
    let more = pieces_back version has rest (All-tail (IsPiece version) (Ok e) rest held) turns (count + 1) first.0 total (omega (arith, enough)) (omega (arith, is)) l in
    rw (append_assoc (entry_records e) (flat_map piece_records rest) (end_record total ∷ []), first.1, more) refl
pieces_back version has (Err remark ∷ rest) held (suc turns) count number total enough is l =
    let good = All-head (IsPiece version) (Err remark) rest held in
    remark_back version (suc turns) count number remark (flat_map piece_records rest ++ end_record total ∷ []) good.0 good.1
    ∙ pieces_back version has rest (All-tail (IsPiece version) (Err remark) rest held) (suc turns) count number total enough is l

-- Each entry has a record at least.
records_enough : (pieces : List Piece) → length (flat_map piece_entries pieces) ≤ length (flat_map piece_records pieces)
records_enough [] = omega arith
records_enough (Ok e ∷ rest) =
    let more = records_enough rest in
    let both = length-append (entry_records e) (flat_map piece_records rest) in
    omega (arith, more, both)
records_enough (Err remark ∷ rest) = let more = records_enough rest in omega (arith, more)

-- A text whose records are the first one of a version, pieces, and the count of their entries.
pub read_as : (version : HistoryVersion) (text : List ℕ) (pieces : List Piece) → has_deletes version ≡ true
    → records_of text ≡ version_record version ∷ (flat_map piece_records pieces ++ end_record (length (flat_map piece_entries pieces)) ∷ [])
    → All (IsPiece version) pieces → IsLong (length (flat_map piece_entries pieces)) → history_in text ≡ Ok (rule_of version, flat_map piece_entries pieces)
unfolding history_from next_record
read_as version text pieces has is held few =
    let body = flat_map piece_records pieces in
    let entries = flat_map piece_entries pieces in
    let last = end_record (length entries) in
    let both = length-append body (last ∷ []) in
    let fewer = records_enough pieces in
    let enough : length entries < length (body ++ last ∷ []) + 1 = omega (arith, both, fewer) in
    rw (is, header-tells version, pieces_back version has pieces held (length (body ++ last ∷ []) + 1) 0 2 (length entries) enough (omega arith) few) refl

-- Entries alone, as pieces.
entry-pieces : (entries : List Entry) → (flat_map piece_records (map Ok entries) ≡ flat_map entry_records entries) × (flat_map piece_entries (map Ok entries) ≡ entries)
entry-pieces [] = (refl, refl)
entry-pieces (e ∷ rest) = let more = entry-pieces rest in (ap (λ (rs : List Fields). entry_records e ++ rs) more.0, ap (λ (es : List Entry). e ∷ es) more.1)

pieces-held : (entries : List Entry) → All IsEntry entries → All (λ e. e.caller < 16) entries → All (IsPiece Third) (map Ok entries)
pieces-held [] held callers = All-nil (IsPiece Third)
pieces-held (e ∷ rest) held callers =
    All-cons (IsPiece Third) (Ok e) (map Ok rest) (All-head (λ x. x.caller < 16) e rest callers, All-head IsEntry e rest held)
    (pieces-held rest (All-tail IsEntry e rest held) (All-tail (λ x. x.caller < 16) e rest callers))

-- The law that a written history reads back.
pub reads_back : (entries : List Entry) → AreEntries entries → All (λ e. e.caller < 16) entries → history_in (history_text entries) ≡ Ok (Ordered, entries)
reads_back entries held callers =
    let pieces : List Piece = map Ok entries in
    let same = entry-pieces entries in
    let records_are : records_of (history_text entries) ≡ version_record Third ∷ (flat_map piece_records pieces ++ end_record (length (flat_map piece_entries pieces)) ∷ []) =
    rw (same.0, same.1) (records-back entries) in
    read_as Third (history_text entries) pieces refl records_are (pieces-held entries held.each callers) (rw same.1 held.count) ∙ ap (λ (es : List Entry). Ok (Ordered, es)) same.1
