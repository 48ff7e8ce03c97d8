-- The laws of packet files and histories hold.
use Rattle.dn_laws.proofs.Words.{All, All-cons, All-head, All-nil, All-tail, AllFilled, AllPlain, AreEntries, BadRow, Call, Entry, Err, FlowStatus, HasNoMark, HistoriesAreRead}
use Rattle.dn_laws.proofs.Words.{HistoriesAreWritten, HistoryVersion, IsEntry, IsPiece, IsPlain, IsRow, LimitsAreKnown, List, Live, Ok, Packet, Piece, ReplayFault, Reply, Result, Row, RowsAreRead}
use Rattle.dn_laws.proofs.Words.{RowsHaveTenFields, Rule, Second, Some, Submit, Target, Texts, Third, [], address-plain, address_back, address_of, aim, answered, ap, append-nil, append_assoc}
use Rattle.dn_laws.proofs.Words.{arith, asked, bits, call_fields, codes, columns, decimal, digit-plain, digit_value, dotted, end_record, entry, entry_records, false, field_at, fields_text}
use Rattle.dn_laws.proofs.Words.{file_of, flat_map, has_deletes, header, history_header, history_in, is_address_byte, is_blank, is_header, item_records, join_with_byte, le-leb, length, line-is}
use Rattle.dn_laws.proofs.Words.{line_of, listed, lt-leb, map, nat_le, nat_lt, ne_eqb, number_digits, number_within, packet_at, piece_entries, piece_records, plain-field, plain_end, ranged_back}
use Rattle.dn_laws.proofs.Words.{read-back, read_as, records, records-back, records_of, refl, reply_fields, row_line, row_of, rows_below, rows_from, rule_of, state, status_record, strip_bom}
use Rattle.dn_laws.proofs.Words.{subst, sym, target_at, target_name, target_number, text_of, true, tuple_at, version_record, with_front, ℕ, ⊎_elim, ◌++◌, ◌+◌, ◌<◌, ◌==◌, ◌^◌, ◌∙◌, ◌∷◌, ◌≡◌, ◌≢◌}
use Rattle.dn_types.specs.declared.reply.Reply.TheVariants as r
use Rattle.dn_types.specs.declared.target.Target.TheVariants.{Pipe, Queue}
use Rattle.dn_config.proofs.UntilBack.{address_back as address_bytes}
use Rattle.dn_files.specs.Reading.{◌>>=◌}
use Rattle.dn_laws.specs.RecordLaws.{tuple}

address-is : (a : ℕ) → a < 2 ^ 32 → address_of (dotted a) ≡ Some a
address-is a l = address_back a l

plain-number : (n : ℕ) → n < 2 ^ 64 → IsPlain (decimal n)
plain-number n l = plain-field (λ byte. nat_lt (digit_value byte) 10) digit-plain (decimal n)
    (number_digits 0 (2 ^ 64) (decimal n) n (ranged_back 0 (2 ^ 64) n l (omega arith) (omega (arith, l))))

plain-address : (a : ℕ) → a < 2 ^ 32 → IsPlain (dotted a)
plain-address a l = plain-field is_address_byte address-plain (dotted a) (address_bytes (dotted a) a (address-is a l)).1

-- Commas between fields are what csv writes before each plain field but the first.
join-is : (first : List ℕ) (fields : Texts) (tail : List ℕ) → join_with_byte 44 (first ∷ fields) ++ tail ≡ first ++ plain_end fields tail
join-is first [] tail = refl
join-is first (second ∷ fields) tail = append_assoc first (44 ∷ join_with_byte 44 (second ∷ fields)) tail ∙ ap (λ (t : List ℕ). first ++ 44 ∷ t) (join-is second fields tail)

-- A row is what its fields say, and its line is what csv writes.
abbrev IsKept : Row → Type 0
IsKept row = (row_of (columns row) ≡ Ok row) × (row_line row ≡ line_of (columns row))

module _ (m n : ℕ) (p : Packet) (h : IsRow (record { moment = m; target = Pipe n; packet = p })) where
  abbrev others : Texts
  others = tuple p.tuple ++ map decimal (p.len ∷ p.word ∷ [])

  number-is : number_within 1 65535 (decimal n) ≡ Ok n
  number-is = ranged_back 1 65535 n (omega (arith, h.1)) h.1.0 (omega (arith, h.1))

  row-is : (name : List ℕ) (t : Target) → target_at 2 (decimal m ∷ name ∷ decimal n ∷ others) ≡ Ok t
      → row_of (decimal m ∷ name ∷ decimal n ∷ others) ≡ Ok (record { moment = m; target = t; packet = p })
  unfolding row_of packet_at tuple_at field_at
  row-is name t at = rw (
    at,
    ranged_back 0 (2 ^ 62) m (omega (arith, h.0)) (omega arith) h.0,
    address-is p.tuple.src h.2,
    address-is p.tuple.dst h.3,
    ranged_back 0 255 p.tuple.proto (omega (arith, h.4)) (omega arith) (omega (arith, h.4)),
    ranged_back 0 65535 p.tuple.sport (omega (arith, h.5)) (omega arith) (omega (arith, h.5)),
    ranged_back 0 65535 p.tuple.dport (omega (arith, h.6)) (omega arith) (omega (arith, h.6)),
    ranged_back 1 65535 p.len (omega (arith, h.8)) h.7 (omega (arith, h.8)),
    ranged_back 0 4294967295 p.word (omega (arith, h.9)) (omega arith) (omega (arith, h.9)),
  ) refl

  all-plain : (name : List ℕ) → IsPlain name → AllPlain (name ∷ decimal n ∷ others)
  all-plain name is = (
    is,
    (
      plain-number n (omega (arith, h.1)),
      (
        plain-address p.tuple.src h.2,
        (
          plain-address p.tuple.dst h.3,
          (
            plain-number p.tuple.proto (omega (arith, h.4)),
            (plain-number p.tuple.sport (omega (arith, h.5)), (plain-number p.tuple.dport (omega (arith, h.6)), (plain-number p.len (omega (arith, h.8)), (plain-number p.word (omega (arith, h.9)), tt)))),
          ),
        ),
      ),
    ),
  )

  line-kept : (name : List ℕ) → IsPlain name → join_with_byte 44 (decimal m ∷ name ∷ decimal n ∷ others) ++ 10 ∷ [] ≡ line_of (decimal m ∷ name ∷ decimal n ∷ others)
  line-kept name is =
      join-is (decimal m) (name ∷ decimal n ∷ others) (10 ∷ [])
      ∙ sym (line-is (decimal m) name (decimal n ∷ others) [] (plain-number m (omega (arith, h.0))) (all-plain name is))
      ∙ append-nil (line_of (decimal m ∷ name ∷ decimal n ∷ others))

  pipe-kept : IsKept (record { moment = m; target = Pipe n; packet = p })
  unfolding target_at field_at
  pipe-kept = (row-is (codes "pipe") (Pipe n) (rw number-is refl), line-kept (codes "pipe") refl)

  queue-kept : IsKept (record { moment = m; target = Queue n; packet = p })
  unfolding target_at field_at
  queue-kept = (row-is (codes "queue") (Queue n) (rw number-is refl), line-kept (codes "queue") refl)

kept : (m : ℕ) (t : Target) (p : Packet) → IsRow (record { moment = m; target = t; packet = p }) → IsKept (record { moment = m; target = t; packet = p })
kept m (Pipe n) p h = pipe-kept m n p h
kept m (Queue n) p h = queue-kept m n p h

grouped : (row : Row) (rows : List Row) (read : Result (List Row) ReplayFault) → (with_front rows read >>= λ more. Ok (row ∷ more)) ≡ with_front (row ∷ rows) read
grouped row rows (Ok more) = refl
grouped row rows (Err fault) = refl

-- Rows are read, and then what stands behind them.
rows-then : (rows : List Row) (number : ℕ) (left : List Texts) → All IsRow rows → rows_from number (map columns rows ++ left) ≡ with_front rows (rows_from (number + length rows) left)
unfolding rows_from
rows-then [] number left h =
    let same : number ≡ number + 0 = omega arith in
    none (rows_from number left) ∙ ap (λ n. with_front [] (rows_from n left)) same
  where
    none : (read : Result (List Row) ReplayFault) → read ≡ with_front [] read
    none (Ok rows) = refl
    none (Err fault) = refl
rows-then (row ∷ rows) number left h =
    let first : IsKept row = kept row.moment row.target row.packet (All-head IsRow row rows h) in
    let count : number + 1 + length rows ≡ number + length (row ∷ rows) = omega arith in
    rw (first.0, rows-then rows (number + 1) left (All-tail IsRow row rows h))
    (grouped row rows (rows_from (number + 1 + length rows) left) ∙ ap (λ n. with_front (row ∷ rows) (rows_from n left)) count)

lines-are : (rows : List Row) → All IsRow rows → flat_map row_line rows ≡ text_of (map columns rows)
unfolding text_of
lines-are [] h = refl
lines-are (row ∷ rows) h =
    let first : IsKept row = kept row.moment row.target row.packet (All-head IsRow row rows h) in
    λ i. first.1 i ++ lines-are rows (All-tail IsRow row rows h) i

filled : (rows : List Row) → AllFilled (map columns rows)
filled [] = tt
filled (row ∷ rows) = filled rows

no-mark : (rows : List Row) → HasNoMark (text_of (header ∷ map columns rows))
unfolding text_of fields_text is_blank strip_bom
no-mark rows = refl

records-are : (rows : List Row) → All IsRow rows → records_of (file_of rows) ≡ header ∷ map columns rows
unfolding text_of fields_text is_blank
records-are rows h = ap (λ (t : List ℕ). records_of (codes "moment,target,number,src,dst,proto,sport,dport,len,word\n" ++ t)) (lines-are rows h)
    ∙ read-back (header ∷ map columns rows) (filled rows) (no-mark rows)

below : (left : List Texts) → rows_below (header ∷ left) ≡ rows_from 1 left
unfolding rows_below is_header field_at
below left = refl

pub rows-are-read : RowsAreRead
unfolding rows_from
rows-are-read rows h small =
    let fits : nat_le (length (file_of rows)) 67108864 ≡ true = le-leb _ _ small in
    rw fits
    (ap rows_below (records-are rows h) ∙ below (map columns rows) ∙ ap (rows_from 1) (sym (append-nil (map columns rows))) ∙ rows-then rows 1 [] h
    ∙ ap (λ (rs : List Row). Ok rs) (append-nil rows))

not-ten : (fields : Texts) → length fields ≢ 10 → row_of fields ≡ Err 0
unfolding row_of
not-ten fields other =
    let differs : (length fields == 10) ≡ false = ne_eqb (length fields) 10 other in
    rw differs refl

pub rows-have-ten-fields : RowsHaveTenFields
unfolding rows_from
rows-have-ten-fields text rows fields more h is other =
    let count : 1 + length rows ≡ length rows + 1 = omega arith in
    ap rows_below is ∙ below (map columns rows ++ fields ∷ more) ∙ rows-then rows 1 (fields ∷ more) h
    ∙ rw (not-ten fields other) (ap (λ n. let bad : Result (List Row) ReplayFault = Err (BadRow n 0) in bad) count)

-- ---- Histories

pub call-is : (c : Call) → call_fields c ≡ asked c
call-is (Submit (Pipe n) packet moment) = refl
call-is (Submit (Queue n) packet moment) = refl
call-is _ = refl

reply-is : (a : Reply) → reply_fields a ≡ answered a
reply-is (r.Queued at flow packet) = refl
reply-is _ = refl

aim-is : (t : Target) (others : Texts) → ◌≡◌ {A = Texts} (target_name t ∷ decimal (target_number t) ∷ others) (aim t ++ others)
aim-is (Pipe n) others = refl
aim-is (Queue n) others = refl

state-is : (s : FlowStatus) → status_record s ≡ state s
state-is s = ap (λ (fs : Texts). codes "f" ∷ decimal s.flow ∷ fs) (aim-is s.key.target
    (decimal s.key.pipe ∷ (bits s.key.mask ++ (tuple s.key.tuple ++ map decimal (s.queued ∷ s.bytes ∷ s.lost ∷ s.full ∷ s.started ∷ s.discarded ∷ [])))))

states-are : (list : List FlowStatus) → map status_record list ≡ map state list
states-are [] = refl
states-are (s ∷ list) = λ i. state-is s i ∷ states-are list i

items-are : (a : Reply) → item_records a ≡ listed a
items-are (r.Delivered at list) = refl
items-are (r.Status list) = states-are list
items-are _ = refl

pub entry-is : (e : Entry) → entry_records e ≡ entry e
entry-is e = λ i. (codes "c" ∷ decimal e.caller ∷ call-is e.call i) ∷ (codes "r" ∷ reply-is e.reply i) ∷ items-are e.reply i

entries-are : (entries : List Entry) → flat_map entry_records entries ≡ flat_map entry entries
entries-are [] = refl
entries-are (e ∷ entries) = λ i. entry-is e i ++ entries-are entries i

pub histories-are-written : HistoriesAreWritten
histories-are-written entries = records-back entries ∙ ap (λ (rs : List Texts). history_header ∷ (rs ++ end_record (length entries) ∷ [])) (entries-are entries)

pieces-are : (entries : List Entry) → (flat_map piece_records (map Ok entries) ≡ flat_map entry entries) × (flat_map piece_entries (map Ok entries) ≡ entries)
pieces-are [] = (refl, refl)
pieces-are (e ∷ entries) = let more = pieces-are entries in (λ i. entry-is e i ++ more.0 i, ap (λ (es : List Entry). e ∷ es) more.1)

module _ (version : HistoryVersion) where
  pieces-hold : (entries : List Entry) → All IsEntry entries → All (λ e. e.caller < 16) entries → All (IsPiece version) (map Ok entries)
  pieces-hold [] held callers = All-nil (IsPiece version)
  pieces-hold (e ∷ entries) held callers =
      All-cons (IsPiece version) (Ok e) (map Ok entries) (All-head (λ x. x.caller < 16) e entries callers, All-head IsEntry e entries held)
      (pieces-hold entries (All-tail IsEntry e entries held) (All-tail (λ x. x.caller < 16) e entries callers))

  read-by : (text : List ℕ) (entries : List Entry) → has_deletes version ≡ true → AreEntries entries → All (λ e. e.caller < 16) entries
      → records_of text ≡ version_record version ∷ records entries → history_in text ≡ Ok (rule_of version, entries)
  read-by text entries has held callers is =
      let pieces : List Piece = map Ok entries in
      let same = pieces-are entries in
      let all : records_of text ≡ version_record version ∷ (flat_map piece_records pieces ++ end_record (length (flat_map piece_entries pieces)) ∷ []) = rw (same.0, same.1) is in
      read_as version text pieces has all (pieces-hold entries held.each callers) (rw same.1 held.count) ∙ ap (λ (es : List Entry). Ok (rule_of version, es)) same.1

-- What a first record makes of a text.
abbrev IsReadBy : List ℕ → List Entry → Texts × Rule → Type 0
IsReadBy text entries x = records_of text ≡ x.0 ∷ records entries → history_in text ≡ Ok (x.1, entries)

pub histories-are-read : HistoriesAreRead
histories-are-read text entries first small held callers known is =
    let fits : nat_le (length text) 268435456 ≡ true = le-leb _ _ small in
    let rule : IsReadBy text entries first = ⊎_elim (λ e. subst (IsReadBy text entries) e (read-by Second text entries refl held callers))
    (λ h. ⊎_elim (λ e. subst (IsReadBy text entries) e (read-by Third text entries refl held callers))
    (λ h. ⊎_elim (λ e. subst (IsReadBy text entries) e (read-by Live text entries refl held callers)) (λ h. absurd h) h) h) known in
    rw fits (rule is)

pub limits-are-known : LimitsAreKnown
limits-are-known text = record {
  config = λ l. let over : nat_le (length text) 1048576 ≡ false = lt-leb _ _ l in rw over refl;
  packets = λ l. let over : nat_le (length text) 67108864 ≡ false = lt-leb _ _ l in rw over refl;
  history = λ l. let over : nat_le (length text) 268435456 ≡ false = lt-leb _ _ l in rw over refl;
}
