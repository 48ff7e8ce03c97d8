-- What is written of a session is read as the history of its calls.
use Rattle.dn_live.proofs.Words.{All, All-append, All-cons, All-nil, AllFilled, Appends, AreTyped, Asked, Bad, BadLine, Call, Calls, Entry, Err, Fields, HasNoMark, IsPiece, IsServed}
use Rattle.dn_live.proofs.Words.{IsServedTyped, IsTranscript, IsTyped, List, Live, Next, NoLineFeed, None, Nothing, Ok, Option, Ordered, Piece, Served, Some, [], answers, ap, append-nil}
use Rattle.dn_live.proofs.Words.{append_assoc, arith, asked, bad_record, calls_after, calls_of, calls_of-more, counted, end_record, entry-filled, entry-plain, entry_records, escaped, field_at}
use Rattle.dn_live.proofs.Words.{fields_text, filled-append, filter-append, flat_map, flat_map-append, history_header, history_in, history_records, is_blank, is_remark, lawful-more, length}
use Rattle.dn_live.proofs.Words.{length-append, live_header, not, piece_entries, piece_records, read-back, read_as, refl, reply, strip_bom, subst, sym, tail_answer, text-append, text_of, trace_of}
use Rattle.dn_live.proofs.Words.{true, wake_of, without_remarks, ℕ, ◌++◌, ◌+◌, ◌<◌, ◌^◌, ◌∙◌, ◌∷◌, ◌≡◌, ◌≤◌}
use Rattle.dn_types.specs.History.{IsLawful, calls_of as history_calls}
use Rattle.dn_live.specs.Session.{answer, next_record}
use Rattle.dn_live.proofs.Callers.{IsByFew, asked-few}
use Rattle.dn_live.proofs.SessionSteps.{counts, one-at-most}

-- The entry of a call after the calls before it.
abbrev entry_after : List Call → ℕ → Call → Entry
entry_after calls caller call = record { caller = caller; call = call; reply = reply Ordered calls call }

-- The entry of what a line asks for, if that is a call.
abbrev entry_of : List Call → Asked → List Entry
entry_of calls (Calls caller call) = entry_after calls caller call ∷ []
entry_of calls _ = []

-- The entries of lines, oldest first.
unfoldable entries_of : List (List ℕ) → List Entry
entries_of [] = []
entries_of (line ∷ lines) = entries_of lines ++ entry_of (calls_of lines) (asked line)

-- A history whose calls are these.
abbrev IsHistory : List Entry → List Call → Type 0
IsHistory entries calls = IsLawful Ordered entries × (history_calls entries ≡ calls) × (length entries ≡ length calls)

as-before : (calls : List Call) (entries : List Entry) → IsHistory entries calls → IsHistory (entries ++ []) calls
as-before calls entries h = subst (λ (es : List Entry). IsHistory es calls) (sym (append-nil entries)) h

one-more : (calls : List Call) (entries : List Entry) (what : Asked) → IsHistory entries calls → IsHistory (entries ++ entry_of calls what) (calls_after calls what)
one-more calls entries Nothing h = as-before calls entries h
one-more calls entries Next h = as-before calls entries h
one-more calls entries (Bad bad) h = as-before calls entries h
one-more calls entries (Calls caller call) h =
    let e : Entry = entry_after calls caller call in (
      lawful-more Ordered entries e h.0 (ap (λ (cs : List Call). reply Ordered cs call) (sym h.1)),
      calls_of-more entries e ∙ ap (λ (cs : List Call). call ∷ cs) h.1,
      omega (arith, length-append entries (e ∷ []), h.2),
    )

history : (lines : List (List ℕ)) → IsHistory (entries_of lines) (calls_of lines)
unfolding entries_of calls_of
history [] = (tt, refl, refl)
history (line ∷ lines) = one-more (calls_of lines) (entries_of lines) (asked line) (history lines)

-- What a line writes, as pieces of a transcript: an entry, a remark, or nothing.
abbrev pieces_after : ℕ → List Call → Asked → List Piece
pieces_after number calls Nothing = []
pieces_after number calls Next = Err (next_record (wake_of Ordered (trace_of (counted calls)))) ∷ []
pieces_after number calls (Calls caller call) = Ok (entry_after calls caller call) ∷ []
pieces_after number calls (Bad bad) = Err (bad_record number bad) ∷ []

abbrev tail_pieces : ℕ → List ℕ → List Piece
tail_pieces number [] = []
tail_pieces number (b ∷ tail) = Err (bad_record number (record { field = 0; cause = NoLineFeed })) ∷ []

unfoldable pieces_of : List (List ℕ) → List Piece
pieces_of [] = []
pieces_of (line ∷ lines) = pieces_of lines ++ pieces_after (length lines + 1) (calls_of lines) (asked line)

-- The pieces of a session, up to its end.
abbrev all_pieces : List (List ℕ) → List ℕ → List Piece
all_pieces lines tail = pieces_of lines ++ tail_pieces (length lines + 1) tail

-- They are what is written.
answer-records : (number : ℕ) (calls : List Call) (what : Asked) → flat_map piece_records (pieces_after number calls what) ≡ answer number calls what
answer-records number calls Nothing = refl
answer-records number calls Next = refl
answer-records number calls (Bad bad) = refl
answer-records number calls (Calls caller call) = append-nil (entry_records (entry_after calls caller call))

tail-records : (number : ℕ) (tail : List ℕ) → flat_map piece_records (tail_pieces number tail) ≡ tail_answer number tail
tail-records number [] = refl
tail-records number (b ∷ tail) = refl

answers-records : (lines : List (List ℕ)) → flat_map piece_records (pieces_of lines) ≡ answers lines
unfolding answers pieces_of
answers-records [] = refl
answers-records (line ∷ lines) =
    flat_map-append piece_records (pieces_of lines) (pieces_after (length lines + 1) (calls_of lines) (asked line))
    ∙ ap (λ (rs : List Fields). rs ++ flat_map piece_records (pieces_after (length lines + 1) (calls_of lines) (asked line))) (answers-records lines)
    ∙ ap (λ (rs : List Fields). answers lines ++ rs) (answer-records (length lines + 1) (calls_of lines) (asked line))

all-records : (lines : List (List ℕ)) (tail : List ℕ) → flat_map piece_records (all_pieces lines tail) ≡ answers lines ++ tail_answer (length lines + 1) tail
all-records lines tail =
    flat_map-append piece_records (pieces_of lines) (tail_pieces (length lines + 1) tail)
    ∙ ap (λ (rs : List Fields). rs ++ flat_map piece_records (tail_pieces (length lines + 1) tail)) (answers-records lines)
    ∙ ap (λ (rs : List Fields). answers lines ++ rs) (tail-records (length lines + 1) tail)

-- Their entries are those of the lines.
answer-entries : (number : ℕ) (calls : List Call) (what : Asked) → flat_map piece_entries (pieces_after number calls what) ≡ entry_of calls what
answer-entries number calls Nothing = refl
answer-entries number calls Next = refl
answer-entries number calls (Bad bad) = refl
answer-entries number calls (Calls caller call) = refl

tail-entries : (number : ℕ) (tail : List ℕ) → flat_map piece_entries (tail_pieces number tail) ≡ []
tail-entries number [] = refl
tail-entries number (b ∷ tail) = refl

pieces-entries : (lines : List (List ℕ)) → flat_map piece_entries (pieces_of lines) ≡ entries_of lines
unfolding entries_of pieces_of
pieces-entries [] = refl
pieces-entries (line ∷ lines) =
    flat_map-append piece_entries (pieces_of lines) (pieces_after (length lines + 1) (calls_of lines) (asked line))
    ∙ ap (λ (es : List Entry). es ++ flat_map piece_entries (pieces_after (length lines + 1) (calls_of lines) (asked line))) (pieces-entries lines)
    ∙ ap (λ (es : List Entry). entries_of lines ++ es) (answer-entries (length lines + 1) (calls_of lines) (asked line))

all-entries : (lines : List (List ℕ)) (tail : List ℕ) → flat_map piece_entries (all_pieces lines tail) ≡ entries_of lines
all-entries lines tail =
    flat_map-append piece_entries (pieces_of lines) (tail_pieces (length lines + 1) tail)
    ∙ ap (λ (es : List Entry). flat_map piece_entries (pieces_of lines) ++ es) (tail-entries (length lines + 1) tail)
    ∙ append-nil (flat_map piece_entries (pieces_of lines)) ∙ pieces-entries lines

-- Without remarks they are the records of the entries.
next-remark : (moment : Option ℕ) → is_remark (next_record moment) ≡ true
unfolding field_at
next-remark None = refl
next-remark (Some moment) = refl

bad-remark : (number : ℕ) (bad : BadLine) → is_remark (bad_record number bad) ≡ true
unfolding field_at
bad-remark number bad = refl

plain-append : (front back : List Fields) → without_remarks (front ++ back) ≡ without_remarks front ++ without_remarks back
plain-append front back = filter-append (λ fields. not (is_remark fields)) front back

next-plain : (moment : Option ℕ) → without_remarks (next_record moment ∷ []) ≡ []
unfolding field_at
next-plain None = refl
next-plain (Some moment) = refl

answer-plain : (number : ℕ) (calls : List Call) (what : Asked) → without_remarks (answer number calls what) ≡ flat_map entry_records (entry_of calls what)
unfolding field_at
answer-plain number calls Nothing = refl
answer-plain number calls Next = next-plain (wake_of Ordered (trace_of (counted calls)))
answer-plain number calls (Bad bad) = refl
answer-plain number calls (Calls caller call) = entry-plain (entry_after calls caller call) ∙ sym (append-nil (entry_records (entry_after calls caller call)))

answers-plain : (lines : List (List ℕ)) → without_remarks (answers lines) ≡ flat_map entry_records (entries_of lines)
unfolding answers entries_of
answers-plain [] = refl
answers-plain (line ∷ lines) =
    let now = answer (length lines + 1) (calls_of lines) (asked line) in
    plain-append (answers lines) now
    ∙ ap (λ (rs : List Fields). rs ++ without_remarks now) (answers-plain lines)
    ∙ ap (λ (rs : List Fields). flat_map entry_records (entries_of lines) ++ rs) (answer-plain (length lines + 1) (calls_of lines) (asked line))
    ∙ sym (flat_map-append entry_records (entries_of lines) (entry_of (calls_of lines) (asked line)))

tail-plain : (number : ℕ) (tail : List ℕ) (rest : List Fields) → without_remarks (tail_answer number tail ++ rest) ≡ without_remarks rest
unfolding field_at
tail-plain number [] rest = refl
tail-plain number (b ∷ tail) rest = refl

end-plain : (count : ℕ) → without_remarks (end_record count ∷ []) ≡ end_record count ∷ []
unfolding field_at
end-plain count = refl

-- The records of a session behind the first.
abbrev session : List (List ℕ) → List ℕ → List Fields
session lines tail = answers lines ++ (tail_answer (length lines + 1) tail ++ end_record (length (calls_of lines)) ∷ [])

session-plain : (lines : List (List ℕ)) (tail : List ℕ) → history_header ∷ without_remarks (session lines tail) ≡ history_records (entries_of lines)
session-plain lines tail =
    let count = length (calls_of lines) in
    let last = tail_answer (length lines + 1) tail ++ end_record count ∷ [] in
    let last_is : without_remarks last ≡ end_record (length (entries_of lines)) ∷ [] =
    tail-plain (length lines + 1) tail (end_record count ∷ []) ∙ end-plain count ∙ ap (λ (n : ℕ). end_record n ∷ []) (sym (history lines).2) in
    ap (λ (rs : List Fields). history_header ∷ rs)
    (plain-append (answers lines) last ∙ ap (λ (rs : List Fields). rs ++ without_remarks last) (answers-plain lines)
    ∙ ap (λ (rs : List Fields). flat_map entry_records (entries_of lines) ++ rs) last_is)

-- The numbers of the entries are in their ranges.
calls-few : (lines : List (List ℕ)) → length (calls_of lines) ≤ length lines
unfolding calls_of
calls-few [] = omega arith
calls-few (line ∷ lines) = omega (arith, calls-few lines, counts (calls_of lines) (asked line), one-at-most (asked line))

-- Each piece can be in a transcript.
after-held : (number : ℕ) (calls : List Call) (what : Asked) → IsTyped calls what → IsByFew what → All (IsPiece Live) (pieces_after number calls what)
after-held number calls Nothing typed few = All-nil (IsPiece Live)
after-held number calls Next typed few =
    let moment = wake_of Ordered (trace_of (counted calls)) in
    All-cons (IsPiece Live) (Err (next_record moment)) [] (refl, next-remark moment) (All-nil (IsPiece Live))
after-held number calls (Bad bad) typed few = All-cons (IsPiece Live) (Err (bad_record number bad)) [] (refl, bad-remark number bad) (All-nil (IsPiece Live))
after-held number calls (Calls caller call) typed few = All-cons (IsPiece Live) (Ok (entry_after calls caller call)) [] (few, typed) (All-nil (IsPiece Live))

tail-held : (number : ℕ) (tail : List ℕ) → All (IsPiece Live) (tail_pieces number tail)
tail-held number [] = All-nil (IsPiece Live)
tail-held number (b ∷ tail) =
    let bad : BadLine = record { field = 0; cause = NoLineFeed } in
    All-cons (IsPiece Live) (Err (bad_record number bad)) [] (refl, bad-remark number bad) (All-nil (IsPiece Live))

pieces-held : (lines : List (List ℕ)) → AreTyped lines → All (IsPiece Live) (pieces_of lines)
unfolding AreTyped pieces_of
pieces-held [] typed = All-nil (IsPiece Live)
pieces-held (line ∷ lines) typed =
    All-append (IsPiece Live) (pieces_of lines) (pieces_after (length lines + 1) (calls_of lines) (asked line)) (pieces-held lines typed.1)
    (after-held (length lines + 1) (calls_of lines) (asked line) typed.0 (asked-few line))

-- The records of a session are read as they were written.
next-filled : (moment : Option ℕ) → AllFilled (next_record moment ∷ [])
next-filled None = tt
next-filled (Some moment) = tt

answer-filled : (number : ℕ) (calls : List Call) (what : Asked) → AllFilled (answer number calls what)
answer-filled number calls Nothing = tt
answer-filled number calls Next = next-filled (wake_of Ordered (trace_of (counted calls)))
answer-filled number calls (Calls caller call) = entry-filled (entry_after calls caller call)
answer-filled number calls (Bad bad) = tt

answers-filled : (lines : List (List ℕ)) → AllFilled (answers lines)
unfolding answers
answers-filled [] = tt
answers-filled (line ∷ lines) =
    filled-append (answers lines) (answer (length lines + 1) (calls_of lines) (asked line)) (answers-filled lines) (answer-filled (length lines + 1) (calls_of lines) (asked line))

closing-filled : (number count : ℕ) (tail : List ℕ) → AllFilled (tail_answer number tail ++ end_record count ∷ [])
closing-filled number count [] = tt
closing-filled number count (b ∷ tail) = tt

session-filled : (lines : List (List ℕ)) (tail : List ℕ) → AllFilled (live_header ∷ session lines tail)
session-filled lines tail =
    let count = length (calls_of lines) in
    filled-append (answers lines) (tail_answer (length lines + 1) tail ++ end_record count ∷ []) (answers-filled lines) (closing-filled (length lines + 1) count tail)

-- A session's text begins with a letter.
no-mark : (lines : List (List ℕ)) (tail : List ℕ) → HasNoMark (text_of (live_header ∷ session lines tail))
unfolding text_of fields_text is_blank escaped strip_bom
no-mark lines tail = refl

session-back : (lines : List (List ℕ)) (tail : List ℕ) → AreTyped lines → length lines < 2 ^ 64 → history_in (text_of (live_header ∷ session lines tail)) ≡ Ok (Ordered, entries_of lines)
session-back lines tail typed few =
    let pieces = all_pieces lines tail in
    let entries_are = all-entries lines tail in
    let last = end_record (length (calls_of lines)) in
    let body : flat_map piece_records pieces ++ end_record (length (flat_map piece_entries pieces)) ∷ [] ≡ session lines tail =
    ap (λ (rs : List Fields). rs ++ end_record (length (flat_map piece_entries pieces)) ∷ []) (all-records lines tail)
    ∙ ap (λ (n : ℕ). (answers lines ++ tail_answer (length lines + 1) tail) ++ end_record n ∷ []) (ap (length {A = Entry}) entries_are ∙ (history lines).2)
    ∙ append_assoc (answers lines) (tail_answer (length lines + 1) tail) (last ∷ []) in
    let records_are = read-back (live_header ∷ session lines tail) (session-filled lines tail) (no-mark lines tail) ∙ ap (λ (rs : List Fields). live_header ∷ rs) (sym body) in
    let count : length (flat_map piece_entries pieces) < 2 ^ 64 = omega (arith, few, calls-few lines, (history lines).2, ap (length {A = Entry}) entries_are) in
    read_as Live (text_of (live_header ∷ session lines tail)) pieces refl records_are
    (All-append (IsPiece Live) (pieces_of lines) (tail_pieces (length lines + 1) tail) (pieces-held lines typed) (tail-held (length lines + 1) tail)) count
    ∙ ap (λ (es : List Entry). Ok (Ordered, es)) entries_are

pub transcript : (known old new : Option (List ℕ)) (served : Served) → IsServedTyped known old new served → IsTranscript old new
transcript known old new served (lines, tail, (typed, few), (text, all, app, is)) = (
  entries_of lines,
  (history lines).0,
  (
    session lines tail,
    subst (Appends old new) (sym (text-append (live_header ∷ answers lines) (tail_answer (length lines + 1) tail ++ end_record (length (calls_of lines)) ∷ []))) app,
    session-plain lines tail,
    session-back lines tail typed few,
  ),
)

pub untyped : (known old new : Option (List ℕ)) (served : Served) → IsServedTyped known old new served → IsServed known old new served
untyped known old new served (lines, tail, typed, by) = (lines, tail, by)
