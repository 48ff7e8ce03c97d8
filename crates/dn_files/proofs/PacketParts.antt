-- A packet file that comes in parts: one step of its reader.
use Rattle.dn_files.proofs.Words.{Err, HasRead, IsFaultOf, List, Ok, OnOk, ReplayFault, Result, Row, Unread, [], ap, append_assoc, arith, behind-feed, cond, drop, drop-append-le, drop-append_seam}
use Rattle.dn_files.proofs.Words.{drop-drop, drop-set, field_at, header, is_header, is_ok, length, length-append, records_after, records_of, refl, rows_below, rows_from, rows_left, rows_of, set}
use Rattle.dn_files.proofs.Words.{subst, suc, sym, take, take-append-drop, true, with_front, zero, ℕ, ◌++◌, ◌+◌, ◌-◌, ◌<◌, ◌∙◌, ◌∷◌, ◌≡◌, ◌≤◌}
use Rattle.csv.specs.declared.parser.State.TheVariants as st
use Rattle.dn_files.proofs.Headers.{BeginsFirst}
use Rattle.dn_files.proofs.Inputs.{carried}
use Rattle.dn_files.proofs.PlainRows.{ReadsRow}
use Rattle.dn_files.proofs.Rows.{one_more, starts}

-- No row of a text has been taken.
pub fresh : (items : List ℕ) → HasRead (record { number = 0; text = drop 0 items }) items []
unfolding rows_left
fresh items = record { front = []; stands = refl; goes_on = λ more. sym (starts (rows_of more)) }

-- A part more.
part_more : (number : ℕ) (left part text : List ℕ) (rows : List Row) → HasRead (record { number = number; text = left }) text rows
    → HasRead (record { number = number; text = left ++ part }) (text ++ part) rows
part_more number left part text rows has = record {
  front = has.front;
  stands = ap (λ (t : List ℕ). t ++ part) has.stands ∙ append_assoc has.front left part;
  goes_on = has.goes_on;
}

pub fed : {T E : Type 0} (r : Result T E) (number start : ℕ) (items new part : List ℕ) (old mid : Unread) → new ≡ cond (is_ok r) (items ++ part) items → start ≤ length items
    → record { number = number; text = drop start items } ≡ mid → mid ≡ old
    → OnOk r ((text : List ℕ) → (rows : List Row) → HasRead old text rows → HasRead (record { number = number; text = drop start new }) (text ++ part) rows)
fed (Err e) number start items new part old mid is le view same = tt
fed (Ok x) number start items new part old mid is le view same = λ text rows has.
    let had : HasRead (record { number = number; text = drop start items }) text rows = subst (λ (u : Unread). HasRead u text rows) (sym (view ∙ same)) has in
    rw (is, drop-append-le start items part le) (part_more number (drop start items) part text rows had)

-- The bytes before a place are forgotten, but for the last of them.
pub forgotten : (start : ℕ) (items : List ℕ) → 0 < start → drop 1 (drop (start - 1) items) ≡ drop start items
forgotten start items some = drop-drop 1 (start - 1) items ∙ ap (λ k. drop k items) (omega arith)

-- What stands behind a line, by its length.
pub cut : (start : ℕ) (items line rest : List ℕ) → start ≤ length items → drop start items ≡ line ++ rest → drop (length items - length rest) items ≡ rest
cut start items line rest le is =
    let whole : items ≡ (take start items ++ line) ++ rest = sym (take-append-drop start items) ∙ ap (λ (t : List ℕ). take start items ++ t) is ∙ sym (append_assoc (take start items) line rest) in
    let count : length items ≡ length (take start items ++ line) + length rest = ap (length {A = ℕ}) whole ∙ length-append (take start items ++ line) rest in
    ap (λ k. drop k items) (let n : length items - length rest ≡ length (take start items ++ line) = omega arith in n)
    ∙ ap (drop (length (take start items ++ line))) whole ∙ drop-append_seam (take start items ++ line) rest

-- The header is a header.
header-is : is_header header ≡ true
unfolding is_header field_at
header-is = refl

-- What stands behind a line, by the line feed at its end.
pub cut-line : (start : ℕ) (items front rest : List ℕ) → start ≤ length items → drop start items ≡ front ++ 10 ∷ rest → drop (length items - length rest) items ≡ rest
cut-line start items front rest le is = cut start items (front ++ 10 ∷ []) rest le (is ∙ sym (append_assoc front (10 ∷ []) rest))

-- A line between what was read before it and what follows.
line-between : (front line rest : List ℕ) → (front ++ (line ++ 10 ∷ [])) ++ rest ≡ front ++ (line ++ 10 ∷ rest)
line-between front line rest = append_assoc front (line ++ 10 ∷ []) rest ∙ ap (λ (t : List ℕ). front ++ t) (append_assoc line (10 ∷ []) rest)

-- A line at the front of what is left, once it was read.
line-read : (text front left line rest : List ℕ) → text ≡ front ++ left → left ≡ line ++ 10 ∷ rest → text ≡ (front ++ (line ++ 10 ∷ [])) ++ rest
line-read text front left line rest stands begins = stands ∙ ap (λ (t : List ℕ). front ++ t) begins ∙ sym (line-between front line rest)

header_passed : (left rest text : List ℕ) (rows : List Row) → BeginsFirst left header rest → HasRead (record { number = 0; text = left }) text rows
    → HasRead (record { number = 1; text = rest }) text rows
unfolding rows_left rows_below
header_passed left rest text rows begins has = record {
  front = has.front ++ (begins.front ++ 10 ∷ []);
  stands = line-read text has.front left begins.front rest has.stands begins.stands;
  goes_on = λ more.
      let next : rows_of (begins.front ++ 10 ∷ more) ≡ rows_from 1 (records_after st.StartRecord more) = ap rows_below (begins.reads more) ∙ rw header-is refl in
      ap rows_of (line-between has.front begins.front more) ∙ has.goes_on (begins.front ++ 10 ∷ more) ∙ ap (with_front rows) next;
}

-- The header was read, and the text behind it is left.
pub header_taken : (number start len : ℕ) (items rest : List ℕ) (old : Unread) → record { number = number; text = drop start items } ≡ old → number ≡ 0 → start ≤ length items
    → BeginsFirst (drop start items) header rest → len ≡ length items → (text : List ℕ) → (rows : List Row) → HasRead old text rows
    → HasRead (record { number = 1; text = drop (len - length rest) items }) text rows
header_taken number start len items rest old view first le begins count text rows has =
    let had : HasRead (record { number = 0; text = drop start items }) text rows =
    subst (λ (u : Unread). HasRead u text rows) (sym view ∙ ap (λ n. record { number = n; text = drop start items }) first) has in
    rw (count, cut-line start items begins.front rest le begins.stands) (header_passed (drop start items) rest text rows begins had)

-- The rows from a row on.
pub later : (number : ℕ) (text : List ℕ) → 0 < number → rows_left number text ≡ rows_from number (records_after st.StartRecord text)
unfolding rows_left
later zero text some = absurd (omega arith)
later (suc n) text some = refl

row_passed : (number : ℕ) (row : Row) (left rest text : List ℕ) (rows : List Row) → 0 < number → ReadsRow left row rest
    → HasRead (record { number = number; text = left }) text rows → HasRead (record { number = number + 1; text = rest }) text (rows ++ row ∷ [])
row_passed number row left rest text rows some begins has = record {
  front = has.front ++ (begins.line.front ++ 10 ∷ []);
  stands = line-read text has.front left begins.line.front rest has.stands begins.line.stands;
  goes_on = λ more.
      let behind = records_after st.StartRecord more in
      let line = begins.line.front ++ 10 ∷ more in
      ap rows_of (line-between has.front begins.line.front more) ∙ has.goes_on line
      ∙ ap (with_front rows) (later number line some ∙ ap (rows_from number) (begins.line.reads more))
      ∙ one_more rows number (begins.fields ∷ behind) behind row (begins.says, refl, refl)
      ∙ ap (with_front (rows ++ row ∷ [])) (sym (later (number + 1) more (omega arith)));
}

-- A row was read, and the text behind it is left.
pub row_taken : (number start len : ℕ) (items rest : List ℕ) (row : Row) (old : Unread) → record { number = number; text = drop start items } ≡ old → 0 < number → start ≤ length items
    → ReadsRow (drop start items) row rest → len ≡ length items → (text : List ℕ) → (rows : List Row) → HasRead old text rows
    → HasRead (record { number = number + 1; text = drop (len - length rest) items }) text (rows ++ row ∷ [])
row_taken number start len items rest row old view some le begins count text rows has =
    let had : HasRead (record { number = number; text = drop start items }) text rows = subst (λ (u : Unread). HasRead u text rows) (sym view) has in
    rw (count, cut-line start items begins.line.front rest le begins.line.stands) (row_passed number row (drop start items) rest text rows some begins had)

-- What is left behind the header is no longer.
pub header_shorter : (number start len : ℕ) (items rest : List ℕ) (old : Unread) → record { number = number; text = drop start items } ≡ old → start ≤ length items
    → BeginsFirst (drop start items) header rest → len ≡ length items → length (drop (len - length rest) items) ≤ length old.text
header_shorter number start len items rest old view le begins count =
    let left = cut-line start items begins.front rest le begins.stands in
    let was : length (drop start items) ≡ length old.text = ap (λ (u : Unread). length u.text) view in
    let sum : length (drop start items) ≡ length begins.front + length (10 ∷ rest) = ap (length {A = ℕ}) begins.stands ∙ length-append begins.front (10 ∷ rest) in
    rw (count, left) (omega arith)

-- What is left behind a row is shorter.
pub row_shorter : (number start len : ℕ) (items rest : List ℕ) (row : Row) (old : Unread) → record { number = number; text = drop start items } ≡ old → start ≤ length items
    → ReadsRow (drop start items) row rest → len ≡ length items → length (drop (len - length rest) items) < length old.text
row_shorter number start len items rest row old view le begins count =
    let left = cut-line start items begins.line.front rest le begins.line.stands in
    let was : length (drop start items) ≡ length old.text = ap (λ (u : Unread). length u.text) view in
    let sum : length (drop start items) ≡ length begins.line.front + length (10 ∷ rest) = ap (length {A = ℕ}) begins.line.stands ∙ length-append begins.line.front (10 ∷ rest) in
    rw (count, left) (omega arith)

-- What is left once the text has ended.
pub finished : (number : ℕ) (left : List ℕ) (old : Unread) (read : Result (List Row) ReplayFault) → record { number = number; text = left } ≡ old → rows_left number left ≡ read
    → (text : List ℕ) → (rows : List Row) → HasRead old text rows → rows_of text ≡ with_front rows read
finished number left old read view is text rows has =
    let had : HasRead (record { number = number; text = left }) text rows = subst (λ (u : Unread). HasRead u text rows) (sym view) has in
    ap rows_of had.stands ∙ had.goes_on left ∙ ap (with_front rows) is

pub finished_fault : (number : ℕ) (left : List ℕ) (old : Unread) (read : Result (List Row) ReplayFault) (fault : ReplayFault)
    → record { number = number; text = left } ≡ old → rows_left number left ≡ read
    → IsFaultOf read fault → (text : List ℕ) → (rows : List Row) → HasRead old text rows → IsFaultOf (rows_of text) fault
finished_fault number left old read fault view is own text rows has =
    carried read (rows_of text) fault (λ f e. finished number left old read view is text rows has ∙ ap (with_front rows) e) own

-- What is left is read behind a line feed that stands in the place of the last byte read.
pub behind_line : (number start : ℕ) (items written : List ℕ) → 0 < number → 0 < start → start ≤ length items → written ≡ set items (start - 1) 10
    → rows_left number (drop start items) ≡ rows_from number (records_of (drop (start - 1) written))
behind_line number start items written some behind le is =
    let place : start - 1 < length items = omega arith in
    let next : start - 1 + 1 ≡ start = omega arith in
    later number (drop start items) some
    ∙ ap (rows_from number) (sym (ap records_of (ap (drop (start - 1)) is ∙ drop-set items (start - 1) 10 place ∙ ap (λ k. 10 ∷ drop k items) next) ∙ behind-feed (drop start items)))

-- The first row of a reader is that of the file.
pub at_header : (number : ℕ) (left : List ℕ) → number ≡ 0 → rows_left number left ≡ rows_of left
unfolding rows_left
at_header number left none = rw none refl

-- What is left after a row is shorter.
pub begins_shorter : (left behind : List ℕ) (row : Row) → ReadsRow left row behind → length behind < length left
begins_shorter left behind row begins =
    let sum : length left ≡ length begins.line.front + length (10 ∷ behind) = ap (length {A = ℕ}) begins.line.stands ∙ length-append begins.line.front (10 ∷ behind) in
    omega arith
