-- Chunks of a packet file: one row more.
use Rattle.dn_files.proofs.Words.{BeginsWith, Err, HasRows, List, Ok, ReplayFault, Result, Row, [], ap, append-nil, append_assoc, arith, drop, drop-append_seam, drop_all, length, length-append}
use Rattle.dn_files.proofs.Words.{next_record, records_after, records_from, refl, rows_from, rows_left, subst, sym, take, take-append-drop, take-append_seam, with_front, ℕ, ◌++◌, ◌+◌, ◌-◌, ◌<◌}
use Rattle.dn_files.proofs.Words.{◌∙◌, ◌∷◌, ◌≡◌}
use Rattle.csv.specs.declared.parser.State.TheVariants as st
use Rattle.dn_files.proofs.PacketParts.{later}
use Rattle.dn_files.proofs.PlainRows.{ReadsRow}
use Rattle.dn_files.proofs.Rows.{one_more, starts}

-- Rows in front of rows in front of what is read.
fronts : (first second : List Row) (read : Result (List Row) ReplayFault) → with_front (first ++ second) read ≡ with_front first (with_front second read)
fronts first second (Ok rows) = ap (λ (rs : List Row). Ok rs) (append_assoc first second rows)
fronts first second (Err fault) = refl

-- Two chunks, one behind the other.
two : (front back : List ℕ) (first second : List Row) → HasRows front first → HasRows back second → HasRows (front ++ back) (first ++ second)
two front back first second one other = record {
  first = λ number more.
      let left = records_after st.StartRecord more in
      let count : number + length (first ++ second) ≡ number + length first + length second = omega (arith, length-append first second) in
      ap (λ (n : ℕ). with_front (first ++ second) (rows_from n left)) count
      ∙ (fronts first second (rows_from (number + length first + length second) left)
      ∙ (ap (with_front first) (other.first (number + length first) more)
      ∙ (one.first number (back ++ more) ∙ ap (λ (t : List ℕ). rows_from number (records_after st.StartRecord t)) (sym (append_assoc front back more)))));
}

-- These rows were read off a text, and this is left of it.
pub record GoesOn (text : List ℕ) (rows : List Row) (rest : List ℕ) : Type 0 where
  pub front : List ℕ
  pub stands : text ≡ front ++ rest
  pub has : HasRows front rows

no_rows : HasRows [] []
no_rows = record {
  first = λ number more.
      let none : number + length {A = Row} [] ≡ number = omega arith in
      starts (rows_from (number + length {A = Row} []) (records_after st.StartRecord more)) ∙ ap (λ (n : ℕ). rows_from n (records_after st.StartRecord more)) none;
}

pub begun : (text : List ℕ) → GoesOn text [] text
begun text = record { front = []; stands = refl; has = no_rows }

-- A line that has one row.
one_row : (rest behind : List ℕ) (row : Row) → (begins : ReadsRow rest row behind) → HasRows (begins.line.front ++ 10 ∷ []) (row ∷ [])
one_row rest behind row begins = record {
  first = λ number more.
      let left = records_after st.StartRecord more in
      let line : (begins.line.front ++ 10 ∷ []) ++ more ≡ begins.line.front ++ 10 ∷ more = append_assoc begins.line.front (10 ∷ []) more in
      sym (ap (λ (t : List ℕ). rows_from number (records_after st.StartRecord t)) line ∙ (ap (rows_from number) (begins.line.reads more)
      ∙ (sym (starts (rows_from number (begins.fields ∷ left))) ∙ one_more [] number (begins.fields ∷ left) left row (begins.says, refl, refl))));
}

pub row_more : (text rest behind : List ℕ) (rows : List Row) (row : Row) → ReadsRow rest row behind → GoesOn text rows rest → GoesOn text (rows ++ row ∷ []) behind
row_more text rest behind rows row begins so_far =
    let line = begins.line.front ++ 10 ∷ [] in
    let left : rest ≡ line ++ behind = begins.line.stands ∙ sym (append_assoc begins.line.front (10 ∷ []) behind) in
    record {
      front = so_far.front ++ line;
      stands = so_far.stands ∙ (ap (λ (t : List ℕ). so_far.front ++ t) left ∙ sym (append_assoc so_far.front line behind));
      has = two so_far.front line rows (row ∷ []) so_far.has (one_row rest behind row begins);
    }

-- What was read is the front of the text, by its length.
pub front_is : (text rest : List ℕ) (rows : List Row) → GoesOn text rows rest → BeginsWith text (length text - length rest) rows × (drop (length text - length rest) text ≡ rest)
front_is text rest rows so_far =
    let front = so_far.front in
    let count : length text ≡ length front + length rest = ap (length {A = ℕ}) so_far.stands ∙ length-append front rest in
    let used : length text - length rest ≡ length front = omega arith in
    let taken : take (length front) text ≡ front = ap (take (length front)) so_far.stands ∙ take-append_seam front rest in
    rw used (
      record { within = omega arith; first = subst (λ (t : List ℕ). HasRows t rows) (sym taken) so_far.has },
      ap (drop (length front)) so_far.stands ∙ drop-append_seam front rest,
    )

-- The rows behind none.
none_left : (number : ℕ) → rows_from number (records_after st.StartRecord []) ≡ Ok []
unfolding rows_from records_from next_record
none_left number = refl

-- The rows of a chunk are those that a text has of which it is all.
pub told : (chunk : List ℕ) (rows : List Row) → HasRows chunk rows → rows_left 1 chunk ≡ Ok rows
told chunk rows has =
    let one : 0 < 1 = omega arith in
    later 1 chunk one
    ∙ (ap (λ (t : List ℕ). rows_from 1 (records_after st.StartRecord t)) (sym (append-nil chunk))
    ∙ (sym (has.first 1 []) ∙ (ap (with_front rows) (none_left (1 + length rows)) ∙ ap (λ (rs : List Row). Ok rs) (append-nil rows))))

-- No byte has no row.
pub none_used : (text : List ℕ) (used : ℕ) (rows : List Row) → BeginsWith text used rows → used ≡ 0 → rows ≡ []
none_used text used rows begins none =
    let one : 0 < 1 = omega arith in
    let taken : take used text ≡ [] = ap (λ k. take k text) none in
    let read : ◌≡◌ {A = Result (List Row) ReplayFault} (Ok rows) (Ok []) = sym (told (take used text) rows begins.first) ∙ (ap (rows_left 1) taken ∙ (later 1 [] one ∙ none_left 1)) in
    cc read

-- The rows of a text, and those behind the rows that it begins with.
pub left_behind : (text : List ℕ) (used : ℕ) (rows : List Row) → BeginsWith text used rows → with_front rows (rows_left (1 + length rows) (drop used text)) ≡ rows_left 1 text
left_behind text used rows begins =
    let some : 0 < 1 + length rows = omega arith in let one : 0 < 1 = omega arith in
    ap (with_front rows) (later (1 + length rows) (drop used text) some)
    ∙ (begins.first.first 1 (drop used text) ∙ (sym (later 1 (take used text ++ drop used text) one) ∙ ap (rows_left 1) (take-append-drop used text)))

-- The same of a text that has no more than its rows.
pub left_whole : (text : List ℕ) (rows : List Row) → rows_left 1 text ≡ Ok rows → with_front rows (rows_left (1 + length rows) (drop (length text) text)) ≡ rows_left 1 text
left_whole text rows read =
    let some : 0 < 1 + length rows = omega arith in
    ap (λ (t : List ℕ). with_front rows (rows_left (1 + length rows) t)) (drop_all (length text) text (omega arith))
    ∙ (ap (with_front rows) (later (1 + length rows) [] some ∙ none_left (1 + length rows))
    ∙ (ap (λ (rs : List Row). Ok rs) (append-nil rows) ∙ sym read))
