-- The first record of a text, byte by byte.
use Rattle.dn_records.proofs.Words.{Fields, Holds, List, None, Read, Row, Some, Step, TakesFront, [], arith, csv_state, csv_step, default_config, drop, ends_at_end, false, field_after}
use Rattle.dn_records.proofs.Words.{fields_after, fields_of, get_or, is_end, length, next_record, partial_of, records_after, records_from, records_of, refl, step, sym, take, take_all, take_rest}
use Rattle.dn_records.proofs.Words.{true, ℕ, ◌++◌, ◌-◌, ◌<◌, ◌∙◌, ◌∷◌, ◌≡◌, ◌≤◌}
use Rattle.csv.specs.declared.parser.State.TheVariants as st
use Rattle.dn_records.specs.declared.state.State.{State}
use Rattle.dn_records.specs.declared.state.State.TheVariants as s
use Rattle.dn_records.proofs.LineEnds.{first-is}
use Rattle.dn_records.proofs.NextRecord.{next-between, next-shorter}
use Rattle.dn_records.proofs.PlainLines.{none-in}
use Rattle.dn_records.proofs.RecordSteps.{first_read}
use Rattle.dn_records.proofs.Steps.{state-left}

-- A front of a text was read: what csv's reader reads of the text it reads on of what is left.
pub record IsReading (most : ℕ) (text : List ℕ) (state : State) (left : List ℕ) (row : Row) (buffer : List ℕ) : Type 0 where
  pub all : Fields
  pub last : List ℕ
  pub same : next_record default_config st.StartRecord [] [] text ≡ next_record default_config (csv_state state) all last left
  pub holds : Holds most all last row buffer

pub at-start : (most : ℕ) (text : List ℕ) (row : Row) (buffer : List ℕ) → fields_of row ≡ [] → partial_of row ≡ [] → buffer ≡ [] → IsReading most text s.StartRecord text row buffer
at-start most text row buffer none whole empty = record {
  all = [];
  last = [];
  same = refl;
  holds = record { front = none ∙ sym (take_all most [] (omega arith)); whole = whole; rest = λ lt. empty };
}

-- What is held behind a byte.
abbrev pub HoldsBehind : ℕ → ℕ → Step → Row → List ℕ → Row → List ℕ → Type 0
HoldsBehind most byte step row buffer row2 buffer2 =
    (all : Fields) (last : List ℕ) → Holds most all last row buffer
    → Holds most (fields_after (csv_step byte step).1 all last) (field_after (csv_step byte step).1 byte last) row2 buffer2

first-read : (text : List ℕ) (q : Read) → next_record default_config st.StartRecord [] [] text ≡ Some q → records_after st.StartRecord text ≡ q.0 ∷ records_after q.1 q.2
first-read text q e = first-is text q.0 q.1 q.2 e (next-between st.StartRecord [] [] text q e) (next-shorter st.StartRecord text q refl e)

module _ (most : ℕ) (text : List ℕ) (state : State) (row : Row) (buffer : List ℕ) where
  -- A byte within the record.
  pub byte-read : (left : List ℕ) (made : Step) (next : State) (row2 : Row) (buffer2 : List ℕ) → IsReading most text state left row buffer → 1 ≤ length left
      → step default_config (csv_state state) (get_or left 0 0) ≡ csv_step (get_or left 0 0) made → HoldsBehind most (get_or left 0 0) made row buffer row2 buffer2
      → is_end (csv_step (get_or left 0 0) made).1 ≡ false → csv_state next ≡ (csv_step (get_or left 0 0) made).0
      → IsReading most text next (take (length left - 1) (drop 1 left)) row2 buffer2
  unfolding next_record
  byte-read [] made next row2 buffer2 reading some steps behind inside goes = absurd (omega arith)
  byte-read (byte ∷ rest) made next row2 buffer2 reading some steps behind inside goes = rw (take_rest (byte ∷ rest) 1) (record {
    all = fields_after (csv_step byte made).1 reading.all reading.last;
    last = field_after (csv_step byte made).1 byte reading.last;
    same = reading.same ∙ rw (steps, inside, goes) refl;
    holds = behind reading.all reading.last reading.holds;
  })

  -- The byte that ends it.
  pub record-read : (left : List ℕ) (made : Step) (row2 : Row) (buffer2 : List ℕ) → IsReading most text state left row buffer → 1 ≤ length left
      → step default_config (csv_state state) (get_or left 0 0) ≡ csv_step (get_or left 0 0) made → HoldsBehind most (get_or left 0 0) made row buffer row2 buffer2
      → is_end (csv_step (get_or left 0 0) made).1 ≡ true → TakesFront most (records_after st.StartRecord text) (records_of left) true (fields_of row2)
  unfolding next_record
  record-read [] made row2 buffer2 reading some steps behind ends = absurd (omega arith)
  record-read (byte ∷ rest) made row2 buffer2 reading some steps behind ends =
      let here : is_end (step default_config (csv_state state) byte).1 ≡ true = rw steps ends in
      let fields = fields_after (step default_config (csv_state state) byte).1 reading.all reading.last in
      let read : next_record default_config st.StartRecord [] [] text ≡ Some (fields, (step default_config (csv_state state) byte).0, rest) = reading.same ∙ rw here refl in
      let first = first-read text (fields, (step default_config (csv_state state) byte).0, rest) read in
      let front : fields_of row2 ≡ take most fields = rw steps ((behind reading.all reading.last reading.holds).front) in
      rw first (refl, front, state-left state byte rest here)

  -- The end of the text, which ends a record or none.
  pub last-read : (left : List ℕ) (row2 : Row) (buffer2 : List ℕ) → IsReading most text state left row buffer → length left < 1 → ends_at_end (csv_state state) ≡ true
      → ((all : Fields) (last : List ℕ) → Holds most all last row buffer → Holds most (all ++ last ∷ []) [] row2 buffer2)
      → TakesFront most (records_after st.StartRecord text) (records_of left) true (fields_of row2)
  unfolding next_record records_from
  last-read (byte ∷ rest) row2 buffer2 reading none ends behind = absurd (omega arith)
  last-read [] row2 buffer2 reading none ends behind =
      let read : next_record default_config st.StartRecord [] [] text ≡ Some (reading.all ++ reading.last ∷ [], st.StartRecord, []) = reading.same ∙ rw ends refl in
      let first = first-read text (reading.all ++ reading.last ∷ [], st.StartRecord, []) read in
      rw first (refl, (behind reading.all reading.last reading.holds).front, none-in)

  pub none-read : (left : List ℕ) → IsReading most text state left row buffer → length left < 1 → ends_at_end (csv_state state) ≡ false → records_after st.StartRecord text ≡ []
  unfolding next_record
  none-read (byte ∷ rest) reading none ends = absurd (omega arith)
  none-read [] reading none ends =
      let read : next_record default_config st.StartRecord [] [] text ≡ None = reading.same ∙ rw ends refl in
      first_read st.StartRecord text None read
