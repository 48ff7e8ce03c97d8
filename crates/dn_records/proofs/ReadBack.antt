-- The records of a text that was written are the records that were written.
use Rattle.dn_records.proofs.Words.{AllFilled, Fields, HasNoMark, List, [], ap, arith, default_config, default_writer, length, length-append, line_of, next_record, read-write, records_from}
use Rattle.dn_records.proofs.Words.{records_of, refl, row_body, suc, text_of, zero, ℕ, ◌++◌, ◌+◌, ◌∷◌, ◌≡◌, ◌≤◌}
use Rattle.csv.specs.declared.parser.State.TheVariants as st

-- what ends in a line feed has a byte
ends : (body blank : List ℕ) → 1 ≤ length (body ++ (blank ++ (10 ∷ [])))
ends body blank = simp (length-append {A = ℕ}) (omega arith)

pub line-some : (fields : Fields) → 1 ≤ length (line_of fields)
line-some fields = ends (row_body default_writer fields) _

-- the text of some records reads as these records in as many turns, and then as nothing
turns : (k : ℕ) (rows : List Fields) → AllFilled rows → length rows ≤ k → records_from default_config k st.StartRecord (text_of rows) ≡ rows
unfolding records_from text_of next_record
turns zero [] filled le = refl
turns (suc k) [] filled le = refl
turns zero (first ∷ rest) filled le = absurd (omega arith)
turns (suc k) ([] ∷ rest) filled le = absurd filled
turns (suc k) ((field ∷ fields) ∷ rest) filled le =
    rw (read-write (field ∷ fields) (text_of rest)) (ap (λ (t : List Fields). (field ∷ fields) ∷ t) (turns k rest filled (omega arith)))

-- each record takes a byte or more
count-le : (rows : List Fields) → length rows ≤ length (text_of rows)
unfolding text_of
count-le [] = omega arith
count-le (first ∷ rest) = let le = count-le rest in let one = line-some first in simp (length-append {A = ℕ}) (omega arith)

-- the text of records reads as those records
pub read-back : (rows : List Fields) → AllFilled rows → HasNoMark (text_of rows) → records_of (text_of rows) ≡ rows
read-back rows filled plain =
    let le = count-le rows in
    rw plain (turns (length (text_of rows) + 1) rows filled (omega arith))
