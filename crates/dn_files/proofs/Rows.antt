-- Reading rows one after the other.
use Rattle.dn_files.proofs.Words.{BadRow, Err, Fields, IsFaultOf, List, None, Ok, ReplayFault, Result, Row, Some, Takes, TakesRow, [], ap, append-nil, append_assoc, arith, false, is_header}
use Rattle.dn_files.proofs.Words.{length, length-append, refl, row_of, rows_below, rows_from, sym, true, ℕ, ◌++◌, ◌+◌, ◌<◌, ◌∙◌, ◌∷◌, ◌≡◌}
pub use Rattle.dn_files.specs.PacketParts.{with_front}
use Rattle.dn_files.specs.Reading.{◌>>=◌}
use Rattle.dn_files.proofs.Inputs.{carried}

-- A bad record at the front makes the fault.
pub bad_row : (number field : ℕ) (old new : List Fields) (fields : Fields) → Takes old new true fields → row_of fields ≡ Err field → rows_from number old ≡ Err (BadRow number field)
unfolding rows_from
bad_row number field [] new fields takes bad = let no = takes.0 in cc
bad_row number field (first ∷ rest) new fields takes bad = rw (← takes.1, bad) refl

regroup : (front : List Row) (row : Row) (read : Result (List Row) ReplayFault) → with_front front (read >>= λ rows. Ok (row ∷ rows)) ≡ with_front (front ++ row ∷ []) read
regroup front row (Ok rows) = ap (λ (rs : List Row). Ok rs) (simp append_assoc)
regroup front row (Err fault) = refl

pub starts : (read : Result (List Row) ReplayFault) → with_front [] read ≡ read
starts (Ok rows) = refl
starts (Err fault) = refl

-- One row more.
pub one_more : (front : List Row) (number : ℕ) (old new : List Fields) (row : Row) → TakesRow old new (Some row)
    → with_front front (rows_from number old) ≡ with_front (front ++ row ∷ []) (rows_from (number + 1) new)
unfolding rows_from
one_more front number [] new row takes = let no : Some row ≡ None = takes in cc
one_more front number (first ∷ rest) new row takes = rw (takes.0, takes.2) (regroup front row (rows_from (number + 1) rest))

-- No row is left.
pub no_more : (front : List Row) (number : ℕ) (old new : List Fields) → TakesRow old new None → with_front front (rows_from number old) ≡ Ok front
unfolding rows_from
no_more front number [] new takes = ap (λ (rs : List Row). Ok rs) (append-nil front)
no_more front number (first ∷ rest) new takes = cc takes.1

-- A fault of the rows that are left is that of all.
pub faulty : (front : List Row) (read whole : Result (List Row) ReplayFault) (fault : ReplayFault) → with_front front read ≡ whole → IsFaultOf read fault → IsFaultOf whole fault
faulty front read whole fault so_far is = carried read whole fault (λ f e. sym so_far ∙ rw e refl) is

-- The whole file: no record, another header, and the rows below the header.
pub no_record : (all new : List Fields) (fields : Fields) → Takes all new false fields → rows_below all ≡ Ok []
unfolding rows_below
no_record [] new fields takes = refl
no_record (first ∷ rest) new fields takes = let no = takes.0 in cc

pub other_header : (all new : List Fields) (fields : Fields) → Takes all new true fields → is_header fields ≡ false → rows_below all ≡ Err (BadRow 0 0)
unfolding rows_below
other_header [] new fields takes other = let no = takes.0 in cc
other_header (first ∷ rest) new fields takes other = rw (← takes.1, other) refl

pub under_header : (all new : List Fields) (fields : Fields) → Takes all new true fields → is_header fields ≡ true → rows_below all ≡ rows_from 1 new
unfolding rows_below
under_header [] new fields takes is = let no = takes.0 in cc
under_header (first ∷ rest) new fields takes is = rw (← takes.1, is, takes.2) refl

-- What is left gets shorter.
pub fewer : (old new : List Fields) (row : Row) → TakesRow old new (Some row) → length new < length old
fewer [] new row takes = let no : Some row ≡ None = takes in cc
fewer (first ∷ rest) new row takes = rw (takes.2) (omega arith)

-- One row more, as a loop has it that began at this number.
pub next : (first : ℕ) (front : List Row) (old new : List Fields) (row : Row) (whole : Result (List Row) ReplayFault) → TakesRow old new (Some row)
    → with_front front (rows_from (first + length front) old) ≡ whole → with_front (front ++ row ∷ []) (rows_from (first + length (front ++ row ∷ [])) new) ≡ whole
next first front old new row whole takes so_far =
    let number : first + length (front ++ row ∷ []) ≡ first + length front + 1 = omega (arith, length-append front (row ∷ [])) in
    rw number (sym (one_more front (first + length front) old new row takes) ∙ so_far)
