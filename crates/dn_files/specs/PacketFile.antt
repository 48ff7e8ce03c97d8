-- A packet file: the CSV records of its text, the first the header and each further one a row.
use Rattle.std.specs.Prelude.{◌≡◌, IfSome, IsSome, ℕ, ◌+◌, ◌^◌, ◌==◌, ◌&&◌, Bool, cond, List, [], ◌∷◌, length, Option, None, Result, Ok, Err, codes}
use Rattle.dn_records.specs.Records.{Fields, records_of}
use Rattle.dn_files.specs.Fields.{is_name, number_at, packet_at, target_at}
use Rattle.dn_files.specs.Reading.{◌>>=◌, within_limit}
use Rattle.dn_files.specs.declared.replay_fault.ReplayFault.{ReplayFault}
use Rattle.dn_files.specs.declared.replay_fault.ReplayFault.TheVariants.{BadRow}
use Rattle.dn_files.specs.declared.row.Row.{Row}
use Rattle.dn_files.specs.declared.source.Source.TheVariants.{Packets}

-- The row of a record, or the place of its first bad field, 0 where it hasn't ten.
unfoldable pub row_of : Fields → Result Row ℕ
row_of fields = cond (length fields == 10) (do
  moment ← number_at 1 0 (2 ^ 62) fields
  target ← target_at 2 fields
  packet ← packet_at 4 fields
  Ok (record { moment = moment; target = target; packet = packet }))
    (Err 0)

-- The row with this number.
abbrev pub row_at : ℕ → Result Row ℕ → Result Row ReplayFault
row_at number (Ok row) = Ok row
row_at number (Err field) = Err (BadRow number field)

-- The rows of records, the first with this number, or the first bad field of the first bad row.
unfoldable pub rows_from : ℕ → List Fields → Result (List Row) ReplayFault
rows_from number [] = Ok []
rows_from number (fields ∷ rest) = do
  row ← row_at number (row_of fields)
  rows ← rows_from (number + 1) rest
  Ok (row ∷ rows)

-- No record is left, or the first has this row, and those behind it are left.
abbrev pub TakesRow : List Fields → List Fields → Option Row → Type 0
TakesRow [] left next = next ≡ None
TakesRow (fields ∷ rest) left next = IfSome next (λ row. row_of fields ≡ Ok row) × IsSome next × (left ≡ rest)

-- The header: exactly these ten names.
unfoldable pub is_header : Fields → Bool
is_header fields = (length fields == 10)
    && is_name 1 fields (codes "moment") && is_name 2 fields (codes "target") && is_name 3 fields (codes "number")
    && is_name 4 fields (codes "src") && is_name 5 fields (codes "dst") && is_name 6 fields (codes "proto")
    && is_name 7 fields (codes "sport") && is_name 8 fields (codes "dport") && is_name 9 fields (codes "len") && is_name 10 fields (codes "word")

-- The rows below the header. A file without a record has none.
unfoldable pub rows_below : List Fields → Result (List Row) ReplayFault
rows_below [] = Ok []
rows_below (first ∷ rest) = cond (is_header first) (rows_from 1 rest) (Err (BadRow 0 0))

-- The rows of a packet file's text.
abbrev pub rows_of : List ℕ → Result (List Row) ReplayFault
rows_of text = rows_below (records_of text)

-- The greatest length of a packet file in bytes.
abbrev pub packet_limit : ℕ
packet_limit = 67108864

-- What a packet file is read as.
abbrev pub packet_file : List ℕ → Result (List Row) ReplayFault
packet_file text = within_limit packet_limit Packets text >>= rows_of
