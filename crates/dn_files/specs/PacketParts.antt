-- A packet file that comes in parts: what has been read of it, and what is left.
use Rattle.std.specs.Prelude.{◌≡◌, ◌⊎◌, ℕ, zero, suc, List, [], ◌∷◌, ◌++◌, Result, Ok, codes}
use Rattle.csv.specs.Writing.{default_writer, row_body}
use Rattle.csv.specs.declared.parser.State.TheVariants as st
use Rattle.dn_records.specs.Reading.{records_after}
use Rattle.dn_records.specs.Records.{Fields, line_of}
use Rattle.dn_files.specs.PacketFile.{row_of, rows_from, rows_of}
use Rattle.dn_files.specs.Reading.{◌>>=◌}
use Rattle.dn_files.specs.Unread.{Unread}
use Rattle.dn_files.specs.declared.replay_fault.ReplayFault.{ReplayFault}
use Rattle.dn_files.specs.declared.row.Row.{Row}

-- Rows that were read, and those that are still read behind them.
abbrev pub with_front : List Row → Result (List Row) ReplayFault → Result (List Row) ReplayFault
with_front front read = read >>= λ rows. Ok (front ++ rows)

-- The rows of a text that begins with the record of this number, 0 for the header.
unfoldable pub rows_left : ℕ → List ℕ → Result (List Row) ReplayFault
rows_left zero text = rows_of text
rows_left (suc n) text = rows_from (suc n) (records_after st.StartRecord text)

-- This text has been fed to a reader and these rows have been taken from it: they are the rows of the text in front of what the
-- reader has left. Whatever more follows that front, its rows come behind them, so a bad row there changes none of them.
pub record HasRead (reader : Unread) (text : List ℕ) (rows : List Row) : Type 0 where
  pub front : List ℕ
  pub stands : text ≡ front ++ reader.text
  pub goes_on : (more : List ℕ) → rows_of (front ++ more) ≡ with_front rows (rows_left reader.number more)

-- The fields of the header.
abbrev pub header : Fields
header =
    codes "moment" ∷ codes "target" ∷ codes "number" ∷ codes "src" ∷ codes "dst" ∷ codes "proto" ∷ codes "sport" ∷ codes "dport" ∷ codes "len" ∷ codes "word" ∷ []

-- The line of a record with a carriage return before its line feed.
abbrev pub returned_line : Fields → List ℕ
returned_line fields = row_body default_writer fields ++ 13 ∷ 10 ∷ []

-- A text begins with the line of a record that has this row. Before its line feed a carriage return may stand.
pub record BeginsRow (text : List ℕ) (row : Row) (rest : List ℕ) : Type 0 where
  pub fields : Fields
  pub stands : (text ≡ line_of fields ++ rest) ⊎ (text ≡ returned_line fields ++ rest)
  pub says : row_of fields ≡ Ok row

-- A reader's next row stands whole and plainly at the front of what it has left, or behind the header where that is next.
abbrev pub BeginsNext : ℕ → List ℕ → Row → List ℕ → Type 0
BeginsNext zero text row rest = (below : List ℕ) × (text ≡ line_of header ++ below) × BeginsRow below row rest
BeginsNext (suc n) text row rest = BeginsRow text row rest
