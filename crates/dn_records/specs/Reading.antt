-- What a reader of records has left: the records that csv will read from the bytes that its reader has left.
use Rattle.std.specs.Prelude.{◌≡◌, ℕ, ◌+◌, List, [], ◌∷◌, ◌++◌, length, Bool, true, false, Option, IsSome, Some}
use Rattle.std.specs.Borrow.{Bor}
use Rattle.std.specs.Option.{option_map_or}
use Rattle.csv.specs.Machine.{ends_at_end}
use Rattle.csv.specs.Reading.{Ready, default_config, is_flexible, reader_config, reader_state, reader_trim, records_from, source_of}
use Rattle.csv.specs.declared.parser.State.{State}
use Rattle.csv.specs.declared.parser.State.TheVariants as st
use Rattle.csv.specs.declared.reader.Reader.{Reader}
use Rattle.csv.specs.declared.reader.Trim.TheVariants as trim
use Rattle.dn_records.specs.Records.{Fields}

-- The records of a text from a state of csv's reader on.
abbrev pub records_after : State → List ℕ → List Fields
records_after state text = records_from default_config (length text + 1) state text

-- The bytes that a reader over memory has left.
abbrev pub text_left : Reader (Bor (List ℕ)) → Option (List ℕ)
text_left reader = source_of (λ s. Some s.now) reader

-- The records from a state and the bytes left, and none once the text has ended.
abbrev pub records_between : Bool → State → Option (List ℕ) → List Fields
records_between true state left = []
records_between false state left = option_map_or (records_after state) left []

-- The records that a reader has left.
unfoldable pub records_left : Bool → Reader (Bor (List ℕ)) → List Fields
records_left done reader = records_between done (reader_state reader) (text_left reader)

-- A reader takes records as they are, of any length each, and stands between two of them.
pub record IsReading (reader : Reader (Bor (List ℕ))) : Type 0 where
  pub config : reader_config reader ≡ default_config
  pub plain : reader_trim reader ≡ trim.None
  pub flexible : is_flexible reader ≡ true
  pub ready : Ready reader
  pub between : ends_at_end (reader_state reader) ≡ false
  pub known : IsSome (text_left reader)

-- A text begins with a line that is one record: these fields are read off it, whatever follows the line feed at its end.
pub record BeginsLine (text : List ℕ) (fields : Fields) (rest : List ℕ) : Type 0 where
  pub front : List ℕ
  pub stands : text ≡ front ++ 10 ∷ rest
  pub reads : (more : List ℕ) → records_after st.StartRecord (front ++ 10 ∷ more) ≡ fields ∷ records_after st.StartRecord more
