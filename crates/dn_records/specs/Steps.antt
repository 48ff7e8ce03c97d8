-- The steps of csv's reader within a record, with csv's defaults, and the front of a record.
use Rattle.std.specs.Prelude.{◌≡◌, ℕ, ◌<◌, Bool, true, false, List, [], ◌∷◌, length, take}
use Rattle.csv.specs.Machine.{after_end}
use Rattle.csv.specs.Records.{Row, fields_of, partial_of}
use Rattle.csv.specs.declared.parser.Action.{Action}
use Rattle.csv.specs.declared.parser.Action.TheVariants as act
use Rattle.csv.specs.declared.parser.State.{State as CsvState}
use Rattle.csv.specs.declared.parser.State.TheVariants as st
use Rattle.csv.specs.declared.parser.Terminator.TheVariants as term
use Rattle.dn_records.specs.Reading.{BeginsLine}
use Rattle.dn_records.specs.Records.{Fields}
use Rattle.dn_records.specs.declared.state.State.{State}
use Rattle.dn_records.specs.declared.state.State.TheVariants as s
use Rattle.dn_records.specs.declared.state.Step.{Step}
use Rattle.dn_records.specs.declared.state.Step.TheVariants as step

-- A state of csv's reader. Behind a record's end a text is read from the start.
abbrev pub csv_state : State → CsvState
csv_state s.StartRecord = st.StartRecord
csv_state s.StartField = st.StartField
csv_state s.InField = st.InField
csv_state s.InQuoted = st.InQuoted
csv_state s.AfterQuote = st.AfterQuote

-- What a byte does, in csv's words.
abbrev pub csv_step : ℕ → Step → CsvState × Action
csv_step byte (step.Skip state) = (csv_state state, act.Skip)
csv_step byte (step.Copy state) = (csv_state state, act.Copy)
csv_step byte step.EndField = (st.StartField, act.EndField)
csv_step byte step.EndRecord = (after_end term.CRLF byte, act.EndRecord)

-- The next of some records, as `Takes`, of whose fields the first ones are taken, at most so many.
abbrev pub TakesFront : ℕ → List Fields → List Fields → Bool → Fields → Type 0
TakesFront most [] new found fields = (found ≡ false) × (new ≡ [])
TakesFront most (first ∷ rest) new found fields = (found ≡ true) × (fields ≡ take most first) × (new ≡ rest)

-- A text begins with a line that is one record, of whose fields these are the first ones, at most so many.
pub record BeginsFront (most : ℕ) (text : List ℕ) (fields : Fields) (rest : List ℕ) : Type 0 where
  pub whole : Fields
  pub line : BeginsLine text whole rest
  pub front : fields ≡ take most whole

-- A record holds the front of the fields so far, and the buffer holds the bytes of the field at hand while fields are missing.
pub record Holds (most : ℕ) (fields : Fields) (field : List ℕ) (row : Row) (buffer : List ℕ) : Type 0 where
  pub front : fields_of row ≡ take most fields
  pub whole : partial_of row ≡ []
  pub rest : length fields < most → buffer ≡ field
