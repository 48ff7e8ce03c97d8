-- A text is seen as its CSV records, each the list of its fields, and records as the text that they are written as, both
-- by csv's own words.
use Rattle.std.specs.Prelude.{◌≡◌, ℕ, List, [], ◌∷◌, ◌++◌, Bool, true, false}
use Rattle.csv.specs.Reading.{default_config, records, strip_bom}
use Rattle.csv.specs.Writing.{default_writer, row_text}

-- A record is the list of its fields, and a field the list of its bytes.
abbrev pub Fields : Type 0
Fields = List (List ℕ)

-- The records of a text with csv's default delimiter and quotes, of any number of fields each. The first is a record as
-- any other, and a byte order mark at the front of the text is passed over.
abbrev pub records_of : List ℕ → List Fields
records_of text = records default_config (strip_bom text)

-- The next of some records: whether there is one, its fields, and the records after it.
abbrev pub Takes : List Fields → List Fields → Bool → Fields → Type 0
Takes [] new found fields = (found ≡ false) × (new ≡ [])
Takes (first ∷ rest) new found fields = (found ≡ true) × (fields ≡ first) × (new ≡ rest)

-- The line of a record: its fields with commas between them and a line feed after them. A field with a comma, a quote or
-- an end of line in it stands in quotes.
abbrev pub line_of : Fields → List ℕ
line_of fields = row_text default_writer fields

-- The text of records, one line after the other.
unfoldable pub text_of : List Fields → List ℕ
text_of [] = []
text_of (first ∷ rest) = line_of first ++ text_of rest

-- Each record has a field.
abbrev pub AllFilled : List Fields → Type 0
AllFilled [] = Unit {0}
AllFilled ([] ∷ rest) = ⊥
AllFilled ((field ∷ fields) ∷ rest) = AllFilled rest

-- A text begins with no byte order mark.
abbrev pub HasNoMark : List ℕ → Type 0
HasNoMark text = strip_bom text ≡ text
