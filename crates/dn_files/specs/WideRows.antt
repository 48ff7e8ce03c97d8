-- Rows with more fields than a row has, which shows at the front of their text.
use Rattle.std.specs.Prelude.{ℕ, ◌-◌, ◌<◌, ◌==◌, ◌||◌, Bool, true, false, cond, List, [], ◌∷◌, length}
use Rattle.dn_records.specs.Records.{Fields}

-- A byte that means something else to CSV than itself, except a comma.
abbrev pub is_mark : ℕ → Bool
is_mark byte = (byte == 34) || ((byte == 13) || (byte == 10))

-- Whether a byte ends a line.
abbrev pub is_line_end : ℕ → Bool
is_line_end byte = (byte == 13) || (byte == 10)

-- How many commas are missing behind a byte.
abbrev pub missing_behind : ℕ → ℕ → ℕ
missing_behind byte missing = cond (byte == 44) (missing - 1) missing

-- Whether a text has so many commas ahead of the first quote and of the end of its first line.
unfoldable pub has_commas : ℕ → List ℕ → Bool
has_commas missing [] = missing == 0
has_commas missing (byte ∷ rest) = cond (missing == 0) true (cond (is_mark byte) false (has_commas (missing_behind byte missing) rest))

-- The first of some records has more fields than a row.
abbrev pub BeginsWide : List Fields → Type 0
BeginsWide [] = ⊥
BeginsWide (fields ∷ rest) = 10 < length fields
