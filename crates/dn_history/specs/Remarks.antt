-- Remarks: records of a live session's transcript that aren't part of its history.
use Rattle.std.specs.Prelude.{ℕ, ◌==◌, Bool, false, not, cond, List, [], ◌∷◌, filter}
use Rattle.dn_records.specs.Records.{Fields}
use Rattle.dn_files.specs.Fields.{column}

-- Whether a text begins with a `#`.
abbrev pub begins_with_hash : List ℕ → Bool
begins_with_hash [] = false
begins_with_hash (byte ∷ rest) = byte == 35

-- A remark's first field begins with a `#`.
abbrev pub is_remark : Fields → Bool
is_remark fields = begins_with_hash (column 1 fields)

-- The records but for remarks.
abbrev pub without_remarks : List Fields → List Fields
without_remarks records = filter (λ fields. not (is_remark fields)) records

-- The records behind the remarks at their front.
abbrev pub past_remarks : List Fields → List Fields
past_remarks [] = []
past_remarks (fields ∷ records) = cond (is_remark fields) (past_remarks records) (fields ∷ records)

-- The records from the next one on that counts, where remarks may come before it and where none may.
abbrev pub ahead : Bool → List Fields → List Fields
ahead remarks records = cond remarks (past_remarks records) records
