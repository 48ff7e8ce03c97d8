-- A writer of records is seen as the text so far and the room that it has reserved.
use Rattle.std.specs.Prelude.{ℕ, List, [], ◌∷◌, ◌++◌, decimal, map, ◌/◌, ◌%◌}
use Rattle.dn_records.specs.Records.{Fields}
use Rattle.dn_records.specs.declared.field.Field.{Field}
use Rattle.dn_records.specs.declared.field.Field.TheVariants.{Empty, Text, Number, Address}

-- What a writer has written, and how many bytes more it takes without asking for memory.
pub record Written : Type 0 where
  pub text : List ℕ
  pub room : ℕ

-- Two texts with a point between them.
abbrev pub with_point : List ℕ → List ℕ → List ℕ
with_point front back = front ++ 46 ∷ back

-- An IPv4 address in dotted form: its four bytes, the highest first, with points between them.
abbrev pub address_text : ℕ → List ℕ
address_text a =
    with_point (decimal (a / 16777216))
    (with_point (decimal (a / 65536 % 256))
    (with_point (decimal (a / 256 % 256))
    (decimal (a % 256))))

-- The bytes of a field.
abbrev pub bytes_of : Field → List ℕ
bytes_of Empty = []
bytes_of (Text text) = text.now
bytes_of (Number n) = decimal n
bytes_of (Address a) = address_text a

-- The bytes of each field of a record.
abbrev pub record_of : List Field → Fields
record_of fields = map bytes_of fields
