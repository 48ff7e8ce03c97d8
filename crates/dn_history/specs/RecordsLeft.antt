-- The records that are left of a history file, and what is read off their front.
use Rattle.std.specs.Prelude.{ℕ, zero, suc, ◌+◌, cond, nat_lt, List, [], ◌∷◌, length, Result, Ok, Err}
use Rattle.dn_records.specs.Records.{Fields}
use Rattle.dn_files.specs.Reading.{◌>>=◌}
use Rattle.dn_files.specs.declared.replay_fault.ReplayFault.{ReplayFault}
use Rattle.dn_files.specs.declared.replay_fault.ReplayFault.TheVariants.{BadRecord}

-- The records that are left, and the number of the first of them, where the first of the file has number 1.
pub record Rest : Type 0 where
  pub number : ℕ
  pub records : List Fields

-- What is read off the front of the records, and the records behind it.
abbrev pub Read : Type 0 → Type 0
Read A = Result (A × Rest) ReplayFault

abbrev pub first_record : ℕ → List Fields → Read Fields
first_record number [] = Err (BadRecord number)
first_record number (fields ∷ records) = Ok (fields, record { number = number + 1; records = records })

-- The next record. One that is missing has the number that it would have.
unfoldable pub next_record : Rest → Read Fields
next_record rest = first_record rest.number rest.records

-- A record with so many fields is none of a history, whatever they hold: the widest one has one less.
abbrev pub too_many : ℕ
too_many = 22

abbrev pub narrow : ℕ → Read Fields → Read Fields
narrow number (Err fault) = Err fault
narrow number (Ok first) = cond (nat_lt (length first.0) too_many) (Ok first) (Err (BadRecord number))

-- The next record, where it hasn't too many fields.
unfoldable pub narrow_record : Rest → Read Fields
narrow_record rest = narrow rest.number (next_record rest)

-- What the record with this number says. Of a bad one the number is told.
abbrev pub in_record : {A : Type 0} → ℕ → Result A ℕ → Result A ReplayFault
in_record number (Ok value) = Ok value
in_record number (Err place) = Err (BadRecord number)

-- The next record as an item of a list.
unfoldable pub item_from : {A : Type 0} → (Fields → Result A ℕ) → Rest → Read A
item_from item rest = do
  first ← next_record rest
  value ← in_record rest.number (item first.0)
  Ok (value, first.1)

-- As many items as the reply says.
unfoldable pub items_from : {A : Type 0} → (Fields → Result A ℕ) → ℕ → Rest → Read (List A)
items_from item zero rest = Ok ([], rest)
items_from item (suc count) rest = do
  first ← item_from item rest
  more ← items_from item count first.1
  Ok (first.0 ∷ more.0, more.1)
