-- A packet file whose rows are read a chunk at a time.
use Rattle.std.specs.Prelude.{◌≡◌, ℕ, ◌+◌, ◌≤◌, List, ◌++◌, length, take}
use Rattle.csv.specs.declared.parser.State.TheVariants as st
use Rattle.dn_records.specs.Reading.{records_after}
use Rattle.dn_files.specs.PacketFile.{rows_from}
use Rattle.dn_files.specs.PacketParts.{with_front}
use Rattle.dn_files.specs.declared.row.Row.{Row}

-- A chunk of a packet file, behind the header, has these rows and nothing else: whatever follows it, and whatever its first row's
-- number is, they are read first.
pub record HasRows (chunk : List ℕ) (rows : List Row) : Type 0 where
  pub first : (number : ℕ) (more : List ℕ) → with_front rows (rows_from (number + length rows) (records_after st.StartRecord more)) ≡ rows_from number (records_after st.StartRecord (chunk ++ more))

-- A text behind the header begins with these rows: so many bytes at its front have them and nothing else. No byte behind those
-- matters, so a bad row there changes none of them.
pub record BeginsWith (text : List ℕ) (used : ℕ) (rows : List Row) : Type 0 where
  pub within : used ≤ length text
  pub first : HasRows (take used text) rows
