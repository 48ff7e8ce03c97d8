-- Rows with fields in quotes are read from the front of a text, field by field, as plain ones are: each field as it is, or in quotes.
use Rattle.std.specs.Prelude.{ℕ, ◌^◌, List, [], ◌∷◌, ◌++◌, Option, Some, codes}
use Rattle.std.specs.Option.{option_or}
use Rattle.dn_types.specs.declared.five_tuple.FiveTuple.{FiveTuple}
use Rattle.dn_types.specs.declared.target.Target.{Target}
use Rattle.dn_types.specs.declared.target.Target.TheVariants.{Pipe, Queue}
use Rattle.dn_config.specs.Tokens.Addresses.{◌>>=◌}
use Rattle.dn_config.specs.Tokens.Until.{address_until, number_until}
use Rattle.dn_files.specs.LineEnd.{behind_end, behind_first, behind_word, number_at_end}
use Rattle.dn_files.specs.PlainRow.{row_until}
use Rattle.dn_files.specs.declared.row.Row.{Row}

-- A number in quotes, with a comma behind them.
unfoldable pub quoted_number : ℕ → ℕ → List ℕ → Option (ℕ × List ℕ)
quoted_number least greatest text = do
  inner ← behind_word (34 ∷ []) text
  number ← number_until 34 least greatest inner
  rest ← behind_word (44 ∷ []) number.1
  Some (number.0, rest)

-- A number with a comma behind it.
unfoldable pub number_field : ℕ → ℕ → List ℕ → Option (ℕ × List ℕ)
number_field least greatest text = option_or (number_until 44 least greatest text) (quoted_number least greatest text)

-- A number in quotes, with the end of the line behind them.
unfoldable pub quoted_at_end : ℕ → ℕ → List ℕ → Option (ℕ × List ℕ)
quoted_at_end least greatest text = do
  inner ← behind_word (34 ∷ []) text
  number ← number_until 34 least greatest inner
  rest ← behind_end number.1
  Some (number.0, rest)

-- A number with the end of the line behind it.
unfoldable pub last_field : ℕ → ℕ → List ℕ → Option (ℕ × List ℕ)
last_field least greatest text = option_or (number_at_end least greatest text) (quoted_at_end least greatest text)

-- An address in quotes, with a comma behind them.
unfoldable pub quoted_address : List ℕ → Option (ℕ × List ℕ)
quoted_address text = do
  inner ← behind_word (34 ∷ []) text
  address ← address_until 34 inner
  rest ← behind_word (44 ∷ []) address.1
  Some (address.0, rest)

-- An address with a comma behind it.
unfoldable pub address_field : List ℕ → Option (ℕ × List ℕ)
address_field text = option_or (address_until 44 text) (quoted_address text)

-- What stands behind a name and the comma after it.
unfoldable pub behind_name : List ℕ → List ℕ → Option (List ℕ)
behind_name name text = option_or (behind_word (name ++ 44 ∷ []) text) (behind_word (34 ∷ (name ++ 34 ∷ 44 ∷ [])) text)

-- A pipe or a queue, with a comma behind its number.
unfoldable pub pipe_fields : List ℕ → Option (Target × List ℕ)
pipe_fields text = do
  rest ← behind_name (codes "pipe") text
  number ← number_field 1 65535 rest
  Some (Pipe number.0, number.1)

unfoldable pub queue_fields : List ℕ → Option (Target × List ℕ)
queue_fields text = do
  rest ← behind_name (codes "queue") text
  number ← number_field 1 65535 rest
  Some (Queue number.0, number.1)

unfoldable pub target_fields : List ℕ → Option (Target × List ℕ)
target_fields text = option_or (pipe_fields text) (queue_fields text)

-- Addresses, protocol and ports.
unfoldable pub tuple_fields : List ℕ → Option (FiveTuple × List ℕ)
tuple_fields text = do
  src ← address_field text
  dst ← address_field src.1
  proto ← number_field 0 255 dst.1
  sport ← number_field 0 65535 proto.1
  dport ← number_field 0 65535 sport.1
  Some (record { src = src.0; dst = dst.0; proto = proto.0; sport = sport.0; dport = dport.0 }, dport.1)

-- A whole row.
unfoldable pub quoted_row_until : List ℕ → Option (Row × List ℕ)
quoted_row_until text = do
  moment ← number_field 0 (2 ^ 62) text
  target ← target_fields moment.1
  tuple ← tuple_fields target.1
  len ← number_field 1 65535 tuple.1
  word ← last_field 0 4294967295 len.1
  Some (record { moment = moment.0; target = target.0; packet = record { tuple = tuple.0; len = len.0; word = word.0 } }, word.1)

-- A row that is written plainly, or with fields in quotes.
unfoldable pub row_at_front : List ℕ → Option (Row × List ℕ)
row_at_front text = option_or (row_until text) (quoted_row_until text)

-- What stands behind the header, its names as they are, or all in quotes.
unfoldable pub header_until : List ℕ → Option (List ℕ)
header_until text =
    option_or (behind_first (codes "moment,target,number,src,dst,proto,sport,dport,len,word") text)
    (behind_first (codes "\"moment\",\"target\",\"number\",\"src\",\"dst\",\"proto\",\"sport\",\"dport\",\"len\",\"word\"") text)
