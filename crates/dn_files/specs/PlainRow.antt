-- Rows that are written plainly are read from the front of a text, field by field, each with the comma or the end of the line behind it.
use Rattle.std.specs.Prelude.{ℕ, ◌^◌, List, [], ◌∷◌, ◌++◌, Option, Some, codes}
use Rattle.std.specs.Option.{option_or}
use Rattle.dn_types.specs.declared.five_tuple.FiveTuple.{FiveTuple}
use Rattle.dn_types.specs.declared.target.Target.{Target}
use Rattle.dn_types.specs.declared.target.Target.TheVariants.{Pipe, Queue}
use Rattle.dn_config.specs.Tokens.Addresses.{◌>>=◌}
use Rattle.dn_config.specs.Tokens.Until.{address_until, number_until}
use Rattle.dn_files.specs.LineEnd.{behind_word, number_at_end}
use Rattle.dn_files.specs.declared.row.Row.{Row}

-- A target of one kind: its name and its number, with a comma behind each.
unfoldable pub kind_until : List ℕ → (ℕ → Target) → List ℕ → Option (Target × List ℕ)
kind_until name kind text = do
  rest ← behind_word (name ++ 44 ∷ []) text
  number ← number_until 44 1 65535 rest
  Some (kind number.0, number.1)

-- A pipe or a queue.
unfoldable pub target_until : List ℕ → Option (Target × List ℕ)
target_until text = option_or (kind_until (codes "pipe") Pipe text) (kind_until (codes "queue") Queue text)

-- Addresses, protocol and ports.
unfoldable pub tuple_until : List ℕ → Option (FiveTuple × List ℕ)
tuple_until text = do
  src ← address_until 44 text
  dst ← address_until 44 src.1
  proto ← number_until 44 0 255 dst.1
  sport ← number_until 44 0 65535 proto.1
  dport ← number_until 44 0 65535 sport.1
  Some (record { src = src.0; dst = dst.0; proto = proto.0; sport = sport.0; dport = dport.0 }, dport.1)

-- A whole row.
unfoldable pub row_until : List ℕ → Option (Row × List ℕ)
row_until text = do
  moment ← number_until 44 0 (2 ^ 62) text
  target ← target_until moment.1
  tuple ← tuple_until target.1
  len ← number_until 44 1 65535 tuple.1
  word ← number_at_end 0 4294967295 len.1
  Some (record { moment = moment.0; target = target.0; packet = record { tuple = tuple.0; len = len.0; word = word.0 } }, word.1)
