-- What the fields of a record say: a value, or the place of the first field that says none. Places are counted from 1.
use Rattle.std.specs.Prelude.{ℕ, ◌+◌, ◌-◌, ◌==◌, ◌&&◌, Bool, cond, List, [], length, Option, Some, None, Result, Ok, Err, codes, bytes_eq, unwrap_or}
use Rattle.std.specs.Result.{result_ok}
use Rattle.csv.specs.Records.{field_at}
use Rattle.dn_types.specs.declared.five_tuple.FiveTuple.{FiveTuple}
use Rattle.dn_types.specs.declared.packet.Packet.{Packet}
use Rattle.dn_types.specs.declared.target.Target.{Target}
use Rattle.dn_types.specs.declared.target.Target.TheVariants.{Pipe, Queue}
use Rattle.dn_config.specs.Tokens.Addresses.{address_of}
use Rattle.dn_config.specs.Tokens.Numbers.{number_within}
use Rattle.dn_records.specs.Records.{Fields}
use Rattle.dn_files.specs.Reading.{◌>>=◌}

-- The field of a record at a place. A record that is shorter has an empty field there.
abbrev pub column : ℕ → Fields → List ℕ
column place fields = unwrap_or (field_at fields (place - 1)) []

-- A value, or the place of the field that says none.
abbrev pub or_place : {A : Type 0} → ℕ → Option A → Result A ℕ
or_place place None = Err place
or_place place (Some value) = Ok value

-- The number of a range in the field at the place, or the place.
abbrev pub number_at : ℕ → ℕ → ℕ → Fields → Result ℕ ℕ
number_at place least greatest fields = or_place place (result_ok (number_within least greatest (column place fields)))

-- Whether the field at the place is this name.
abbrev pub is_name : ℕ → Fields → List ℕ → Bool
is_name place fields name = bytes_eq (column place fields) name

-- Whether a record has this name at the place, and this many fields.
abbrev pub is_form : ℕ → List ℕ → ℕ → Fields → Bool
is_form place name count fields = is_name place fields name && (length fields == count)

-- Where a packet is sent: `pipe` or `queue` in the field at the place, and its number in the next field.
unfoldable pub target_at : ℕ → Fields → Result Target ℕ
target_at place fields =
    cond (is_name place fields (codes "pipe")) (number_at (place + 1) 1 65535 fields >>= λ n. Ok (Pipe n))
    (cond (is_name place fields (codes "queue")) (number_at (place + 1) 1 65535 fields >>= λ n. Ok (Queue n)) (Err place))

-- Addresses, protocol and ports, in five fields.
unfoldable pub tuple_at : ℕ → Fields → Result FiveTuple ℕ
tuple_at place fields = do
  src ← or_place place (address_of (column place fields))
  dst ← or_place (place + 1) (address_of (column (place + 1) fields))
  proto ← number_at (place + 2) 0 255 fields
  sport ← number_at (place + 3) 0 65535 fields
  dport ← number_at (place + 4) 0 65535 fields
  Ok (record { src = src; dst = dst; proto = proto; sport = sport; dport = dport })

-- The packet, with its length in bytes and its random word behind its tuple.
unfoldable pub packet_at : ℕ → Fields → Result Packet ℕ
packet_at place fields = do
  tuple ← tuple_at place fields
  len ← number_at (place + 5) 1 65535 fields
  word ← number_at (place + 6) 0 4294967295 fields
  Ok (record { tuple = tuple; len = len; word = word })
