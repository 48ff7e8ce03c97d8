-- Numbers and addresses at the front of a text, and what stands behind the byte that ends them.
use Rattle.std.specs.Prelude.{ℕ, ◌+◌, ◌*◌, ◌==◌, List, [], ◌∷◌, Option, Some, None, if◌then◌else◌}
use Rattle.std.specs.Result.{result_ok}
use Rattle.dn_config.specs.Tokens.Addresses.{◌>>=◌}
use Rattle.dn_config.specs.Tokens.Numbers.{digits, number_within, unit}

-- What stands behind a byte at the front of a text.
abbrev pub behind_byte : ℕ → List ℕ → Option (List ℕ)
behind_byte end [] = None
behind_byte end (byte ∷ rest) = if byte == end then Some rest else None

-- The number of a range whose digits a text begins with, and what stands behind the byte that ends them.
unfoldable pub number_until : ℕ → ℕ → ℕ → List ℕ → Option (ℕ × List ℕ)
number_until end least greatest text = do
  number ← result_ok (number_within least greatest (digits text))
  rest ← behind_byte end (unit text)
  Some (number, rest)

-- The address that a text begins with, and what stands behind the byte that ends it: four numbers up to 255, of which a
-- point ends the first three.
unfoldable pub address_until : ℕ → List ℕ → Option (ℕ × List ℕ)
address_until end text = do
  first ← number_until 46 0 255 text
  second ← number_until 46 0 255 first.1
  third ← number_until 46 0 255 second.1
  fourth ← number_until end 0 255 third.1
  Some (first.0 * 16777216 + second.0 * 65536 + third.0 * 256 + fourth.0, fourth.1)
