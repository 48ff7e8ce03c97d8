-- How IPv4 addresses are written.
use Rattle.std.specs.Prelude.{ℕ, ◌+◌, ◌*◌, ◌==◌, List, [], ◌∷◌, Option, None, Some, option_map, if◌then◌else◌}
use Rattle.std.specs.Result.{result_ok}
use Rattle.dn_config.specs.Tokens.Numbers.{number_within}

-- What stands before the first point of a text, and what stands after it.
unfoldable pub at_point : List ℕ → Option (List ℕ × List ℕ)
at_point [] = None
at_point (byte ∷ rest) = if byte == 46 then Some ([], rest) else option_map (λ p. (byte ∷ p.0, p.1)) (at_point rest)

-- One of the four numbers of an address.
abbrev pub octet_of : List ℕ → Option ℕ
octet_of text = result_ok (number_within 0 255 text)

-- The second where the first is there.
infixl 10 ◌>>=◌
abbrev pub ◌>>=◌ : {A B : Type 0} → Option A → (A → Option B) → Option B
None >>= f = None
(Some x) >>= f = f x

-- Four numbers up to 255 with points between them, the first the highest byte.
unfoldable pub address_of : List ℕ → Option ℕ
address_of text = do
  a ← at_point text
  b ← at_point a.1
  c ← at_point b.1
  first ← octet_of a.0
  second ← octet_of b.0
  third ← octet_of c.0
  fourth ← octet_of c.1
  Some (first * 16777216 + second * 65536 + third * 256 + fourth)
