-- The hash of the words of a key: the sum of their products with secret numbers, folded by one more.
use Rattle.std.specs.Prelude.{ℕ, ◌+◌, ◌*◌, ◌/◌, ◌%◌, ◌^◌, List, length, nat_eq, if◌then◌else◌, bit_xor}
use Rattle.std.specs.Int.{w64, from_le_bytes}
use Rattle.dn_flows.specs.declared.factors.Factors.{Factors}
use Rattle.dn_flows.specs.declared.keyed_hasher.KeyedHasher.{KeyedHasher}

-- The lower and the upper half of a word, each times its factor.
abbrev pub product : Factors → ℕ → ℕ
product f word = (f.lower * (word % 4294967296) % 2 ^ 64 + f.upper * (word / 4294967296) % 2 ^ 64) % 2 ^ 64

-- After one word: its product is added, and the next word has the next factors.
abbrev pub with_word : KeyedHasher → ℕ → KeyedHasher
with_word h word = record { sum = (h.sum + product h.first word) % 2 ^ 64; first = h.second; second = h.third; third = h.fourth; fourth = h.first; last = h.last }

-- After a write. Bytes that are no word are passed over.
unfoldable pub written : KeyedHasher → List ℕ → KeyedHasher
written h bytes = if nat_eq (length bytes) 8 then with_word h (from_le_bytes w64 bytes) else h

-- The two halves of a product of 128 bits, joined by xor.
unfoldable pub folded : ℕ → ℕ → ℕ
folded a b = bit_xor (a * b % 2 ^ 64) (a * b / 2 ^ 64)

-- The hash of what was written.
abbrev pub hash_of : KeyedHasher → ℕ
hash_of h = folded h.sum h.last
