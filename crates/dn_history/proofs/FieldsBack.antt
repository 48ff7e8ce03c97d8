-- What is written in fields, read back: numbers, addresses, and what stands in several fields.
use Rattle.dn_history.proofs.Words.{Fields, FiveTuple, IsPacket, IsTarget, IsTuple, List, Ok, Packet, Some, Target, [], address_of, address_text, and_parts, ap, arith, ascii_digits, at_point}
use Rattle.dn_history.proofs.Words.{column, decimal, decimal_is_IsNumeral, false, is_ascii_digit, list_all, nat_tests, number_at, octet_of, packet_at, ranged_back, refl, target_at, target_name}
use Rattle.dn_history.proofs.Words.{target_number, true, tuple_at, ℕ, ◌%◌, ◌++◌, ◌+◌, ◌/◌, ◌<◌, ◌==◌, ◌^◌, ◌∷◌, ◌≡◌, ◌≤◌}
use Rattle.dn_types.specs.declared.target.Target.TheVariants.{Pipe, Queue}

-- A number of a range in the field at the place.
pub number_back : (place least greatest n : ℕ) (fields : Fields) → column place fields ≡ decimal n → n < 2 ^ 64 → least ≤ n → n ≤ greatest → number_at place least greatest fields ≡ Ok n
number_back place least greatest n fields is l a b = rw (is, ranged_back least greatest n l a b) refl

no_point : (d : ℕ) → is_ascii_digit d ≡ true → (d == 46) ≡ false
no_point d h = grind (arith, nat_tests)

digits_to_point : (ds rest : List ℕ) → list_all is_ascii_digit ds ≡ true → at_point (ds ++ 46 ∷ rest) ≡ Some (ds, rest)
unfolding at_point
digits_to_point [] rest h = refl
digits_to_point (d ∷ ds) rest h =
    let both = and_parts (is_ascii_digit d) (list_all is_ascii_digit ds) h in
    rw (no_point d both.0, digits_to_point ds rest both.1) refl

to_point : (n : ℕ) (rest : List ℕ) → n < 256 → at_point (decimal n ++ 46 ∷ rest) ≡ Some (decimal n, rest)
to_point n rest l =
    let is = decimal_is_IsNumeral n (omega (arith, l)) in
    digits_to_point (decimal n) rest (ascii_digits (decimal n) is.0.1)

octet_back : (n : ℕ) → n < 256 → octet_of (decimal n) ≡ Some n
octet_back n l = rw (ranged_back 0 255 n (omega (arith, l)) (omega arith) (omega (arith, l))) refl

-- An address in dotted form.
pub address_back : (a : ℕ) → a < 2 ^ 32 → address_of (address_text a) ≡ Some a
unfolding address_of
address_back a l =
    let first : a / 16777216 < 256 = omega (arith, l) in
    let second : a / 65536 % 256 < 256 = omega arith in
    let third : a / 256 % 256 < 256 = omega arith in
    let fourth : a % 256 < 256 = omega arith in
    rw (
      to_point (a / 16777216) _ first,
      to_point (a / 65536 % 256) _ second,
      to_point (a / 256 % 256) _ third,
      octet_back (a / 16777216) first,
      octet_back
          (a / 65536 % 256) second,
      octet_back (a / 256 % 256) third,
      octet_back (a % 256) fourth,
    )
    (ap Some (omega arith))

-- Where five fields are those of a five-tuple.
pub record HasTuple (place : ℕ) (fields : Fields) (t : FiveTuple) : Type 0 where
  pub src_at : column place fields ≡ address_text t.src
  pub dst_at : column (place + 1) fields ≡ address_text t.dst
  pub proto_at : column (place + 2) fields ≡ decimal t.proto
  pub sport_at : column (place + 3) fields ≡ decimal t.sport
  pub dport_at : column (place + 4) fields ≡ decimal t.dport

pub tuple_back : (place : ℕ) (fields : Fields) (t : FiveTuple) → IsTuple t → HasTuple place fields t → tuple_at place fields ≡ Ok t
unfolding tuple_at
tuple_back place fields t h at =
    let proto = number_back (place + 2) 0 255 t.proto fields at.proto_at (omega (arith, h.proto)) (omega arith) (omega (arith, h.proto)) in
    let sport = number_back (place + 3) 0 65535 t.sport fields at.sport_at (omega (arith, h.sport)) (omega arith) (omega (arith, h.sport)) in
    let dport = number_back (place + 4) 0 65535 t.dport fields at.dport_at (omega (arith, h.dport)) (omega arith) (omega (arith, h.dport)) in
    rw (at.src_at, at.dst_at, address_back t.src h.src, address_back t.dst h.dst, proto, sport, dport) refl

pub packet_back : (place : ℕ) (fields : Fields) (p : Packet) → IsPacket p → HasTuple place fields p.tuple → column (place + 5) fields ≡ decimal p.len
    → column (place + 6) fields ≡ decimal p.word → packet_at place fields ≡ Ok p
unfolding packet_at
packet_back place fields p h at len_at word_at =
    let len = number_back (place + 5) 1 65535 p.len fields len_at (omega (arith, h.len)) h.len.0 h.len.1 in
    let word = number_back (place + 6) 0 4294967295 p.word fields word_at (omega (arith, h.word)) (omega arith) (omega (arith, h.word)) in
    rw (tuple_back place fields p.tuple h.tuple at, len, word) refl

-- The kind and the number of a target, in two fields.
pub target_back : (place : ℕ) (fields : Fields) (t : Target) → IsTarget t → column place fields ≡ target_name t → column (place + 1) fields ≡ decimal (target_number t) → target_at place fields ≡ Ok t
unfolding target_at
target_back place fields (Pipe n) h name_at number_at = rw (name_at, number_back (place + 1) 1 65535 n fields number_at (omega (arith, h)) h.0 h.1) refl
target_back place fields (Queue n) h name_at number_at = rw (name_at, number_back (place + 1) 1 65535 n fields number_at (omega (arith, h)) h.0 h.1) refl
