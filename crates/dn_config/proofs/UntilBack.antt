-- A number or an address that stands before the byte that ends it is read from the front of the text.
use Rattle.dn_config.proofs.Vocabulary.{Bool, Err, List, None, NumberFault, Ok, Option, Result, Some, [], address_of, address_until, all_digits, and_parts, ap, append_assoc, arith, at_point, cond}
use Rattle.dn_config.proofs.Vocabulary.{digit_from_value, digit_value, digits_value, drop_at, eq-eqb, eqb-true, false, is_ascii_digit, length, list_all, ltb-true, nat_lt, nat_tests, number_of}
use Rattle.dn_config.proofs.Vocabulary.{number_until, number_within, numeral_of, octet_of, one-add, option_map, prefix_len, refl, result_ok, subst, sym, take_at, true, unit, ℕ, ◌&&◌, ◌*◌, ◌++◌, ◌+◌}
use Rattle.dn_config.proofs.Vocabulary.{◌==◌, ◌∙◌, ◌∷◌, ◌≡◌, ◌≤◌}
use Rattle.dn_config.specs.Tokens.Numbers.{digits}
use Rattle.dn_config.proofs.Capping.{within_ok}
use Rattle.dn_config.proofs.UntilParts.{bound, digits_are, is_address_byte, pointed, some_is}

-- What is a number is made of digits.
tested : (zero some all : Bool) (v n : ℕ) → cond {A = Option ℕ} zero None (cond (some && all) (Some v) None) ≡ Some n → all ≡ true
tested true some all v n e = cc e
tested false true true v n e = refl
tested false true false v n e = cc e
tested false false all v n e = cc e

pub number_digits : (least greatest : ℕ) (field : List ℕ) (n : ℕ) → number_within least greatest field ≡ Ok n → all_digits 10 field ≡ true
unfolding number_of numeral_of
number_digits least greatest field n is = tested _ _ (all_digits 10 field) (digits_value 10 field) n (within_ok least greatest n (number_of field) (sym is)).0

between : (d : ℕ) → 48 ≤ d → d ≤ 57 → is_ascii_digit d ≡ true
between d low high = grind (arith, nat_tests)

ascii : (d : ℕ) → nat_lt (digit_value d) 10 ≡ true → is_ascii_digit d ≡ true
ascii d h = let range = digit_from_value d (ltb-true (digit_value d) 10 h) in between d range.0 range.1

front : (ds : List ℕ) (end : ℕ) (rest : List ℕ) → all_digits 10 ds ≡ true → is_ascii_digit end ≡ false → prefix_len is_ascii_digit (ds ++ end ∷ rest) ≡ length ds
front [] end rest all other = rw other refl
front (d ∷ ds) end rest all other =
    let both = and_parts (nat_lt (digit_value d) 10) (all_digits 10 ds) all in
    rw (ascii d both.0, front ds end rest both.1 other) (one-add (length ds))

-- A number and the byte that ends it.
pub number_back : (end least greatest : ℕ) (field rest : List ℕ) (n : ℕ) → is_ascii_digit end ≡ false → number_within least greatest field ≡ Ok n
    → number_until end least greatest (field ++ end ∷ rest) ≡ Some (n, rest)
unfolding number_until
number_back end least greatest field rest n other is =
    let count = front field end rest (number_digits least greatest field n is) other in
    let before : digits (field ++ end ∷ rest) ≡ field = rw count (take_at field (end ∷ rest) (length field) refl) in
    let behind : unit (field ++ end ∷ rest) ≡ end ∷ rest = rw count (drop_at field (end ∷ rest) (length field) refl) in
    rw (before, is, behind, eq-eqb end end refl) refl

-- What stands before a first point, and what stands behind it.
abbrev Cut : List ℕ → List ℕ × List ℕ → Type 0
Cut text p = text ≡ p.0 ++ 46 ∷ p.1

cut_more : (byte : ℕ) (rest : List ℕ) (p : List ℕ × List ℕ) (b : Bool) → (byte == 46) ≡ b → (o : Option (List ℕ × List ℕ)) → ((q : List ℕ × List ℕ) → o ≡ Some q → Cut rest q)
    → cond b (Some ([], rest)) (option_map (λ q. (byte ∷ q.0, q.1)) o) ≡ Some p → Cut (byte ∷ rest) p
cut_more byte rest p true test o later e = subst (Cut (byte ∷ rest)) (some_is ([], rest) p e) (ap (λ (b : ℕ). b ∷ rest) (eqb-true byte 46 test))
cut_more byte rest p false test None later e = cc e
cut_more byte rest p false test (Some q) later e = subst (Cut (byte ∷ rest)) (some_is (byte ∷ q.0, q.1) p e) (ap (λ (t : List ℕ). byte ∷ t) (later q refl))

cut : (text : List ℕ) (p : List ℕ × List ℕ) → at_point text ≡ Some p → Cut text p
unfolding at_point
cut [] p e = cc e
cut (byte ∷ rest) p e = cut_more byte rest p (byte == 46) refl (at_point rest) (λ q is. cut rest q is) e

octet : (field : List ℕ) (n : ℕ) → octet_of field ≡ Some n → number_within 0 255 field ≡ Ok n
octet field n e = ok (number_within 0 255 field) e
  where
    ok : (r : Result ℕ NumberFault) → result_ok r ≡ Some n → r ≡ Ok n
    ok (Ok m) e = ap Ok (some_is m n e)
    ok (Err fault) e = cc e

-- What an address is read as, whatever byte that is no digit ends it, and of which bytes it is.
abbrev pub IsReadBack : List ℕ → ℕ → Type 0
IsReadBack field a =
    ((end : ℕ) (rest : List ℕ) → is_ascii_digit end ≡ false → address_until end (field ++ end ∷ rest) ≡ Some (a, rest)) × (list_all is_address_byte field ≡ true)

four_back : (d1 d2 d3 d4 : List ℕ) (n1 n2 n3 n4 : ℕ) → number_within 0 255 d1 ≡ Ok n1 → number_within 0 255 d2 ≡ Ok n2 → number_within 0 255 d3 ≡ Ok n3 → number_within 0 255 d4 ≡ Ok n4
    → IsReadBack (d1 ++ 46 ∷ (d2 ++ 46 ∷ (d3 ++ 46 ∷ d4))) (n1 * 16777216 + n2 * 65536 + n3 * 256 + n4)
unfolding address_until
four_back d1 d2 d3 d4 n1 n2 n3 n4 e1 e2 e3 e4 = (
  λ end rest other.
      let stands : (d1 ++ 46 ∷ (d2 ++ 46 ∷ (d3 ++ 46 ∷ d4))) ++ end ∷ rest ≡ d1 ++ 46 ∷ (d2 ++ 46 ∷ (d3 ++ 46 ∷ (d4 ++ end ∷ rest))) = simp append_assoc in
      rw (
        stands,
        number_back 46 0 255 d1 (d2 ++ 46 ∷ (d3 ++ 46 ∷ (d4 ++ end ∷ rest))) n1 refl e1,
        number_back 46 0 255 d2 (d3 ++ 46 ∷ (d4 ++ end ∷ rest)) n2 refl e2,
        number_back 46 0 255 d3 (d4 ++ end ∷ rest) n3 refl e3,
        number_back end 0 255 d4 rest n4 other e4,
      ) refl,
  pointed d1 _ (number_digits 0 255 d1 n1 e1) (pointed d2 _ (number_digits 0 255 d2 n2 e2) (pointed d3 _ (number_digits 0 255 d3 n3 e3) (digits_are d4 (number_digits 0 255 d4 n4 e4)))),
)

-- An address and the byte that ends it.
pub address_back : (field : List ℕ) (a : ℕ) → address_of field ≡ Some a → IsReadBack field a
unfolding address_of
address_back field a e =
    bound (at_point field) _ a (λ p is_p e1.
    bound (at_point p.1) _ a (λ q is_q e2.
    bound (at_point q.1) _ a (λ r is_r e3.
    bound (octet_of p.0) _ a (λ n1 o1 e4.
    bound (octet_of q.0) _ a (λ n2 o2 e5.
    bound (octet_of r.0) _ a (λ n3 o3 e6.
    bound (octet_of r.1) _ a (λ n4 o4 e7.
    let stands : p.0 ++ 46 ∷ (q.0 ++ 46 ∷ (r.0 ++ 46 ∷ r.1)) ≡ field =
    sym (cut field p is_p ∙ ap (λ (t : List ℕ). p.0 ++ 46 ∷ t) (cut p.1 q is_q ∙ ap (λ (t : List ℕ). q.0 ++ 46 ∷ t) (cut q.1 r is_r))) in
    subst (λ (t : List ℕ). IsReadBack t a) stands (subst (IsReadBack (p.0 ++ 46 ∷ (q.0 ++ 46 ∷ (r.0 ++ 46 ∷ r.1)))) (some_is _ a e7)
    (four_back p.0 q.0 r.0 r.1 n1 n2 n3 n4 (octet p.0 n1 o1) (octet q.0 n2 o2) (octet r.0 n3 o3) (octet r.1 n4 o4)))) e6) e5) e4) e3) e2) e1) e
