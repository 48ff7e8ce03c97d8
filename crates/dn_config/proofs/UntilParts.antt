-- The parts of a text that begins with a number or an address: its bytes, the byte behind them, and the rest.
use Rattle.dn_config.proofs.Vocabulary.{Bool, Err, List, None, NumberFault, Ok, Option, Result, Some, [], address_of, address_until, all_digits, ap, append_assoc, arith, at_point, behind_byte}
use Rattle.dn_config.proofs.Vocabulary.{cases_Bool, digit_from_value, digit_value, eqb-true, false, inl, inr, is_ascii_digit, list_all, ltb-true, nat_lt, ne_eqb, number_until, number_within}
use Rattle.dn_config.proofs.Vocabulary.{prefix_len, refl, result_ok, sym, take-append-drop, true, unit, ℕ, ◌&&◌, ◌*◌, ◌++◌, ◌+◌, ◌==◌, ◌||◌, ◌∙◌, ◌∷◌, ◌≡◌}
use Rattle.dn_config.specs.Tokens.Addresses.{◌>>=◌}
use Rattle.dn_config.specs.Tokens.Numbers.{digits}
use Rattle.dn_config.proofs.Capping.{digits_are_digits}

pub some_is : {A : Type 0} (x y : A) → ◌≡◌ {A = Option A} (Some x) (Some y) → x ≡ y
some_is x y e = cc

-- What was read before it was read on.
pub bound : {A B C : Type 0} (o : Option A) (read : A → Option B) (b : B) → ((a : A) → o ≡ Some a → read a ≡ Some b → C) → (o >>= read) ≡ Some b → C
bound None read b more e = cc e
bound (Some a) read b more e = more a refl e

-- A number and the byte behind it, from what was read.
number_and_byte : (end n : ℕ) (r : Result ℕ NumberFault) (u rest : List ℕ)
    → ◌>>=◌ {B = ℕ × List ℕ} (result_ok r) (λ number. ◌>>=◌ {B = ℕ × List ℕ} (behind_byte end u) (λ left. Some (number, left))) ≡ Some (n, rest)
    → (r ≡ Ok n) × (u ≡ end ∷ rest)
number_and_byte end n (Err fault) u rest e = cc e
number_and_byte end n (Ok m) [] rest e = cc e
number_and_byte end n (Ok m) (byte ∷ more) rest e = elim (cases_Bool (byte == end)) [
  | inl same ↦
      let k = rw same at e in
      let both = some_is (m, more) (n, rest) k in
      (ap (λ p. Ok (p.0)) both, ap (λ (b : ℕ). b ∷ more) (eqb-true byte end same) ∙ ap (λ p. end ∷ p.1) both)
  | inr other ↦ let k = rw other at e in cc
]

-- A number: its digits, and what stands behind the byte that ends them.
pub number_parts : (end least greatest : ℕ) (text : List ℕ) (n : ℕ) (rest : List ℕ) → number_until end least greatest text ≡ Some (n, rest)
    → (text ≡ digits text ++ end ∷ rest) × (number_within least greatest (digits text) ≡ Ok n)
unfolding number_until
number_parts end least greatest text n rest e =
    let (number, behind) = number_and_byte end n (number_within least greatest (digits text)) (unit text) rest e in
    (sym (take-append-drop (prefix_len is_ascii_digit text) text) ∙ ap (λ (t : List ℕ). digits text ++ t) behind, number)

and-left : (a b : Bool) → (a && b) ≡ true → a ≡ true
and-left true b e = refl
and-left false b e = cc e

and-right : (a b : Bool) → (a && b) ≡ true → b ≡ true
and-right true b e = e
and-right false b e = cc e

-- Digits are followed by the first point.
point-behind : (ds rest : List ℕ) → all_digits 10 ds ≡ true → at_point (ds ++ 46 ∷ rest) ≡ Some (ds, rest)
unfolding at_point
point-behind [] rest e = refl
point-behind (d ∷ ds) rest e =
    let range = digit_from_value d (ltb-true (digit_value d) 10 (and-left (nat_lt (digit_value d) 10) (all_digits 10 ds) e)) in
    rw (ne_eqb d 46 (λ h. omega (arith, range)), point-behind ds rest (and-right (nat_lt (digit_value d) 10) (all_digits 10 ds) e)) refl

-- A byte of an address: a digit or a point.
abbrev pub is_address_byte : ℕ → Bool
is_address_byte byte = nat_lt (digit_value byte) 10 || (byte == 46)

pub digits_are : (ds : List ℕ) → all_digits 10 ds ≡ true → list_all is_address_byte ds ≡ true
digits_are [] e = refl
digits_are (d ∷ ds) e = rw (and-left (nat_lt (digit_value d) 10) (all_digits 10 ds) e, digits_are ds (and-right (nat_lt (digit_value d) 10) (all_digits 10 ds) e)) refl

pub pointed : (ds rest : List ℕ) → all_digits 10 ds ≡ true → list_all is_address_byte rest ≡ true → list_all is_address_byte (ds ++ 46 ∷ rest) ≡ true
pointed [] rest e f = rw f refl
pointed (d ∷ ds) rest e f = rw (and-left (nat_lt (digit_value d) 10) (all_digits 10 ds) e, pointed ds rest (and-right (nat_lt (digit_value d) 10) (all_digits 10 ds) e) f) refl

-- What an address at the front of a text is made of.
abbrev pub AddressParts : ℕ → List ℕ → ℕ → List ℕ → Type 0
AddressParts end text a rest = (field : List ℕ) × (text ≡ field ++ end ∷ rest) × (address_of field ≡ Some a) × (list_all is_address_byte field ≡ true)

parts_join : (end : ℕ) (text t1 t2 t3 rest d1 d2 d3 d4 : List ℕ) → text ≡ d1 ++ 46 ∷ t1 → t1 ≡ d2 ++ 46 ∷ t2 → t2 ≡ d3 ++ 46 ∷ t3 → t3 ≡ d4 ++ end ∷ rest
    → text ≡ (d1 ++ 46 ∷ (d2 ++ 46 ∷ (d3 ++ 46 ∷ d4))) ++ end ∷ rest
parts_join end text t1 t2 t3 rest d1 d2 d3 d4 e1 e2 e3 e4 = rw (e1, e2, e3, e4) (simp append_assoc)

address_from : (end : ℕ) (text t1 t2 t3 rest : List ℕ) (n1 n2 n3 n4 a : ℕ) → number_until 46 0 255 text ≡ Some (n1, t1) → number_until 46 0 255 t1 ≡ Some (n2, t2)
    → number_until 46 0 255 t2 ≡ Some (n3, t3) → number_until end 0 255 t3 ≡ Some (n4, rest) → n1 * 16777216 + n2 * 65536 + n3 * 256 + n4 ≡ a → AddressParts end text a rest
unfolding address_of
address_from end text t1 t2 t3 rest n1 n2 n3 n4 a e1 e2 e3 e4 value =
    let one = number_parts 46 0 255 text n1 t1 e1 in
    let two = number_parts 46 0 255 t1 n2 t2 e2 in
    let three = number_parts 46 0 255 t2 n3 t3 e3 in
    let four = number_parts end 0 255 t3 n4 rest e4 in
    let p1 = point-behind (digits text) (digits t1 ++ 46 ∷ (digits t2 ++ 46 ∷ digits t3)) (digits_are_digits text) in
    let p2 = point-behind (digits t1) (digits t2 ++ 46 ∷ digits t3) (digits_are_digits t1) in
    let p3 = point-behind (digits t2) (digits t3) (digits_are_digits t2) in (
      digits text ++ 46 ∷ (digits t1 ++ 46 ∷ (digits t2 ++ 46 ∷ digits t3)),
      parts_join end text t1 t2 t3 rest (digits text) (digits t1) (digits t2) (digits t3) one.0 two.0 three.0 four.0,
      rw (p1, p2, p3, one.1, two.1, three.1, four.1) (ap Some value),
      pointed (digits text) _ (digits_are_digits text) (pointed (digits t1) _ (digits_are_digits t1) (pointed (digits t2) _ (digits_are_digits t2) (digits_are (digits t3) (digits_are_digits t3)))),
    )

-- An address: its bytes, and what stands behind the byte that ends them.
pub address_parts : (end : ℕ) (text : List ℕ) (a : ℕ) (rest : List ℕ) → address_until end text ≡ Some (a, rest) → AddressParts end text a rest
unfolding address_until
address_parts end text a rest e =
    bound (number_until 46 0 255 text) _ (a, rest) (λ first is_first e1.
    bound (number_until 46 0 255 first.1) _ (a, rest) (λ second is_second e2.
    bound (number_until 46 0 255 second.1) _ (a, rest) (λ third is_third e3.
    bound (number_until end 0 255 third.1) _ (a, rest) (λ fourth is_fourth e4.
    let both = some_is (first.0 * 16777216 + second.0 * 65536 + third.0 * 256 + fourth.0, fourth.1) (a, rest) e4 in
    address_from end text first.1 second.1 third.1 rest first.0 second.0 third.0 fourth.0 a is_first is_second is_third
    (is_fourth ∙ ap (λ p. Some (fourth.0, p.1)) both) (ap (λ p. p.0) both)) e3) e2) e1) e
