-- What is read of fields is written in them: each number and each address in the only way that it is written.
use Rattle.dn_laws.proofs.Words.{Bool, Err, List, None, NumberFault, Ok, Option, Packet, Result, Some, Target, Texts, [], aim, and_parts, ap, arith, bytes_eq-Decides, codes, cond, decimal}
use Rattle.dn_laws.proofs.Words.{dotted, eqb-true, false, field_at, inl, inr, length, number_of, number_within, option_map, packet_at, refl, subst, suc, sym, target_at, true, tuple_at}
use Rattle.dn_laws.proofs.Words.{within_ok, zero, ℕ, ⊎_elim, ◌%◌, ◌*◌, ◌++◌, ◌+◌, ◌-◌, ◌/◌, ◌<◌, ◌==◌, ◌^◌, ◌∙◌, ◌∷◌, ◌≡◌, ◌≤◌, ◌⊎◌}
use Rattle.dn_types.specs.declared.five_tuple.FiveTuple.{FiveTuple}
use Rattle.dn_types.specs.declared.target.Target.TheVariants.{Pipe, Queue}
use Rattle.std.specs.Result.{result_ok}
use Rattle.dn_config.proofs.UntilParts.{bound as some-bound, some_is}
use Rattle.dn_config.specs.Tokens.Addresses.{address_of, at_point, octet_of}
use Rattle.dn_files.specs.Fields.{column, is_form, is_name, number_at, or_place}
use Rattle.dn_files.specs.Reading.{◌>>=◌}
use Rattle.dn_laws.specs.RecordLaws.{IsAim}
use Rattle.dn_laws.proofs.LineDeletesHold.{is-decimal}

pub ok-is : {A E : Type 0} (x y : A) → ◌≡◌ {A = Result A E} (Ok x) (Ok y) → x ≡ y
ok-is x y e = cc

-- What was read before it was read on, and what one of two readers read.
pub bound : {A B C E : Type 0} (o : Result A E) (read : A → Result B E) (b : B) → ((a : A) → o ≡ Ok a → read a ≡ Ok b → C) → (o >>= read) ≡ Ok b → C
bound (Err fault) read b more e = cc e
bound (Ok a) read b more e = more a refl e

pub cond-ok : {A E : Type 0} (b : Bool) (x y : Result A E) (a : A) → cond b x y ≡ Ok a → ((b ≡ true) × (x ≡ Ok a)) ⊎ ((b ≡ false) × (y ≡ Ok a))
cond-ok true x y a e = inl (refl, e)
cond-ok false x y a e = inr (refl, e)

placed-is : {A : Type 0} (place : ℕ) (o : Option A) (a : A) → or_place place o ≡ Ok a → o ≡ Some a
placed-is place None a e = cc e
placed-is place (Some b) a e = ap Some (ok-is b a e)

-- A number of a range is written in its own digits.
abbrev pub IsNumber : ℕ → ℕ → List ℕ → ℕ → Type 0
IsNumber least greatest w n = (w ≡ decimal n) × (least ≤ n) × (n ≤ greatest)

within-is : (least greatest n : ℕ) (w : List ℕ) → greatest < 2 ^ 64 → result_ok (number_within least greatest w) ≡ Some n → IsNumber least greatest w n
within-is least greatest n w small e =
    let inside = within_ok least greatest n (number_of w) (sym (ok-of (number_within least greatest w) e)) in
    (is-decimal w n inside.0 (omega (arith, inside.2, small)), inside.1, inside.2)
  where
    ok-of : (r : Result ℕ NumberFault) → result_ok r ≡ Some n → r ≡ Ok n
    ok-of (Ok m) e = ap Ok (some_is m n e)
    ok-of (Err fault) e = cc e

pub number-read : (place least greatest n : ℕ) (fields : Texts) → greatest < 2 ^ 64 → number_at place least greatest fields ≡ Ok n → IsNumber least greatest (column place fields) n
number-read place least greatest n fields small e =
    within-is least greatest n (column place fields) small (placed-is place (result_ok (number_within least greatest (column place fields))) n e)

-- An address is written as its bytes.
abbrev pub IsAddress : List ℕ → ℕ → Type 0
IsAddress w a = (w ≡ dotted a) × (a < 2 ^ 32)

cut-more : (byte : ℕ) (rest : List ℕ) (p : List ℕ × List ℕ) (b : Bool) → (byte == 46) ≡ b → (o : Option (List ℕ × List ℕ)) → ((q : List ℕ × List ℕ) → o ≡ Some q → rest ≡ q.0 ++ 46 ∷ q.1)
    → cond b (Some ([], rest)) (option_map (λ q. (byte ∷ q.0, q.1)) o) ≡ Some p → byte ∷ rest ≡ p.0 ++ 46 ∷ p.1
cut-more byte rest p true test o later e = rw (← some_is ([], rest) p e) (ap (λ (b : ℕ). b ∷ rest) (eqb-true byte 46 test))
cut-more byte rest p false test None later e = cc e
cut-more byte rest p false test (Some q) later e = rw (← some_is (byte ∷ q.0, q.1) p e) (ap (λ (t : List ℕ). byte ∷ t) (later q refl))

cut : (w : List ℕ) (p : List ℕ × List ℕ) → at_point w ≡ Some p → w ≡ p.0 ++ 46 ∷ p.1
unfolding at_point
cut [] p e = cc e
cut (byte ∷ rest) p e = cut-more byte rest p (byte == 46) refl (at_point rest) (λ q is. cut rest q is) e

four-are : (a n m k l : ℕ) → n ≤ 255 → m ≤ 255 → k ≤ 255 → l ≤ 255 → n * 16777216 + m * 65536 + k * 256 + l ≡ a
    → (n ≡ a / 2 ^ 24) × (m ≡ a / 2 ^ 16 % 2 ^ 8) × (k ≡ a / 2 ^ 8 % 2 ^ 8) × (l ≡ a % 2 ^ 8) × (a < 2 ^ 32)
four-are a n m k l h1 h2 h3 h4 e = (
  omega (arith, h1, h2, h3, h4, e),
  omega (arith, h1, h2, h3, h4, e),
  omega (arith, h1, h2, h3, h4, e),
  omega (arith, h1, h2, h3, h4, e),
  omega (arith, h1, h2, h3, h4, e),
)

address-read : (w : List ℕ) (a : ℕ) → address_of w ≡ Some a → IsAddress w a
unfolding address_of
address-read w a e =
    some-bound (at_point w) _ a (λ p is-p e1.
    some-bound (at_point p.1) _ a (λ q is-q e2.
    some-bound (at_point q.1) _ a (λ r is-r e3.
    some-bound (octet_of p.0) _ a (λ n o1 e4.
    some-bound (octet_of q.0) _ a (λ m o2 e5.
    some-bound (octet_of r.0) _ a (λ k o3 e6.
    some-bound (octet_of r.1) _ a (λ l o4 e7.
    let d1 = within-is 0 255 n p.0 (omega arith) o1 in
    let d2 = within-is 0 255 m q.0 (omega arith) o2 in
    let d3 = within-is 0 255 k r.0 (omega arith) o3 in
    let d4 = within-is 0 255 l r.1 (omega arith) o4 in
    let parts = four-are a n m k l d1.2 d2.2 d3.2 d4.2 (some_is _ a e7) in (
      cut w p is-p ∙ ap (λ (t : List ℕ). p.0 ++ 46 ∷ t) (cut p.1 q is-q ∙ ap (λ (t : List ℕ). q.0 ++ 46 ∷ t) (cut q.1 r is-r))
          ∙ rw (d1.0, d2.0, d3.0, d4.0, parts.0, parts.1, parts.2, parts.3) refl,
      parts.4,
    )) e6) e5) e4) e3) e2) e1) e

-- The two fields of a target.
abbrev pub IsTargetRead : ℕ → Texts → Target → Type 0
IsTargetRead place fields t = (column place fields ∷ column (place + 1) fields ∷ [] ≡ aim t) × IsAim t

pub target-read : (place : ℕ) (fields : Texts) (t : Target) → target_at place fields ≡ Ok t → IsTargetRead place fields t
unfolding target_at
target-read place fields t e =
    ⊎_elim (λ h. bound (number_at (place + 1) 1 65535 fields) _ t (λ n is e1. subst (IsTargetRead place fields) (ok-is (Pipe n) t e1)
    (let number = number-read (place + 1) 1 65535 n fields (omega arith) is in
    (λ i. (bytes_eq-Decides (column place fields) (codes "pipe")).0 h.0 i ∷ number.0 i ∷ [], (number.1, omega (arith, number.2))))) h.1)
    (λ h. ⊎_elim (λ h. bound (number_at (place + 1) 1 65535 fields) _ t (λ n is e1. subst (IsTargetRead place fields) (ok-is (Queue n) t e1)
    (let number = number-read (place + 1) 1 65535 n fields (omega arith) is in
    (λ i. (bytes_eq-Decides (column place fields) (codes "queue")).0 h.0 i ∷ number.0 i ∷ [], (number.1, omega (arith, number.2))))) h.1)
    (λ h. let no = h.1 in cc no) (cond-ok (is_name place fields (codes "queue")) _ _ t h.1)) (cond-ok (is_name place fields (codes "pipe")) _ _ t e)

-- The five fields of a tuple, and the seven of a packet.
abbrev pub IsTupleRead : ℕ → Texts → FiveTuple → Type 0
IsTupleRead place fields t = IsAddress (column place fields) t.src × IsAddress (column (place + 1) fields) t.dst × IsNumber 0 255 (column (place + 2) fields) t.proto
    × IsNumber 0 65535 (column (place + 3) fields) t.sport × IsNumber 0 65535 (column (place + 4) fields) t.dport

pub tuple-read : (place : ℕ) (fields : Texts) (t : FiveTuple) → tuple_at place fields ≡ Ok t → IsTupleRead place fields t
unfolding tuple_at
tuple-read place fields t e =
    bound (or_place place (address_of (column place fields))) _ t (λ a is-a e1.
    bound (or_place (place + 1) (address_of (column (place + 1) fields))) _ t (λ b is-b e2.
    bound (number_at (place + 2) 0 255 fields) _ t (λ p is-p e3.
    bound (number_at (place + 3) 0 65535 fields) _ t (λ s is-s e4.
    bound (number_at (place + 4) 0 65535 fields) _ t (λ d is-d e5.
    subst (IsTupleRead place fields) (ok-is (record { src = a; dst = b; proto = p; sport = s; dport = d }) t e5) (
      address-read (column place fields) a (placed-is place (address_of (column place fields)) a is-a),
      address-read (column (place + 1) fields) b (placed-is (place + 1) (address_of (column (place + 1) fields)) b is-b),
      number-read (place + 2) 0 255 p fields (omega arith) is-p,
      number-read (place + 3) 0 65535 s fields (omega arith) is-s,
      number-read (place + 4) 0 65535 d fields (omega arith) is-d,
    )) e4) e3) e2) e1) e

abbrev pub IsPacketRead : ℕ → Texts → Packet → Type 0
IsPacketRead place fields p = IsTupleRead place fields p.tuple × IsNumber 1 65535 (column (place + 5) fields) p.len × IsNumber 0 4294967295 (column (place + 6) fields) p.word

pub packet-read : (place : ℕ) (fields : Texts) (p : Packet) → packet_at place fields ≡ Ok p → IsPacketRead place fields p
unfolding packet_at
packet-read place fields p e =
    bound (tuple_at place fields) _ p (λ t is-t e1.
    bound (number_at (place + 5) 1 65535 fields) _ p (λ l is-l e2.
    bound (number_at (place + 6) 0 4294967295 fields) _ p (λ w is-w e3.
    subst (IsPacketRead place fields) (ok-is (record { tuple = t; len = l; word = w }) p e3)
    (tuple-read place fields t is-t, number-read (place + 5) 1 65535 l fields (omega arith) is-l, number-read (place + 6) 0 4294967295 w fields (omega arith) is-w)) e2) e1) e

-- The fields of a record from a place on, and a record that has so many.
abbrev pub from : ℕ → ℕ → Texts → Texts
from zero place fields = []
from (suc count) place fields = column place fields ∷ from count (place + 1) fields

column-behind : (place : ℕ) (first : List ℕ) (fields : Texts) → 0 < place → column (place + 1) (first ∷ fields) ≡ column place fields
unfolding field_at
column-behind place first fields l =
    let same : place + 1 - 1 ≡ suc (place - 1) = omega (arith, l) in
    rw same refl

from-behind : (count place : ℕ) (first : List ℕ) (fields : Texts) → 0 < place → from count (place + 1) (first ∷ fields) ≡ from count place fields
from-behind zero place first fields l = refl
from-behind (suc count) place first fields l = λ i. column-behind place first fields l i ∷ from-behind count (place + 1) first fields (omega (arith, l)) i

pub spread : (count : ℕ) (fields : Texts) → length fields ≡ count → fields ≡ from count 1 fields
unfolding field_at
spread zero [] e = refl
spread (suc count) [] e = absurd (omega (arith, e))
spread zero (first ∷ fields) e = absurd (omega (arith, e))
spread (suc count) (first ∷ fields) e = ap (λ (t : Texts). first ∷ t) (spread count fields (omega (arith, e)) ∙ sym (from-behind count 1 first fields (omega arith)))

pub name-read : (place : ℕ) (fields : Texts) (name : List ℕ) → is_name place fields name ≡ true → column place fields ≡ name
name-read place fields name e = (bytes_eq-Decides (column place fields) name).0 e

pub form-read : (place : ℕ) (name : List ℕ) (count : ℕ) (fields : Texts) → is_form place name count fields ≡ true → (column place fields ≡ name) × (fields ≡ from count 1 fields)
form-read place name count fields e =
    let both = and_parts (is_name place fields name) (length fields == count) e in
    (name-read place fields name both.0, spread count fields (eqb-true (length fields) count both.1))
