-- The bytes of a line: those of its fields, one after the other.
use Rattle.dn_records.proofs.Words.{AllDigits, Bool, Err, Field, List, Ok, OnErr, Result, StartsWith, [], address_text, ap, append-nil, append_assoc, arith, bytes_of, cases_Bool, cond, decimal}
use Rattle.dn_records.proofs.Words.{decimal_is_IsNumeral_wide, default_writer, digit_from_value, drop, eqb_tells, escaped, false, field_text, fields_text, get_or, inl, inr, is_blank, length}
use Rattle.dn_records.proofs.Words.{length-append, line_of, list_any, list_any-append, map-append, ne_eqb, needs_byte, record_of, refl, row_body, split_at, subst, suc, sym, take, take-append-drop}
use Rattle.dn_records.proofs.Words.{take-append_seam, take-take, take_more, with_point, ℕ, ◌%◌, ◌++◌, ◌+◌, ◌/◌, ◌<◌, ◌==◌, ◌^◌, ◌∙◌, ◌∷◌, ◌≡◌, ◌≤◌}

-- what holds anyway holds at a refusal
pub on_err : {T E : Type 0} {P : Type 0} (r : Result T E) → P → OnErr r P
on_err (Ok x) p = tt
on_err (Err e) p = p

escaped-append : (xs ys : List ℕ) → escaped default_writer (xs ++ ys) ≡ escaped default_writer xs ++ escaped default_writer ys
unfolding escaped
escaped-append [] ys = refl
escaped-append (b ∷ xs) ys = elim (cases_Bool (b == 34)) [
  | inl quote ↦ rw (quote, escaped-append xs ys) refl
  | inr other ↦ rw (other, escaped-append xs ys) refl
]

-- one byte more of a quoted field
pub escaped-more : (field : List ℕ) (i d : ℕ) → i < length field
    → escaped default_writer (take (i + 1) field) ≡ escaped default_writer (take i field) ++ escaped default_writer (get_or field i d ∷ [])
escaped-more field i d lt = rw (take_more field i d lt) (escaped-append (take i field) (get_or field i d ∷ []))

-- the bytes up to a place of a quoted field are no more than all of them
pub escaped-fits : (field : List ℕ) (i d : ℕ) → i < length field
    → length (escaped default_writer (take i field)) + length (escaped default_writer (get_or field i d ∷ [])) ≤ length (escaped default_writer field)
escaped-fits field i d lt =
    let cut = ap (λ (xs : List ℕ). length (escaped default_writer xs)) (split_at field i d lt) in
    let front = ap (length {A = ℕ}) (escaped-append (take i field) (get_or field i d ∷ drop (suc i) field)) in
    let rest = ap (length {A = ℕ}) (escaped-append (get_or field i d ∷ []) (drop (suc i) field)) in
    omega (
      arith,
      cut,
      front,
      rest,
      length-append (escaped default_writer (take i field))
          (escaped default_writer (get_or field i d ∷ drop (suc i) field)),
      length-append (escaped default_writer (get_or field i d ∷ []))
          (escaped default_writer (drop (suc i) field)),
    )

fields-append : (xs ys : List (List ℕ)) → fields_text default_writer (xs ++ ys) ≡ fields_text default_writer xs ++ fields_text default_writer ys
unfolding fields_text
fields-append [] ys = refl
fields-append (f ∷ xs) ys = rw (fields-append xs ys) (ap (λ (t : List ℕ). 44 ∷ t) (sym (append_assoc (field_text default_writer f) (fields_text default_writer xs) (fields_text default_writer ys))))

-- one field more, with the comma before it
pub fields-more : (fields : List Field) (i : ℕ) (d : Field) → i < length fields
    → fields_text default_writer (record_of (take (i + 1) fields)) ≡ fields_text default_writer (record_of (take i fields)) ++ 44 ∷ field_text default_writer (bytes_of (get_or fields i d))
unfolding fields_text
fields-more fields i d lt =
    let one : fields_text default_writer (record_of (get_or fields i d ∷ [])) ≡ 44 ∷ field_text default_writer (bytes_of (get_or fields i d)) =
    ap (λ (t : List ℕ). 44 ∷ t) (append-nil _) in
    rw (take_more fields i d lt, map-append bytes_of (take i fields) (get_or fields i d ∷ []))
    (fields-append (record_of (take i fields)) (record_of (get_or fields i d ∷ [])) ∙ ap (λ (t : List ℕ). fields_text default_writer (record_of (take i fields)) ++ t) one)

-- the fields up to a place and the one there are no longer than all of them
pub fields-fit : (fields : List Field) (i : ℕ) (d : Field) → i < length fields
    → length (fields_text default_writer (record_of (take i fields))) + 1 + length (field_text default_writer (bytes_of (get_or fields i d))) ≤ length (fields_text default_writer (record_of fields))
unfolding fields_text
fields-fit fields i d lt =
    let more = ap (length {A = ℕ}) (fields-more fields i d lt) in
    let cut = ap (λ (fs : List Field). length (fields_text default_writer (record_of fs))) (sym (take-append-drop (i + 1) fields)) in
    let front = record_of (take (i + 1) fields) in
    let back = record_of (drop (i + 1) fields) in
    let whole : fields_text default_writer (record_of (take (i + 1) fields ++ drop (i + 1) fields)) ≡ fields_text default_writer front ++ fields_text default_writer back =
    rw (map-append bytes_of (take (i + 1) fields) (drop (i + 1) fields)) (fields-append front back) in
    omega (
      arith,
      more,
      cut,
      ap (length {A = ℕ}) whole,
      length-append (fields_text default_writer (record_of (take i fields)))
          (44 ∷ field_text default_writer (bytes_of (get_or fields i d))),
      length-append
          (fields_text default_writer (record_of (take (i + 1) fields))) (fields_text default_writer (record_of (drop (i + 1) fields))),
    )

-- a text that starts with a longer one starts with its front
pub starts-shorter : (xs front back : List ℕ) → StartsWith xs (front ++ back) → StartsWith xs front
starts-shorter xs front back h =
    let shorter : length front ≤ length (front ++ back) = omega (arith, length-append front back) in
    sym (take-take (length front) (length (front ++ back)) xs shorter) ∙ ap (take (length front)) h ∙ take-append_seam front back

-- a record is blank where its fields have no byte
blank-is : (fields : List (List ℕ)) → is_blank default_writer fields ≡ (length (row_body default_writer fields) == 0)
unfolding is_blank fields_text
blank-is [] = refl
blank-is (f ∷ []) = ap (λ (t : List ℕ). length t == 0) (sym (append-nil (field_text default_writer f)))
blank-is (f ∷ g ∷ rest) =
    let more = length-append (field_text default_writer f) (44 ∷ (field_text default_writer g ++ fields_text default_writer rest)) in
    sym (ne_eqb (length (field_text default_writer f ++ 44 ∷ (field_text default_writer g ++ fields_text default_writer rest))) 0 (λ e. omega arith))

same-length : (old body : List ℕ) → (length (old ++ body) == length old) ≡ (length body == 0)
same-length old body =
    let long = length-append old body in elim (eqb_tells (length (old ++ body)) (length old)) [
      | inl more ↦ elim (eqb_tells (length body) 0) [
        | inl none ↦ more.0 ∙ sym none.0
        | inr some ↦ absurd (some.1 (omega (arith, long, more.1)))
      ]
      | inr more ↦ elim (eqb_tells (length body) 0) [
        | inl none ↦ absurd (more.1 (omega (arith, long, none.1)))
        | inr some ↦ more.0 ∙ sym some.0
      ]
    ]

-- what ends a line
abbrev pub line_end : Bool → List ℕ
line_end blank = cond blank (34 ∷ 34 ∷ []) [] ++ 10 ∷ []

-- the fields and what ends the line are the line
pub line-is : (old text : List ℕ) (fields : List (List ℕ)) (n m : ℕ) → n ≡ length text → m ≡ length old → text ≡ old ++ row_body default_writer fields
    → text ++ line_end (n == m) ≡ old ++ line_of fields
line-is old text fields n m long short is =
    let blank : (n == m) ≡ is_blank default_writer fields =
    (λ i. long i == short i) ∙ ap (λ (t : List ℕ). length t == length old) is ∙ same-length old (row_body default_writer fields) ∙ sym (blank-is fields) in
    (λ i. is i ++ line_end (blank i)) ∙ append_assoc old (row_body default_writer fields) (line_end (is_blank default_writer fields))

-- a digit calls for no quotes
digit-plain : (b : ℕ) → 48 ≤ b → b ≤ 57 → needs_byte default_writer b ≡ false
digit-plain b least greatest =
    rw (ne_eqb b 44 (λ e. omega arith), ne_eqb b 34 (λ e. omega arith), ne_eqb b 13 (λ e. omega arith), ne_eqb b 10 (λ e. omega arith)) refl

digits-plain : (ds : List ℕ) → AllDigits 10 ds → list_any (needs_byte default_writer) ds ≡ false
digits-plain [] digits = refl
digits-plain (b ∷ ds) digits =
    let range = digit_from_value b digits.0 in
    rw (digit-plain b (omega (arith, range)) (omega (arith, range)), digits-plain ds digits.1) refl

decimal-plain : (n : ℕ) → n < 2 ^ 128 → list_any (needs_byte default_writer) (decimal n) ≡ false
decimal-plain n small = digits-plain (decimal n) (decimal_is_IsNumeral_wide n (omega arith)).0.1

-- a number is written as it is
pub decimal_is_plain : (n : ℕ) → n < 2 ^ 128 → field_text default_writer (decimal n) ≡ decimal n
decimal_is_plain n small = rw (decimal-plain n small) refl

-- two plain texts with a point between them are plain
point-plain : (front back : List ℕ) → list_any (needs_byte default_writer) front ≡ false → list_any (needs_byte default_writer) back ≡ false
    → list_any (needs_byte default_writer) (with_point front back) ≡ false
point-plain front back f b = rw (list_any-append (needs_byte default_writer) front (46 ∷ back), f, b) refl

-- an address is written as it is
pub address_is_plain : (a : ℕ) → a < 2 ^ 32 → field_text default_writer (address_text a) ≡ address_text a
address_is_plain a small =
    let first = decimal-plain (a / 16777216) (omega arith) in
    let second = decimal-plain (a / 65536 % 256) (omega arith) in
    let third = decimal-plain (a / 256 % 256) (omega arith) in
    let fourth = decimal-plain (a % 256) (omega arith) in
    let back = point-plain (decimal (a / 256 % 256)) (decimal (a % 256)) third fourth in
    let rest = point-plain (decimal (a / 65536 % 256)) (with_point (decimal (a / 256 % 256)) (decimal (a % 256))) second back in
    let plain : list_any (needs_byte default_writer) (address_text a) ≡ false = point-plain (decimal (a / 16777216)) _ first rest in
    rw plain refl
