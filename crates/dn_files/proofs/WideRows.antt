-- A text that begins with too many commas: its first record has as many fields, whatever follows them.
use Rattle.dn_files.proofs.Words.{Action, BadRow, BeginsWide, Bool, Err, Fields, List, None, Option, Some, State, [], add-one, arith, cases_Bool, default_config, drop, ends_at_end, eqb-true}
use Rattle.dn_files.proofs.Words.{false, field_after, fields_after, get_or, has_commas, in_field, inl, inr, is_end, is_header, is_line_end, is_mark, length, length-append, missing_behind, ne_eqb}
use Rattle.dn_files.proofs.Words.{next_record, or_parts, record-same, records_after, records_from, records_next, records_of, refl, row_of, rows_below, rows_from, start_field, step, suc, take}
use Rattle.dn_files.proofs.Words.{take_rest, true, turns, zero, ℕ, ◌++◌, ◌+◌, ◌-◌, ◌<◌, ◌==◌, ◌∙◌, ◌∷◌, ◌≡◌, ◌≢◌, ◌≤◌}
use Rattle.csv.specs.Machine.{Read}
use Rattle.csv.specs.declared.parser.Action.TheVariants as act
use Rattle.csv.specs.declared.parser.State.TheVariants as st

some_eq : {A : Type 0} (x y : A) → ◌≡◌ {A = Option A} (Some x) (Some y) → x ≡ y
some_eq x y e = cc

-- No byte takes a field from a record, and the end of the record gives it one more.
fields-more : (a : Action) (fields : Fields) (field : List ℕ) → length fields ≤ length (fields_after a fields field)
fields-more act.Copy fields field = omega arith
fields-more act.Skip fields field = omega arith
fields-more act.EndField fields field = omega (arith, length-append fields (field ∷ []))
fields-more act.EndRecord fields field = omega (arith, length-append fields (field ∷ []))

fields-at-end : (a : Action) (fields : Fields) (field : List ℕ) → is_end a ≡ true → length fields < length (fields_after a fields field)
fields-at-end act.Copy fields field e = cc e
fields-at-end act.Skip fields field e = cc e
fields-at-end act.EndField fields field e = cc e
fields-at-end act.EndRecord fields field e = omega (arith, length-append fields (field ∷ []))

longer : (s : State) (fields : Fields) (field xs : List ℕ) (q : Read) → next_record default_config s fields field xs ≡ Some q → length fields < length q.0
unfolding next_record
longer s fields field [] q e = elim (cases_Bool (ends_at_end s)) [
  | inl h ↦ let k = rw h at e in let n = some_eq _ _ k in rw (← n) (omega (arith, length-append fields (field ∷ [])))
  | inr h ↦ let k = rw h at e in cc
]
longer s fields field (c ∷ rest) q e = elim (cases_Bool (is_end (step default_config s c).1)) [
  | inl h ↦ let k = rw h at e in let n = some_eq _ _ k in rw (← n) (fields-at-end (step default_config s c).1 fields field h)
  | inr h ↦
      let k = rw h at e in
      let after = longer (step default_config s c).0 (fields_after (step default_config s c).1 fields field) (field_after (step default_config s c).1 c field) rest q k in
      omega (arith, after, fields-more (step default_config s c).1 fields field)
]

-- Within a record, which the end of the text ends too.
abbrev is_within : State → Bool
is_within st.StartRecord = false
is_within st.AfterCr = false
is_within st.InComment = false
is_within st.StartField = true
is_within st.InField = true
is_within st.InQuoted = true
is_within st.AfterQuote = true
is_within st.InEscape = true

within-ends : (s : State) → is_within s ≡ true → ends_at_end s ≡ true
within-ends st.StartRecord e = cc e
within-ends st.AfterCr e = cc e
within-ends st.InComment e = cc e
within-ends st.StartField e = refl
within-ends st.InField e = refl
within-ends st.InQuoted e = refl
within-ends st.AfterQuote e = refl
within-ends st.InEscape e = refl

field-stays : (c : ℕ) → is_end (in_field default_config c).1 ≡ false → is_within (in_field default_config c).0 ≡ true
field-stays c e = elim (cases_Bool (c == 44)) [
  | inl comma ↦ rw comma refl
  | inr other ↦ elim (cases_Bool (c == 13)) [
    | inl cr ↦ let k = rw (other, cr) at e in cc
    | inr plain ↦ elim (cases_Bool (c == 10)) [
      | inl lf ↦ let k = rw (other, plain, lf) at e in cc
      | inr text ↦ rw (other, plain, text) refl
    ]
  ]
]

start-stays : (c : ℕ) → is_end (start_field default_config c).1 ≡ false → is_within (start_field default_config c).0 ≡ true
start-stays c e = elim (cases_Bool (c == 34)) [
  | inl quote ↦ rw quote refl
  | inr other ↦ let k = rw other at e in rw other (field-stays c k)
]

stays : (s : State) (c : ℕ) → is_within s ≡ true → is_end (step default_config s c).1 ≡ false → is_within (step default_config s c).0 ≡ true
stays st.StartRecord c within e = cc within
stays st.AfterCr c within e = cc within
stays st.InComment c within e = cc within
stays st.StartField c within e = start-stays c e
stays st.InField c within e = field-stays c e
stays st.InQuoted c within e = elim (cases_Bool (c == 34)) [
  | inl quote ↦ rw quote refl
  | inr other ↦ rw other refl
]
stays st.AfterQuote c within e = elim (cases_Bool (c == 34)) [
  | inl quote ↦ rw quote refl
  | inr other ↦ let k = rw other at e in rw other (field-stays c k)
]
stays st.InEscape c within e = refl

exists : (s : State) (fields : Fields) (field xs : List ℕ) → is_within s ≡ true → (q : Read) × (next_record default_config s fields field xs ≡ Some q)
unfolding next_record
exists s fields field [] within = ((fields ++ field ∷ [], st.StartRecord, []), rw (within-ends s within) refl)
exists s fields field (c ∷ rest) within = elim (cases_Bool (is_end (step default_config s c).1)) [
  | inl h ↦ ((fields_after (step default_config s c).1 fields field, (step default_config s c).0, rest), rw h refl)
  | inr h ↦
      let (q, is) = exists (step default_config s c).0 (fields_after (step default_config s c).1 fields field) (field_after (step default_config s c).1 c field) rest (stays s c within h) in
      (q, rw h is)
]

-- A record with more fields than so many was read.
abbrev GivesMore : ℕ → Option Read → Type 0
GivesMore n None = ⊥
GivesMore n (Some q) = n < length q.0

gives-more : (s : State) (fields : Fields) (field xs : List ℕ) → is_within s ≡ true → GivesMore (length fields) (next_record default_config s fields field xs)
gives-more s fields field xs within =
    let (q, is) = exists s fields field xs within in
    rw is (longer s fields field xs q is)

-- The state in a field, at its first byte or behind it.
abbrev in_state : Bool → State
in_state true = st.StartField
in_state false = st.InField

in-state : (opens : Bool) → is_within (in_state opens) ≡ true
in-state true = refl
in-state false = refl

same-step : (opens : Bool) (c : ℕ) → (c == 34) ≡ false → step default_config (in_state opens) c ≡ in_field default_config c
same-step true c other = rw other refl
same-step false c other = refl

all-found : (n : ℕ) (opens : Bool) (fields : Fields) (field xs : List ℕ) → n ≡ 0 → GivesMore (length fields + n) (next_record default_config (in_state opens) fields field xs)
all-found n opens fields field xs none =
    let same : length fields + n ≡ length fields = omega (arith, none) in
    rw same (gives-more (in_state opens) fields field xs (in-state opens))

commas-read : (xs : List ℕ) (n : ℕ) (opens : Bool) (fields : Fields) (field : List ℕ) → has_commas n xs ≡ true
    → GivesMore (length fields + n) (next_record default_config (in_state opens) fields field xs)
unfolding next_record has_commas
commas-read [] n opens fields field has = all-found n opens fields field [] (eqb-true n 0 has)
commas-read (b ∷ rest) n opens fields field has = elim (cases_Bool (n == 0)) [
  | inl none ↦ all-found n opens fields field (b ∷ rest) (eqb-true n 0 none)
  | inr some ↦ elim (cases_Bool (is_mark b)) [
    | inl mark ↦ let k = rw (some, mark) at has in cc k
    | inr plain ↦
        let left = rw (some, plain) at has in
        let (quote, ends) = or_parts (b == 34) _ plain in
        let (return, feed) = or_parts (b == 13) _ ends in
        elim (cases_Bool (b == 44)) [
          | inl comma ↦
              let more = commas-read rest (n - 1) true (fields ++ field ∷ []) [] (rw comma at left) in
              let same : length (fields ++ field ∷ []) + (n - 1) ≡ length fields + n = one-more n fields field some in
              rw (same-step opens b quote, comma) (rw same at more)
          | inr other ↦ rw (same-step opens b quote, other, return, feed) (commas-read rest n false fields (field ++ b ∷ []) (rw other at left))
        ]
  ]
]
  where
    one-more : (n : ℕ) (fields : Fields) (field : List ℕ) → (n == 0) ≡ false → length (fields ++ field ∷ []) + (n - 1) ≡ length fields + n
    one-more zero fields field some = cc some
    one-more (suc n) fields field some = omega (arith, length-append fields (field ∷ []))

record-read : (xs : List ℕ) (n : ℕ) → (n == 0) ≡ false → has_commas n xs ≡ true → GivesMore (0 + n) (next_record default_config st.StartRecord [] [] xs)
unfolding has_commas
record-read [] n some has = let k = rw some at has in cc k
record-read (b ∷ rest) n some has = elim (cases_Bool (is_mark b)) [
  | inl mark ↦ let k = rw (some, mark) at has in cc k
  | inr plain ↦
      let (quote, ends) = or_parts (b == 34) _ plain in
      let (return, feed) = or_parts (b == 13) _ ends in
      rw (record-same [] [] b rest return feed) (commas-read (b ∷ rest) n true [] [] has)
]

wide-next : (more : State → List ℕ → List Fields) (read : Option Read) → GivesMore 10 read → BeginsWide (records_next more read)
wide-next more None gives = absurd gives
wide-next more (Some q) gives = gives

-- Ten commas ahead make eleven fields.
pub wide_records : (text lines below : List ℕ) → records_of text ≡ records_after st.StartRecord lines → records_after st.StartRecord lines ≡ records_after st.StartRecord below
    → has_commas 10 below ≡ true → BeginsWide (records_of text)
unfolding records_from
wide_records text lines below is same has =
    rw (is ∙ same, add-one) (wide-next (records_from default_config (length below)) (next_record default_config st.StartRecord [] [] below) (record-read below 10 refl has))

-- An end of a line at the front of a text is no record.
end-alone : (byte : ℕ) (rest : List ℕ) → is_line_end byte ≡ true → records_after st.StartRecord (byte ∷ rest) ≡ records_after st.StartRecord rest
unfolding records_from next_record
end-alone byte rest ends = rw (add-one, ends) (turns (suc (length (byte ∷ rest))) (length rest + 1) st.StartRecord rest refl (omega arith) (omega arith))

pub end_more : (left : List ℕ) (all : List Fields) → 1 ≤ length left → is_line_end (get_or left 0 0) ≡ true → all ≡ records_after st.StartRecord left
    → all ≡ records_after st.StartRecord (take (length left - 1) (drop 1 left))
end_more [] all there ends is = absurd (omega arith)
end_more (byte ∷ rest) all there ends is = rw (take_rest (byte ∷ rest) 1) (is ∙ end-alone byte rest ends)

-- One byte more.
pub byte_more : (left : List ℕ) (missing : ℕ) (all : Bool) → 1 ≤ length left → (missing == 0) ≡ false → is_mark (get_or left 0 0) ≡ false → has_commas missing left ≡ all
    → has_commas (missing_behind (get_or left 0 0) missing) (take (length left - 1) (drop 1 left)) ≡ all
unfolding has_commas
byte_more [] missing all there some plain is = absurd (omega arith)
byte_more (byte ∷ rest) missing all there some plain is = rw (take_rest (byte ∷ rest) 1) (rw (some, plain) at is)

pub mark_met : (left : List ℕ) (missing : ℕ) (all : Bool) → 1 ≤ length left → missing ≢ 0 → is_mark (get_or left 0 0) ≡ true → has_commas missing left ≡ all → false ≡ all
unfolding has_commas
mark_met [] missing all there some mark is = absurd (omega arith)
mark_met (byte ∷ rest) missing all there some mark is = rw (ne_eqb missing 0 some, mark) at is

pub none_missing : (left : List ℕ) (missing : ℕ) (all : Bool) → missing ≡ 0 → has_commas missing left ≡ all → true ≡ all
unfolding has_commas
none_missing [] missing all none is = let met : (missing == 0) ≡ true = rw none refl in rw met at is
none_missing (byte ∷ rest) missing all none is = let met : (missing == 0) ≡ true = rw none refl in rw met at is

pub text_ended : (left : List ℕ) (missing : ℕ) (all : Bool) → length left < 1 → missing ≢ 0 → has_commas missing left ≡ all → false ≡ all
unfolding has_commas
text_ended [] missing all ended some is = rw (ne_eqb missing 0 some) at is
text_ended (byte ∷ rest) missing all ended some is = absurd (omega arith)

not-ten : (fields : Fields) → 10 < length fields → (length fields == 10) ≡ false
not-ten fields wide = ne_eqb (length fields) 10 (λ e. omega arith)

-- Such a record is no row and no header.
pub wide_row : (number : ℕ) (records : List Fields) → BeginsWide records → rows_from number records ≡ Err (BadRow number 0)
unfolding rows_from row_of
wide_row number [] wide = absurd wide
wide_row number (fields ∷ rest) wide = rw (not-ten fields wide) refl

pub wide_header : (records : List Fields) → BeginsWide records → rows_below records ≡ Err (BadRow 0 0)
unfolding rows_below is_header
wide_header [] wide = absurd wide
wide_header (fields ∷ rest) wide = rw (not-ten fields wide) refl
