-- A line is read as its fields, each written as it is or in quotes, whether it ends in a line feed alone or behind a carriage return.
use Rattle.dn_records.proofs.Words.{BeginsLine, Bool, Fields, List, Some, [], add-one, after-quote-same, ap, append-nil, append_assoc, arith, cases_Bool, default_config, default_writer}
use Rattle.dn_records.proofs.Words.{ends_at_end, escaped, false, field-run, field_text, inl, inr, length, length-append, list_any, needs_byte, next_record, quoted-run, record-same, records_after}
use Rattle.dn_records.proofs.Words.{records_from, refl, suc, sym, true, ℕ, ◌++◌, ◌+◌, ◌<◌, ◌==◌, ◌||◌, ◌∙◌, ◌∷◌, ◌≡◌}
use Rattle.csv.specs.declared.parser.State.{State}
use Rattle.csv.specs.declared.parser.State.TheVariants as st
use Rattle.dn_records.proofs.NextRecord.{turns}

-- The bytes of a field as it is written: before any byte but a quote they are read as this field.
pub record Writes (written field : List ℕ) : Type 0 where
  pub read : (fields : Fields) (next : ℕ) (tail : List ℕ) → (next == 34) ≡ false
      → next_record default_config st.StartField fields [] (written ++ next ∷ tail) ≡ next_record default_config st.InField fields field (next ∷ tail)

-- Each of some fields, as it is written.
abbrev pub AllWritten : Fields → Fields → Type 0
AllWritten [] [] = Unit {0}
AllWritten [] (field ∷ fields) = ⊥
AllWritten (first ∷ written) [] = ⊥
AllWritten (first ∷ written) (field ∷ fields) = Writes first field × AllWritten written fields

-- Fields with a comma behind each, and then the rest of a text.
abbrev pub with_commas : Fields → List ℕ → List ℕ
with_commas [] rest = rest
with_commas (field ∷ fields) rest = field ++ 44 ∷ with_commas fields rest

-- A text begins with these fields, however they are written, with a comma behind each, and then the rest follows.
pub record BeginsFields (text : List ℕ) (fields : Fields) (rest : List ℕ) : Type 0 where
  pub written : Fields
  pub stands : text ≡ with_commas written rest
  pub all : AllWritten written fields

-- A field without a comma, a quote or an end of line is written as it is.
pub plain-writes : (field : List ℕ) → field_text default_writer field ≡ field → Writes field field
plain-writes field plain = record {
  read = λ fields next tail other. ap (λ (t : List ℕ). next_record default_config st.StartField fields [] (t ++ next ∷ tail)) (sym plain) ∙ field-run fields field next tail other;
}

behind : (first rest : Bool) → (first || rest) ≡ false → rest ≡ false
behind false rest none = none
behind true rest none = cc none

unescaped : (field : List ℕ) → list_any (needs_byte default_writer) field ≡ false → escaped default_writer field ≡ field
unfolding escaped
unescaped [] none = refl
unescaped (byte ∷ field) none = elim (cases_Bool (byte == 34)) [
  | inl quote ↦ elim (cases_Bool (byte == 44)) [
    | inl comma ↦ let k = rw comma at none in cc k
    | inr other ↦ let k = rw (other, quote) at none in cc k
  ]
  | inr other ↦ rw other (ap (λ (t : List ℕ). byte ∷ t) (unescaped field (behind _ _ none)))
]

-- The same field in quotes.
pub quoted-writes : (field : List ℕ) → list_any (needs_byte default_writer) field ≡ false → Writes (34 ∷ (field ++ 34 ∷ [])) field
unfolding next_record
quoted-writes field none = record {
  read = λ fields next tail other.
      ap (λ (t : List ℕ). next_record default_config st.InQuoted fields [] t) (append_assoc field (34 ∷ []) (next ∷ tail) ∙ ap (λ (t : List ℕ). t ++ 34 ∷ next ∷ tail) (sym (unescaped field none)))
      ∙ quoted-run fields [] field (next ∷ tail)
      ∙ after-quote-same fields field next tail other;
}

-- A text does not begin with the end of a line.
abbrev pub Opens : List ℕ → Type 0
Opens [] = ⊥
Opens (byte ∷ rest) = ((byte == 13) ≡ false) × ((byte == 10) ≡ false)

begins-record : (text : List ℕ) → Opens text → next_record default_config st.StartRecord [] [] text ≡ next_record default_config st.StartField [] [] text
begins-record [] opens = absurd opens
begins-record (byte ∷ rest) opens = record-same [] [] byte rest opens.0 opens.1

fields-read : (written fields : Fields) → AllWritten written fields → (before : Fields) (tail : List ℕ)
    → next_record default_config st.StartField before [] (with_commas written tail) ≡ next_record default_config st.StartField (before ++ fields) [] tail
unfolding next_record
fields-read [] [] all before tail = ap (λ (f : Fields). next_record default_config st.StartField f [] tail) (sym (append-nil before))
fields-read [] (field ∷ fields) all before tail = absurd all
fields-read (first ∷ written) [] all before tail = absurd all
fields-read (first ∷ written) (field ∷ fields) all before tail =
    all.0.read before 44 (with_commas written tail) refl
    ∙ fields-read written fields all.1 (before ++ field ∷ []) tail
    ∙ ap (λ (f : Fields). next_record default_config st.StartField f [] tail) (append_assoc before (field ∷ []) fields)

-- The first record, where it ends before the end of the text.
pub first-is : (text : List ℕ) (fields : Fields) (state : State) (left : List ℕ) → next_record default_config st.StartRecord [] [] text ≡ Some (fields, state, left) → ends_at_end state ≡ false
    → length left < length text → records_after st.StartRecord text ≡ fields ∷ records_after state left
unfolding records_from
first-is text fields state left read between shorter =
    rw (add-one, read) (ap (λ (t : List Fields). fields ∷ t) (turns (length text) (length left + 1) state left between shorter (omega arith)))

-- The line feed behind a carriage return is no record.
behind-return : (text : List ℕ) → records_after st.AfterCr (10 ∷ text) ≡ records_after st.StartRecord text
unfolding records_from next_record
behind-return text = rw add-one (turns (suc (length (10 ∷ text))) (length text + 1) st.StartRecord text refl (omega arith) (omega arith))

module _ (written fields : Fields) (last field : List ℕ) (all : AllWritten written fields) (ends : Writes last field) where
  feed-read : (rest : List ℕ) → Opens (with_commas written (last ++ 10 ∷ rest))
      → next_record default_config st.StartRecord [] [] (with_commas written (last ++ 10 ∷ rest)) ≡ Some (fields ++ field ∷ [], st.StartRecord, rest)
  unfolding next_record
  feed-read rest opens = begins-record _ opens ∙ fields-read written fields all [] (last ++ 10 ∷ rest) ∙ ends.read fields 10 rest refl

  return-read : (rest : List ℕ) → Opens (with_commas written (last ++ 13 ∷ 10 ∷ rest))
      → next_record default_config st.StartRecord [] [] (with_commas written (last ++ 13 ∷ 10 ∷ rest)) ≡ Some (fields ++ field ∷ [], st.AfterCr, 10 ∷ rest)
  unfolding next_record
  return-read rest opens = begins-record _ opens ∙ fields-read written fields all [] (last ++ 13 ∷ 10 ∷ rest) ∙ ends.read fields 13 (10 ∷ rest) refl

-- A front of a text, and what follows it.
commas-front : (written : Fields) (front rest : List ℕ) → with_commas written (front ++ rest) ≡ with_commas written front ++ rest
commas-front [] front rest = refl
commas-front (first ∷ written) front rest =
    ap (λ (t : List ℕ). first ++ 44 ∷ t) (commas-front written front rest) ∙ sym (append_assoc first (44 ∷ with_commas written front) rest)

opens-front : (front rest more : List ℕ) → Opens (front ++ 10 ∷ rest) → Opens (front ++ 10 ∷ more)
opens-front [] rest more opens = opens
opens-front (byte ∷ front) rest more opens = opens

longer : (front rest : List ℕ) → length rest < length (front ++ 10 ∷ rest)
longer front rest = omega (arith, length-append front (10 ∷ rest))

longer-return : (front rest : List ℕ) → length (10 ∷ rest) < length ((front ++ 13 ∷ []) ++ 10 ∷ rest)
longer-return front rest = omega (arith, length-append (front ++ 13 ∷ []) (10 ∷ rest), length-append front (13 ∷ []))

-- A line that ends in a line feed.
pub feed-line : (text : List ℕ) (fields : Fields) (last field rest : List ℕ)
    → BeginsFields text fields (last ++ 10 ∷ rest) → Writes last field → Opens text → BeginsLine text (fields ++ field ∷ []) rest
feed-line text fields last field rest begins ends opens = record {
  front = front;
  stands = stands;
  reads = λ more.
      let is : with_commas begins.written (last ++ 10 ∷ more) ≡ front ++ 10 ∷ more = commas-front begins.written last (10 ∷ more) in
      let opens_here : Opens (with_commas begins.written (last ++ 10 ∷ more)) = rw is (opens-front front rest more (rw stands at opens)) in
      let read = rw is at (feed-read begins.written fields last field begins.all ends more opens_here) in
      first-is (front ++ 10 ∷ more) (fields ++ field ∷ []) st.StartRecord more read refl (longer front more);
}
  where
    front : List ℕ
    front = with_commas begins.written last

    stands : text ≡ front ++ 10 ∷ rest
    stands = begins.stands ∙ commas-front begins.written last (10 ∷ rest)

-- A line that ends in a carriage return and a line feed.
pub return-line : (text : List ℕ) (fields : Fields) (last field rest : List ℕ) → BeginsFields text fields (last ++ 13 ∷ 10 ∷ rest) → Writes last field → Opens text
    → BeginsLine text (fields ++ field ∷ []) rest
return-line text fields last field rest begins ends opens = record {
  front = front ++ 13 ∷ [];
  stands = stands;
  reads = λ more.
      let is : with_commas begins.written (last ++ 13 ∷ 10 ∷ more) ≡ (front ++ 13 ∷ []) ++ 10 ∷ more = placed more in
      let opens_here : Opens (with_commas begins.written (last ++ 13 ∷ 10 ∷ more)) = rw is (opens-front (front ++ 13 ∷ []) rest more (rw stands at opens)) in
      let read = rw is at (return-read begins.written fields last field begins.all ends more opens_here) in
      first-is ((front ++ 13 ∷ []) ++ 10 ∷ more) (fields ++ field ∷ []) st.AfterCr (10 ∷ more) read refl (longer-return front more)
      ∙ ap (λ (t : List Fields). (fields ++ field ∷ []) ∷ t) (behind-return more);
}
  where
    front : List ℕ
    front = with_commas begins.written last

    placed : (more : List ℕ) → with_commas begins.written (last ++ 13 ∷ 10 ∷ more) ≡ (front ++ 13 ∷ []) ++ 10 ∷ more
    placed more = commas-front begins.written last (13 ∷ 10 ∷ more) ∙ sym (append_assoc front (13 ∷ []) (10 ∷ more))

    stands : text ≡ (front ++ 13 ∷ []) ++ 10 ∷ rest
    stands = begins.stands ∙ placed rest

-- Further fields behind those that a text begins with.
commas-then : (front back : Fields) (rest : List ℕ) → with_commas (front ++ back) rest ≡ with_commas front (with_commas back rest)
commas-then [] back rest = refl
commas-then (field ∷ front) back rest = ap (λ (t : List ℕ). field ++ 44 ∷ t) (commas-then front back rest)

all-then : (first second front back : Fields) → AllWritten first front → AllWritten second back → AllWritten (first ++ second) (front ++ back)
all-then [] second [] back f b = b
all-then [] second (field ∷ front) back f b = absurd f
all-then (one ∷ first) second [] back f b = absurd f
all-then (one ∷ first) second (field ∷ front) back f b = (f.0, all-then first second front back f.1 b)

pub fields-then : (text : List ℕ) (front back : Fields) (middle rest : List ℕ) → BeginsFields text front middle → BeginsFields middle back rest → BeginsFields text (front ++ back) rest
fields-then text front back middle rest begins more = record {
  written = begins.written ++ more.written;
  stands = begins.stands ∙ ap (with_commas begins.written) more.stands ∙ sym (commas-then begins.written more.written rest);
  all = all-then begins.written more.written front back begins.all more.all;
}

-- One field.
pub field-begins : (text written field rest : List ℕ) → text ≡ written ++ 44 ∷ rest → Writes written field → BeginsFields text (field ∷ []) rest
field-begins text written field rest stands writes = record { written = written ∷ []; stands = stands; all = (writes, tt) }

-- The first record of a text that begins with a line.
pub line-reads : (text : List ℕ) (fields : Fields) (rest : List ℕ) → BeginsLine text fields rest → records_after st.StartRecord text ≡ fields ∷ records_after st.StartRecord rest
line-reads text fields rest begins = ap (records_after st.StartRecord) begins.stands ∙ begins.reads rest
