-- A text behind which csv's reader stands at the start of a record: its records, and then those of what follows.
use Rattle.dn_records.proofs.Words.{Action, BeginsRecords, Bool, Fields, IsFirstByte, IsWhole, List, None, Option, Read, Some, [], ap, arith, cases_Bool, default_config, drop, ends_at_end}
use Rattle.dn_records.proofs.Words.{eqb-true, false, false_from_ne_true, field_after, fields_after, get_or, in_field, inl, inr, is_byte, is_end, is_some, length, length-append, next_record}
use Rattle.dn_records.proofs.Words.{records_after, records_from, records_next, refl, start_field, start_record, state_after, step, suc, sym, take, take-append-drop, take_more, true, zero, ℕ, ◌++◌}
use Rattle.dn_records.proofs.Words.{◌+◌, ◌<◌, ◌==◌, ◌∙◌, ◌∷◌, ◌≡◌, ◌⊎◌}
use Rattle.csv.specs.declared.parser.Action.TheVariants as act
use Rattle.csv.specs.declared.parser.State.{State}
use Rattle.csv.specs.declared.parser.State.TheVariants as st
use Rattle.dn_records.proofs.NextRecord.{next-between, next-shorter, turns}

some_eq : {A : Type 0} (x y : A) → ◌≡◌ {A = Option A} (Some x) (Some y) → x ≡ y
some_eq x y e = cc

none_some : {A : Type 0} (x : A) → ◌≡◌ {A = Option A} (Some x) None → ⊥
none_some x e = cc

-- A record that ends within a text is read off it whatever follows.
record Goes (s : State) (f : Fields) (p text more : List ℕ) (q : Read) : Type 0 where
  same : next_record default_config s f p (text ++ more) ≡ Some (q.0, q.1, q.2 ++ more)
  whole : state_after q.1 q.2 ≡ st.StartRecord

found : (s : State) (f : Fields) (p text more : List ℕ) (q : Read) → state_after s text ≡ st.StartRecord → next_record default_config s f p text ≡ Some q → Goes s f p text more q
unfolding next_record state_after
found s f p [] more q ends e = let k = rw ends at e in cc k
found s f p (c ∷ rest) more q ends e = elim (cases_Bool (is_end (step default_config s c).1)) [
  | inl last ↦
      let k = rw last at e in
      let n = some_eq _ _ k in
      record { same = rw last (rw (← n) refl); whole = rw (← n) ends }
  | inr inside ↦
      let k = rw inside at e in
      let goes = found (step default_config s c).0 (fields_after (step default_config s c).1 f p) (field_after (step default_config s c).1 c p) rest more q ends k in
      record { same = rw inside goes.same; whole = goes.whole }
]

-- Within a record the reader stays until a byte ends that.
abbrev inside : State → Bool
inside st.StartRecord = false
inside st.AfterCr = false
inside st.InComment = false
inside st.StartField = true
inside st.InField = true
inside st.InQuoted = true
inside st.AfterQuote = true
inside st.InEscape = true

field-inside : (c : ℕ) → is_end (in_field default_config c).1 ≡ false → inside (in_field default_config c).0 ≡ true
field-inside c e = elim (cases_Bool (c == 44)) [
  | inl comma ↦ rw comma refl
  | inr other ↦ elim (cases_Bool (c == 13)) [
    | inl cr ↦ let k = rw (other, cr) at e in cc k
    | inr plain ↦ elim (cases_Bool (c == 10)) [
      | inl lf ↦ let k = rw (other, plain, lf) at e in cc k
      | inr text ↦ rw (other, plain, text) refl
    ]
  ]
]

start-inside : (c : ℕ) → is_end (start_field default_config c).1 ≡ false → inside (start_field default_config c).0 ≡ true
start-inside c e = elim (cases_Bool (c == 34)) [
  | inl quote ↦ rw quote refl
  | inr other ↦ let k = rw other at e in rw other (field-inside c k)
]

step-inside : (s : State) (c : ℕ) → inside s ≡ true → is_end (step default_config s c).1 ≡ false → inside (step default_config s c).0 ≡ true
step-inside st.StartRecord c within e = cc within
step-inside st.AfterCr c within e = cc within
step-inside st.InComment c within e = cc within
step-inside st.StartField c within e = start-inside c e
step-inside st.InField c within e = field-inside c e
step-inside st.InEscape c within e = refl
step-inside st.InQuoted c within e = elim (cases_Bool (c == 34)) [ inl quote ↦ rw quote refl | inr other ↦ rw other refl ]
step-inside st.AfterQuote c within e = elim (cases_Bool (c == 34)) [
  | inl quote ↦ rw quote refl
  | inr other ↦ let k = rw other at e in rw other (field-inside c k)
]

never : (s : State) (f : Fields) (p text : List ℕ) → inside s ≡ true → state_after s text ≡ st.StartRecord → next_record default_config s f p text ≡ None → ⊥
unfolding next_record state_after
never s f p [] within ends e = let k = rw ends at within in cc k
never s f p (c ∷ rest) within ends e = elim (cases_Bool (is_end (step default_config s c).1)) [
  | inl last ↦ let k = rw last at e in none_some _ k
  | inr more ↦
      let k = rw more at e in
      never (step default_config s c).0 (fields_after (step default_config s c).1 f p) (field_after (step default_config s c).1 c p) rest (step-inside s c within more) ends k
]

-- Between two records a byte is passed over, or begins a record.
record Skips (s : State) (c : ℕ) : Type 0 where
  nothing : (step default_config s c).1 ≡ act.Skip
  between : ends_at_end (step default_config s c).0 ≡ false

record Enters (s : State) (c : ℕ) : Type 0 where
  within : inside (step default_config s c).0 ≡ true
  goes_on : is_end (step default_config s c).1 ≡ false

record-enters : (s : State) (c : ℕ) → step default_config s c ≡ start_record default_config c → Skips s c ⊎ Enters s c
record-enters s c is = elim (cases_Bool (c == 13)) [
  | inl cr ↦ inl (record { nothing = rw (is, cr) refl; between = rw (is, cr) refl })
  | inr plain ↦ elim (cases_Bool (c == 10)) [
    | inl lf ↦ inl (record { nothing = rw (is, plain, lf) refl; between = rw (is, plain, lf) refl })
    | inr text ↦ elim (cases_Bool (c == 34)) [
      | inl quote ↦ inr (record { within = rw (is, plain, text, quote) refl; goes_on = rw (is, plain, text, quote) refl })
      | inr bare ↦ elim (cases_Bool (c == 44)) [
        | inl comma ↦ inr (record { within = rw (is, plain, text, bare, comma) refl; goes_on = rw (is, plain, text, bare, comma) refl })
        | inr copied ↦ inr (record { within = rw (is, plain, text, bare, copied) refl; goes_on = rw (is, plain, text, bare, copied) refl })
      ]
    ]
  ]
]

between-step : (s : State) (c : ℕ) → ends_at_end s ≡ false → Skips s c ⊎ Enters s c
between-step st.StartRecord c between = record-enters st.StartRecord c refl
between-step st.AfterCr c between = elim (cases_Bool (c == 10)) [
  | inl lf ↦ inl (record { nothing = rw lf refl; between = rw lf refl })
  | inr other ↦ record-enters st.AfterCr c (rw other refl)
]
between-step st.StartField c between = cc between
between-step st.InField c between = cc between
between-step st.InQuoted c between = cc between
between-step st.AfterQuote c between = cc between
between-step st.InEscape c between = cc between
between-step st.InComment c between = cc between

-- A text without a record is passed over.
skipped : (s : State) (f : Fields) (p text more : List ℕ) → ends_at_end s ≡ false → state_after s text ≡ st.StartRecord → next_record default_config s f p text ≡ None
    → next_record default_config s f p (text ++ more) ≡ next_record default_config st.StartRecord f p more
unfolding next_record state_after
skipped s f p [] more between ends e = rw ends refl
skipped s f p (c ∷ rest) more between ends e = elim (between-step s c between) [
  | inl skips ↦
      let k = rw skips.nothing at e in
      rw skips.nothing (skipped (step default_config s c).0 f p rest more skips.between ends k)
  | inr enters ↦
      let k = rw enters.goes_on at e in
      absurd (never (step default_config s c).0 (fields_after (step default_config s c).1 f p) (field_after (step default_config s c).1 c p) rest enters.within ends k)
]

-- The records of a text, and then those of what follows.
split : (k : ℕ) (s : State) (text more : List ℕ) → ends_at_end s ≡ false → state_after s text ≡ st.StartRecord → length text < k
    → records_after s (text ++ more) ≡ records_from default_config k s text ++ records_after st.StartRecord more
unfolding records_from
split zero s text more between ends lt = absurd (omega arith)
split (suc k) s text more between ends lt =
    turns (length (text ++ more) + 1) (suc (length (text ++ more))) s (text ++ more) between (omega arith) (omega arith)
    ∙ go (λ q here whole below. split k q.1 q.2 more here whole below) (next_record default_config s [] [] text) refl
  where
    go : ((q : Read) → ends_at_end q.1 ≡ false → state_after q.1 q.2 ≡ st.StartRecord → length q.2 < k
        → records_after q.1 (q.2 ++ more) ≡ records_from default_config k q.1 q.2 ++ records_after st.StartRecord more)
        → (o : Option Read) → next_record default_config s [] [] text ≡ o
        → records_from default_config (suc (length (text ++ more))) s (text ++ more) ≡ records_next (records_from default_config k) o ++ records_after st.StartRecord more
    go later None e =
        ap (records_next (records_from default_config (length (text ++ more)))) (skipped s [] [] text more between ends e)
        ∙ turns (suc (length (text ++ more))) (length more + 1) st.StartRecord more refl (omega (arith, length-append text more)) (omega arith)
    go later (Some q) e =
        let goes = found s [] [] text more q ends e in
        let shorter = next-shorter s text q between e in
        let here = next-between s [] [] text q e in
        ap (records_next (records_from default_config (length (text ++ more)))) goes.same
        ∙ ap (λ (t : List Fields). q.0 ∷ t)
        (turns (length (text ++ more)) (length (q.2 ++ more) + 1) q.1 (q.2 ++ more) here (omega (arith, shorter, length-append text more, length-append q.2 more)) (omega arith)
        ∙ later q here goes.whole (omega (arith, shorter, lt)))

pub records-then : (text more : List ℕ) → IsWhole text → records_after st.StartRecord (text ++ more) ≡ records_after st.StartRecord text ++ records_after st.StartRecord more
records-then text more whole = split (length text + 1) st.StartRecord text more refl whole (omega arith)

-- Where no quote has come, the reader stands within none.
abbrev unquoted : State → Bool
unquoted st.StartRecord = true
unquoted st.StartField = true
unquoted st.InField = true
unquoted st.AfterCr = true
unquoted st.InQuoted = false
unquoted st.AfterQuote = false
unquoted st.InEscape = false
unquoted st.InComment = false

field-unquoted : (c : ℕ) → unquoted (in_field default_config c).0 ≡ true
field-unquoted c = elim (cases_Bool (c == 44)) [
  | inl comma ↦ rw comma refl
  | inr other ↦ elim (cases_Bool (c == 13)) [
    | inl cr ↦ rw (other, cr) refl
    | inr plain ↦ elim (cases_Bool (c == 10)) [ inl lf ↦ rw (other, plain, lf) refl | inr text ↦ rw (other, plain, text) refl ]
  ]
]

record-unquoted : (c : ℕ) → (c == 34) ≡ false → unquoted (start_record default_config c).0 ≡ true
record-unquoted c bare = elim (cases_Bool (c == 13)) [
  | inl cr ↦ rw cr refl
  | inr plain ↦ elim (cases_Bool (c == 10)) [
    | inl lf ↦ rw (plain, lf) refl
    | inr text ↦ elim (cases_Bool (c == 44)) [ inl comma ↦ rw (plain, text, bare, comma) refl | inr copied ↦ rw (plain, text, bare, copied) refl ]
  ]
]

step-unquoted : (s : State) (c : ℕ) → unquoted s ≡ true → (c == 34) ≡ false → unquoted (step default_config s c).0 ≡ true
step-unquoted st.StartRecord c is bare = record-unquoted c bare
step-unquoted st.StartField c is bare = rw bare (field-unquoted c)
step-unquoted st.InField c is bare = field-unquoted c
step-unquoted st.AfterCr c is bare = elim (cases_Bool (c == 10)) [
  | inl lf ↦ rw lf refl
  | inr other ↦
      let same : step default_config st.AfterCr c ≡ start_record default_config c = rw other refl in
      ap (λ (p : State × Action). unquoted p.0) same ∙ record-unquoted c bare
]
step-unquoted st.InQuoted c is bare = cc is
step-unquoted st.AfterQuote c is bare = cc is
step-unquoted st.InEscape c is bare = cc is
step-unquoted st.InComment c is bare = cc is

feed-ends : (s : State) → unquoted s ≡ true → (step default_config s 10).0 ≡ st.StartRecord
feed-ends st.StartRecord is = refl
feed-ends st.StartField is = refl
feed-ends st.InField is = refl
feed-ends st.AfterCr is = refl
feed-ends st.InQuoted is = cc is
feed-ends st.AfterQuote is = refl
feed-ends st.InEscape is = cc is
feed-ends st.InComment is = refl

-- No byte of a text is a quote.
abbrev IsUnquoted : List ℕ → Type 0
IsUnquoted text = (k : ℕ) → k < length text → (get_or text k 0 == 34) ≡ false

-- A text without quotes that ends in a line feed is whole.
ended : (s : State) (line : List ℕ) → unquoted s ≡ true → IsUnquoted (line ++ 10 ∷ []) → state_after s (line ++ 10 ∷ []) ≡ st.StartRecord
unfolding state_after
ended s [] is bare = feed-ends s is
ended s (c ∷ rest) is bare = ended (step default_config s c).0 rest (step-unquoted s c is (bare 0 (omega arith))) (λ k lt. bare (suc k) (omega arith))

-- A text up to a line feed, without quotes, is whole records, and then the rest follows.
pub up-to-feed : (text lines rest : List ℕ) (last : ℕ) (quote : Option ℕ) → lines ≡ take (last + 1) text → rest ≡ drop (last + 1) text → last < length text → (get_or text last 0 == 10) ≡ true
    → IsFirstByte (is_byte 34) lines quote → is_some quote ≡ false → BeginsRecords text rest
up-to-feed text lines rest last (Some k) is left lt feed quote none = cc none
up-to-feed text lines rest last None is left lt feed none-here none =
    let ends : lines ≡ take last text ++ 10 ∷ [] = is ∙ take_more text last 0 lt ∙ ap (λ (b : ℕ). take last text ++ b ∷ []) (eqb-true _ _ feed) in
    let bare : IsUnquoted lines = λ k below. false_from_ne_true _ (none-here k (omega arith) below) in
    let here : IsUnquoted (take last text ++ 10 ∷ []) = rw ends at bare in
    record {
      front = lines;
      whole = rw ends (ended st.StartRecord (take last text) refl here);
      stands = sym (take-append-drop (last + 1) text) ∙ rw (is, left) refl;
    }

-- No records, and then the text.
pub none-whole : (text : List ℕ) → BeginsRecords text text
unfolding state_after
none-whole text = record { front = []; whole = refl; stands = refl }
