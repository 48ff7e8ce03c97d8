-- A line that ends in a carriage return is read as without it, where no other byte of it means more than itself to CSV.
use Rattle.dn_live.proofs.Words.{All-from_get_or, Bool, Err, Fields, IfOk, IsFirstByte, IsRead, List, None, Ok, Option, Result, Some, [], add-one, ap, append-nil, append_assoc, arith, at-front}
use Rattle.dn_live.proofs.Words.{cases_Bool, default_config, false, false_from_ne_true, get_or, has_quotes, inl, inr, is_byte, is_some, length, list_any, list_any-append, list_any_none, not}
use Rattle.dn_live.proofs.Words.{onto_first, or_parts, record-same, records_from, records_in, records_of, refl, slice_split, start-same, strip_bom, suc, true, zero, ℕ, ◌++◌, ◌+◌, ◌<◌, ◌==◌, ◌||◌}
use Rattle.dn_live.proofs.Words.{◌∙◌, ◌∷◌, ◌≡◌, ◌≢◌, ◌≤◌}
use Rattle.csv.specs.Machine.{next_record}
use Rattle.csv.specs.declared.parser.State.TheVariants as st

-- The first of some fields goes on with the bytes of the field at hand.
abbrev onto : List ℕ → Fields → Fields
onto field [] = field ∷ []
onto field (first ∷ rest) = (field ++ first) ∷ rest

onto-none : (b : ℕ) (fields : Fields) → onto [] (onto_first b fields) ≡ onto_first b fields
onto-none b [] = refl
onto-none b (first ∷ rest) = refl

onto-pieces : (line : List ℕ) → onto [] (slice_split (λ b. b == 44) line) ≡ slice_split (λ b. b == 44) line
onto-pieces [] = refl
onto-pieces (b ∷ line) = elim (cases_Bool (b == 44)) [
  | inl comma ↦ rw comma refl
  | inr other ↦ rw other (onto-none b (slice_split (λ c. c == 44) line))
]

onto-more : (field : List ℕ) (b : ℕ) (fields : Fields) → onto (field ++ b ∷ []) fields ≡ onto field (onto_first b fields)
onto-more field b [] = refl
onto-more field b (first ∷ rest) = ap (λ (f : List ℕ). f ∷ rest) (append_assoc field (b ∷ []) first)

-- No byte of a line is a quote or an end of line.
record IsPlain (line : List ℕ) : Type 0 where
  quote : list_any (λ b. b == 34) line ≡ false
  return : list_any (λ b. b == 13) line ≡ false
  feed : list_any (λ b. b == 10) line ≡ false

plain-behind : (b : ℕ) (line : List ℕ) → IsPlain (b ∷ line) → IsPlain line
plain-behind b line plain = record {
  quote = (or_parts (b == 34) _ plain.quote).1;
  return = (or_parts (b == 13) _ plain.return).1;
  feed = (or_parts (b == 10) _ plain.feed).1;
}

-- A field begins as it goes on.
field-opens : (fields : Fields) (line : List ℕ) → IsPlain line
    → next_record default_config st.StartField fields [] (line ++ 13 ∷ []) ≡ next_record default_config st.InField fields [] (line ++ 13 ∷ [])
field-opens fields [] plain = start-same fields [] 13 [] refl
field-opens fields (b ∷ line) plain = start-same fields [] b (line ++ 13 ∷ []) (or_parts (b == 34) _ plain.quote).0

pieces-read : (line : List ℕ) → IsPlain line → (fields : Fields) (field : List ℕ)
    → next_record default_config st.InField fields field (line ++ 13 ∷ []) ≡ Some (fields ++ onto field (slice_split (λ b. b == 44) line), st.AfterCr, [])
unfolding next_record
pieces-read [] plain fields field = rw (append-nil field) refl
pieces-read (b ∷ line) plain fields field =
    let r = (or_parts (b == 13) _ plain.return).0 in
    let f = (or_parts (b == 10) _ plain.feed).0 in
    let rest = plain-behind b line plain in
    elim (cases_Bool (b == 44)) [
      | inl comma ↦ rw (comma, append-nil field)
          (field-opens (fields ++ field ∷ []) line rest ∙ pieces-read line rest (fields ++ field ∷ []) []
          ∙ ap (λ (fs : Fields). Some (fs, st.AfterCr, [])) (rw (onto-pieces line) (append_assoc fields (field ∷ []) (slice_split (λ b. b == 44) line))))
      | inr other ↦ rw (other, r, f)
          (pieces-read line rest fields (field ++ b ∷ [])
          ∙ ap (λ (fs : Fields). Some (fields ++ fs, st.AfterCr, [])) (onto-more field b (slice_split (λ b. b == 44) line)))
    ]

first-read : (b : ℕ) (line : List ℕ) → IsPlain (b ∷ line)
    → next_record default_config st.StartRecord [] [] ((b ∷ line) ++ 13 ∷ []) ≡ Some (slice_split (λ b. b == 44) (b ∷ line), st.AfterCr, [])
first-read b line plain =
    record-same [] [] b (line ++ 13 ∷ []) (or_parts (b == 13) _ plain.return).0 (or_parts (b == 10) _ plain.feed).0
    ∙ field-opens [] (b ∷ line) plain
    ∙ pieces-read (b ∷ line) plain [] []
    ∙ ap (λ (fs : Fields). Some (fs, st.AfterCr, [])) (onto-pieces (b ∷ line))

none-behind : (n : ℕ) → records_from default_config n st.AfterCr [] ≡ []
unfolding records_from next_record
none-behind zero = refl
none-behind (suc n) = refl

-- A line without a mark of CSV, and the carriage return behind it.
pub return-read : (line : List ℕ) → 1 ≤ length line → get_or line 0 0 ≢ 239 → list_any (λ b. b == 10) line ≡ false → has_quotes line ≡ false
    → records_of (line ++ 13 ∷ []) ≡ slice_split (λ b. b == 44) line ∷ []
unfolding records_from
return-read [] some other feed none = absurd (omega arith)
return-read (b ∷ line) some other feed none =
    let (quote, return) = or_parts (list_any (λ c. c == 34) (b ∷ line)) (list_any (λ c. c == 13) (b ∷ line)) none in
    at-front ((b ∷ line) ++ 13 ∷ []) (λ rest is. other (ap (λ (t : List ℕ). get_or t 0 0) is))
    ∙ rw (add-one, first-read b line (record { quote = quote; return = return; feed = feed }))
    (ap (λ (t : List Fields). slice_split (λ c. c == 44) (b ∷ line) ∷ t) (none-behind (length ((b ∷ line) ++ 13 ∷ []))))

-- A carriage return alone is no record.
return-alone : records_of (13 ∷ []) ≡ []
unfolding records_from next_record strip_bom
return-alone = refl

pub empty-read : (line : List ℕ) (fields : Fields) → length line < 1 → fields ≡ [] → IsRead (records_of (line ++ 13 ∷ [])) true fields
empty-read [] fields none is = rw return-alone (refl, is)
empty-read (b ∷ line) fields none is = absurd (omega arith)

-- No line feed was found.
pub no-feed : (line : List ℕ) (found : Option ℕ) → IsFirstByte (is_byte 10) line found → is_some found ≡ false → list_any (λ b. b == 10) line ≡ false
no-feed line None none is = list_any_none (λ b. b == 10) line (All-from_get_or (λ b. (b == 10) ≡ false) line 0 (λ k lt. false_from_ne_true _ (none k (omega arith) lt)))
no-feed line (Some k) first is = cc

-- A line that is read plainly is the one record in it, with the carriage return too.
pub bare-read : {E : Type 0} (line : List ℕ) (read : Result Bool E) (fields : Fields) → 1 ≤ length line → get_or line 0 0 ≢ 239 → list_any (λ b. b == 10) line ≡ false
    → IfOk read (λ plain. has_quotes line ≡ not plain) → IfOk read (λ plain. plain ≡ true → fields ≡ slice_split (λ b. b == 44) line)
    → IfOk read (λ plain. plain ≡ true → IsRead (records_of (line ++ 13 ∷ [])) true fields)
bare-read line (Err error) fields some other feed none is = tt
bare-read line (Ok plain) fields some other feed none is = λ yes. rw (return-read line some other feed (none ∙ ap not yes)) (refl, is yes)

either-true : (a b : Bool) → (a || (b || true)) ≡ true
either-true true b = refl
either-true false true = refl
either-true false false = refl

-- A line with a carriage return behind it has the records that CSV reads.
pub returned : (line front : List ℕ) → line ≡ front ++ 13 ∷ [] → records_in line ≡ records_of line
unfolding records_in
returned line front is = rw (is, list_any-append (λ b. b == 13) front (13 ∷ []), either-true (list_any (λ b. b == 34) (front ++ 13 ∷ [])) (list_any (λ b. b == 13) front)) refl
