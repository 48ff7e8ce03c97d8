-- Lines whose fields are written as they are.
use Rattle.dn_files.proofs.Words.{BeginsFields, BeginsLine, Bool, Fields, List, Opens, Writes, [], ap, append_assoc, cases_Bool, default_writer, false, feed-line, fields_text, inl, inr, is_blank}
use Rattle.dn_files.proofs.Words.{line_of, list_all, list_any, needs_byte, refl, return-line, returned_line, subst, true, ℕ, ◌++◌, ◌∙◌, ◌∷◌, ◌≡◌}
use Rattle.dn_files.proofs.PlainFields.{AllPlain, EndsIn, IsPlain}

-- A field whose bytes all pass a test is plain, where what passes calls for no quotes.
pub unquoted : (test : ℕ → Bool) → ((byte : ℕ) → test byte ≡ true → needs_byte default_writer byte ≡ false) → (field : List ℕ) → list_all test field ≡ true
    → list_any (needs_byte default_writer) field ≡ false
unquoted test plain [] e = refl
unquoted test plain (byte ∷ field) e = elim (cases_Bool (test byte)) [
  | inl passes ↦ let more = rw passes at e in rw (plain byte passes, unquoted test plain field more) refl
  | inr other ↦ let k = rw other at e in cc
]

pub plain-field : (test : ℕ → Bool) → ((byte : ℕ) → test byte ≡ true → needs_byte default_writer byte ≡ false) → (field : List ℕ) → list_all test field ≡ true → IsPlain field
plain-field test plain field e = rw (unquoted test plain field e) refl

-- The text behind a field of a plain line: further fields, each with a comma before it, and then the end of the line and the rest.
abbrev pub plain_end : Fields → List ℕ → List ℕ
plain_end [] tail = tail
plain_end (field ∷ fields) tail = 44 ∷ (field ++ plain_end fields tail)

end-is : (fields : Fields) (tail : List ℕ) → AllPlain fields → fields_text default_writer fields ++ tail ≡ plain_end fields tail
unfolding fields_text
end-is [] tail plain = refl
end-is (field ∷ fields) tail plain =
    rw plain.0 (ap (λ (t : List ℕ). 44 ∷ t) (append_assoc field (fields_text default_writer fields) tail ∙ ap (λ (t : List ℕ). field ++ t) (end-is fields tail plain.1)))

body-is : (first : List ℕ) (fields : Fields) (ends rest : List ℕ) → IsPlain first → AllPlain fields
    → ((first ++ fields_text default_writer fields) ++ ends) ++ rest ≡ first ++ plain_end fields (ends ++ rest)
body-is first fields ends rest plain more =
    append_assoc (first ++ fields_text default_writer fields) ends rest ∙ append_assoc first (fields_text default_writer fields) (ends ++ rest)
    ∙ ap (λ (t : List ℕ). first ++ t) (end-is fields (ends ++ rest) more)

pub line-is : (first second : List ℕ) (fields : Fields) (rest : List ℕ) → IsPlain first → AllPlain (second ∷ fields)
    → line_of (first ∷ second ∷ fields) ++ rest ≡ first ++ plain_end (second ∷ fields) (10 ∷ rest)
unfolding is_blank
line-is first second fields rest plain more = rw plain (body-is first (second ∷ fields) (10 ∷ []) rest plain more)

pub return-is : (first second : List ℕ) (fields : Fields) (rest : List ℕ) → IsPlain first → AllPlain (second ∷ fields)
    → returned_line (first ∷ second ∷ fields) ++ rest ≡ first ++ plain_end (second ∷ fields) (13 ∷ 10 ∷ rest)
return-is first second fields rest plain more = rw plain (body-is first (second ∷ fields) (13 ∷ 10 ∷ []) rest plain more)

-- A text that begins with fields, and then with a last one and the end of a line, begins with the line of a record.
pub line-begins : (text left : List ℕ) (fields : Fields) (written field rest : List ℕ) → BeginsFields text fields left → EndsIn left written rest → Writes written field → Opens text
    → BeginsLine text (fields ++ field ∷ []) rest
line-begins text left fields written field rest begins (inl feed) writes opens = feed-line text fields written field rest (subst (BeginsFields text fields) feed begins) writes opens
line-begins text left fields written field rest begins (inr return) writes opens = return-line text fields written field rest (subst (BeginsFields text fields) return begins) writes opens
