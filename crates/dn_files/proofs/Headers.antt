-- The first line of a file, where it is written plainly: a byte order mark may stand before it, and it ends in a line feed or in a
-- carriage return and a line feed.
use Rattle.dn_files.proofs.Words.{BeginsFields, Fields, List, None, Option, Some, [], ap, append_assoc, behind_end, behind_first, behind_word, bound, codes, default_config, feed-line, fields_text}
use Rattle.dn_files.proofs.Words.{header, header_until, inl, inr, is_blank, line-reads, line_of, option_or, past_mark, plain-writes, quoted-writes, records, records_after, records_of, refl}
use Rattle.dn_files.proofs.Words.{return-line, strip_bom, sym, unwrap_or, ℕ, ◌++◌, ◌∙◌, ◌∷◌, ◌≡◌, ◌⊎◌}
use Rattle.csv.specs.declared.parser.State.TheVariants as st
use Rattle.dn_files.proofs.LastNumbers.{end_stands, word_stands}

-- A text begins with a line that is its first record: these fields, whatever follows.
pub record BeginsFirst (text : List ℕ) (fields : Fields) (rest : List ℕ) : Type 0 where
  pub front : List ℕ
  pub stands : text ≡ front ++ 10 ∷ rest
  pub reads : (more : List ℕ) → records_of (front ++ 10 ∷ more) ≡ fields ∷ records_after st.StartRecord more

abbrev mark : List ℕ
mark = 239 ∷ 187 ∷ 191 ∷ []

-- A byte order mark is there, or not.
past : (text : List ℕ) → (text ≡ past_mark text) ⊎ (text ≡ mark ++ past_mark text)
unfolding past_mark
past text = chosen (behind_word mark text) refl
  where
    chosen : (o : Option (List ℕ)) → behind_word mark text ≡ o → (text ≡ unwrap_or o text) ⊎ (text ≡ mark ++ unwrap_or o text)
    chosen None is = inl refl
    chosen (Some rest) is = inr (word_stands mark text rest is)

-- The words of a line that is read as these fields, whether it ends in a line feed or in a carriage return and a line feed. They begin
-- with no byte order mark.
module _ (words : List ℕ) (fields : Fields) (unmarked : (tail : List ℕ) → strip_bom (words ++ tail) ≡ words ++ tail)
    (feed : (more : List ℕ) → records_after st.StartRecord (words ++ 10 ∷ more) ≡ fields ∷ records_after st.StartRecord more)
    (return : (more : List ℕ) → records_after st.StartRecord (words ++ 13 ∷ 10 ∷ more) ≡ fields ∷ records_after st.StartRecord more) where
  placed : (front more : List ℕ) → (front ++ 13 ∷ []) ++ 10 ∷ more ≡ front ++ 13 ∷ 10 ∷ more
  placed front more = append_assoc front (13 ∷ []) (10 ∷ more)

  feed-first : (text rest : List ℕ) → past_mark text ≡ words ++ 10 ∷ rest → BeginsFirst text fields rest
  unfolding strip_bom
  feed-first text rest is = elim (past text) [
    | inl same ↦ record { front = words; stands = same ∙ is; reads = λ more. ap (records default_config) (unmarked (10 ∷ more)) ∙ feed more }
    | inr marked ↦ record { front = mark ++ words; stands = marked ∙ ap (λ (t : List ℕ). mark ++ t) is; reads = feed }
  ]

  return-first : (text rest : List ℕ) → past_mark text ≡ words ++ 13 ∷ 10 ∷ rest → BeginsFirst text fields rest
  unfolding strip_bom
  return-first text rest is = elim (past text) [
    | inl same ↦ record {
      front = words ++ 13 ∷ [];
      stands = same ∙ is ∙ sym (placed words rest);
      reads = λ more. ap records_of (placed words more) ∙ ap (records default_config) (unmarked (13 ∷ 10 ∷ more)) ∙ return more;
    }
    | inr marked ↦ record {
      front = mark ++ (words ++ 13 ∷ []);
      stands = marked ∙ ap (λ (t : List ℕ). mark ++ t) (is ∙ sym (placed words rest));
      reads = λ more. ap (records_after st.StartRecord) (placed words more) ∙ return more;
    }
  ]

  -- A text that begins with these words, a byte order mark before them or none, and with the end of a line behind them.
  pub first-read : (text rest : List ℕ) → behind_first words text ≡ Some rest → BeginsFirst text fields rest
  unfolding behind_first
  first-read text rest e =
      bound (behind_word words (past_mark text)) _ rest (λ left is e1.
      let named = word_stands words (past_mark text) left is in
      elim (end_stands left rest e1) [
        | inl here ↦ feed-first text rest (named ∙ ap (λ (t : List ℕ). words ++ t) here)
        | inr here ↦ return-first text rest (named ∙ ap (λ (t : List ℕ). words ++ t) here)
      ]) e

-- The names of the header with commas between them, and the names before the last one.
abbrev names : List ℕ
names = codes "moment,target,number,src,dst,proto,sport,dport,len,word"

abbrev nine : Fields
nine = codes "moment" ∷ codes "target" ∷ codes "number" ∷ codes "src" ∷ codes "dst" ∷ codes "proto" ∷ codes "sport" ∷ codes "dport" ∷ codes "len" ∷ []

nine-begin : (rest : List ℕ) → BeginsFields (names ++ rest) nine (codes "word" ++ rest)
nine-begin rest = record {
  written = nine;
  stands = refl;
  all = (
    plain-writes _ refl,
    (
      plain-writes _ refl,
      (
        plain-writes _ refl,
        (plain-writes _ refl, (plain-writes _ refl, (plain-writes _ refl, (plain-writes _ refl, (plain-writes _ refl, (plain-writes _ refl, tt)))))),
      ),
    ),
  );
}

-- The same names in quotes.
abbrev quoted_names : List ℕ
quoted_names = codes "\"moment\",\"target\",\"number\",\"src\",\"dst\",\"proto\",\"sport\",\"dport\",\"len\",\"word\""

quoted-begin : (rest : List ℕ) → BeginsFields (quoted_names ++ rest) nine (codes "\"word\"" ++ rest)
quoted-begin rest = record {
  written = codes "\"moment\"" ∷ codes "\"target\"" ∷ codes "\"number\"" ∷ codes "\"src\"" ∷ codes "\"dst\"" ∷ codes "\"proto\"" ∷ codes "\"sport\"" ∷ codes "\"dport\"" ∷ codes "\"len\"" ∷ [];
  stands = refl;
  all = (
    quoted-writes (codes "moment") refl,
    (
      quoted-writes (codes "target") refl,
      (
        quoted-writes (codes "number") refl,
        (
          quoted-writes (codes "src") refl,
          (
            quoted-writes (codes "dst") refl,
            (
              quoted-writes (codes "proto") refl,
              (
                quoted-writes (codes "sport") refl,
                (
                  quoted-writes (codes "dport") refl,
                  (quoted-writes (codes "len") refl, tt),
                ),
              ),
            ),
          ),
        ),
      ),
    ),
  );
}

feed-header : (more : List ℕ) → records_after st.StartRecord (names ++ 10 ∷ more) ≡ header ∷ records_after st.StartRecord more
feed-header more = line-reads _ header more (feed-line (names ++ 10 ∷ more) nine (codes "word") (codes "word") more (nine-begin (10 ∷ more)) (plain-writes (codes "word") refl) (refl, refl))

return-header : (more : List ℕ) → records_after st.StartRecord (names ++ 13 ∷ 10 ∷ more) ≡ header ∷ records_after st.StartRecord more
return-header more = line-reads _ header more (return-line (names ++ 13 ∷ 10 ∷ more) nine (codes "word") (codes "word") more (nine-begin (13 ∷ 10 ∷ more))
    (plain-writes (codes "word") refl) (refl, refl))

feed-quoted : (more : List ℕ) → records_after st.StartRecord (quoted_names ++ 10 ∷ more) ≡ header ∷ records_after st.StartRecord more
feed-quoted more = line-reads _ header more (feed-line _ nine (codes "\"word\"") (codes "word") more (quoted-begin (10 ∷ more)) (quoted-writes (codes "word") refl) (refl, refl))

return-quoted : (more : List ℕ) → records_after st.StartRecord (quoted_names ++ 13 ∷ 10 ∷ more) ≡ header ∷ records_after st.StartRecord more
return-quoted more = line-reads _ header more (return-line _ nine (codes "\"word\"") (codes "word") more (quoted-begin (13 ∷ 10 ∷ more)) (quoted-writes (codes "word") refl) (refl, refl))

unmarked-names : (tail : List ℕ) → strip_bom (names ++ tail) ≡ names ++ tail
unfolding strip_bom
unmarked-names tail = refl

unmarked-quoted : (tail : List ℕ) → strip_bom (quoted_names ++ tail) ≡ quoted_names ++ tail
unfolding strip_bom
unmarked-quoted tail = refl

-- What is read as the header is read so by csv.
pub header_read : (text rest : List ℕ) → header_until text ≡ Some rest → BeginsFirst text header rest
unfolding header_until
header_read text rest e = chosen (behind_first names text) refl e
  where
    chosen : (o : Option (List ℕ)) → behind_first names text ≡ o → option_or o (behind_first quoted_names text) ≡ Some rest → BeginsFirst text header rest
    chosen None is e = first-read quoted_names header unmarked-quoted feed-quoted return-quoted text rest e
    chosen (Some left) is e = first-read names header unmarked-names feed-header return-header text rest (is ∙ e)

-- The header as csv writes it is read.
pub header_back : (rest : List ℕ) → header_until (line_of header ++ rest) ≡ Some rest
unfolding header_until behind_first past_mark behind_end fields_text is_blank
header_back rest = refl
