-- The line that tells a version is the first record.
use Rattle.dn_history.proofs.Words.{BeginsFirst, BeginsHistory, BeginsNoHistory, Fields, First, HistoryVersion, List, Live, None, Opens, Option, Second, Some, Third, Writes, [], behind_first}
use Rattle.dn_history.proofs.Words.{codes, feed-line, field-begins, first-read, history_header, line-reads, live_header, plain-writes, records_after, refl, return-line, strip_bom, version_words}
use Rattle.dn_history.proofs.Words.{ℕ, ◌++◌, ◌∙◌, ◌∷◌, ◌≡◌}
use Rattle.csv.specs.declared.parser.State.TheVariants as st

-- The first record of a history of this version.
abbrev pub version_record : HistoryVersion → Fields
version_record First = codes "dummynet-history" ∷ codes "1" ∷ []
version_record Second = codes "dummynet-history" ∷ codes "2" ∷ []
version_record Third = history_header
version_record Live = live_header

unmarked : (version : HistoryVersion) (tail : List ℕ) → strip_bom (version_words version ++ tail) ≡ version_words version ++ tail
unfolding strip_bom
unmarked First tail = refl
unmarked Second tail = refl
unmarked Third tail = refl
unmarked Live tail = refl

-- Two words with a comma between them are a record.
feed-pair : (first second more : List ℕ) → Writes first first → Writes second second → Opens (first ++ 44 ∷ (second ++ 10 ∷ more))
    → records_after st.StartRecord (first ++ 44 ∷ (second ++ 10 ∷ more)) ≡ (first ∷ second ∷ []) ∷ records_after st.StartRecord more
feed-pair first second more one two opens =
    line-reads _ (first ∷ second ∷ []) more (feed-line _ (first ∷ []) second second more (field-begins _ first first (second ++ 10 ∷ more) refl one) two opens)

return-pair : (first second more : List ℕ) → Writes first first → Writes second second → Opens (first ++ 44 ∷ (second ++ 13 ∷ 10 ∷ more))
    → records_after st.StartRecord (first ++ 44 ∷ (second ++ 13 ∷ 10 ∷ more)) ≡ (first ∷ second ∷ []) ∷ records_after st.StartRecord more
return-pair first second more one two opens =
    line-reads _ (first ∷ second ∷ []) more (return-line _ (first ∷ []) second second more (field-begins _ first first (second ++ 13 ∷ 10 ∷ more) refl one) two opens)

feed-version : (version : HistoryVersion) (more : List ℕ) → records_after st.StartRecord (version_words version ++ 10 ∷ more) ≡ version_record version ∷ records_after st.StartRecord more
feed-version First more = feed-pair (codes "dummynet-history") (codes "1") more (plain-writes _ refl) (plain-writes _ refl) (refl, refl)
feed-version Second more = feed-pair (codes "dummynet-history") (codes "2") more (plain-writes _ refl) (plain-writes _ refl) (refl, refl)
feed-version Third more = feed-pair (codes "dummynet-history") (codes "3") more (plain-writes _ refl) (plain-writes _ refl) (refl, refl)
feed-version Live more = feed-pair (codes "dummynet-live") (codes "1") more (plain-writes _ refl) (plain-writes _ refl) (refl, refl)

return-version : (version : HistoryVersion) (more : List ℕ) → records_after st.StartRecord (version_words version ++ 13 ∷ 10 ∷ more) ≡ version_record version ∷ records_after st.StartRecord more
return-version First more = return-pair (codes "dummynet-history") (codes "1") more (plain-writes _ refl) (plain-writes _ refl) (refl, refl)
return-version Second more = return-pair (codes "dummynet-history") (codes "2") more (plain-writes _ refl) (plain-writes _ refl) (refl, refl)
return-version Third more = return-pair (codes "dummynet-history") (codes "3") more (plain-writes _ refl) (plain-writes _ refl) (refl, refl)
return-version Live more = return-pair (codes "dummynet-live") (codes "1") more (plain-writes _ refl) (plain-writes _ refl) (refl, refl)

-- A text that begins with the line of a version begins with its record.
pub version-first : (text : List ℕ) (version : HistoryVersion) (rest : List ℕ) → BeginsHistory text version rest → BeginsFirst text (version_record version) rest
version-first text version rest begins =
    first-read (version_words version) (version_record version) (unmarked version) (feed-version version) (return-version version) text rest begins.stands

-- Where a text begins with none of the four, it begins with no line that tells a version.
pub none-begins : (text : List ℕ) → None ≡ behind_first (version_words Third) text → None ≡ behind_first (version_words Second) text
    → None ≡ behind_first (version_words First) text → None ≡ behind_first (version_words Live) text
    → BeginsNoHistory text
none-begins text third second first live version rest begins = differs (none version ∙ begins.stands)
  where
    none : (version : HistoryVersion) → None ≡ behind_first (version_words version) text
    none First = first
    none Second = second
    none Third = third
    none Live = live

    differs : ◌≡◌ {A = Option (List ℕ)} None (Some rest) → ⊥
    differs e = cc e
