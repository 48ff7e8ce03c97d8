-- The first line of a text: behind an end of line no byte order mark is passed over.
use Rattle.dn_records.proofs.Words.{List, [], add-one, ap, arith, cases_Bool, default_config, eqb-true, inl, inr, length, next_record, records_after, records_from, records_next, records_of, refl}
use Rattle.dn_records.proofs.Words.{strip_bom, suc, sym, ℕ, ◌+◌, ◌==◌, ◌∷◌, ◌≡◌}
use Rattle.csv.specs.declared.parser.State.TheVariants as st
use Rattle.dn_records.proofs.NextRecord.{turns}

no-mark : (text : List ℕ) → strip_bom (10 ∷ text) ≡ 10 ∷ text
unfolding strip_bom
no-mark [] = refl
no-mark (a ∷ []) = refl
no-mark (a ∷ b ∷ rest) = refl

pub behind-feed : (text : List ℕ) → records_of (10 ∷ text) ≡ records_after st.StartRecord text
unfolding records_from next_record
behind-feed text =
    rw (no-mark text, add-one) (turns (suc (length (10 ∷ text))) (length text + 1) st.StartRecord text refl (omega arith) (omega arith))

-- Behind a carriage return a line feed is no record, as at the start of one.
after-return : (text : List ℕ) → next_record default_config st.AfterCr [] [] text ≡ next_record default_config st.StartRecord [] [] text
unfolding next_record
after-return [] = refl
after-return (c ∷ rest) = elim (cases_Bool (c == 10)) [ inl feed ↦ rw (eqb-true c 10 feed) refl | inr other ↦ rw other refl ]

no-mark-either : (text : List ℕ) → strip_bom (13 ∷ text) ≡ 13 ∷ text
unfolding strip_bom
no-mark-either [] = refl
no-mark-either (a ∷ []) = refl
no-mark-either (a ∷ b ∷ rest) = refl

pub behind-return : (text : List ℕ) → records_of (13 ∷ text) ≡ records_after st.StartRecord text
unfolding records_from next_record
behind-return text =
    rw (no-mark-either text, add-one) (turns (suc (length (13 ∷ text))) (length text + 1) st.StartRecord text refl (omega arith) (omega arith))

pub after-start : (text : List ℕ) → records_after st.StartRecord text ≡ records_after st.AfterCr text
unfolding records_from
after-start text = rw add-one (ap (records_next (records_from default_config (length text))) (sym (after-return text)))
