-- The steps of csv's reader within a record, and what they make of its front.
use Rattle.dn_records.proofs.Words.{List, ap, cases_Bool, csv_state, csv_step, default_config, ends_with, eqb-true, false, in_field, inl, inr, is_end, ne_eqb, records_after, records_of, refl}
use Rattle.dn_records.proofs.Words.{start_record, step, true, ℕ, ◌==◌, ◌∙◌, ◌∷◌, ◌≡◌, ◌≢◌}
use Rattle.csv.specs.declared.parser.Terminator.TheVariants as term
use Rattle.dn_records.specs.declared.state.State.{State}
use Rattle.dn_records.specs.declared.state.State.TheVariants as s
use Rattle.dn_records.specs.declared.state.Step.TheVariants as step
use Rattle.dn_records.proofs.FirstLine.{after-start, behind-feed, behind-return}

-- What a byte does in a field.
pub comma_step : (c : ℕ) → c ≡ 44 → in_field default_config c ≡ csv_step c step.EndField
comma_step c is = rw is refl

pub end_step : (c : ℕ) → c ≢ 44 → ends_with term.CRLF c ≡ true → in_field default_config c ≡ csv_step c step.EndRecord
end_step c other ends = rw (ne_eqb c 44 other, ends) refl

pub copy_step : (c : ℕ) → c ≢ 44 → ends_with term.CRLF c ≡ false → in_field default_config c ≡ csv_step c (step.Copy s.InField)
copy_step c other inside = rw (ne_eqb c 44 other, inside) refl

-- What is left at the end of a record is read behind that end.
field-left : (c : ℕ) (rest : List ℕ) → is_end (in_field default_config c).1 ≡ true → records_of (c ∷ rest) ≡ records_after (in_field default_config c).0 rest
field-left c rest e = elim (cases_Bool (c == 44)) [
  | inl comma ↦ let k = rw comma at e in cc k
  | inr other ↦ elim (cases_Bool (c == 13)) [
    | inl cr ↦ rw (other, cr) (ap (λ (b : ℕ). records_of (b ∷ rest)) (eqb-true c 13 cr) ∙ behind-return rest ∙ after-start rest)
    | inr plain ↦ elim (cases_Bool (c == 10)) [
      | inl lf ↦ rw (other, plain, lf) (ap (λ (b : ℕ). records_of (b ∷ rest)) (eqb-true c 10 lf) ∙ behind-feed rest)
      | inr text ↦ let k = rw (other, plain, text) at e in cc k
    ]
  ]
]

record-left : (c : ℕ) (rest : List ℕ) → is_end (start_record default_config c).1 ≡ true → records_of (c ∷ rest) ≡ records_after (start_record default_config c).0 rest
record-left c rest e = elim (cases_Bool (c == 13)) [
  | inl cr ↦ let k = rw cr at e in cc k
  | inr plain ↦ elim (cases_Bool (c == 10)) [
    | inl lf ↦ let k = rw (plain, lf) at e in cc k
    | inr text ↦ elim (cases_Bool (c == 34)) [
      | inl quote ↦ let k = rw (plain, text, quote) at e in cc k
      | inr bare ↦ elim (cases_Bool (c == 44)) [
        | inl comma ↦ let k = rw (plain, text, bare, comma) at e in cc k
        | inr copied ↦ let k = rw (plain, text, bare, copied) at e in cc k
      ]
    ]
  ]
]

pub state-left : (state : State) (c : ℕ) (rest : List ℕ) → is_end (step default_config (csv_state state) c).1 ≡ true
    → records_of (c ∷ rest) ≡ records_after (step default_config (csv_state state) c).0 rest
state-left s.StartRecord c rest e = record-left c rest e
state-left s.StartField c rest e = elim (cases_Bool (c == 34)) [
  | inl quote ↦ let k = rw quote at e in cc k
  | inr other ↦ let k = rw other at e in rw other (field-left c rest k)
]
state-left s.InField c rest e = field-left c rest e
state-left s.InQuoted c rest e = elim (cases_Bool (c == 34)) [
  | inl quote ↦ let k = rw quote at e in cc k
  | inr other ↦ let k = rw other at e in cc k
]
state-left s.AfterQuote c rest e = elim (cases_Bool (c == 34)) [
  | inl quote ↦ let k = rw quote at e in cc k
  | inr other ↦ let k = rw other at e in rw other (field-left c rest k)
]
