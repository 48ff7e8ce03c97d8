-- The next record of a text takes at least one byte, and the machine then stands between two records.
use Rattle.dn_records.proofs.Words.{Config, List, None, Option, Read, Some, [], ap, arith, cases_Bool, default_config, ends_at_end, false, field_after, fields_after, in_field, inl, inr, is_end}
use Rattle.dn_records.proofs.Words.{length, next_record, records_from, records_next, refl, start_field, start_record, step, suc, true, zero, ℕ, ◌<◌, ◌==◌, ◌∷◌, ◌≡◌, ◌≤◌}
use Rattle.csv.specs.declared.parser.State.{State}
use Rattle.csv.specs.declared.parser.State.TheVariants as st

some_eq : {A : Type 0} (x y : A) → ◌≡◌ {A = Option A} (Some x) (Some y) → x ≡ y
some_eq x y e = cc

-- what is left after a record is no longer than the text
pub next-le : (cfg : Config) (s : State) (f : List (List ℕ)) (p : List ℕ) (xs : List ℕ) (q : Read) → next_record cfg s f p xs ≡ Some q → length q.2 ≤ length xs
unfolding next_record
next-le cfg s f p [] q e = elim (cases_Bool (ends_at_end s)) [
  | inl h ↦ let k = rw h at e in let n = some_eq _ _ k in rw (← n) (omega arith)
  | inr h ↦ let k = rw h at e in cc
]
next-le cfg s f p (c ∷ rest) q e = elim (cases_Bool (is_end (step cfg s c).1)) [
  | inl h ↦ let k = rw h at e in let n = some_eq _ _ k in rw (← n) (omega arith)
  | inr h ↦
      let k = rw h at e in
      let le = next-le cfg (step cfg s c).0 (fields_after (step cfg s c).1 f p) (field_after (step cfg s c).1 c p) rest q k in
      omega arith
]

field-between : (c : ℕ) → is_end (in_field default_config c).1 ≡ true → ends_at_end (in_field default_config c).0 ≡ false
field-between c e = elim (cases_Bool (c == 44)) [
  | inl comma ↦ let k = rw comma at e in cc
  | inr other ↦ elim (cases_Bool (c == 13)) [
    | inl cr ↦ rw (other, cr) refl
    | inr plain ↦ elim (cases_Bool (c == 10)) [
      | inl lf ↦ rw (other, plain, lf) refl
      | inr text ↦ let k = rw (other, plain, text) at e in cc
    ]
  ]
]

start-between : (c : ℕ) → is_end (start_field default_config c).1 ≡ true → ends_at_end (start_field default_config c).0 ≡ false
start-between c e = elim (cases_Bool (c == 34)) [
  | inl quote ↦ let k = rw quote at e in cc
  | inr other ↦ let k = rw other at e in rw other (field-between c k)
]

record-between : (c : ℕ) → is_end (start_record default_config c).1 ≡ true → ends_at_end (start_record default_config c).0 ≡ false
record-between c e = elim (cases_Bool (c == 13)) [
  | inl cr ↦ let k = rw cr at e in cc
  | inr plain ↦ elim (cases_Bool (c == 10)) [
    | inl lf ↦ let k = rw (plain, lf) at e in cc
    | inr text ↦ elim (cases_Bool (c == 34)) [
      | inl quote ↦ let k = rw (plain, text, quote) at e in cc
      | inr bare ↦ elim (cases_Bool (c == 44)) [
        | inl comma ↦ let k = rw (plain, text, bare, comma) at e in cc
        | inr copied ↦ let k = rw (plain, text, bare, copied) at e in cc
      ]
    ]
  ]
]

-- a byte that ends a record leaves the machine between two records
pub step-between : (s : State) (c : ℕ) → is_end (step default_config s c).1 ≡ true → ends_at_end (step default_config s c).0 ≡ false
step-between st.StartRecord c e = record-between c e
step-between st.StartField c e = start-between c e
step-between st.InField c e = field-between c e
step-between st.InQuoted c e = elim (cases_Bool (c == 34)) [
  | inl quote ↦ let k = rw quote at e in cc
  | inr other ↦ let k = rw other at e in cc
]
step-between st.InEscape c e = cc
step-between st.AfterQuote c e = elim (cases_Bool (c == 34)) [
  | inl quote ↦ let k = rw quote at e in cc
  | inr other ↦ let k = rw other at e in rw other (field-between c k)
]
step-between st.InComment c e = elim (cases_Bool (c == 10)) [
  | inl lf ↦ let k = rw lf at e in cc
  | inr other ↦ let k = rw other at e in cc
]
step-between st.AfterCr c e = elim (cases_Bool (c == 10)) [
  | inl lf ↦ let k = rw lf at e in cc
  | inr text ↦ elim (cases_Bool (c == 13)) [
    | inl cr ↦ let k = rw (text, cr) at e in cc
    | inr plain ↦ elim (cases_Bool (c == 34)) [
      | inl quote ↦ let k = rw (text, plain, quote) at e in cc
      | inr bare ↦ elim (cases_Bool (c == 44)) [
        | inl comma ↦ let k = rw (text, plain, bare, comma) at e in cc
        | inr copied ↦ let k = rw (text, plain, bare, copied) at e in cc
      ]
    ]
  ]
]

pub next-between : (s : State) (f : List (List ℕ)) (p : List ℕ) (xs : List ℕ) (q : Read) → next_record default_config s f p xs ≡ Some q → ends_at_end q.1 ≡ false
unfolding next_record
next-between s f p [] q e = elim (cases_Bool (ends_at_end s)) [
  | inl h ↦ let k = rw h at e in let n = some_eq _ _ k in rw (← n) refl
  | inr h ↦ let k = rw h at e in cc
]
next-between s f p (c ∷ rest) q e = elim (cases_Bool (is_end (step default_config s c).1)) [
  | inl h ↦ let k = rw h at e in let n = some_eq _ _ k in rw (← n) (step-between s c h)
  | inr h ↦
      let k = rw h at e in
      next-between (step default_config s c).0 (fields_after (step default_config s c).1 f p) (field_after (step default_config s c).1 c p) rest q k
]

-- between two records the next one takes at least one byte
pub next-shorter : (s : State) (xs : List ℕ) (q : Read) → ends_at_end s ≡ false → next_record default_config s [] [] xs ≡ Some q → length q.2 < length xs
unfolding next_record
next-shorter s [] q between e = let k = rw between at e in cc
next-shorter s (c ∷ rest) q between e = elim (cases_Bool (is_end (step default_config s c).1)) [
  | inl h ↦ let k = rw h at e in let n = some_eq _ _ k in rw (← n) (omega arith)
  | inr h ↦
      let k = rw h at e in
      let le = next-le default_config (step default_config s c).0 (fields_after (step default_config s c).1 [] []) (field_after (step default_config s c).1 c []) rest q k in
      omega arith
]

-- the records of a text don't depend on the count of turns, where that is above the length
pub turns : (k m : ℕ) (s : State) (xs : List ℕ) → ends_at_end s ≡ false → length xs < k → length xs < m → records_from default_config k s xs ≡ records_from default_config m s xs
unfolding records_from
turns zero m s xs between lk lm = absurd (omega arith)
turns (suc k) zero s xs between lk lm = absurd (omega arith)
turns (suc k) (suc m) s xs between lk lm = go (λ q e lt. turns k m q.1 q.2 (next-between s [] [] xs q e) (omega arith) (omega arith)) (next_record default_config s [] [] xs) refl
  where
    go : ((q : Read) → next_record default_config s [] [] xs ≡ Some q → length q.2 < length xs → records_from default_config k q.1 q.2 ≡ records_from default_config m q.1 q.2)
        → (o : Option Read) → next_record default_config s [] [] xs ≡ o → records_next (records_from default_config k) o ≡ records_next (records_from default_config m) o
    go more None e = refl
    go more (Some q) e = ap (λ (t : List (List (List ℕ))). q.0 ∷ t) (more q e (next-shorter s xs q between e))
