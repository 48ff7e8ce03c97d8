-- The bytes of the lines of a report: numbers are written as they are, with commas between them.
use Rattle.dn_replay.proofs.Words.{Fields, List, Out, [], ap, append_assoc, arith, decimal, decimal_is_plain, default_writer, fields_text, is_blank, length, line_fields, line_of, refl}
use Rattle.dn_replay.proofs.Words.{report_header, ℕ, ◌++◌, ◌<◌, ◌^◌, ◌∙◌, ◌∷◌, ◌≡◌}
use Rattle.dn_replay.specs.declared.report.line.ReportLine.TheVariants.{Full, Held, Lost, NoTarget}

-- A number, and what stands behind it.
number-then : (n : ℕ) (fields : Fields) (rest : List ℕ) → n < 2 ^ 128 → fields_text default_writer fields ++ 10 ∷ [] ≡ rest
    → fields_text default_writer (decimal n ∷ fields) ++ 10 ∷ [] ≡ 44 ∷ (decimal n ++ rest)
unfolding fields_text
number-then n fields rest small e =
    ap (λ (t : List ℕ). 44 ∷ ((t ++ fields_text default_writer fields) ++ 10 ∷ [])) (decimal_is_plain n small)
    ∙ ap (λ (t : List ℕ). 44 ∷ t) (append_assoc (decimal n) (fields_text default_writer fields) (10 ∷ []) ∙ ap (λ (t : List ℕ). decimal n ++ t) e)

-- An empty field, and what stands behind it.
empty-then : (fields : Fields) (rest : List ℕ) → fields_text default_writer fields ++ 10 ∷ [] ≡ rest → fields_text default_writer ([] ∷ fields) ++ 10 ∷ [] ≡ 44 ∷ rest
unfolding fields_text
empty-then fields rest e = ap (λ (t : List ℕ). 44 ∷ t) e

line-end : fields_text default_writer [] ++ 10 ∷ [] ≡ 10 ∷ []
unfolding fields_text
line-end = refl

pub out-line : (row flow packet at start due : ℕ) → row < 2 ^ 128 → flow < 2 ^ 128 → packet < 2 ^ 128 → at < 2 ^ 128 → start < 2 ^ 128 → due < 2 ^ 128
    → line_of (line_fields (Out row flow packet at start due))
    ≡ 111 ∷ 117 ∷ 116 ∷ 44 ∷ (decimal row ++ 44 ∷ (decimal flow ++ 44 ∷ (decimal packet ++ 44 ∷ (decimal at ++ 44 ∷ (decimal start ++ 44 ∷ (decimal due ++ 10 ∷ []))))))
unfolding is_blank
out-line row flow packet at start due r f p a s d =
    ap (λ (t : List ℕ). 111 ∷ 117 ∷ 116 ∷ t)
    (number-then row _ _ r (number-then flow _ _ f (number-then packet _ _ p (number-then at _ _ a (number-then start _ _ s (number-then due [] _ d line-end))))))

pub held-line : (row flow packet at : ℕ) → row < 2 ^ 128 → flow < 2 ^ 128 → packet < 2 ^ 128 → at < 2 ^ 128
    → line_of (line_fields (Held row flow packet at))
    ≡ 104 ∷ 101 ∷ 108 ∷ 100 ∷ 44 ∷ (decimal row ++ 44 ∷ (decimal flow ++ 44 ∷ (decimal packet ++ 44 ∷ (decimal at ++ 44 ∷ 44 ∷ 10 ∷ []))))
unfolding is_blank
held-line row flow packet at r f p a =
    ap (λ (t : List ℕ). 104 ∷ 101 ∷ 108 ∷ 100 ∷ t)
    (number-then row _ _ r (number-then flow _ _ f (number-then packet _ _ p (number-then at _ _ a (empty-then ([] ∷ []) _ (empty-then [] _ line-end))))))

pub lost-line : (row flow at : ℕ) → row < 2 ^ 128 → flow < 2 ^ 128 → at < 2 ^ 128
    → line_of (line_fields (Lost row flow at)) ≡ 108 ∷ 111 ∷ 115 ∷ 116 ∷ 44 ∷ (decimal row ++ 44 ∷ (decimal flow ++ 44 ∷ 44 ∷ (decimal at ++ 44 ∷ 44 ∷ 10 ∷ [])))
unfolding is_blank
lost-line row flow at r f a =
    ap (λ (t : List ℕ). 108 ∷ 111 ∷ 115 ∷ 116 ∷ t)
    (number-then row _ _ r (number-then flow _ _ f (empty-then _ _ (number-then at _ _ a (empty-then ([] ∷ []) _ (empty-then [] _ line-end))))))

pub full-line : (row flow at : ℕ) → row < 2 ^ 128 → flow < 2 ^ 128 → at < 2 ^ 128
    → line_of (line_fields (Full row flow at)) ≡ 102 ∷ 117 ∷ 108 ∷ 108 ∷ 44 ∷ (decimal row ++ 44 ∷ (decimal flow ++ 44 ∷ 44 ∷ (decimal at ++ 44 ∷ 44 ∷ 10 ∷ [])))
unfolding is_blank
full-line row flow at r f a =
    ap (λ (t : List ℕ). 102 ∷ 117 ∷ 108 ∷ 108 ∷ t)
    (number-then row _ _ r (number-then flow _ _ f (empty-then _ _ (number-then at _ _ a (empty-then ([] ∷ []) _ (empty-then [] _ line-end))))))

pub none-line : (row at : ℕ) → row < 2 ^ 128 → at < 2 ^ 128
    → line_of (line_fields (NoTarget row at)) ≡ 110 ∷ 111 ∷ 110 ∷ 101 ∷ 44 ∷ (decimal row ++ 44 ∷ 44 ∷ 44 ∷ (decimal at ++ 44 ∷ 44 ∷ 10 ∷ []))
unfolding is_blank
none-line row at r a =
    ap (λ (t : List ℕ). 110 ∷ 111 ∷ 110 ∷ 101 ∷ t)
    (number-then row _ _ r (empty-then _ _ (empty-then _ _ (number-then at _ _ a (empty-then ([] ∷ []) _ (empty-then [] _ line-end))))))

pub header-short : length (line_of report_header) < 65536
unfolding fields_text is_blank
header-short = omega arith
