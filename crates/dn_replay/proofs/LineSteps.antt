-- One entry more of a history, and the lines of a report.
use Rattle.dn_replay.proofs.Words.{Bool, Delivery, Entry, List, Option, ReportLine, [], add-one, ap, append-nil, append_assoc, arith, cases_Bool, count_by_more_no, count_by_more_yes, counts_after}
use Rattle.dn_replay.proofs.Words.{drop, drop-cons, drop_all, entry_line, eqb-true, false, filter, filter-append, get_or, get_or-set_other, get_or-set_same, inl, inr, is_other, is_out, is_submit}
use Rattle.dn_replay.proofs.Words.{length, line_fields, line_of, lines_after, map, map-append, nat_eq, nat_tests, option_to_list, outs_in_order, refl, report, report_header, row_number, sorted_by}
use Rattle.dn_replay.proofs.Words.{submit_lines, submits_by, suc, sym, take, take_more, text-append, text_of, true, ℕ, ◌&&◌, ◌++◌, ◌+◌, ◌<◌, ◌∙◌, ◌∷◌, ◌≡◌, ◌≢◌, ◌≤◌}

pub differ : (a b : ℕ) → nat_eq a b ≡ false → b ≢ a
differ a b e = grind (arith, nat_tests)

-- The counts of Submits after one entry more.
pub counts-step : (entries : List Entry) (i : ℕ) (e : Entry) (counts : List ℕ) → i < length entries → e ≡ get_or entries i e → e.caller < length counts
    → ((k : ℕ) → k < length counts → get_or counts k 0 ≡ submits_by k (take i entries))
    → (k : ℕ) → k < length counts → get_or (counts_after counts e) k 0 ≡ submits_by k (take (i + 1) entries)
counts-step entries i e counts lt is caller counted k below =
    let p : Entry → Bool = λ (x : Entry). is_submit x.call && nat_eq x.caller k in
    elim (cases_Bool (is_submit e.call)) [
      | inl submit ↦ elim (cases_Bool (nat_eq e.caller k)) [
        | inl own ↦
            let this : p e ≡ true = rw (submit, own) refl in
            let more = count_by_more_yes p entries i e lt (ap p (sym is) ∙ this) in
            let eq = eqb-true e.caller k own in
            rw (submit, eq) (get_or-set_same counts k (get_or counts k 0 + 1) 0 below ∙ ap (λ (m : ℕ). m + 1) (counted k below) ∙ sym more)
        | inr other ↦
            let this : p e ≡ false = rw (submit, other) refl in
            let more = count_by_more_no p entries i e lt (ap p (sym is) ∙ this) in
            rw submit (get_or-set_other counts e.caller k (get_or counts e.caller 0 + 1) 0 (differ e.caller k other) ∙ counted k below ∙ sym more)
      ]
      | inr plain ↦
          let this : p e ≡ false = rw plain refl in
          let more = count_by_more_no p entries i e lt (ap p (sym is) ∙ this) in
          rw plain (counted k below ∙ sym more)
    ]

-- The lines of the entries that are left, at one more.
pub lines-step : (n : ℕ) (given : List Delivery) (entries : List Entry) (i : ℕ) (e : Entry) → i < length entries → e ≡ get_or entries i e
    → lines_after n given (take i entries) (drop i entries) ≡ option_to_list (entry_line n given (submits_by e.caller (take i entries)) e) ++ lines_after n given (take (i + 1) entries)
    (drop (i + 1) entries)
unfolding lines_after
lines-step n given entries i e lt is =
    let cut : drop i entries ≡ e ∷ drop (i + 1) entries = drop-cons entries i e lt ∙ ap (λ (x : Entry). x ∷ drop (suc i) entries) (sym is) ∙ ap (λ (m : ℕ). e ∷ drop m entries) (sym (add-one i)) in
    let more : take (i + 1) entries ≡ take i entries ++ e ∷ [] = take_more entries i e lt ∙ ap (λ (x : Entry). take i entries ++ x ∷ []) (sym is) in
    rw (cut, more) refl

-- The same of the lines that pass a test.
pub passed : (test : ReportLine → Bool) (n : ℕ) (given : List Delivery) (entries : List Entry) (i : ℕ) (e : Entry) (front total : List ReportLine) (one : Option ReportLine)
    → i < length entries → e ≡ get_or entries i e
    → one ≡ entry_line n given (submits_by e.caller (take i entries)) e
    → front ++ filter test (lines_after n given (take i entries) (drop i entries)) ≡ total
    → (front ++ filter test (option_to_list one)) ++ filter test (lines_after n given (take (i + 1) entries) (drop (i + 1) entries)) ≡ total
passed test n given entries i e front total one lt is line so_far =
    let whole = rw (lines-step n given entries i e lt is, ← line, filter-append test (option_to_list one)) at so_far in
    append_assoc front _ _ ∙ whole

-- No entry is left.
pub all : (test : ReportLine → Bool) (n : ℕ) (given : List Delivery) (entries : List Entry) (i : ℕ) (front total : List ReportLine) → length entries ≤ i
    → front ++ filter test (lines_after n given (take i entries) (drop i entries)) ≡ total → front ≡ total
unfolding lines_after
all test n given entries i front total le so_far =
    let whole = rw (drop_all i entries le) at so_far in
    sym (append-nil front) ∙ whole

-- The header, the lines of delivered packets and the others are the report.
pub report_is : (n : ℕ) (history : List Entry) (outs others : List ReportLine) → outs ≡ outs_in_order (filter is_out (submit_lines n history))
    → others ≡ sorted_by row_number (filter is_other (submit_lines n history))
    → (line_of report_header ++ text_of (map line_fields outs)) ++ text_of (map line_fields others) ≡ report n history
unfolding report text_of
report_is n history outs others is_outs is_others =
    let first = outs_in_order (filter is_out (submit_lines n history)) in
    let then = sorted_by row_number (filter is_other (submit_lines n history)) in
    rw (is_outs, is_others) (append_assoc (line_of report_header) (text_of (map line_fields first)) (text_of (map line_fields then))
    ∙ ap (λ (t : List ℕ). line_of report_header ++ t) (sym (text-append (map line_fields first) (map line_fields then)) ∙ ap text_of (sym (map-append line_fields first then))))
