-- The lines of the packets that are not given, one row at a time.
use Rattle.dn_replay.proofs.Words.{AcceptedRow, Delivery, Fate, IsKeptOf, Kept, List, None, Option, Refusal, Refused, RefusedRow, ReportLine, Some, Unanswered, [], accepted_line, accepted_row, ap}
use Rattle.dn_replay.proofs.Words.{append-nil, append_assoc, arith, cases_Bool, cond, delivery_of_packet, drop, drop_all, drop_more, false, fate_line, fate_lines, filter, filter-append, get_or}
use Rattle.dn_replay.proofs.Words.{inl, inr, is_accepted, is_none, is_other, is_some, length, line_fields, line_of, map, map-append, nat_lt, nat_tests, no_row, option_to_list, other_text}
use Rattle.dn_replay.proofs.Words.{queued_line, refl, refusal_in, refusal_line, refused_row, rows_kept, sym, text-append, text_of, true, ℕ, ◌++◌, ◌+◌, ◌-◌, ◌<◌, ◌∙◌, ◌∷◌, ◌≡◌, ◌≢◌, ◌≤◌}
use Rattle.dn_replay.specs.declared.report.fate.Fate.TheVariants.{Accepted}
use Rattle.dn_replay.specs.declared.report.line.ReportLine.TheVariants as line
use Rattle.dn_replay.specs.declared.report.refusal.Refusal.TheVariants.{Full, Lost, NoTarget}
use Rattle.dn_replay.proofs.KeptSteps.{rows-count}
use Rattle.dn_replay.proofs.PartSteps.{one-line}

no-text : text_of [] ≡ []
unfolding text_of
no-text = refl

-- The text of an accepted packet's line, if it isn't given and if it is.
pub held-one : (packet : ℕ) (given : List Delivery) (own : AcceptedRow) → is_some (delivery_of_packet packet given) ≡ false
    → line_of (line_fields (line.Held own.row own.flow packet own.at)) ≡ other_text (accepted_line packet given own)
held-one packet given own e = by (delivery_of_packet packet given) e
  where
    by : (o : Option Delivery) → is_some o ≡ false → line_of (line_fields (line.Held own.row own.flow packet own.at)) ≡ other_text (Some (queued_line own.row own.at own.flow packet o))
    by None e = sym (one-line (line_fields (line.Held own.row own.flow packet own.at)))
    by (Some d) e = absurd cc

pub given-one : (text : List ℕ) (packet : ℕ) (given : List Delivery) (own : AcceptedRow) → is_some (delivery_of_packet packet given) ≡ true
    → text ≡ text ++ other_text (accepted_line packet given own)
given-one text packet given own e = sym (ap (λ (t : List ℕ). text ++ t) (by (delivery_of_packet packet given) e) ∙ append-nil text)
  where
    by : (o : Option Delivery) → is_some o ≡ true → other_text (Some (queued_line own.row own.at own.flow packet o)) ≡ []
    by None e = absurd cc
    by (Some d) e = no-text

-- The text of each refusal's line.
pub lost-one : (row flow at : ℕ) (why : Refusal) → why ≡ Lost flow at → line_of (line_fields (line.Lost row flow at)) ≡ other_text (refusal_line row why)
lost-one row flow at why is = rw is (sym (one-line (line_fields (line.Lost row flow at))))

pub full-one : (row flow at : ℕ) (why : Refusal) → why ≡ Full flow at → line_of (line_fields (line.Full row flow at)) ≡ other_text (refusal_line row why)
full-one row flow at why is = rw is (sym (one-line (line_fields (line.Full row flow at))))

pub no_target-one : (row at : ℕ) (why : Refusal) → why ≡ NoTarget at → line_of (line_fields (line.NoTarget row at)) ≡ other_text (refusal_line row why)
no_target-one row at why is = rw is (sym (one-line (line_fields (line.NoTarget row at))))

pub unanswered-one : (text : List ℕ) (row : ℕ) (why : Refusal) → why ≡ Unanswered → text ≡ text ++ other_text (refusal_line row why)
unanswered-one text row why is = rw is (sym (ap (λ (t : List ℕ). text ++ t) no-text ∙ append-nil text))

-- ---- The next row

-- This element of a list, and what is behind it.
record IsNext {X : Type 0} (xs : List X) (n : ℕ) (x : X) (behind : List X) : Type 0 where
  pub within : n < length xs
  pub item : (d : X) → get_or xs n d ≡ x
  pub rest : drop (n + 1) xs ≡ behind

next : {X : Type 0} (xs : List X) (n : ℕ) (x : X) (behind : List X) → drop n xs ≡ x ∷ behind → IsNext xs n x behind
next xs n x behind e = elim (cases_Bool (nat_lt n (length xs))) [
  | inl lt ↦
      let within : n < length xs = grind (arith, nat_tests) in
      record {
        within = within;
        item = λ d. (let cut = sym (drop_more xs n d within) ∙ e in cc);
        rest = let cut = sym (drop_more xs n x within) ∙ e in cc;
      }
  | inr past ↦
      let far : length xs ≤ n = grind (arith, nat_tests) in
      let cut = sym (drop_all n xs far) ∙ e in
      absurd cc
]

above : (row : ℕ) (fates : List Fate) (x : RefusedRow) (xs : List RefusedRow) → rows_kept refused_row row fates ≡ x ∷ xs → row ≤ x.row
unfolding rows_kept
above row [] x xs e = absurd cc
above row (Accepted flow at ∷ fates) x xs e = let rest = above (row + 1) fates x xs e in omega (arith, rest)
above row (Refused why ∷ fates) x xs e = let same : row ≡ x.row = cc in omega (arith, same)

-- No refused row is left.
pub none-refused : (refused : List RefusedRow) (place row : ℕ) (fate : Fate) (fates : List Fate) → length refused ≤ place
    → drop place refused ≡ rows_kept refused_row row (fate ∷ fates) → None ≡ refusal_in fate
unfolding rows_kept
none-refused refused place row (Accepted flow at) fates far e = refl
none-refused refused place row (Refused why) fates far e = let cut = sym (drop_all place refused far) ∙ e in absurd cc

-- The next refused row is this one, or comes later.
pub this-refused : (refused : List RefusedRow) (place row : ℕ) (fate : Fate) (fates : List Fate) (d x : RefusedRow) → place < length refused → x ≡ get_or refused place d
    → x.row ≡ row → drop place refused ≡ rows_kept refused_row row (fate ∷ fates) → Some x.why ≡ refusal_in fate
unfolding rows_kept
this-refused refused place row (Accepted flow at) fates d x lt is same e =
    let cut : rows_kept refused_row (row + 1) fates ≡ x ∷ drop (place + 1) refused = sym e ∙ drop_more refused place d lt ∙ ap (λ (y : RefusedRow). y ∷ drop (place + 1) refused) (sym is) in
    let later = above (row + 1) fates x (drop (place + 1) refused) cut in
    absurd (omega (arith, later, same))
this-refused refused place row (Refused why) fates d x lt is same e =
    let cut : record { row = row; why = why } ∷ rows_kept refused_row (row + 1) fates ≡ x ∷ drop (place + 1) refused =
    sym e ∙ drop_more refused place d lt ∙ ap (λ (y : RefusedRow). y ∷ drop (place + 1) refused) (sym is) in
    cc

pub later-refused : (refused : List RefusedRow) (place row : ℕ) (fate : Fate) (fates : List Fate) (d x : RefusedRow) → place < length refused → x ≡ get_or refused place d
    → x.row ≢ row → drop place refused ≡ rows_kept refused_row row (fate ∷ fates) → None ≡ refusal_in fate
unfolding rows_kept
later-refused refused place row (Accepted flow at) fates d x lt is other e = refl
later-refused refused place row (Refused why) fates d x lt is other e =
    let cut : record { row = row; why = why } ∷ rows_kept refused_row (row + 1) fates ≡ x ∷ drop (place + 1) refused =
    sym e ∙ drop_more refused place d lt ∙ ap (λ (y : RefusedRow). y ∷ drop (place + 1) refused) (sym is) in
    let same : row ≡ x.row = cc in
    absurd (other (sym same))

-- The next row whose packet was accepted.
pub next-accepted : (accepted : List AcceptedRow) (packet row : ℕ) (fate : Fate) (fates : List Fate) → refusal_in fate ≡ None
    → drop packet accepted ≡ rows_kept accepted_row row (fate ∷ fates)
    → (packet < length accepted) × ((given : List Delivery) → accepted_line packet given (get_or accepted packet no_row) ≡ fate_line row packet given fate)
unfolding rows_kept
next-accepted accepted packet row (Accepted flow at) fates none e =
    let here = next accepted packet (record { row = row; flow = flow; at = at }) (rows_kept accepted_row (row + 1) fates) e in
    (here.within, λ given. ap (accepted_line packet given) (here.item no_row))
next-accepted accepted packet row (Refused why) fates none e = absurd cc

pub refused-line : (row packet : ℕ) (given : List Delivery) (fate : Fate) (why : Refusal) → Some why ≡ refusal_in fate → refusal_line row why ≡ fate_line row packet given fate
refused-line row packet given (Accepted flow at) why e = absurd cc
refused-line row packet given (Refused other) why e = let same : why ≡ other = cc in ap (refusal_line row) same

-- Of the rows from a place on these are the fates. So many packets were accepted before it.
pub record AreLeft (kept : Kept) (place packet : ℕ) (fates : List Fate) : Type 0 where
  pub accepted : drop packet kept.accepted.items ≡ rows_kept accepted_row (place + 1) fates
  pub refused : drop (place - packet) kept.refused.items ≡ rows_kept refused_row (place + 1) fates

pub all-left : (kept : Kept) (fates : List Fate) → IsKeptOf kept fates → AreLeft kept 0 0 fates
all-left kept fates h = record { accepted = h.accepted; refused = h.refused }

pub fewer-left : (kept : Kept) (place packet : ℕ) (f : Fate) (fates : List Fate) → packet ≤ place → AreLeft kept place packet (f ∷ fates)
    → AreLeft kept (place + 1) (cond (is_none (refusal_in f)) (packet + 1) packet) fates
unfolding rows_kept
fewer-left kept place packet (Accepted flow at) fates le h =
    let here = next kept.accepted.items packet (record { row = place + 1; flow = flow; at = at }) (rows_kept accepted_row ((place + 1) + 1) fates) h.accepted in
    let same : (place + 1) - (packet + 1) ≡ place - packet = omega arith in
    record { accepted = here.rest; refused = rw same h.refused }
fewer-left kept place packet (Refused why) fates le h =
    let here = next kept.refused.items (place - packet) (record { row = place + 1; why = why }) (rows_kept refused_row ((place + 1) + 1) fates) h.refused in
    let one : (place + 1) - packet ≡ (place - packet) + 1 = omega (arith, le) in
    record { accepted = h.accepted; refused = rw one here.rest }

-- A row at a place below the count of rows is one of the fates.
pub next-fate : (kept : Kept) (fates : List Fate) (place : ℕ) (d : Fate) → IsKeptOf kept fates → place < length kept.accepted.items + length kept.refused.items
    → (place < length fates) × (drop place fates ≡ get_or fates place d ∷ drop (place + 1) fates)
next-fate kept fates place d h lt =
    let count = rows-count 1 fates in
    let a = ap (length {A = AcceptedRow}) h.accepted in
    let b = ap (length {A = RefusedRow}) h.refused in
    let within : place < length fates = omega (arith, count, a, b, lt) in
    (within, drop_more fates place d within)

pub no-more-fates : (kept : Kept) (fates : List Fate) (place : ℕ) → IsKeptOf kept fates → length kept.accepted.items + length kept.refused.items ≤ place → length fates ≤ place
no-more-fates kept fates place h le =
    let count = rows-count 1 fates in
    let a = ap (length {A = AcceptedRow}) h.accepted in
    let b = ap (length {A = RefusedRow}) h.refused in
    omega (arith, count, a, b, le)

pub number-of : (f : Fate) (packet : ℕ) → cond (is_none (refusal_in f)) (packet + 1) packet ≡ cond (is_accepted f) (packet + 1) packet
number-of (Accepted flow at) packet = refl
number-of (Refused why) packet = refl

-- ---- The rows that are left

-- The text of the lines of the rows from a place on.
abbrev pub text_from : ℕ → ℕ → List Delivery → List Fate → List ℕ
text_from place packet given fates = text_of (map line_fields (filter is_other (fate_lines (place + 1) packet given (drop place fates))))

-- One row more.
pub row-more : (done total : List ℕ) (place packet : ℕ) (given : List Delivery) (fates : List Fate) (d : Fate) → place < length fates
    → done ++ text_from place packet given fates ≡ total
    → (done ++ other_text (fate_line (place + 1) packet given (get_or fates place d))) ++ text_from (place + 1) (cond (is_accepted (get_or fates place d)) (packet + 1) packet) given fates ≡ total
unfolding fate_lines
row-more done total place packet given fates d lt so_far =
    let f = get_or fates place d in
    let one = option_to_list (fate_line (place + 1) packet given (get_or fates place d)) in
    let rest = fate_lines ((place + 1) + 1) (cond (is_accepted (get_or fates place d)) (packet + 1) packet) given (drop (place + 1) fates) in
    let cut : fate_lines (place + 1) packet given (drop place fates) ≡ one ++ rest = ap (fate_lines (place + 1) packet given) (drop_more fates place d lt) in
    let parts : text_from place packet given fates ≡ text_of (map line_fields (filter is_other one)) ++ text_of (map line_fields (filter is_other rest)) =
    ap (λ (ls : List ReportLine). text_of (map line_fields (filter is_other ls))) cut
    ∙ ap (λ (ls : List ReportLine). text_of (map line_fields ls)) (filter-append is_other one rest)
    ∙ ap text_of (map-append line_fields (filter is_other one) (filter is_other rest))
    ∙ text-append (map line_fields (filter is_other one)) (map line_fields (filter is_other rest)) in
    append_assoc done _ _ ∙ ap (λ (t : List ℕ). done ++ t) (sym parts) ∙ so_far

-- No row is left.
pub rows-end : (done total : List ℕ) (place packet : ℕ) (given : List Delivery) (fates : List Fate) → length fates ≤ place → done ++ text_from place packet given fates ≡ total → done ≡ total
unfolding fate_lines text_of
rows-end done total place packet given fates le so_far =
    sym (append-nil done)
    ∙ ap (λ (t : List ℕ). done ++ t) (sym (ap (λ (fs : List Fate). text_of (map line_fields (filter is_other (fate_lines (place + 1) packet given fs)))) (drop_all place fates le)))
    ∙ so_far
