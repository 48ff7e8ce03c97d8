-- The calls of one caller, one call at a time.
use Rattle.dn_replay.proofs.Words.{Answered, Call, CallerView, Entry, HasSubmitted, IsSameCaller, List, Reply, Row, [], ap, arith, calls_by, calls_of, calls_of-more, cond, entry_of, eq-eqb, eqb}
use Rattle.dn_replay.proofs.Words.{false, get_or, length, length-take-le, ne_eqb, refl, rows_at, rows_of_caller, submit, submitted, sym, take, take_more, true, ℕ, ◌%◌, ◌++◌, ◌+◌, ◌<◌, ◌∙◌, ◌∷◌}
use Rattle.dn_replay.proofs.Words.{◌≡◌, ◌≢◌}
use Rattle.dn_replay.proofs.Runs.{submitted-append}

-- One call more of a caller.
pub called : (before after : CallerView) (c : Call) (r : Reply) → Answered before c r after → calls_by after ≡ c ∷ calls_by before
called before after c r answered = ap calls_of answered.own ∙ calls_of-more before.own (entry_of before.number c r)

-- One entry more whose call is repeated.
pub repeated : (entries : List Entry) (i : ℕ) (e : Entry) (first before after : CallerView) (r : Reply) → i < length entries → e ≡ get_or entries i e
    → calls_by before ≡ calls_of (take i entries) ++ calls_by first → Answered before e.call r after → calls_by after ≡ calls_of (take (i + 1) entries) ++ calls_by first
repeated entries i e first before after r lt is so_far answered =
    called before after e.call r answered
    ∙ ap (λ (l : List Call). e.call ∷ l) so_far
    ∙ ap (λ (l : List Call). l ++ calls_by first) (sym (ap calls_of (take_more entries i e lt ∙ ap (λ (x : Entry). take i entries ++ x ∷ []) (sym is)) ∙ calls_of-more (take i entries) e))

-- A row at the end falls to the caller, or to another.
own_row : (n k place : ℕ) (rows : List Row) (row : Row) → (place + length rows) % n ≡ k → rows_at n k place (rows ++ row ∷ []) ≡ rows_at n k place rows ++ row ∷ []
own_row n k place [] row is =
    let here : place % n ≡ k = ap (λ (p : ℕ). p % n) (let same : place ≡ place + 0 = omega arith in same) ∙ is in
    rw (eq-eqb (place % n) k here) refl
own_row n k place (first ∷ rest) row is =
    let moved : (place + 1) + length rest ≡ place + length (first ∷ rest) = omega arith in
    let behind = own_row n k (place + 1) rest row (ap (λ (p : ℕ). p % n) moved ∙ is) in
    elim (eqb (place % n) k) as (λ b. cond {A = List Row} b (first ∷ rows_at n k (place + 1) (rest ++ row ∷ [])) (rows_at n k (place + 1) (rest ++ row ∷ [])) ≡ cond {A = List Row} b
    (first ∷ rows_at n k (place + 1) rest) (rows_at n k (place + 1) rest) ++ row ∷ []) [
      | true ↦ ap (λ (l : List Row). first ∷ l) behind
      | false ↦ behind
    ]

other_row : (n k place : ℕ) (rows : List Row) (row : Row) → (place + length rows) % n ≢ k → rows_at n k place (rows ++ row ∷ []) ≡ rows_at n k place rows
other_row n k place [] row other =
    let here : place % n ≢ k = (λ is. other (ap (λ (p : ℕ). p % n) (let same : place + 0 ≡ place = omega arith in same) ∙ is)) in
    rw (ne_eqb (place % n) k here) refl
other_row n k place (first ∷ rest) row other =
    let moved : place + length (first ∷ rest) ≡ (place + 1) + length rest = omega arith in
    let behind = other_row n k (place + 1) rest row (λ is. other (ap (λ (p : ℕ). p % n) moved ∙ is)) in
    elim (eqb (place % n) k) as (λ b. cond {A = List Row} b (first ∷ rows_at n k (place + 1) (rest ++ row ∷ [])) (rows_at n k (place + 1) (rest ++ row ∷ [])) ≡ cond {A = List Row} b
    (first ∷ rows_at n k (place + 1) rest) (rows_at n k (place + 1) rest)) [
      | true ↦ ap (λ (l : List Row). first ∷ l) behind
      | false ↦ behind
    ]

pub nothing_submitted : (n : ℕ) (v : CallerView) → HasSubmitted n [] v v
unfolding submitted
nothing_submitted n v = record { same = record { service = refl; number = refl }; calls = refl }

module _ (n i : ℕ) (rows : List Row) (row : Row) (first before : CallerView) (inside : i < length rows) (is : row ≡ get_or rows i row) (so_far : HasSubmitted n (take i rows) first before) where
  abbrev k : ℕ
  k = first.number

  place : length (take i rows) ≡ i
  place = length-take-le i rows (omega arith)

  longer : take (i + 1) rows ≡ take i rows ++ row ∷ []
  longer = take_more rows i row inside ∙ ap (λ (x : Row). take i rows ++ x ∷ []) (sym is)

  -- The row falls to the caller, which submitted it.
  pub submitted_own : (after : CallerView) (r : Reply) → i % n ≡ k → IsSameCaller before after → Answered before (submit row) r after → HasSubmitted n (take (i + 1) rows) first after
  submitted_own after r mine same answered = record {
    same = record { service = same.service ∙ so_far.same.service; number = same.number ∙ so_far.same.number };
    calls = called before after (submit row) r answered
        ∙ ap (λ (l : List Call). submit row ∷ l) so_far.calls
        ∙ sym (ap (λ (l : List Row). submitted (calls_by first) (rows_of_caller n k l)) longer
        ∙ ap (submitted (calls_by first)) (own_row n k 0 (take i rows) row (ap (λ (p : ℕ). p % n) (let here : 0 + length (take i rows) ≡ i = omega (arith, place) in here) ∙ mine))
        ∙ submitted-append (calls_by first) (rows_of_caller n k (take i rows)) row);
  }

some_row : (rows : List Row) (i : ℕ) → i < length rows → Row
some_row [] i inside = absurd (omega arith)
some_row (first ∷ rest) i inside = first

-- The row falls to another caller.
pub submitted_other : (n i : ℕ) (rows : List Row) (first before : CallerView) → i < length rows → HasSubmitted n (take i rows) first before → i % n ≢ first.number
    → HasSubmitted n (take (i + 1) rows) first before
submitted_other n i rows first before inside so_far other =
    let some = some_row rows i inside in
    let place : length (take i rows) ≡ i = length-take-le i rows (omega arith) in
    record {
      same = so_far.same;
      calls = so_far.calls
          ∙ sym (ap (λ (l : List Row). submitted (calls_by first) (rows_of_caller n first.number l)) (take_more rows i some inside)
          ∙ ap (submitted (calls_by first)) (other_row n first.number 0 (take i rows) (get_or rows i some)
          (λ mine. other (ap (λ (p : ℕ). p % n) (let here : i ≡ 0 + length (take i rows) = omega (arith, place) in here) ∙ mine))));
    }
