-- How many calls inputs ask for: no more than they have bytes, and a few.
use Rattle.dn_replay.proofs.Words.{AreFew, BadRow, Bool, Call, Command, Config, Configure, Err, Fields, Input, IsLimit, List, None, Ok, Option, Ordered, Packets, ReadsAs, ReplayFault, Result, Row}
use Rattle.dn_replay.proofs.Words.{Some, Source, TooLong, [], after_mark, ap, applied, arith, calls_asked, calls_of_joined_within, calls_of_parts, calls_with, calls_within, command_at, cond}
use Rattle.dn_replay.proofs.Words.{config_calls, config_limit, configured_by, configured_from, count_by-le-length, false, if◌then◌else◌, is_header, is_line_feed, is_nonempty, is_some}
use Rattle.dn_replay.proofs.Words.{joined_parts, length, length-slice_split, lines_of, nat_le, nat_tests, numbered, parts_from, records_of, refl, refusal, replayed, reply, row_at, row_of}
use Rattle.dn_replay.proofs.Words.{rows_below, rows_from, rows_of, short, slice_split, submit, submitted, suc, sym, true, unless, unwrap_or, within_limit, without_empty_end, ℕ, ◌&&◌, ◌+◌, ◌<◌}
use Rattle.dn_replay.proofs.Words.{◌==◌, ◌>>=◌, ◌^◌, ◌∷◌, ◌≡◌, ◌≤◌}

-- ---- Rows

rows-le : (number : ℕ) (records : List Fields) (rows : List Row) → rows_from number records ≡ Ok rows → length rows ≤ length records
unfolding rows_from
rows-le number [] rows e = let same : [] ≡ rows = cc in let none = ap (length {A = Row}) same in omega (arith, none)
rows-le number (fields ∷ rest) rows e = by (row_at number (row_of fields)) (rows_from (number + 1) rest) (λ rs f. rows-le (number + 1) rest rs f) e
  where
    by : (r : Result Row ReplayFault) (o : Result (List Row) ReplayFault) → ((rs : List Row) → o ≡ Ok rs → length rs ≤ length rest)
        → (r >>= λ row. o >>= λ rows. Ok (row ∷ rows)) ≡ Ok rows → length rows ≤ suc (length rest)
    by (Err fault) o h e = absurd cc
    by (Ok row) (Err fault) h e = absurd cc
    by (Ok row) (Ok rs) h e = let same : row ∷ rs ≡ rows = cc in let le = h rs refl in let size = ap (length {A = Row}) same in omega (arith, le, size)

rows_below-le : (records : List Fields) (rows : List Row) → rows_below records ≡ Ok rows → length rows ≤ length records
unfolding rows_below
rows_below-le [] rows e = let same : [] ≡ rows = cc in let none = ap (length {A = Row}) same in omega (arith, none)
rows_below-le (first ∷ rest) rows e = by (is_header first) e
  where
    by : (b : Bool) → cond b (rows_from 1 rest) (Err (BadRow 0 0)) ≡ Ok rows → length rows ≤ suc (length rest)
    by true e = let le = rows-le 1 rest rows e in omega (arith, le)
    by false e = absurd cc

rows_of-le : (text : List ℕ) (rows : List Row) → rows_of text ≡ Ok rows → length rows ≤ length text + 1
rows_of-le text rows e = let le = rows_below-le (records_of text) rows e in let few = numbered text in omega (arith, le, few)

submitted-size : (calls : List Call) (rows : List Row) → length (submitted calls rows) ≡ length calls + length rows
unfolding submitted
submitted-size calls [] = omega arith
submitted-size calls (row ∷ rows) = let rest = submitted-size (submit row ∷ calls) rows in omega (arith, rest)

-- ---- The commands of a configuration

configured-le : (calls : List Call) (number : ℕ) (lines : List (List ℕ)) (after : List Call) → configured_from calls number lines ≡ Ok after → length after ≤ length calls + length lines
unfolding configured_from
configured-le calls number [] after e = let same : calls ≡ after = cc in let size = ap (length {A = Call}) same in omega (arith, size)
configured-le calls number (line ∷ lines) after e = said (command_at number line) (λ next f. configured-le next (number + 1) lines after f) e
  where
    Rest : Type 0
    Rest = (next : List Call) → configured_from next (number + 1) lines ≡ Ok after → length after ≤ length next + length lines

    made : (command : Command) (why : Option ReplayFault) → Rest → (unless why (Configure command ∷ calls) >>= λ next. configured_from next (number + 1) lines)
        ≡ Ok after → length after ≤ length calls + suc (length lines)
    made command None rest e = let le = rest (Configure command ∷ calls) e in omega (arith, le)
    made command (Some fault) rest e = absurd cc

    said : (o : Result (Option Command) ReplayFault)
        → Rest → (o >>= λ command. applied number calls command >>= λ next. configured_from next (number + 1) lines) ≡ Ok after
        → length after ≤ length calls + suc (length lines)
    said (Err fault) rest e = absurd cc
    said (Ok None) rest e = let le = rest calls e in omega (arith, le)
    said (Ok (Some command)) rest e = made command (refusal number (reply Ordered calls (Configure command))) rest e

kept-lines : (lines : List (List ℕ)) → length (without_empty_end lines) ≤ length lines
kept-lines [] = omega arith
kept-lines (last ∷ []) = by (is_nonempty last)
  where
    by : (b : Bool) → length (cond b (last ∷ []) []) ≤ 1
    by true = omega arith
    by false = omega arith
kept-lines (line ∷ next ∷ more) = let rest = kept-lines (next ∷ more) in omega (arith, rest)

lines-le : (text : List ℕ) → length (lines_of text) ≤ length text + 1
unfolding lines_of
lines-le text = let kept = kept-lines (slice_split is_line_feed text) in let parts = length-slice_split is_line_feed text in
    let feeds = count_by-le-length is_line_feed text in omega (arith, kept, parts, feeds)

configured_by-le : (text : List ℕ) (calls : List Call) → configured_by text ≡ Ok calls → length calls ≤ length text + 1
configured_by-le text calls e = let le = configured-le [] 1 (lines_of text) calls e in let lines = lines-le text in omega (arith, le, lines)

-- ---- A text within its limit

within : (limit : ℕ) (source : Source) (text read : List ℕ) → within_limit limit source text ≡ Ok read → (read ≡ text) × (length text ≤ limit)
within limit source text read e = by (nat_le (length text) limit) refl e
  where
    by : (b : Bool) → nat_le (length text) limit ≡ b → cond b (Ok text) (Err (TooLong source)) ≡ Ok read → (read ≡ text) × (length text ≤ limit)
    by true is e = let same : text ≡ read = cc in (sym same, grind (arith, nat_tests))
    by false is e = absurd cc

config-le : (text : List ℕ) (calls : List Call) → config_calls text ≡ Ok calls → length calls ≤ config_limit + 1
config-le text calls e = by (within_limit config_limit Config text) refl e
  where
    by : (o : Result (List ℕ) ReplayFault) → within_limit config_limit Config text ≡ o → (o >>= configured_by) ≡ Ok calls → length calls ≤ config_limit + 1
    by (Err fault) is e = absurd cc
    by (Ok read) is e =
        let short = within config_limit Config text read is in
        let same = ap (length {A = ℕ}) short.0 in
        let le = configured_by-le read calls e in
        omega (arith, le, same, short.1)

few-after : (calls : List Call) (n : ℕ) (o : Result (List Row) ReplayFault) → length calls ≤ n → n ≤ 2 ^ 41
    → ((rows : List Row) → o ≡ Ok rows → length rows ≤ 2 ^ 41) → AreFew (o >>= λ rows. Ok (replayed calls rows))
few-after calls n (Err fault) le small h = tt
few-after calls n (Ok rows) le small h = let size = submitted-size calls rows in let few = h rows refl in omega (arith, size, few, le, small)

-- The calls of a configuration and of a packet file are few.
few-of-inputs : (config : Option (List ℕ)) (calls : List Call) (text : List ℕ) → ReadsAs config_calls config calls → length text ≤ 2 ^ 40 → AreFew (calls_with calls text)
few-of-inputs config calls text reads short =
    let le = config-le reads.0 calls reads.2 in
    few-after calls (config_limit + 1) (rows_of text) le (omega arith) (λ rows is. let few = rows_of-le text rows is in omega (arith, few, short))

-- ---- The two parts of one input

mark-le : (text : List ℕ) → length (unwrap_or (after_mark text) []) ≤ length text
mark-le [] = omega arith
mark-le (a ∷ []) = omega arith
mark-le (a ∷ b ∷ c ∷ []) = grind arith
mark-le _ = grind arith

abbrev NoLonger : ℕ → List ℕ × List ℕ → Type 0
NoLonger most parts = length parts.0 + length parts.1 ≤ most

parts-le : (start : Bool) (text : List ℕ) → NoLonger (length text) (parts_from start text)
unfolding parts_from
parts-le start [] = omega arith
parts-le start (c ∷ rest) = by (start && is_some (after_mark (c ∷ rest))) (parts-le (c == 10) rest)
  where
    by : (b : Bool) → NoLonger (length rest) (parts_from (c == 10) rest)
        → NoLonger (suc (length rest)) (if b then ([], unwrap_or (after_mark (c ∷ rest)) []) else (c ∷ (parts_from (c == 10) rest).0, (parts_from (c == 10) rest).1))
    by true le = let behind = mark-le (c ∷ rest) in omega (arith, behind)
    by false le = omega (arith, le)

few-parts : (o : Result (List Call) ReplayFault) (packets : List ℕ) → ((calls : List Call) → o ≡ Ok calls → length calls ≤ 2 ^ 41) → length packets < 2 ^ 41
    → AreFew (o >>= λ calls. calls_with calls packets)
few-parts (Err fault) packets h short = tt
few-parts (Ok calls) packets h short = few-after calls (2 ^ 41) (rows_of packets) (h calls refl) (omega arith) (λ rows is. let few = rows_of-le packets rows is in omega (arith, few, short))

-- And so are those of one joined input.
few-of-joined : (text : List ℕ) → length text ≤ 2 ^ 40 → AreFew (calls_of_parts (joined_parts text))
few-of-joined text short =
    let parts = parts-le true text in
    few-parts (configured_by (joined_parts text).0) (joined_parts text).1
    (λ calls is. let le = configured_by-le (joined_parts text).0 calls is in omega (arith, le, parts, short)) (omega (arith, parts, short))

-- So what is asked for is few calls, or a fault.
pub few-asked : (limit : ℕ) (config : Option (List ℕ)) (text : List ℕ) → IsLimit limit → length text ≤ limit → AreFew (calls_asked limit config text)
unfolding calls_within calls_of_joined_within
few-asked limit None text small le = rw (short Input limit text le) (few-of-joined text (omega (arith, small, le)))
few-asked limit (Some config) text small le = by (config_calls config) refl
  where
    fits : within_limit limit Packets text ≡ Ok text
    fits = short Packets limit text le

    by : (o : Result (List Call) ReplayFault) → config_calls config ≡ o → AreFew (o >>= λ calls. (within_limit limit Packets text >>= rows_of) >>= λ rows. Ok (replayed calls rows))
    by (Err fault) is = tt
    by (Ok calls) is = rw fits (few-of-inputs (Some config) calls text (config, refl, is) (omega (arith, small, le)))
