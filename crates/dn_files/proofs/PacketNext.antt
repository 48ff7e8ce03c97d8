-- The row that stands whole and plainly before a reader is the one that it gives.
use Rattle.dn_files.proofs.Words.{BeginsNext, BeginsRow, List, None, Option, Row, Some, Unread, ap, arith, drop, header, header_until, length, length-append, length-drop, line_of, max, refl}
use Rattle.dn_files.proofs.Words.{row_at_front, some_is, subst, suc, sym, zero, ℕ, ◌++◌, ◌+◌, ◌-◌, ◌<◌, ◌^◌, ◌∙◌, ◌∷◌, ◌≡◌, ◌≤◌}
use Rattle.dn_files.proofs.Headers.{header_back, header_read}
use Rattle.dn_files.proofs.PacketParts.{begins_shorter, cut-line}
use Rattle.dn_files.proofs.QuotedRows.{row_reads}
use Rattle.dn_files.proofs.PlainRowsBack.{row_back}

-- The header is passed, and what stands behind it is left.
pub header_given : (number start len : ℕ) (items rest below : List ℕ) (old : Unread) → record { number = number; text = drop start items } ≡ old → start ≤ length items
    → Some rest ≡ header_until (drop start items) → len ≡ length items → old.text ≡ line_of header ++ below
    → ◌≡◌ {A = Unread} (record { number = 1; text = drop (len - length rest) items }) (record { number = 1; text = below })
header_given number start len items rest below old view le read count held =
    let begins = header_read (drop start items) rest (sym read) in
    let left = cut-line start items begins.front rest le begins.stands in
    let same : rest ≡ below = some_is rest below (read ∙ ap header_until (ap (λ (u : Unread). u.text) view ∙ held) ∙ header_back below) in
    rw count (ap (λ (t : List ℕ). let u : Unread = record { number = 1; text = t } in u) (left ∙ same))

-- What stands behind the header is shorter than the whole.
pub header_left : (start : ℕ) (items rest : List ℕ) → Some rest ≡ header_until (drop start items) → length rest < length items
header_left start items rest read =
    let begins = header_read (drop start items) rest (sym read) in
    let sum : length (drop start items) ≡ length begins.front + length (10 ∷ rest) = ap (length {A = ℕ}) begins.stands ∙ length-append begins.front (10 ∷ rest) in
    let whole = length-drop start items in
    omega arith

-- Where nothing was read no header stands.
pub header_withheld : (number start : ℕ) (items below : List ℕ) (old : Unread) → record { number = number; text = drop start items } ≡ old → None ≡ header_until (drop start items)
    → old.text ≡ line_of header ++ below → ⊥
header_withheld number start items below old view none held =
    let read : None ≡ Some below = none ∙ ap header_until (ap (λ (u : Unread). u.text) view ∙ held) ∙ header_back below in cc read

-- What was read at the front of what is left is the row that stands there.
pub row_given : (number start len : ℕ) (items left rest : List ℕ) (given row : Row) (old : Unread) → record { number = number; text = drop start items } ≡ old → start ≤ length items
    → Some (given, left) ≡ row_at_front (drop start items) → len ≡ length items → BeginsRow old.text row rest
    → (◌≡◌ {A = Option Row} (Some given) (Some row)) × (◌≡◌ {A = Unread} (record { number = number + 1; text = drop (len - length left) items }) (record { number = old.number + 1; text = rest }))
row_given number start len items left rest given row old view le read count begins =
    let own = row_reads (drop start items) left given (sym read) in
    let behind = cut-line start items own.line.front left le own.line.stands in
    let both = some_is (given, left) (row, rest) (read ∙ ap row_at_front (ap (λ (u : Unread). u.text) view) ∙ row_back old.text rest row begins) in (
      ap (λ p. Some (p.0)) both,
      rw count (ap (λ (t : List ℕ). let u : Unread = record { number = number + 1; text = t } in u) (behind ∙ ap (λ p. p.1) both)
          ∙ ap (λ (n : ℕ). let u : Unread = record { number = n + 1; text = rest } in u) (ap (λ (u : Unread). u.number) view)),
    )

-- What stands behind a row is shorter than the whole.
pub row_left : (start : ℕ) (items left : List ℕ) (row : Row) → Some (row, left) ≡ row_at_front (drop start items) → length left < length items
row_left start items left row read =
    let shorter = begins_shorter (drop start items) left row (row_reads (drop start items) left row (sym read)) in
    let whole = length-drop start items in
    omega arith

-- Where nothing was read no row stands.
pub row_withheld : (number start : ℕ) (items rest : List ℕ) (row : Row) (old : Unread) → record { number = number; text = drop start items } ≡ old → None ≡ row_at_front (drop start items)
    → BeginsRow old.text row rest → ⊥
row_withheld number start items rest row old view none begins =
    let read : None ≡ Some (row, rest) = none ∙ ap row_at_front (ap (λ (u : Unread). u.text) view) ∙ row_back old.text rest row begins in cc read

-- What a row gives, and the reader behind it.
abbrev Gives : Option Row → Unread → Unread → Row → List ℕ → Type 0
Gives result old new row rest = (result ≡ Some row) × (new ≡ record { number = old.number + 1; text = rest })

given_behind : (old mid new : Unread) (result : Option Row) (row : Row) (rest : List ℕ) → mid ≡ old
    → (0 < mid.number → mid.number < 2 ^ 62 → BeginsRow mid.text row rest → Gives result mid new row rest)
    → 0 < old.number → old.number < 2 ^ 62 → BeginsRow old.text row rest → Gives result old new row rest
given_behind old mid new result row rest is gives = subst (λ (u : Unread). 0 < u.number → u.number < 2 ^ 62 → BeginsRow u.text row rest → Gives result u new row rest) is gives

-- The header is passed where it is next, and then the row is given.
pub next_given : (number : ℕ) (text : List ℕ) (mid new : Unread) (result : Option Row)
    → ((below : List ℕ) → number ≡ 0 → text ≡ line_of header ++ below → mid ≡ record { number = 1; text = below })
    → (0 < number → mid ≡ record { number = number; text = text })
    → ((row : Row) → (rest : List ℕ) → 0 < mid.number → mid.number < 2 ^ 62 → BeginsRow mid.text row rest → Gives result mid new row rest)
    → (row : Row) → (rest : List ℕ) → number < 2 ^ 62 → BeginsNext number text row rest → (result ≡ Some row) × (new ≡ record { number = max 1 number + 1; text = rest })
next_given zero text mid new result first later gives row rest small begins =
    let given = given_behind (record { number = 1; text = begins.0 }) mid new result row rest (first begins.0 refl begins.1) (gives row rest) (omega arith) (omega arith) begins.2 in
    let same : 1 ≡ max 1 zero = omega arith in
    (given.0, given.1 ∙ ap (λ (n : ℕ). let u : Unread = record { number = n + 1; text = rest } in u) same)
next_given (suc n) text mid new result first later gives row rest small begins =
    let given = given_behind (record { number = suc n; text = text }) mid new result row rest (later (omega arith)) (gives row rest) (omega arith) small begins in
    let same : suc n ≡ max 1 (suc n) = omega arith in
    (given.0, given.1 ∙ ap (λ (k : ℕ). let u : Unread = record { number = k + 1; text = rest } in u) same)
