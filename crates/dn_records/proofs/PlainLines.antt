-- Records whose lines are written plainly: how a line is read from its bytes, and what is left behind it.
use Rattle.dn_records.proofs.Words.{All, All-from_get_or, BeginsBare, BeginsFront, BeginsLine, Bool, Fields, IsFirstByte, List, None, NoneBefore, Nowhere, Option, Passes, Some, StandsBehindLine}
use Rattle.dn_records.proofs.Words.{TakesFront, [], ap, append_assoc, arith, cases_Bool, count_by-le-length, default_writer, drop, drop-append_seam, drop_more, ends_with, eqb-true, false}
use Rattle.dn_records.proofs.Words.{false_from_ne_true, false≢true, get_or, get_or-take, has_quotes, inl, inr, is_bom, is_byte, is_byte2, is_some, join_with_byte, join_with_byte-slice_split}
use Rattle.dn_records.proofs.Words.{length, length-append, length-slice_split, length-take, list_any, list_any-append, list_any_at, list_any_none, min, needs_byte, next_record, onto_first}
use Rattle.dn_records.proofs.Words.{or_parts, records_after, records_from, records_of, refl, slice_split, slice_split_at, slice_split_none, strip_bom, subst, sym, take, take-append-drop, take_all}
use Rattle.dn_records.proofs.Words.{take_rest, true, ℕ, ◌&&◌, ◌++◌, ◌+◌, ◌-◌, ◌<◌, ◌==◌, ◌||◌, ◌∙◌, ◌∷◌, ◌≡◌, ◌≢◌, ◌≤◌}
use Rattle.csv.specs.declared.parser.State.TheVariants as st
use Rattle.csv.specs.declared.parser.Terminator.TheVariants as term
use Rattle.dn_records.proofs.FirstLine.{behind-feed, behind-return}
use Rattle.dn_records.proofs.LineEnds.{BeginsFields, Opens, Writes, feed-line, field-begins, fields-then, line-reads, plain-writes, return-line}

either : (a b c d : Bool) → ((a || b) || (c || d)) ≡ ((a || c) || (b || d))
either true b c d = refl
either false true true d = refl
either false true false d = refl
either false false c d = refl

quotes-are : (line : List ℕ) → list_any (is_byte2 34 13) line ≡ has_quotes line
quotes-are [] = refl
quotes-are (byte ∷ line) = rw (quotes-are line) (either (byte == 34) (byte == 13) _ _)

-- Whether a quote or a carriage return was found.
pub quotes_found : (line : List ℕ) (found : Option ℕ) → IsFirstByte (is_byte2 34 13) line found → is_some found ≡ has_quotes line
quotes_found line None none =
    sym (list_any_none (is_byte2 34 13) line (All-from_get_or (λ b. is_byte2 34 13 b ≡ false) line 0 (λ k lt. false_from_ne_true _ (none k (omega arith) lt)))) ∙ quotes-are line
quotes_found line (Some k) (first, passes) = sym (list_any_at (is_byte2 34 13) line k 0 first.high passes) ∙ quotes-are line

-- The first byte that passes a test cuts a text.
module _ (byte : ℕ) (text : List ℕ) (k : ℕ) (first : NoneBefore (Passes (is_byte byte) text) 0 (length text) k) (passes : Passes (is_byte byte) text k) where
  none-before : All (λ b. is_byte byte b ≡ false) (take k text)
  none-before = All-from_get_or (λ b. is_byte byte b ≡ false) (take k text) 0 (λ i lt.
      let within : i < min k (length text) = rw length-take at lt in
      let below : i < k = omega arith in
      rw (get_or-take k text i 0 below) (false_from_ne_true _ (first.before i (omega arith) below)))

  cut-at : text ≡ take k text ++ byte ∷ drop (k + 1) text
  cut-at =
      sym (take-append-drop k text) ∙ ap (λ (t : List ℕ). take k text ++ t) (drop_more text k 0 first.high)
      ∙ ap (λ (b : ℕ). take k text ++ b ∷ drop (k + 1) text) (eqb-true _ _ passes)

  pub feed-ends : byte ≡ 10 → BeginsBare text (take k text) (drop (k + 1) text)
  feed-ends is = record {
    one = list_any_none (λ b. b == 10) (take k text) (rw is at none-before);
    ends = inl (cut-at ∙ ap (λ (b : ℕ). take k text ++ b ∷ drop (k + 1) text) is);
  }

  pub return-ends : (line : List ℕ) → byte ≡ 10 → take k text ≡ line ++ 13 ∷ [] → BeginsBare text line (drop (k + 1) text)
  return-ends line is front =
      let none = list_any_none (λ b. b == 10) (take k text) (rw is at none-before) in
      record {
        one = (or_parts (list_any (λ b. b == 10) line) _ (sym (list_any-append (λ b. b == 10) line (13 ∷ [])) ∙ ap (list_any (λ b. b == 10)) (sym front) ∙ none)).0;
        ends = inr (cut-at ∙ rw (front, is) (append_assoc line (13 ∷ []) (10 ∷ drop (k + 1) text)));
      }

-- One field more, up to the first comma.
pub field-more : (left : List ℕ) (k : ℕ) → NoneBefore (Passes (is_byte 44) left) 0 (length left) k × Passes (is_byte 44) left k → (old new all : Fields) (open_field : List ℕ)
    → new ≡ old ++ ((open_field ++ take k left) ∷ []) → open_field ≡ [] → old ++ slice_split (λ b. b == 44) left ≡ all → new ++ slice_split (λ b. b == 44) (drop (k + 1) left) ≡ all
field-more left k (first, passes) old new all open_field is none so_far =
    let cut : slice_split (λ b. b == 44) left ≡ take k left ∷ slice_split (λ b. b == 44) (drop (k + 1) left) =
    ap (slice_split (λ b. b == 44)) (cut-at 44 left k first passes) ∙ slice_split_at (λ b. b == 44) (take k left) 44 (drop (k + 1) left) (none-before 44 left k first passes) refl in
    rw (is, none) (append_assoc old (take k left ∷ []) (slice_split (λ b. b == 44) (drop (k + 1) left)) ∙ ap (λ (fs : Fields). old ++ fs) (sym cut) ∙ so_far)

-- The last field.
pub field-last : (left : List ℕ) → Nowhere (Passes (is_byte 44) left) 0 (length left) → (old new all : Fields) (open_field : List ℕ)
    → new ≡ old ++ ((open_field ++ left) ∷ []) → open_field ≡ [] → old ++ slice_split (λ b. b == 44) left ≡ all → new ≡ all
field-last left none old new all open_field is whole so_far =
    let alone = slice_split_none (λ b. b == 44) left (All-from_get_or (λ b. (b == 44) ≡ false) left 0 (λ k lt. false_from_ne_true _ (none k (omega arith) lt))) in
    rw (is, whole) (ap (λ (fs : Fields). old ++ fs) (sym alone) ∙ so_far)

-- No field calls for quotes.
abbrev AllBare : Fields → Type 0
AllBare [] = Unit {0}
AllBare (field ∷ fields) = (list_any (needs_byte default_writer) field ≡ false) × AllBare fields

onto-bare : (b : ℕ) (fields : Fields) → needs_byte default_writer b ≡ false → AllBare fields → AllBare (onto_first b fields)
onto-bare b [] plain all = (rw plain refl, tt)
onto-bare b (field ∷ fields) plain all = (rw (plain, all.0) refl, all.1)

-- The pieces between the commas of a line without quotes and ends of lines.
bare-pieces : (line : List ℕ) → list_any (λ b. b == 34) line ≡ false → list_any (λ b. b == 13) line ≡ false → list_any (λ b. b == 10) line ≡ false → AllBare (slice_split (λ b. b == 44) line)
bare-pieces [] quote return feed = (refl, tt)
bare-pieces (b ∷ line) quote return feed =
    let q = or_parts (b == 34) _ quote in
    let r = or_parts (b == 13) _ return in
    let f = or_parts (b == 10) _ feed in
    let more = bare-pieces line q.1 r.1 f.1 in
    elim (cases_Bool (b == 44)) [
      | inl comma ↦ rw comma (refl, more)
      | inr other ↦ rw other (onto-bare b (slice_split (λ c. c == 44) line) (rw (other, q.0, r.0, f.0) refl) more)
    ]

-- A text that begins with such a line.
opens : (line tail : List ℕ) → 0 < length line → list_any (λ b. b == 13) line ≡ false → list_any (λ b. b == 10) line ≡ false → Opens (line ++ tail)
opens [] tail some return feed = absurd (omega arith)
opens (b ∷ line) tail some return feed = ((or_parts (b == 13) _ return).0, (or_parts (b == 10) _ feed).0)

plain : (field : List ℕ) → list_any (needs_byte default_writer) field ≡ false → Writes field field
plain field bare = plain-writes field (rw bare refl)

-- A text begins with the line of some fields, where the last one and the end of the line make it that.
module _ (text tail rest : List ℕ) (ends : (front : Fields) (last : List ℕ) → BeginsFields text front (last ++ tail) → Writes last last → BeginsLine text (front ++ last ∷ []) rest) where
  joined-line : (front : Fields) (first : List ℕ) (fields : Fields) → BeginsFields text front (join_with_byte 44 (first ∷ fields) ++ tail) → AllBare (first ∷ fields)
      → BeginsLine text (front ++ first ∷ fields) rest
  joined-line front first [] begins bare = ends front first begins (plain first bare.0)
  joined-line front first (second ∷ fields) begins bare =
      let more = join_with_byte 44 (second ∷ fields) ++ tail in
      let next = field-begins (first ++ 44 ∷ more) first first more refl (plain first bare.0) in
      let here = subst (BeginsFields text front) (append_assoc first (44 ∷ join_with_byte 44 (second ∷ fields)) tail) begins in
      rw (← append_assoc front (first ∷ []) (second ∷ fields)) (joined-line (front ++ first ∷ []) second fields (fields-then text front (first ∷ []) (first ++ 44 ∷ more) more here next) bare.1)

  split-line : (line : List ℕ) (fields : Fields) → text ≡ line ++ tail → 0 < length line → join_with_byte 44 fields ≡ line → AllBare fields → BeginsLine text fields rest
  split-line line [] stands some join bare = absurd (omega (arith, ap (length {A = ℕ}) join))
  split-line line (first ∷ fields) stands some join bare =
      joined-line [] first fields (record { written = []; stands = stands ∙ ap (λ (t : List ℕ). t ++ tail) (sym join); all = tt }) bare

-- A line without quotes is read as its pieces.
pub bare-line : (text line rest : List ℕ) → BeginsBare text line rest → 0 < length line → has_quotes line ≡ false → BeginsLine text (slice_split (λ b. b == 44) line) rest
bare-line text line rest begins some none =
    let (quote, return) = or_parts (list_any (λ b. b == 34) line) (list_any (λ b. b == 13) line) none in
    let bare = bare-pieces line quote return begins.one in
    let join = join_with_byte-slice_split 44 line in
    elim begins.ends [
      | inl feed ↦
          let there : Opens text = rw feed (opens line (10 ∷ rest) some return begins.one) in
          split-line text (10 ∷ rest) rest (λ front last fs writes. feed-line text front last last rest fs writes there) line (slice_split (λ b. b == 44) line) feed some join bare
      | inr both ↦
          let there : Opens text = rw both (opens line (13 ∷ 10 ∷ rest) some return begins.one) in
          split-line text (13 ∷ 10 ∷ rest) rest (λ front last fs writes. return-line text front last last rest fs writes there) line (slice_split (λ b. b == 44) line) both some join bare
    ]

-- The pieces of a line, where all were read.
pub front-whole : (most : ℕ) (fields all : Fields) → fields ≡ all → length fields ≤ most → fields ≡ take most all
front-whole most fields all is few = is ∙ sym (take_all most all (rw is at few))

-- A line has at most one piece more than bytes.
pub all-pieces : (line : List ℕ) (fields : Fields) → fields ≡ take (length line + 1) (slice_split (λ b. b == 44) line) → fields ≡ slice_split (λ b. b == 44) line
all-pieces line fields is =
    let count = length-slice_split (λ b. b == 44) line in
    let few = count_by-le-length (λ b. b == 44) line in
    is ∙ take_all (length line + 1) (slice_split (λ b. b == 44) line) (omega (arith, count, few))

-- The rest stands behind the line feed of the line.
pub behind-line : (text : List ℕ) (fields : Fields) (rest : List ℕ) → BeginsLine text fields rest → StandsBehindLine text rest
behind-line text fields rest begins = record { line = begins.front; stands = begins.stands }

pub rest-is : (text rest : List ℕ) → StandsBehindLine text rest → drop (length text - length rest - 1) text ≡ 10 ∷ rest
rest-is text rest behind =
    let count = ap (length {A = ℕ}) behind.stands ∙ length-append behind.line (10 ∷ rest) in
    let place : length text - length rest - 1 ≡ length behind.line = omega (arith, count) in
    ap (λ k. drop k text) place ∙ ap (drop (length behind.line)) behind.stands ∙ drop-append_seam behind.line (10 ∷ rest)

-- A text without a byte has no record.
pub none-in : records_of [] ≡ []
unfolding records_from strip_bom next_record
none-in = refl

-- A text that begins with an end of line.
pub behind-front : (text : List ℕ) → 1 ≤ length text → ends_with term.CRLF (get_or text 0 0) ≡ true → records_of text ≡ records_after st.StartRecord (take (length text - 1) (drop 1 text))
behind-front [] some is = absurd (omega arith)
behind-front (byte ∷ rest) some is = rw (take_rest (byte ∷ rest) 1) (elim (cases_Bool (byte == 13)) [
  | inl return ↦ ap (λ (b : ℕ). records_of (b ∷ rest)) (eqb-true byte 13 return) ∙ behind-return rest
  | inr other ↦ let feed = rw other at is in ap (λ (b : ℕ). records_of (b ∷ rest)) (eqb-true byte 10 feed) ∙ behind-feed rest
])

-- A text without a byte.
pub at-end : (text : List ℕ) → length text < 1 → records_of text ≡ records_after st.StartRecord text
unfolding strip_bom
at-end [] none = refl
at-end (byte ∷ rest) none = absurd (omega arith)

both : (p q : Bool) → (p && q) ≡ true → (p ≡ true) × (q ≡ true)
both true q e = (refl, e)
both false q e = cc e

marked : (a b c : ℕ) (rest : List ℕ) → is_bom a b c ≡ true → ◌≡◌ {A = List ℕ} (a ∷ b ∷ c ∷ rest) (239 ∷ 187 ∷ 191 ∷ rest)
marked a b c rest mark =
    let (front, third) = both ((a == 239) && (b == 187)) (c == 191) mark in
    let (first, second) = both (a == 239) (b == 187) front in
    rw (eqb-true a 239 first, eqb-true b 187 second, eqb-true c 191 third) refl

-- A text that begins with a byte order mark.
pub at-mark : (text rest : List ℕ) → text ≡ 239 ∷ 187 ∷ 191 ∷ rest → records_of text ≡ records_after st.StartRecord rest
unfolding strip_bom
at-mark text rest is = rw is refl

-- A text that begins with none.
pub at-front : (text : List ℕ) → ((rest : List ℕ) → text ≢ 239 ∷ 187 ∷ 191 ∷ rest) → records_of text ≡ records_after st.StartRecord text
unfolding strip_bom
at-front [] unmarked = refl
at-front (a ∷ []) unmarked = refl
at-front (a ∷ b ∷ []) unmarked = refl
at-front (a ∷ b ∷ c ∷ rest) unmarked = elim (cases_Bool (is_bom a b c)) [
  | inl mark ↦ absurd (unmarked rest (marked a b c rest mark))
  | inr other ↦ rw other refl
]
