-- The last line feed of a text, and what follows it.
use Rattle.dn_records.proofs.Words.{Bool, IsFirstByte, List, None, NoneAfter, Nowhere, Option, Passes, Some, [], ap, append_assoc, arith, drop, drop-append_seam, false, false≢true}
use Rattle.dn_records.proofs.Words.{get_or-append_seam, is_byte, is_some, length, length-append, list_any, list_any-append, list_any_at, refl, suc, sym, take, take-append_seam, true, zero, ℕ}
use Rattle.dn_records.proofs.Words.{◌++◌, ◌+◌, ◌<◌, ◌==◌, ◌||◌, ◌∙◌, ◌∷◌, ◌≡◌}

-- Where no line feed follows a line feed, the front before the last one ends.
last-place : (front rest : List ℕ) (last : ℕ) → last < length (front ++ 10 ∷ rest) → Passes (is_byte 10) (front ++ 10 ∷ rest) last
    → ((k : ℕ) → last < k → k < length (front ++ 10 ∷ rest) → ¬ Passes (is_byte 10) (front ++ 10 ∷ rest) k)
    → list_any (λ b. b == 10) rest ≡ false → last ≡ length front
last-place [] rest zero lt feed after none = refl
last-place [] rest (suc k) lt feed after none = absurd (false≢true (sym none ∙ list_any_at (λ b. b == 10) rest k 0 (omega arith) feed))
last-place (c ∷ front) rest zero lt feed after none =
    let behind : suc (length front) < length ((c ∷ front) ++ 10 ∷ rest) = omega (arith, length-append front (10 ∷ rest)) in
    absurd (after (suc (length front)) (omega arith) behind (ap (λ (b : ℕ). b == 10) (get_or-append_seam front 10 rest 0)))
last-place (c ∷ front) rest (suc k) lt feed after none =
    ap suc (last-place front rest k (omega arith) feed (λ i above below. after (suc i) (omega arith) (omega arith)) none)

-- In a text with a line feed one is found.
pub no-feed : (text front rest : List ℕ) → Nowhere (Passes (is_byte 10) text) 0 (length text) → text ≡ front ++ 10 ∷ rest → ⊥
no-feed text front rest none is =
    let within : length front < length text = rw is (omega (arith, length-append front (10 ∷ rest))) in
    let feed : Passes (is_byte 10) text (length front) = rw is (ap (λ (b : ℕ). b == 10) (get_or-append_seam front 10 rest 0)) in
    none (length front) (omega arith) within feed

-- A text is cut behind its last line feed.
pub record CutsBehind (text front rest : List ℕ) (last : ℕ) : Type 0 where
  pub lines : take (last + 1) text ≡ front ++ 10 ∷ []
  pub left : drop (last + 1) text ≡ rest

pub cut-last : (text front rest : List ℕ) (last : ℕ) → NoneAfter (Passes (is_byte 10) text) 0 (length text) last × Passes (is_byte 10) text last
    → text ≡ front ++ 10 ∷ rest → list_any (λ b. b == 10) rest ≡ false → CutsBehind text front rest last
cut-last text front rest last (place, feed) is none =
    let high = rw is at place.high in
    let here = rw is at feed in
    let after = rw is at place.after in
    let ends : last ≡ length front = last-place front rest last high here (λ k above below. after k (omega arith) below) none in
    let whole : text ≡ (front ++ 10 ∷ []) ++ rest = is ∙ sym (append_assoc front (10 ∷ []) rest) in
    let long : last + 1 ≡ length (front ++ 10 ∷ []) = omega (arith, ends, length-append front (10 ∷ [])) in
    record {
      lines = rw (long, whole) (take-append_seam (front ++ 10 ∷ []) rest);
      left = rw (long, whole) (drop-append_seam (front ++ 10 ∷ []) rest);
    }

-- No quote is found in a text without one and the line feed behind it.
pub no-quote : (lines front : List ℕ) (quote : Option ℕ) → lines ≡ front ++ 10 ∷ [] → list_any (λ b. b == 34) front ≡ false → IsFirstByte (is_byte 34) lines quote
    → is_some quote ≡ false
no-quote lines front None is bare none = refl
no-quote lines front (Some k) is bare (first, quote) =
    let found : list_any (λ b. b == 34) lines ≡ true = list_any_at (λ b. b == 34) lines k 0 first.high quote in
    let none_there : list_any (λ b. b == 34) lines ≡ false =
    ap (list_any (λ b. b == 34)) is ∙ list_any-append (λ b. b == 34) front (10 ∷ []) ∙ ap (λ (b : Bool). b || false) bare in
    absurd (false≢true (sym none_there ∙ found))
