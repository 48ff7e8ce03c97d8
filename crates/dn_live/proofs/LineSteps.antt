-- Lines taken off known bytes, step by step.
use Rattle.dn_live.proofs.Words.{All-append, Bool, Consumes, HasFront, IsOneLine, IsTooLong, Keeps, List, None, Option, Some, TakesPiece, [], ap, append-nil, append_assoc, arith, drop, drop-cons}
use Rattle.dn_live.proofs.Words.{drop-drop, fails_before_first, false, get_or, get_or-take, is_line_feed, length, length-take, line_limit, min, nat_tests, passes_at_first, position_or_len}
use Rattle.dn_live.proofs.Words.{prepend_known, suc, sym, take, take-append-drop, take_all, true, ℕ, ◌++◌, ◌+◌, ◌<◌, ◌∙◌, ◌∷◌, ◌≡◌, ◌≤◌}

-- The bytes before the first line feed have none.
pub before-feed : (xs : List ℕ) (n : ℕ) → n ≡ position_or_len is_line_feed xs → IsOneLine (take n xs)
before-feed xs n e k d lt =
    let within : k < min n (length xs) = rw length-take at lt in
    let below : k < n = omega arith in
    let first : k < position_or_len is_line_feed xs = omega (arith, e) in
    ap is_line_feed (get_or-take n xs k d below) ∙ fails_before_first is_line_feed xs k d first

feed-is : (b : ℕ) → is_line_feed b ≡ true → b ≡ 10
feed-is b e = grind (arith, nat_tests)

-- A text with a line feed: the bytes before the first, and those behind it.
pub at-feed : (xs : List ℕ) (n : ℕ) → n ≡ position_or_len is_line_feed xs → n < length xs → xs ≡ take n xs ++ 10 ∷ drop (suc n) xs
at-feed xs n e lt =
    let there : position_or_len is_line_feed xs < length xs = omega (arith, e) in
    let feed : get_or xs n 0 ≡ 10 = rw e (feed-is (get_or xs (position_or_len is_line_feed xs) 0) (passes_at_first is_line_feed xs 0 there)) in
    let behind : drop n xs ≡ 10 ∷ drop (suc n) xs = drop-cons xs n 0 lt ∙ ap (λ (b : ℕ). b ∷ drop (suc n) xs) feed in
    sym (take-append-drop n xs) ∙ ap (λ (t : List ℕ). take n xs ++ t) behind

-- The same of the bytes that are left of a buffer.
pub found : (bytes : List ℕ) (start n : ℕ) (xs view : List ℕ) → drop start bytes ≡ view → xs ≡ view → n ≡ position_or_len is_line_feed xs → n < length xs
    → view ≡ take n xs ++ 10 ∷ drop (start + (n + 1)) bytes
found bytes start n xs view v x e lt =
    let at : xs ≡ drop start bytes = x ∙ sym v in
    let dropped : drop (suc n) xs ≡ drop (start + (n + 1)) bytes =
    ap (drop (suc n)) at ∙ drop-drop (suc n) start bytes ∙ ap (λ (k : ℕ). drop k bytes) (let q : start + suc n ≡ start + (n + 1) = omega arith in q) in
    sym x ∙ at-feed xs n e lt ∙ ap (λ (t : List ℕ). take n xs ++ 10 ∷ t) dropped

-- A text without a line feed is taken whole.
pub not-found : (n : ℕ) (xs view : List ℕ) → xs ≡ view → length xs ≤ n → view ≡ take n xs
not-found n xs view x le = sym x ∙ sym (take_all n xs le)

-- What was taken off known bytes is their front.
pub front : (known new : Option (List ℕ)) (text : List ℕ) → Consumes known new text → HasFront known text
front None new text p = tt
front (Some xs) None text p = absurd p
front (Some xs) (Some ys) text p = (ys, p)

pub front-behind : (known new : Option (List ℕ)) (text more : List ℕ) → Consumes known new text → HasFront new more → HasFront known (text ++ more)
front-behind None new text more p h = tt
front-behind (Some xs) None text more p h = absurd p
front-behind (Some xs) (Some ys) text more p h = (h.0, p ∙ ap (λ (t : List ℕ). text ++ t) h.1 ∙ sym (append_assoc text more h.0))

-- What is left begins with a piece of the bytes that are there.
kept_front : (known rest_known : Option (List ℕ)) (bytes piece rest : List ℕ) → Keeps known (prepend_known bytes rest_known) → bytes ≡ piece ++ rest → HasFront known piece
kept_front None rest_known bytes piece rest kept is = tt
kept_front (Some xs) None bytes piece rest kept is = absurd kept
kept_front (Some xs) (Some ys) bytes piece rest kept is = (rest ++ ys, sym kept ∙ ap (λ (t : List ℕ). t ++ ys) is ∙ append_assoc piece rest ys)

split : (bytes new piece : List ℕ) (found : Bool) → TakesPiece bytes new found piece → (rest : List ℕ) × (bytes ≡ piece ++ rest)
split bytes new piece true h = (10 ∷ new, h)
split bytes new piece false h = ([], h.0 ∙ sym (append-nil piece))

-- A line that is too long by its next piece.
pub too_long : (known mid rest_known : Option (List ℕ)) (line whole bytes new : List ℕ) (found : Bool) → Consumes known mid line → IsOneLine line → Keeps mid (prepend_known bytes rest_known)
    → (piece : List ℕ) × TakesPiece bytes new found piece × (whole ≡ line ++ piece) × IsOneLine piece → line_limit < length whole → IsTooLong known []
too_long known mid rest_known line whole bytes new found taken one kept (piece, takes, is, piece_one) long =
    let (rest, bytes_are) = split bytes new piece found takes in (
      whole,
      rw is (front-behind known mid line piece taken (kept_front mid rest_known bytes piece rest kept bytes_are)),
      rw is (All-append (λ b. is_line_feed b ≡ false) line piece one piece_one),
      long,
    )
