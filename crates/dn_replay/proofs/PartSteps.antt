-- A text that is written in parts, one part and one line at a time.
use Rattle.dn_replay.proofs.Words.{Appends, Appends-nil, Appends-trans, AppendsPart, Fields, IsUnderWay, List, Option, [], ap, append-nil, append_assoc, arith, drop, get_or, length, length-append}
use Rattle.dn_replay.proofs.Words.{line_of, map, map-append, refl, suc, sym, take, take-append-drop, take_more, text-append, text_of, zero, ℕ, ◌++◌, ◌+◌, ◌<◌, ◌∙◌, ◌∷◌, ◌≡◌}

-- The text so far was written whole, or is in the buffer.
pub begun : (start : Option (List ℕ)) → IsUnderWay start start [] []
begun start = record { front = []; written = Appends-nil start; whole = refl }

-- The buffer was written, and is empty.
pub part-written : (start mid now : Option (List ℕ)) (buffer left text : List ℕ) → IsUnderWay start mid buffer text → Appends mid now buffer → left ≡ [] → IsUnderWay start now left text
part-written start mid now buffer left text h more none =
    record {
      front = h.front ++ buffer;
      written = Appends-trans start mid now h.front buffer h.written more;
      whole = h.whole ∙ sym (ap (λ (l : List ℕ). (h.front ++ buffer) ++ l) none ∙ append-nil (h.front ++ buffer));
    }

take-past : (xs ys : List ℕ) (k : ℕ) → take (length xs + k) (xs ++ ys) ≡ xs ++ take k ys
take-past [] ys k = let same : 0 + k ≡ k = omega arith in rw same refl
take-past (x ∷ xs) ys k = let next : suc (length xs) + k ≡ suc (length xs + k) = omega arith in rw next (ap (λ (l : List ℕ). x ∷ l) (take-past xs ys k))

take-within : (xs ys : List ℕ) (k : ℕ) → k < length xs → take k (xs ++ ys) ≡ take k xs
take-within [] ys k lt = absurd (omega arith)
take-within (x ∷ xs) ys zero lt = refl
take-within (x ∷ xs) ys (suc k) lt = ap (λ (l : List ℕ). x ∷ l) (take-within xs ys k (omega arith))

-- A write of the buffer failed after a part of it.
pub part-failed : (start mid now : Option (List ℕ)) (buffer text rest : List ℕ) → IsUnderWay start mid buffer text → AppendsPart mid now buffer → AppendsPart start now (text ++ rest)
part-failed start mid now buffer text rest h part =
    let k = part.0 in
    let short = part.1 in
    let whole : text ++ rest ≡ h.front ++ (buffer ++ rest) = ap (λ (l : List ℕ). l ++ rest) h.whole ∙ append_assoc h.front buffer rest in
    let front : take (length h.front + part.0) (text ++ rest) ≡ h.front ++ take part.0 buffer =
    ap (take (length h.front + part.0)) whole ∙ take-past h.front (buffer ++ rest) part.0 ∙ ap (λ (l : List ℕ). h.front ++ l) (take-within buffer rest part.0 part.1) in
    let sizes = ap (length {A = ℕ}) whole in
    let all = length-append h.front (buffer ++ rest) in
    let back = length-append buffer rest in
    (length h.front + part.0, omega (arith, short, sizes, all, back), rw front (Appends-trans start mid now h.front (take part.0 buffer) h.written part.2))

-- A line more in the buffer.
pub line-added : (start now : Option (List ℕ)) (buffer longer text line : List ℕ) → longer ≡ buffer ++ line → IsUnderWay start now buffer text → IsUnderWay start now longer (text ++ line)
line-added start now buffer longer text line is h =
    record { front = h.front; written = h.written; whole = ap (λ (l : List ℕ). l ++ line) h.whole ∙ append_assoc h.front buffer line ∙ ap (λ (l : List ℕ). h.front ++ l) (sym is) }

-- Nothing is left in the buffer.
pub ended : (start now : Option (List ℕ)) (buffer text : List ℕ) → length buffer ≡ 0 → IsUnderWay start now buffer text → Appends start now text
ended start now [] text empty h = rw (h.whole ∙ append-nil h.front) h.written
ended start now (b ∷ buffer) text empty h = absurd (omega arith)

pub same-text : (start now : Option (List ℕ)) (buffer text other : List ℕ) → text ≡ other → IsUnderWay start now buffer text → IsUnderWay start now buffer other
same-text start now buffer text other e h = record { front = h.front; written = h.written; whole = sym e ∙ h.whole }

pub same-part : (start now : Option (List ℕ)) (text other : List ℕ) → text ≡ other → AppendsPart start now text → AppendsPart start now other
same-part start now text other e h = rw e at h

-- ---- The lines of a list of items

module _ {X : Type 0} (fields : X → Fields) where
  pub lines-append : (before : List ℕ) (xs ys : List X) → (before ++ text_of (map fields xs)) ++ text_of (map fields ys) ≡ before ++ text_of (map fields (xs ++ ys))
  lines-append before xs ys =
      append_assoc before (text_of (map fields xs)) (text_of (map fields ys))
      ∙ ap (λ (t : List ℕ). before ++ t) (sym (ap text_of (map-append fields xs ys) ∙ text-append (map fields xs) (map fields ys)))

pub one-line : (record' : Fields) → text_of (record' ∷ []) ≡ line_of record'
unfolding text_of
one-line record' = append-nil (line_of record')

-- One delivery more, and the rest of them.
module _ {D X : Type 0} (line : D → X) (fields : X → Fields) where
  pub outs-more : (before : List ℕ) (ds : List D) (i : ℕ) (d : D) → i < length ds
      → (before ++ text_of (map fields (map line (take i ds)))) ++ line_of (fields (line (get_or ds i d))) ≡ before ++ text_of (map fields (map line (take (i + 1) ds)))
  outs-more before ds i d lt =
      ap (λ (t : List ℕ). (before ++ text_of (map fields (map line (take i ds)))) ++ t) (sym (one-line (fields (line (get_or ds i d)))))
      ∙ lines-append fields before (map line (take i ds)) (line (get_or ds i d) ∷ [])
      ∙ ap (λ (xs : List X). before ++ text_of (map fields xs)) (sym (ap (map line) (take_more ds i d lt) ∙ map-append line (take i ds) (get_or ds i d ∷ [])))

  pub outs-rest : (before rest : List ℕ) (ds : List D) (i : ℕ)
      → (before ++ text_of (map fields (map line (take i ds)))) ++ (text_of (map fields (map line (drop i ds))) ++ rest) ≡ (before ++ text_of (map fields (map line ds))) ++ rest
  outs-rest before rest ds i =
      sym (append_assoc (before ++ text_of (map fields (map line (take i ds)))) (text_of (map fields (map line (drop i ds)))) rest)
      ∙ ap (λ (t : List ℕ). t ++ rest)
      (lines-append fields before (map line (take i ds)) (map line (drop i ds))
      ∙ ap (λ (xs : List X). before ++ text_of (map fields xs)) (sym (ap (map line) (sym (take-append-drop i ds)) ∙ map-append line (take i ds) (drop i ds))))

-- The header, the lines of the deliveries and the others are the text of all.
pub whole-text : {X : Type 0} (fields : X → Fields) (header : Fields) (outs others : List X)
    → (line_of header ++ text_of (map fields outs)) ++ text_of (map fields others) ≡ text_of (header ∷ map fields (outs ++ others))
unfolding text_of
whole-text fields header outs others = lines-append fields (line_of header) outs others
