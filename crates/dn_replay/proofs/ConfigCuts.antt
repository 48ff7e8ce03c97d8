-- Where a joined input is cut, by the line that its last line feed ends, or by its end.
use Rattle.dn_replay.proofs.Words.{All-head, All-tail, ConfigPart, IsConfigSoFar, IsLine, List, [], add-one, after_end, after_mark, ap, append-nil, append_assoc, behind, bytes_eq}
use Rattle.dn_replay.proofs.Words.{bytes_eq-Decides, cases_Bool, codes, drop, drop-cons, false, get_or, inl, inr, is_mark, is_some, joined_parts, length, parts_from, refl, sym, take}
use Rattle.dn_replay.proofs.Words.{take-append-drop, take_more, true, ℕ, ◌++◌, ◌+◌, ◌<◌, ◌==◌, ◌∙◌, ◌∷◌, ◌≡◌}

head : (byte : ℕ) (line : List ℕ) → IsLine (byte ∷ line) → (byte == 10) ≡ false
head byte line is = All-head (λ (b : ℕ). (b == 10) ≡ false) byte line is

tail : (byte : ℕ) (line : List ℕ) → IsLine (byte ∷ line) → IsLine line
tail byte line is = All-tail (λ (b : ℕ). (b == 10) ≡ false) byte line is

-- A line `--` is found at the line feed behind it.
dashes : (more : List ℕ) → parts_from true (45 ∷ 45 ∷ 10 ∷ more) ≡ ([], more)
unfolding parts_from
dashes [] = refl
dashes (d ∷ rest) = refl

mark_found : (line more : List ℕ) → is_mark line ≡ true → parts_from true (line ++ 10 ∷ more) ≡ ([], more)
unfolding parts_from
mark_found line more marked = elim (cases_Bool (bytes_eq line (codes "--"))) [
  | inl same ↦ let is = (bytes_eq-Decides line (codes "--")).0 same in rw is (dashes more)
  | inr other ↦
      let returned : bytes_eq line (codes "--\r") ≡ true = rw other at marked in
      let is = (bytes_eq-Decides line (codes "--\r")).0 returned in rw is refl
]

-- Elsewhere there is no mark at the front.
pair : (a b : ℕ) (rest : List ℕ) → ((a == 45) ≡ true → (b == 45) ≡ true → is_some (after_end rest) ≡ false) → is_some (after_mark (a ∷ b ∷ rest)) ≡ false
pair a b rest h = elim (cases_Bool (a == 45)) [
  | inl ea ↦ elim (cases_Bool (b == 45)) [ inl eb ↦ rw (ea, eb) (h ea eb) | inr nb ↦ rw (ea, nb) refl ]
  | inr na ↦ rw na refl
]

two_more : (c d : ℕ) (rest : List ℕ) → (c == 10) ≡ false → (d == 10) ≡ false → is_some (after_end (c ∷ d ∷ rest)) ≡ false
two_more c d rest hc hd = elim (cases_Bool (c == 13)) [ inl returned ↦ rw (hc, returned, hd) refl | inr other ↦ rw (hc, other) refl ]

one_more : (c : ℕ) (rest : List ℕ) → (c == 10) ≡ false → (c == 13) ≡ false → is_some (after_end (c ∷ 10 ∷ rest)) ≡ false
one_more c rest hc other = rw (hc, other) refl

not_returned : (a b c : ℕ) → (a == 45) ≡ true → (b == 45) ≡ true → is_mark (a ∷ b ∷ c ∷ []) ≡ false → (c == 13) ≡ false
not_returned a b c ea eb e = elim (cases_Bool (c == 13)) [ inl returned ↦ (let wrong = rw (ea, eb, returned) at e in cc) | inr other ↦ other ]

no_mark : (line more : List ℕ) → IsLine line → is_mark line ≡ false → is_some (after_mark (line ++ 10 ∷ more)) ≡ false
no_mark [] [] is e = refl
no_mark [] (b ∷ rest) is e = refl
no_mark (a ∷ []) more is e = pair a 10 more (λ ea eb. cc)
no_mark (a ∷ b ∷ []) more is e = pair a b (10 ∷ more) (λ ea eb. let wrong = rw (ea, eb) at e in cc)
no_mark (a ∷ b ∷ c ∷ []) more is e =
    pair a b (c ∷ 10 ∷ more) (λ ea eb. one_more c more (head c [] (tail b (c ∷ []) (tail a (b ∷ c ∷ []) is))) (not_returned a b c ea eb e))
no_mark (a ∷ b ∷ c ∷ d ∷ rest) more is e =
    let behind_dashes = tail b (c ∷ d ∷ rest) (tail a (b ∷ c ∷ d ∷ rest) is) in
    pair a b (c ∷ d ∷ (rest ++ 10 ∷ more)) (λ ea eb. two_more c d (rest ++ 10 ∷ more) (head c (d ∷ rest) behind_dashes) (head d rest (tail c (d ∷ rest) behind_dashes)))

no_mark_at_end : (line : List ℕ) → IsLine line → bytes_eq line (codes "--") ≡ false → is_some (after_mark line) ≡ false
no_mark_at_end [] is e = refl
no_mark_at_end (a ∷ []) is e = refl
no_mark_at_end (a ∷ b ∷ []) is e = pair a b [] (λ ea eb. let wrong = rw (ea, eb) at e in cc)
no_mark_at_end (a ∷ b ∷ c ∷ []) is e = pair a b (c ∷ []) (λ ea eb. rw (head c [] (tail b (c ∷ []) (tail a (b ∷ c ∷ []) is))) refl)
no_mark_at_end (a ∷ b ∷ c ∷ d ∷ rest) is e =
    let behind_dashes = tail b (c ∷ d ∷ rest) (tail a (b ∷ c ∷ d ∷ rest) is) in
    pair a b (c ∷ d ∷ rest) (λ ea eb. two_more c d rest (head c (d ∷ rest) behind_dashes) (head d rest (tail c (d ∷ rest) behind_dashes)))

plain_byte : (c : ℕ) (rest : List ℕ) → is_some (after_mark (c ∷ rest)) ≡ false → parts_from true (c ∷ rest) ≡ (c ∷ (parts_from (c == 10) rest).0, (parts_from (c == 10) rest).1)
unfolding parts_from
plain_byte c rest e = rw e refl

-- A line that isn't `--` belongs to the first part.
along : (line more : List ℕ) → IsLine line → parts_from false (line ++ 10 ∷ more) ≡ behind (line ++ 10 ∷ []) (parts_from true more)
unfolding parts_from
along [] more is = refl
along (a ∷ line) more is =
    rw (head a line is) (ap (λ (parts : List ℕ × List ℕ). let whole : List ℕ × List ℕ = (a ∷ parts.0, parts.1) in whole) (along line more (tail a line is)))

line_passed : (line more : List ℕ) → IsLine line → is_mark line ≡ false → parts_from true (line ++ 10 ∷ more) ≡ behind (line ++ 10 ∷ []) (parts_from true more)
line_passed [] more is e = plain_byte 10 more (no_mark [] more is e)
line_passed (a ∷ line) more is e =
    plain_byte a (line ++ 10 ∷ more) (no_mark (a ∷ line) more is e)
    ∙ rw (head a line is) (ap (λ (parts : List ℕ × List ℕ). let whole : List ℕ × List ℕ = (a ∷ parts.0, parts.1) in whole) (along line more (tail a line is)))

along_to_end : (line : List ℕ) → IsLine line → parts_from false line ≡ (line, [])
unfolding parts_from
along_to_end [] is = refl
along_to_end (a ∷ line) is =
    rw (head a line is) (ap (λ (parts : List ℕ × List ℕ). let whole : List ℕ × List ℕ = (a ∷ parts.0, parts.1) in whole) (along_to_end line (tail a line is)))

no_text : parts_from true [] ≡ ([], [])
unfolding parts_from
no_text = refl

dashes_at_end : parts_from true (45 ∷ 45 ∷ []) ≡ ([], [])
unfolding parts_from
dashes_at_end = refl

end_passed : (line : List ℕ) → IsLine line → bytes_eq line (codes "--") ≡ false → parts_from true line ≡ (line, [])
end_passed [] is e = no_text
end_passed (a ∷ line) is e =
    plain_byte a line (no_mark_at_end (a ∷ line) is e)
    ∙ rw (head a line is) (ap (λ (parts : List ℕ × List ℕ). let whole : List ℕ × List ℕ = (a ∷ parts.0, parts.1) in whole) (along_to_end line (tail a line is)))

-- A line feed ended the line `--`.
pub marked : (part : ConfigPart) (text more : List ℕ) (byte : ℕ) → byte ≡ 10 → is_mark part.line.items ≡ true → IsConfigSoFar part text → joined_parts (text ++ byte ∷ more) ≡ (part.lines.items, more)
marked part text more byte feed mark so_far =
    so_far.cuts (byte ∷ more)
    ∙ ap (λ (b : ℕ). behind part.lines.items (parts_from true (part.line.items ++ b ∷ more))) feed
    ∙ ap (behind part.lines.items) (mark_found part.line.items more mark)
    ∙ ap (λ (front : List ℕ). let both : List ℕ × List ℕ = (front, more) in both) (append-nil part.lines.items)

regroup : (lines line rest : List ℕ) (byte : ℕ) → lines ++ ((line ++ byte ∷ []) ++ rest) ≡ ((lines ++ line) ++ byte ∷ []) ++ rest
regroup lines line rest byte = simp append_assoc

-- A line feed ended another line.
pub line_cut : (part : ConfigPart) (text more : List ℕ) (byte : ℕ) → byte ≡ 10 → is_mark part.line.items ≡ false → IsConfigSoFar part text
    → joined_parts ((text ++ byte ∷ []) ++ more) ≡ behind ((part.lines.items ++ part.line.items) ++ byte ∷ []) (parts_from true more)
line_cut part text more byte feed other so_far =
    ap joined_parts (append_assoc text (byte ∷ []) more)
    ∙ so_far.cuts (byte ∷ more)
    ∙ rw feed (ap (behind part.lines.items) (line_passed part.line.items more so_far.line other)
    ∙ ap (λ (front : List ℕ). let both : List ℕ × List ℕ = (front, (parts_from true more).1) in both) (regroup part.lines.items part.line.items (parts_from true more).0 10))

-- The input ended behind the line `--`, and behind another line.
pub marked_by_end : (part : ConfigPart) (text : List ℕ) → bytes_eq part.line.items (codes "--") ≡ true → IsConfigSoFar part text → joined_parts text ≡ (part.lines.items, [])
marked_by_end part text same so_far =
    let is = (bytes_eq-Decides part.line.items (codes "--")).0 same in
    ap joined_parts (sym (append-nil text))
    ∙ so_far.cuts []
    ∙ ap (λ (line : List ℕ). behind part.lines.items (parts_from true line)) (append-nil part.line.items ∙ is)
    ∙ ap (behind part.lines.items) dashes_at_end
    ∙ ap (λ (front : List ℕ). let both : List ℕ × List ℕ = (front, []) in both) (append-nil part.lines.items)

pub cut_by_end : (part : ConfigPart) (text : List ℕ) → bytes_eq part.line.items (codes "--") ≡ false → IsConfigSoFar part text → joined_parts text ≡ (part.lines.items ++ part.line.items, [])
cut_by_end part text other so_far =
    ap joined_parts (sym (append-nil text))
    ∙ so_far.cuts []
    ∙ ap (λ (line : List ℕ). behind part.lines.items (parts_from true line)) (append-nil part.line.items)
    ∙ ap (behind part.lines.items) (end_passed part.line.items so_far.line other)

-- A byte of a part, with what stands before it and behind.
pub at_byte : (text part more : List ℕ) (i : ℕ) → i < length part → text ++ (part ++ more) ≡ (text ++ take i part) ++ (get_or part i 0 ∷ (drop (i + 1) part ++ more))
at_byte text part more i lt =
    let cut : drop i part ≡ get_or part i 0 ∷ drop (i + 1) part = drop-cons part i 0 lt ∙ ap (λ (n : ℕ). get_or part i 0 ∷ drop n part) (sym (add-one i)) in
    let halves : part ≡ take i part ++ (get_or part i 0 ∷ drop (i + 1) part) = sym (take-append-drop i part) ∙ ap (λ (rest : List ℕ). take i part ++ rest) cut in
    ap (λ (whole : List ℕ). text ++ (whole ++ more)) halves
    ∙ ap (λ (rest : List ℕ). text ++ rest) (append_assoc (take i part) (get_or part i 0 ∷ drop (i + 1) part) more)
    ∙ sym (append_assoc text (take i part) (get_or part i 0 ∷ (drop (i + 1) part ++ more)))

pub byte_more : (text part : List ℕ) (i : ℕ) → i < length part → (text ++ take i part) ++ get_or part i 0 ∷ [] ≡ text ++ take (i + 1) part
byte_more text part i lt = append_assoc text (take i part) (get_or part i 0 ∷ []) ∙ ap (λ (front : List ℕ). text ++ front) (sym (take_more part i 0 lt))
