-- The texts of entries one after the other: of one entry more, and of a first one that has no room.
use Rattle.hingetulip_c.proofs.Words.{Entry, List, [], ap, arith, drop, entry_records, false, get_or, inl, inr, length, length-take-le, next_text, part_text, subst, sym, take, text_of, texts-more}
use Rattle.hingetulip_c.proofs.Words.{ℕ, ◌++◌, ◌+◌, ◌<◌, ◌==◌, ◌∙◌, ◌≡◌, ◌≤◌, ◌⊎◌}

-- The text of one entry more.
pub one_more : (entries : List Entry) (i : ℕ) (d : Entry) (before after : List ℕ) → i < length entries → before ≡ part_text (take i entries)
    → after ≡ before ++ text_of (entry_records (get_or entries i d)) → after ≡ part_text (take (i + 1) entries)
one_more entries i d before after lt so_far is =
    is ∙ ap (λ (t : List ℕ). t ++ text_of (entry_records (get_or entries i d))) so_far ∙ texts-more entry_records [] entries i d lt

-- None of the entries fits: the text that was made is that of the first.
pub none_fits : (given waits : List Entry) (n size room : ℕ) (made : List ℕ) → given ≡ waits → (length given == 0) ≡ false → n ≡ 0
    → size ≤ length made → take size made ≡ part_text (take n given)
    → (drop n given ≡ []) ⊎ ((room < length made) × (length made ≡ size + length (next_text (drop n given))))
    → (room < length made) × (length made ≡ length (next_text waits))
unfolding text_of
none_fits given waits n size room made is filled none within front (inl all) =
    let empty : given ≡ [] = ap (λ (k : ℕ). drop k given) (sym none) ∙ all in
    let no = subst (λ (es : List Entry). (length es == 0) ≡ false) empty filled in cc no
none_fits given waits n size room made is filled none within front (inr over) =
    let small : size ≡ 0 = sym (length-take-le size made within) ∙ ap (length {A = ℕ}) front ∙ ap (λ (k : ℕ). length (part_text (take k given))) none in
    let same : drop n given ≡ waits = ap (λ (k : ℕ). drop k given) none ∙ is in
    let next : length (next_text (drop n given)) ≡ length (next_text waits) = ap (λ (es : List Entry). length (next_text es)) same in
    (over.0, omega (arith, over.1, small, next))
