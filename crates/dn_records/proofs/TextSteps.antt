-- Texts of records: one record more, and the records of one item more.
use Rattle.dn_records.proofs.Words.{Fields, List, [], ap, append-nil, append_assoc, flat_map, flat_map_more, get_or, length, line_of, map, map_push, refl, sym, take, take_more, text_of, ℕ, ◌++◌}
use Rattle.dn_records.proofs.Words.{◌+◌, ◌<◌, ◌∙◌, ◌∷◌, ◌≡◌}

-- The text of records and of further ones.
pub text-append : (front back : List Fields) → text_of (front ++ back) ≡ text_of front ++ text_of back
unfolding text_of
text-append [] back = refl
text-append (first ∷ front) back = rw (text-append front back) (sym (append_assoc (line_of first) (text_of front) (text_of back)))

-- The text of one record more.
pub text-push : (front : List Fields) (last : Fields) → text_of (front ++ last ∷ []) ≡ text_of front ++ line_of last
unfolding text_of
text-push front last = text-append front (last ∷ []) ∙ ap (λ (t : List ℕ). text_of front ++ t) (append-nil (line_of last))

-- The text of no record.
pub text-none : (start : List ℕ) → start ≡ start ++ text_of []
unfolding text_of
text-none start = sym (append-nil start)

-- The text of one item more, where each has a record.
pub text-more : {X : Type 0} (fields : X → Fields) (start : List ℕ) (items : List X) (i : ℕ) (d : X) → i < length items
    → (start ++ text_of (map fields (take i items))) ++ line_of (fields (get_or items i d)) ≡ start ++ text_of (map fields (take (i + 1) items))
text-more fields start items i d lt =
    let more : map fields (take (i + 1) items) ≡ map fields (take i items) ++ fields (get_or items i d) ∷ [] =
    ap (map fields) (take_more items i d lt) ∙ map_push fields (take i items) (get_or items i d) in
    append_assoc start _ _ ∙ ap (λ (t : List ℕ). start ++ t) (sym (text-push (map fields (take i items)) (fields (get_or items i d))) ∙ ap text_of (sym more))

-- The text of one item more, where each has a list of records.
pub texts-more : {X : Type 0} (records : X → List Fields) (start : List ℕ) (items : List X) (i : ℕ) (d : X) → i < length items
    → (start ++ text_of (flat_map records (take i items))) ++ text_of (records (get_or items i d)) ≡ start ++ text_of (flat_map records (take (i + 1) items))
texts-more records start items i d lt =
    let more : flat_map records (take (i + 1) items) ≡ flat_map records (take i items) ++ records (get_or items i d) =
    ap (flat_map records) (take_more items i d lt) ∙ sym (flat_map_more records [] (take i items) (get_or items i d)) in
    append_assoc start _ _ ∙ ap (λ (t : List ℕ). start ++ t) (sym (text-append (flat_map records (take i items)) (records (get_or items i d))) ∙ ap text_of (sym more))
