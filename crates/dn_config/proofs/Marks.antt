-- How a joined input is cut at its first line `--`.
use Rattle.dn_config.proofs.Vocabulary.{Bool, List, None, Option, Some, [], add-one, after_mark, ap, append-nil, append_assoc, drop, drop-cons, drop_all, false, get_or, is_some, length, parts_from}
use Rattle.dn_config.proofs.Vocabulary.{refl, suc, sym, take, take_more, true, ℕ, ◌&&◌, ◌++◌, ◌+◌, ◌<◌, ◌==◌, ◌∙◌, ◌∷◌, ◌≡◌, ◌≤◌}

abbrev pub behind : List ℕ → List ℕ × List ℕ → List ℕ × List ℕ
behind front p = (front ++ p.0, p.1)

regroup : (front : List ℕ) (c : ℕ) (p : List ℕ × List ℕ) → behind front (c ∷ p.0, p.1) ≡ behind (front ++ c ∷ []) p
regroup front c p = ap (λ (t : List ℕ). (t, p.1)) (sym (append_assoc front (c ∷ []) p.0))

one : (start : Bool) (c : ℕ) (rest : List ℕ) → (start && is_some (after_mark (c ∷ rest))) ≡ false → parts_from start (c ∷ rest) ≡ (c ∷ (parts_from (c == 10) rest).0, (parts_from (c == 10) rest).1)
unfolding parts_from
one start c rest e = rw e refl

marked : (c : ℕ) (rest out : List ℕ) → after_mark (c ∷ rest) ≡ Some out → parts_from true (c ∷ rest) ≡ ([], out)
unfolding parts_from
marked c rest out e = rw e refl

pub steps : (l : List ℕ) (i c : ℕ) (start : Bool) (total : List ℕ × List ℕ) → i < length l → get_or l i 0 ≡ c
    → (start && is_some (after_mark (drop i l))) ≡ false → behind (take i l) (parts_from start (drop i l)) ≡ total
    → behind (take (i + 1) l) (parts_from (c == 10) (drop (i + 1) l)) ≡ total
steps l i c start total lt e plain so_far =
    let cut : drop i l ≡ c ∷ drop (i + 1) l = drop-cons l i 0 lt ∙ ap (λ (x : ℕ). x ∷ drop (suc i) l) e ∙ ap (λ (n : ℕ). c ∷ drop n l) (sym (add-one i)) in
    let front : take (i + 1) l ≡ take i l ++ c ∷ [] = take_more l i 0 lt ∙ ap (λ (x : ℕ). take i l ++ x ∷ []) e in
    let no_mark = rw cut at plain in
    let whole = rw cut at so_far in
    ap (λ (t : List ℕ). behind t (parts_from (c == 10) (drop (i + 1) l))) front
    ∙ sym (regroup (take i l) c (parts_from (c == 10) (drop (i + 1) l)))
    ∙ ap (behind (take i l)) (sym (one start c (drop (i + 1) l) no_mark))
    ∙ whole

pub found : (l : List ℕ) (i : ℕ) (out : List ℕ) (total : List ℕ × List ℕ) → i < length l → after_mark (drop i l) ≡ Some out
    → behind (take i l) (parts_from true (drop i l)) ≡ total → (take i l, out) ≡ total
found l i out total lt e so_far =
    let cut = drop-cons l i 0 lt in
    let mark = rw cut at e in
    let whole = rw cut at so_far in
    ap (λ (t : List ℕ). (t, out)) (sym (append-nil (take i l))) ∙ ap (behind (take i l)) (sym (marked _ _ out mark)) ∙ whole

pub unmarked : (l : List ℕ) (i : ℕ) (start : Bool) (total : List ℕ × List ℕ) → length l ≤ i → behind (take i l) (parts_from start (drop i l)) ≡ total → (take i l, []) ≡ total
unfolding parts_from
unmarked l i start total le so_far =
    let whole = rw (drop_all i l le) at so_far in
    ap (λ (t : List ℕ). (t, [])) (sym (append-nil (take i l))) ∙ whole

pub no_mark : (o : Option (List ℕ)) → None ≡ o → (true && is_some o) ≡ false
no_mark o e = rw (← e) refl
