-- How a text is cut at its first point.
use Rattle.dn_config.proofs.Vocabulary.{List, None, Option, Some, [], add-one, ap, append-nil, append_assoc, arith, at_point, drop, drop-cons, drop_all, false, get_or, length, nat_tests, option_map}
use Rattle.dn_config.proofs.Vocabulary.{refl, suc, sym, take, take_more, ℕ, ◌++◌, ◌+◌, ◌<◌, ◌==◌, ◌∙◌, ◌∷◌, ◌≡◌, ◌≢◌, ◌≤◌}

abbrev pub behind : List ℕ → Option (List ℕ × List ℕ) → Option (List ℕ × List ℕ)
behind front o = option_map (λ p. (front ++ p.0, p.1)) o

whole : (front rest : List ℕ) (o : Option (List ℕ × List ℕ)) → o ≡ behind front (Some ([], rest)) → Some (front, rest) ≡ o
whole front rest o e = sym (e ∙ ap (λ (t : List ℕ). Some (t, rest)) (append-nil front))

pub here : (l : List ℕ) (i : ℕ) → i < length l → get_or l i 0 ≡ 46 → at_point l ≡ behind (take i l) (at_point (drop i l))
    → Some (take i l, drop (i + 1) l) ≡ at_point l
unfolding at_point
here l i lt e so_far =
    let cut : at_point (drop i l) ≡ Some ([], drop (i + 1) l) = rw (drop-cons l i 0 lt, e, add-one) refl in
    whole (take i l) (drop (i + 1) l) (at_point l) (so_far ∙ ap (behind (take i l)) cut)

pub not_point : (c : ℕ) → c ≢ 46 → (c == 46) ≡ false
not_point c ne = grind (arith, nat_tests)

pub nowhere : (l : List ℕ) (i : ℕ) → length l ≤ i → at_point l ≡ behind (take i l) (at_point (drop i l)) → None ≡ at_point l
unfolding at_point
nowhere l i le so_far = sym (so_far ∙ ap (λ (t : List ℕ). behind (take i l) (at_point t)) (drop_all i l le))

regroup : (front : List ℕ) (c : ℕ) (o : Option (List ℕ × List ℕ)) → behind front (option_map (λ p. (c ∷ p.0, p.1)) o) ≡ behind (front ++ c ∷ []) o
regroup front c None = refl
regroup front c (Some p) = ap (λ (t : List ℕ). Some (t, p.1)) (sym (append_assoc front (c ∷ []) p.0))

pub later : (l : List ℕ) (i c : ℕ) → i < length l → get_or l i 0 ≡ c → (c == 46) ≡ false → behind (take i l) (at_point (drop i l)) ≡ behind (take (i + 1) l) (at_point (drop (i + 1) l))
unfolding at_point
later l i c lt e test =
    rw (drop-cons l i 0 lt, e, add-one, test) (regroup (take i l) c (at_point (drop (suc i) l)) ∙ ap
    (λ (t : List ℕ). behind t (at_point (drop (suc i) l)))
    (ap (λ (d : ℕ). take i l ++ d ∷ []) (sym e) ∙ sym (take_more l i 0 lt) ∙ ap (λ (n : ℕ). take n l) (add-one i)))
