-- The links of a trace are distinct.
use Rattle.dn_shaper.proofs.Words.{AreDistinct, Bool, Event, Link, List, Some, [], ap, arrived, collected, cond, discarded, false, inl, inr, length, link_eq, link_eq-refl, link_eq-true, links}
use Rattle.dn_shaper.proofs.Words.{list_any, lost, opened, or_parts, refl, refused, slice_get, started, suc, sym, true, true_or_false, with_link, zero, ℕ, ⊎_elim, ◌++◌, ◌||◌, ◌∙◌, ◌∷◌, ◌≡◌, ◌⊎◌}

in_append : (ls : List Link) (m : Link) (i : ℕ) (l : Link) → slice_get (ls ++ m ∷ []) i ≡ Some l → (slice_get ls i ≡ Some l) ⊎ ((i ≡ length ls) × (l ≡ m))
in_append [] m zero l e = let same : m ≡ l = cc in inr (refl, sym same)
in_append [] m (suc i) l e = absurd cc
in_append (x ∷ ls) m zero l e = inl e
in_append (x ∷ ls) m (suc i) l e = ⊎_elim (λ h. inl h) (λ h. inr (ap suc h.0, h.1)) (in_append ls m i l e)

not_in : (ls : List Link) (m : Link) (i : ℕ) (l : Link) → list_any (link_eq m) ls ≡ false → slice_get ls i ≡ Some l → link_eq m l ≡ false
not_in [] m i l none e = absurd cc
not_in (x ∷ ls) m zero l none e = let same : x ≡ l = cc in ap (link_eq m) (sym same) ∙ (or_parts (link_eq m x) (list_any (link_eq m) ls) none).0
not_in (x ∷ ls) m (suc i) l none e = not_in ls m i l (or_parts (link_eq m x) (list_any (link_eq m) ls) none).1 e

other-way : (l m : Link) → link_eq m l ≡ false → link_eq l m ≡ false
other-way l m e = ⊎_elim
    (λ same. absurd (let here : link_eq m l ≡ true = ap (link_eq m) (link_eq-true l m same) ∙ link_eq-refl m in let t : true ≡ false = sym here ∙ e in cc))
    (λ no'. no') (true_or_false (link_eq l m))

pub distinct-more : (ls : List Link) (m : Link) → AreDistinct ls → list_any (link_eq m) ls ≡ false → AreDistinct (ls ++ m ∷ [])
distinct-more ls m d none i j l k e f ne = by (in_append ls m i l e) (in_append ls m j k f)
  where
    by : (slice_get ls i ≡ Some l) ⊎ ((i ≡ length ls) × (l ≡ m)) → (slice_get ls j ≡ Some k) ⊎ ((j ≡ length ls) × (k ≡ m)) → link_eq l k ≡ false
    by (inl a) (inl b) = d i j l k a b ne
    by (inl a) (inr b) = ap (link_eq l) b.1 ∙ other-way l m (not_in ls m i l none a)
    by (inr a) (inl b) = ap (λ (x : Link). link_eq x k) a.1 ∙ not_in ls m j k none b
    by (inr a) (inr b) = absurd (ne (a.0 ∙ sym b.0))

distinct-with : (l : Link) (ls : List Link) → AreDistinct ls → AreDistinct (with_link l ls)
distinct-with l ls d = by (list_any (link_eq l) ls) refl
  where
    by : (b : Bool) → list_any (link_eq l) ls ≡ b → AreDistinct (cond b ls (ls ++ l ∷ []))
    by true is = d
    by false is = distinct-more ls l d is

pub links-distinct : (trace : List Event) → AreDistinct (links trace)
links-distinct [] = λ i j l m e f ne. absurd cc
links-distinct (opened l ∷ trace) = links-distinct trace
links-distinct (arrived p ∷ trace) = distinct-with p.link (links trace) (links-distinct trace)
links-distinct (started s ∷ trace) = links-distinct trace
links-distinct (lost l f ∷ trace) = distinct-with l (links trace) (links-distinct trace)
links-distinct (refused l f ∷ trace) = distinct-with l (links trace) (links-distinct trace)
links-distinct (discarded f ∷ trace) = links-distinct trace
links-distinct (collected at ∷ trace) = links-distinct trace
