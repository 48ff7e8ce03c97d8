-- Links that are not among those seen.
use Rattle.dn_shaper.proofs.Words.{Bool, Link, List, [], ap, cond, false, link_eq, link_eq-refl, link_eq-true, list_any, list_any-append, or_parts, refl, sym, true, true_or_false, with_link}
use Rattle.dn_shaper.proofs.Words.{⊎_elim, ◌++◌, ◌||◌, ◌∙◌, ◌∷◌, ◌≡◌}

pub not_eq : (l m : Link) → (l ≡ m → ⊥) → link_eq l m ≡ false
not_eq l m h = ⊎_elim (λ same. absurd (h (link_eq-true l m same))) (λ other. other) (true_or_false (link_eq l m))

-- What is not among the links after one more, is not among them before, and is another.
pub not_with : (link l : Link) (ls : List Link) → list_any (link_eq link) (with_link l ls) ≡ false → (list_any (link_eq link) ls ≡ false) × (link_eq l link ≡ false)
not_with link l ls e = by_test (list_any (link_eq l) ls) refl e
  where
    by_test : (b : Bool) → list_any (link_eq l) ls ≡ b → list_any (link_eq link) (cond b ls (ls ++ l ∷ [])) ≡ false → (list_any (link_eq link) ls ≡ false) × (link_eq l link ≡ false)
    by_test true is absent = (
      absent,
      not_eq l link
          (λ same. let there : list_any (link_eq link) ls ≡ true = sym (ap (λ (m : Link). list_any (link_eq m) ls) same) ∙ is in let t : true ≡ false = sym there ∙ absent in cc),
    )
    by_test false is absent =
        let split = sym (list_any-append (link_eq link) ls (l ∷ [])) ∙ absent in
        let not_last = (or_parts (link_eq link l) false (or_parts (list_any (link_eq link) ls) (list_any (link_eq link) (l ∷ [])) split).1).0 in (
          (or_parts (list_any (link_eq link) ls) (list_any (link_eq link) (l ∷ [])) split).0,
          not_eq l link (λ same. let here : link_eq link l ≡ true = ap (link_eq link) same ∙ link_eq-refl link in let t : true ≡ false = sym here ∙ not_last in cc),
        )
