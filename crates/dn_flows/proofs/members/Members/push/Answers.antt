-- The flow joins one list, and all lists keep what they had.
use Rattle.dn_flows.proofs.Words.{Bool, Err, List, Ok, OnErr, OnOk, Result, [], ap, cond, false, list_any, list_at, nat_eq, refl, true, ℕ, ◌++◌, ◌∙◌, ◌∷◌, ◌≡◌}
use Rattle.dn_flows.proofs.Lists.{in-last, in-more}
use Rattle.dn_flows.proofs.Places.{eq-yes}
use Rattle.dn_flows.proofs.members.Members.push.Goals as goal

abbrev Joins : List (List ℕ) → List (List ℕ) → ℕ → ℕ → Type 0
Joins old new number flow = (other : ℕ) → list_at new other ≡ cond (nat_eq number other) (list_at old other ++ flow ∷ []) (list_at old other)

abbrev Stays : List (List ℕ) → List (List ℕ) → Type 0
Stays old new = (other : ℕ) → list_at new other ≡ list_at old other

kept-by : (b : Bool) (g flow : ℕ) (old new : List ℕ) → new ≡ cond b (old ++ flow ∷ []) old → list_any (nat_eq g) old ≡ true → list_any (nat_eq g) new ≡ true
kept-by true g flow old new is h = ap (λ (l : List ℕ). list_any (nat_eq g) l) is ∙ in-more g flow old h
kept-by false g flow old new is h = ap (λ (l : List ℕ). list_any (nat_eq g) l) is ∙ h

keeps : {T E : Type 0} (r : Result T E) (old new : List (List ℕ)) (number flow : ℕ) → OnOk r (Joins old new number flow) → OnErr r (Stays old new) → (other g : ℕ)
    → list_any (nat_eq g) (list_at old other) ≡ true → list_any (nat_eq g) (list_at new other) ≡ true
keeps (Ok x) old new number flow ok err other g h = kept-by (nat_eq number other) g flow (list_at old other) (list_at new other) (ok other) h
keeps (Err e) old new number flow ok err other g h = ap (λ (l : List ℕ). list_any (nat_eq g) l) (err other) ∙ h

joins : {T E : Type 0} (r : Result T E) (old new : List (List ℕ)) (number flow : ℕ) → OnOk r (Joins old new number flow) → OnOk r (list_any (nat_eq flow) (list_at new number) ≡ true)
joins (Ok x) old new number flow ok =
    ap (λ (l : List ℕ). list_any (nat_eq flow) l) (ok number ∙ ap (λ b. cond b (list_at old number ++ flow ∷ []) (list_at old number)) (eq-yes number number refl)) ∙ in-last flow (list_at old number)
joins (Err e) old new number flow ok = tt
