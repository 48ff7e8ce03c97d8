-- The places of shared links stay noted where the notes and the names of the links stay.
use Rattle.dn_shaper.proofs.Words.{IsIndexed, Link, List, Option, State, ap, at_number, subst, sym, ℕ, ◌∙◌, ◌≡◌}

pub indexed-still : (s t : State) (names names' : List Link) → t.shared ≡ s.shared → names' ≡ names → IsIndexed s names → IsIndexed t names'
indexed-still s t names names' notes same i = subst (λ (ls : List Link). IsIndexed t ls) (sym same) (record {
  found = λ pipe place e. i.found pipe place (sym (ap (λ (ps : List (Option ℕ)). at_number ps pipe) notes) ∙ e);
  missing = λ pipe e. i.missing pipe (sym (ap (λ (ps : List (Option ℕ)). at_number ps pipe) notes) ∙ e);
})
