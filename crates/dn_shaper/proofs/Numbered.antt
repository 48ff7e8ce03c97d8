-- What stands under each number after a place is made, and after a write.
use Rattle.dn_shaper.proofs.Words.{Box, Command, Global, List, None, Option, Sets, Some, [], ap, arith, at_number, cases_eq, cases_lt, cond, count_at, eq-no, eq-yes, get_or-set_other}
use Rattle.dn_shaper.proofs.Words.{get_or-set_same, get_or_past, length, length-map, nat_eq, one_for, option_map, refl, set, suc, sym, unboxed, zero, ℕ, ⊎_elim, ◌++◌, ◌<◌, ◌∙◌, ◌∷◌, ◌≡◌, ◌≤◌}
use Rattle.std.proofs.lemmas.List.{map-set}

abbrev pub Place : Type 0
Place = Option (Box Command Global)

abbrev pub command-in : Place → Option Command
command-in place = option_map (λ block. block.value) place

-- A place more, with none under it.
pub one-place : (places : List Place) (n : ℕ) → at_number (unboxed (places ++ None ∷ [])) n ≡ at_number (unboxed places) n
one-place [] zero = refl
one-place [] (suc n) = refl
one-place (p ∷ ps) zero = refl
one-place (p ∷ ps) (suc n) = one-place ps n

written : {A : Type 0} (kept : List (Option A)) (i : ℕ) (o : Option A) → i < length kept → (n : ℕ) → at_number (set kept i o) n ≡ cond (nat_eq i n) o (at_number kept n)
written kept i o lt n = ⊎_elim here there (cases_eq i n)
  where
    here : i ≡ n → at_number (set kept i o) n ≡ cond (nat_eq i n) o (at_number kept n)
    here is =
        let a : at_number (set kept i o) n ≡ at_number (set kept i o) i = ap (λ k. at_number (set kept i o) k) (sym is) in
        let b : at_number (set kept i o) i ≡ o = get_or-set_same kept i o None lt in
        let c : cond (nat_eq i n) o (at_number kept n) ≡ o = ap (λ b. cond b o (at_number kept n)) (eq-yes i n is) in
        a ∙ b ∙ sym c

    there : (i ≡ n → ⊥) → at_number (set kept i o) n ≡ cond (nat_eq i n) o (at_number kept n)
    there ne =
        let a : at_number (set kept i o) n ≡ at_number kept n = get_or-set_other kept i n o None (λ e. ne (sym e)) in
        let c : cond (nat_eq i n) o (at_number kept n) ≡ at_number kept n = ap (λ b. cond b o (at_number kept n)) (eq-no i n ne) in
        a ∙ sym c

-- A write at a number, where what stands under each was the same before.
pub writes : {A : Type 0} (kept old : List (Option A)) (i number : ℕ) (o : Option A) → i ≡ number → i < length kept → ((n : ℕ) → at_number kept n ≡ at_number old n) →
    Sets number o old (set kept i o)
writes kept old i number o is lt same n = written kept i o lt n ∙ (λ j. cond (nat_eq (is j) n) o (same n j))

-- A command is put into a place, where the commands are seen so and were the same before.
pub puts-in : (places : List Place) (seen old : List (Option Command)) (i number : ℕ) (place : Place) (setting : Option Command) → unboxed places ≡ seen → i ≡ number →
    i < length places → command-in place ≡ setting → ((n : ℕ) → at_number seen n ≡ at_number old n) → Sets number setting old (unboxed (set places i place))
puts-in places seen old i number place setting seen-is is lt setting-is same n =
    let lt' : i < length (unboxed places) = let e = length-map places command-in in omega (arith, e, lt) in
    ap (λ kept. at_number kept n) (map-set command-in places i place)
    ∙ writes (unboxed places) old i number (command-in place) is lt' (λ n. ap (λ kept. at_number kept n) seen-is ∙ same n) n
    ∙ ap (λ o. cond (nat_eq number n) o (at_number old n)) setting-is

-- A count above 0 has a place.
pub has-place : (counts : List ℕ) (o : Option ℕ) (pipe : ℕ) → o ≡ Some pipe → ((p : ℕ) → one_for o p ≤ count_at counts p) → pipe < length counts
has-place counts o pipe is counted = ⊎_elim (λ lt. lt) (λ past. absurd (below past)) (cases_lt pipe (length counts))
  where
    below : length counts ≤ pipe → ⊥
    below past =
        let a = counted pipe in
        let b : one_for o pipe ≡ 1 = ap {B = ℕ} (λ o. one_for o pipe) is ∙ ap {B = ℕ} (λ b. cond b 1 0) (eq-yes pipe pipe refl) in
        let c = get_or_past counts pipe 0 past in
        omega (arith, a, b, c)
