-- Marks, one delivery at a time.
use Rattle.dn_replay.proofs.Words.{AreMarksOf, Bool, Delivery, List, None, Option, Some, [], ap, arith, cases_Bool, cond, delivery_of_packet, false, find-append, get_or, get_or-replicate}
use Rattle.dn_replay.proofs.Words.{get_or-set_other, get_or-set_same, inl, inr, is_some, length, length-replicate, nat_eq, nat_tests, option_or, refl, replicate, set, sym, take, take_more, true}
use Rattle.dn_replay.proofs.Words.{ℕ, ◌+◌, ◌<◌, ◌||◌, ◌∙◌, ◌∷◌, ◌≡◌, ◌≢◌, ◌≤◌}

-- A mark for each of n packets.
pub record IsMarked (marks : List Bool) (n : ℕ) (given : List Delivery) : Type 0 where
  pub count : length marks ≡ n
  pub marked : AreMarksOf marks n given

pub no-marks : (n : ℕ) (marks : List Bool) → marks ≡ replicate n false → IsMarked marks n []
no-marks n marks is = rw is (record { count = length-replicate n false; marked = λ packet lt. get_or-replicate n packet false true lt })

pub mark-more : (old new : List Bool) (n i : ℕ) (given : List Delivery) (d : Delivery) → i < length given → IsMarked old n (take i given)
    → length new ≡ length old → ((p : ℕ) → p < length old → get_or new p true ≡ get_or old p true || nat_eq (get_or given i d).packet p)
    → IsMarked new n (take (i + 1) given)
mark-more old new n i given d lt h len marked = record {
  count = len ∙ h.count;
  marked = λ packet below.
      let own = marked packet (let c = h.count in omega (arith, c, below)) in
      let so_far = h.marked packet below in
      let more : delivery_of_packet packet (take (i + 1) given) ≡ option_or (delivery_of_packet packet (take i given)) (delivery_of_packet packet (get_or given i d ∷ [])) =
      ap (delivery_of_packet packet) (take_more given i d lt) ∙ find-append (λ d. nat_eq d.packet packet) (take i given) (get_or given i d ∷ []) in
      own ∙ rw (so_far, more) (joined (delivery_of_packet packet (take i given)) (get_or given i d) (nat_eq (get_or given i d).packet packet));
}
  where
    joined : (o : Option Delivery) (d : Delivery) (b : Bool) → is_some o || b ≡ is_some (option_or o (cond b (Some d) None))
    joined None d true = refl
    joined _ d _ = refl

pub mark-set : (old : List Bool) (place packet p : ℕ) → place ≡ packet → place < length old → get_or (set old place true) p true ≡ get_or old p true || nat_eq packet p
mark-set old place packet p is lt = elim (cases_Bool (nat_eq packet p)) [
  | inl same ↦
      let e : p ≡ place = grind (arith, nat_tests) in
      rw (same, e) (get_or-set_same old place true true lt ∙ sym (or-true (get_or old place true)))
  | inr other ↦
      let e : p ≢ place = grind (arith, nat_tests) in
      rw other (get_or-set_other old place p true true e ∙ sym (or-false (get_or old p true)))
]
  where
    or-true : (b : Bool) → b || true ≡ true
    or-true true = refl
    or-true false = refl

    or-false : (b : Bool) → b || false ≡ b
    or-false true = refl
    or-false false = refl

pub mark-far : (old : List Bool) (packet p : ℕ) → length old ≤ packet → p < length old → get_or old p true ≡ get_or old p true || nat_eq packet p
mark-far old packet p far below =
    let other : nat_eq packet p ≡ false = grind (arith, nat_tests) in
    rw other (sym (same (get_or old p true)))
  where
    same : (b : Bool) → b || false ≡ b
    same true = refl
    same false = refl
