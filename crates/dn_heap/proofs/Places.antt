-- How the places follow the keys, where two change places.
use Rattle.dn_heap.proofs.Words.{ArePlaced, ArePlacedBut, ArePlacedFor, Bool, IsMoved, IsOrdered, IsPermutation-refl, IsPermutation-swap, IsPermutation-trans, List, [], any-default, ap}
use Rattle.dn_heap.proofs.Words.{append-nil, arith, as_core, drop, drop_of_length-le, get_or, get_or-set_other, get_or-set_same, inl, inr, length, length-set, refl, set, set-get_or, subst, suc}
use Rattle.dn_heap.proofs.Words.{swap, swap_is, swap_places, sym, take, take_all, which, zero, ℕ, ◌++◌, ◌<◌, ◌∙◌, ◌∷◌, ◌≡◌}
use Rattle.core.specs.List as holes

differ : (l : List ℕ) (m n a b : ℕ) → get_or l m 0 ≡ a → get_or l n 0 ≡ b → (a ≡ b → ⊥) → m ≡ n → ⊥
differ l m n a b p q apart e = apart (sym p ∙ ap (λ i. get_or l i 0) e ∙ q)

-- x goes from `at` to `to`, y from `to` to `at`, and any other key stays
module _ (places : List ℕ) (x y at to : ℕ) (apart : to ≡ at → ⊥) (has_x : x < length places) (has_y : y < length places) (was : get_or (set places x at) y 0 ≡ to) where
  y_is_not_x : y ≡ x → ⊥
  y_is_not_x = differ (set places x at) y x to at was (get_or-set_same places x at 0 has_x) apart

  moved_x : get_or (set (set places y at) x to) x 0 ≡ to
  moved_x = get_or-set_same (set places y at) x to 0 (omega (arith, has_x, length-set places y at))

  moved_y : get_or (set (set places y at) x to) y 0 ≡ at
  moved_y = get_or-set_other (set places y at) x y to 0 y_is_not_x ∙ get_or-set_same places y at 0 has_y

  others : (n k : ℕ) → get_or (set places x at) n 0 ≡ k → (k ≡ at → ⊥) → (k ≡ to → ⊥) → get_or (set (set places y at) x to) n 0 ≡ k
  others n k e not_at not_to =
      let not_x : n ≡ x → ⊥ = differ (set places x at) n x k at e (get_or-set_same places x at 0 has_x) not_at in
      let not_y : n ≡ y → ⊥ = differ (set places x at) n y k to e was not_to in
      get_or-set_other (set places y at) x n to 0 not_x ∙ get_or-set_other places y n at 0 not_y ∙ sym (get_or-set_other places x n at 0 not_x) ∙ e

module _ {K : Type 0} (number : K → ℕ) where
  -- the number of the key whose place isn't written has one
  pub has_place : (keys : List K) (places : List ℕ) (at : ℕ) (d : K) → at < length keys → ArePlacedBut number keys places at → number (get_or keys at d) < length places
  has_place keys places at d within h = omega (arith, (h d at within).0, length-set places (number (get_or keys at d)) at)

  pub has_places : (keys : List K) (places : List ℕ) (at k : ℕ) (d : K) → k < length keys → ArePlacedBut number keys places at → number (get_or keys k d) < length places
  has_places keys places at k d within h = omega (arith, (h d k within).0, length-set places (number (get_or keys at d)) at)

  -- what is read of the key at a place
  pub read_at : (keys : List K) (at n : ℕ) (y : K) → at < length keys → n ≡ number y → y ≡ get_or keys at y → (d : K) → n ≡ number (get_or keys at d)
  read_at keys at n y within e is d = e ∙ ap number (is ∙ any-default keys at y d within)

  -- what a vector holds after a call that had all of it
  pub all_of : (l items : List K) (n : ℕ) → length l ≡ n → length items ≡ n → take n (l ++ drop (length l) items) ≡ l
  all_of l items n long whole =
      ap (λ (m : List K). take n (l ++ m)) (drop_of_length-le items (omega (arith, long, whole))) ∙ ap (take n) (append-nil l) ∙ take_all n l (omega (arith, long))

  -- two keys, each read and written at the other's place
  pub crossed : (keys : List K) (at to : ℕ) (x y : K) → at < length keys → to < length keys → x ≡ get_or keys at x → y ≡ get_or keys to y → set (set keys at y) to x ≡ holes.swap keys at to
  crossed keys at to x y within within' ex ey =
      (λ i. set (set keys at ((ey ∙ any-default keys to y x within') i)) to (ex i)) ∙ swap_is keys at to x within within' ∙ sym (as_core keys at to)

  set_again : (keys : List K) (at : ℕ) (x y : K) → set (set keys at x) at y ≡ set keys at y
  set_again [] at x y = refl
  set_again (k ∷ keys) zero x y = refl
  set_again (k ∷ keys) (suc at) x y = ap (λ (l : List K). k ∷ l) (set_again keys at x y)

  -- the key x at `to` is beside the hole at `at`, which stands for `key`
  pub beside : (keys : List K) (key : K) (at to : ℕ) → (to ≡ at → ⊥) → (d : K) → get_or (set keys at key) to d ≡ get_or keys to d
  beside keys key at to apart d = get_or-set_other keys at to key d apart

  -- it goes to the hole, which is at its place then
  pub hole_moved : (keys : List K) (key x : K) (at to : ℕ) → at < length keys → to < length keys → (to ≡ at → ⊥) → x ≡ get_or keys to x
      → set (set keys at x) to key ≡ holes.swap (set keys at key) at to
  hole_moved keys key x at to within within' apart is =
      let long = length-set keys at key in
      ap (λ (l : List K). set l to key) (sym (set_again keys at key x))
      ∙ crossed (set keys at key) at to key x (omega (arith, long, within)) (omega (arith, long, within')) (sym (get_or-set_same keys at key key within)) (is ∙ sym (beside keys key at to apart x))

  -- a hole in whose place is what it stands for
  pub as_it_is : (keys : List K) (at : ℕ) (key : K) → key ≡ get_or keys at key → set keys at key ≡ keys
  as_it_is keys at key is = ap (λ (k : K). set keys at k) is ∙ set-get_or keys at key

  pub stepped : (keys keys' : List K) (places : List ℕ) (at to : ℕ) → at < length keys → to < length keys → length keys' ≡ length keys → (to ≡ at → ⊥) → keys' ≡ holes.swap keys at to
      → (n : ℕ) → ((d : K) → n ≡ number (get_or keys' at d)) → ArePlacedBut number keys places at → ArePlacedBut number keys' (set places n at) to
  stepped keys keys' places at to within within' long apart is n numbered h = λ d k lt.
      let s = swap_places keys keys' at to d within within' is in
      let x = number (get_or keys at d) in
      let y = number (get_or keys to d) in
      let has_x = has_places keys places at at d within h in
      let has_y = has_places keys places at to d within' h in
      let was = (h d to within').1 in
      let n_is : n ≡ y = numbered d ∙ ap number s.0 in
      let x_is : number (get_or keys' to d) ≡ x = ap number s.1 in
      let count : length (set (set places y at) x to) ≡ length places = length-set (set places y at) x to ∙ length-set places y at in
      let there : (number (get_or keys' k d) < length (set (set places y at) x to)) × (get_or (set (set places y at) x to) (number (get_or keys' k d)) 0 ≡ k) = elim (which k to) [
        | inl e ↦
            let z : number (get_or keys' k d) ≡ x = ap (λ m. number (get_or keys' m d)) e ∙ x_is in
            (omega (arith, z, has_x, count), ap (λ m. get_or (set (set places y at) x to) m 0) z ∙ moved_x places x y at to apart has_x has_y was ∙ sym e)
        | inr not_to ↦ elim (which k at) [
          | inl e ↦
              let z : number (get_or keys' k d) ≡ y = ap (λ m. number (get_or keys' m d)) e ∙ ap number s.0 in
              (omega (arith, z, has_y, count), ap (λ m. get_or (set (set places y at) x to) m 0) z ∙ moved_y places x y at to apart has_x has_y was ∙ sym e)
          | inr not_at ↦
              let in' : k < length keys = omega (arith, lt, long) in
              let z : number (get_or keys' k d) ≡ number (get_or keys k d) = ap number (s.2 k not_at not_to) in
              let has = has_places keys places at k d in' h in (
                omega (arith, z, has, count),
                ap (λ m. get_or (set (set places y at) x to) m 0) z
                    ∙ others places x y at to apart has_x has_y was (number (get_or keys k d)) k (h d k in').1 not_at not_to,
              )
        ]
      ] in
      subst (λ l. (number (get_or keys' k d) < length l) × (get_or l (number (get_or keys' k d)) 0 ≡ k)) (λ i. set (set places (sym n_is i) at) (sym x_is i) to) there

  pub hole_step : (keys : List K) (places : List ℕ) (key x : K) (at to n : ℕ) → at < length keys → to < length keys → (to ≡ at → ⊥) → x ≡ get_or keys to x → n ≡ number x
      → ArePlacedBut number (set keys at key) places at → IsMoved number (set keys at key) (set (set keys at x) to key) places (set places n at) to
  hole_step keys places key x at to n within within' apart is numbered placed =
      let was = set keys at key in
      let new = set (set keys at x) to key in
      let long : length was ≡ length keys = length-set keys at key in
      let long' : length new ≡ length keys = length-set (set keys at x) to key ∙ length-set keys at x in
      let at' : at < length was = omega (arith, long, within) in
      let to' : to < length was = omega (arith, long, within') in
      let moved = hole_moved keys key x at to within within' apart is in
      record {
        within = omega (arith, long', within');
        len = long' ∙ sym long;
        numbers = length-set places n at;
        permutation = IsPermutation-swap was new at to at' to' moved;
        placed = stepped was new places at to at' to' (long' ∙ sym long) apart moved n
            (λ d. read_at keys to n x within' numbered is d ∙ sym (ap number (beside keys key at to apart d)) ∙ sym (ap number (swap_places was new at to d at' to' moved).0))
            placed;
      }

  -- what is read of the key for which a hole stands, and of one beside it
  pub compared : (lt : K → K → Bool) (keys : List K) (key : K) (at to : ℕ) (r : Bool) → at < length keys → (to ≡ at → ⊥) → ((d : K) → r ≡ lt (get_or keys to d) key)
      → (d : K) → lt (get_or (set keys at key) to d) (get_or (set keys at key) at d) ≡ r
  compared lt keys key at to r within apart e d = (λ i. lt (beside keys key at to apart d i) (get_or-set_same keys at key d within i)) ∙ sym (e d)

  -- the place that was not written yet is
  pub written : (keys : List K) (places : List ℕ) (at n : ℕ) → ((d : K) → n ≡ number (get_or keys at d)) → ArePlacedBut number keys places at → ArePlaced number keys (set places n at)
  written keys places at n numbered h = λ d. subst (λ m. ArePlacedFor number keys (set places m at) d) (sym (numbered d)) (h d)

  -- as it is where all places are written
  pub all_but : (keys : List K) (places : List ℕ) (at : ℕ) → at < length keys → ArePlaced number keys places → ArePlacedBut number keys places at
  all_but keys places at within h = λ d k lt.
      let n = number (get_or keys at d) in
      let m = number (get_or keys k d) in
      let has = (h d k lt).0 in
      let has_at = (h d at within).0 in
      let long = length-set places n at in (
        omega (arith, has, long),
        elim (which m n) [
          | inl e ↦
              let same : k ≡ at = sym (h d k lt).1 ∙ ap (λ i. get_or places i 0) e ∙ (h d at within).1 in
              ap (λ i. get_or (set places n at) i 0) e ∙ get_or-set_same places n at 0 has_at ∙ sym same
          | inr apart ↦ get_or-set_other places n m at 0 apart ∙ (h d k lt).1
        ],
      )

  pub unmoved : (keys : List K) (places : List ℕ) (at : ℕ) → at < length keys → ArePlacedBut number keys places at → IsMoved number keys keys places places at
  unmoved keys places at within h = record { within = within; len = refl; numbers = refl; permutation = IsPermutation-refl keys; placed = h }

  pub moved_again : (a b c : List K) (p q r : List ℕ) (at to : ℕ) → IsMoved number a b p q at → IsMoved number b c q r to → IsMoved number a c p r to
  moved_again a b c p q r at to first then = record {
    within = then.within;
    len = then.len ∙ first.len;
    numbers = then.numbers ∙ first.numbers;
    permutation = IsPermutation-trans a b c first.permutation then.permutation;
    placed = then.placed;
  }

  pub ordered : (a b : List K) (p q r : List ℕ) (at : ℕ) → IsMoved number a b p q at → length r ≡ length q → ArePlaced number b r → IsOrdered number a b p r
  ordered a b p q r at moved numbers placed = record { len = moved.len; numbers = numbers ∙ moved.numbers; permutation = moved.permutation; placed = placed }
