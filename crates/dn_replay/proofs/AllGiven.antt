-- As many deliveries as there are packets, none of a packet twice, are one of each packet.
use Rattle.dn_replay.proofs.Words.{All, All-head, All-tail, Bool, Delivery, List, Some, [], arith, cases_Bool, cond, count_by, delivery_of_packet, false, inl, inr, is_packet, is_some, length}
use Rattle.dn_replay.proofs.Words.{nat_eq, nat_tests, refl, suc, sum_by-cons, sym, true, zero, ℕ, ◌+◌, ◌<◌, ◌∙◌, ◌∷◌, ◌≡◌, ◌≤◌}
use Rattle.dn_replay.proofs.KeptOrder.{AreGiven}

-- How many deliveries are of packets with numbers below n.
below : ℕ → List Delivery → ℕ
below zero ds = 0
below (suc n) ds = count_by (is_packet n) ds + below n ds

own : (packet : ℕ) (d : Delivery) (ds : List Delivery) → count_by (is_packet packet) (d ∷ ds) ≡ cond (nat_eq d.packet packet) 1 0 + count_by (is_packet packet) ds
own packet d ds = sum_by-cons (λ x. cond {A = ℕ} (is_packet packet x) 1 0) d ds

mine : (packet : ℕ) (d : Delivery) (ds : List Delivery) → nat_eq d.packet packet ≡ true → count_by (is_packet packet) (d ∷ ds) ≡ count_by (is_packet packet) ds + 1
mine packet d ds e = let one = own packet d ds in let is : cond {A = ℕ} (nat_eq d.packet packet) 1 0 ≡ 1 = rw e refl in omega (arith, one, is)

other : (packet : ℕ) (d : Delivery) (ds : List Delivery) → nat_eq d.packet packet ≡ false → count_by (is_packet packet) (d ∷ ds) ≡ count_by (is_packet packet) ds
other packet d ds e = let one = own packet d ds in let is : cond {A = ℕ} (nat_eq d.packet packet) 1 0 ≡ 0 = rw e refl in omega (arith, one, is)

-- One delivery more.
outside : (n : ℕ) (d : Delivery) (ds : List Delivery) → n ≤ d.packet → below n (d ∷ ds) ≡ below n ds
unfolding below
outside zero d ds le = refl
outside (suc n) d ds le =
    let not_here : nat_eq d.packet n ≡ false = grind (arith, nat_tests) in
    let one = other n d ds not_here in
    let rest = outside n d ds (omega arith) in
    omega (arith, one, rest)

inside : (n : ℕ) (d : Delivery) (ds : List Delivery) → d.packet < n → below n (d ∷ ds) ≡ below n ds + 1
unfolding below
inside zero d ds lt = absurd (omega arith)
inside (suc n) d ds lt = elim (cases_Bool (nat_eq d.packet n)) [
  | inl here ↦
      let at_least : n ≤ d.packet = grind (arith, nat_tests) in
      let one = mine n d ds here in
      let rest = outside n d ds at_least in
      omega (arith, one, rest)
  | inr elsewhere ↦
      let further : d.packet < n = grind (arith, nat_tests) in
      let one = other n d ds elsewhere in
      let rest = inside n d ds further in
      omega (arith, one, rest)
]

none : (n : ℕ) → below n [] ≡ 0
unfolding below
none zero = refl
none (suc n) = let rest = none n in let zero_here : count_by (is_packet n) [] ≡ 0 = refl in omega (arith, rest, zero_here)

all-below : (n : ℕ) (ds : List Delivery) → All (λ d. d.packet < n) ds → below n ds ≡ length ds
all-below n [] h = none n
all-below n (d ∷ ds) h =
    let one = inside n d ds (All-head (λ d. d.packet < n) d ds h) in
    let rest = all-below n ds (All-tail (λ d. d.packet < n) d ds h) in
    omega (arith, one, rest)

-- Where no packet is given twice, they are no more than n, and fewer if a packet isn't given.
at-most : (n : ℕ) (ds : List Delivery) → ((packet : ℕ) → count_by (is_packet packet) ds ≤ 1) → below n ds ≤ n
unfolding below
at-most zero ds once = omega arith
at-most (suc n) ds once = let this = once n in let rest = at-most n ds once in omega (arith, this, rest)

fewer : (n packet : ℕ) (ds : List Delivery) → ((packet : ℕ) → count_by (is_packet packet) ds ≤ 1) → packet < n → count_by (is_packet packet) ds ≡ 0 → below n ds < n
unfolding below
fewer zero packet ds once lt absent = absurd (omega arith)
fewer (suc n) packet ds once lt absent = elim (cases_Bool (nat_eq packet n)) [
  | inl here ↦
      let same : packet ≡ n = grind (arith, nat_tests) in
      let this = rw same at absent in
      let rest = at-most n ds once in
      omega (arith, this, rest)
  | inr elsewhere ↦
      let further : packet < n = grind (arith, nat_tests) in
      let this = once n in
      let rest = fewer n packet ds once further absent in
      omega (arith, this, rest)
]

absent : (packet : ℕ) (ds : List Delivery) → is_some (delivery_of_packet packet ds) ≡ false → count_by (is_packet packet) ds ≡ 0
absent packet [] e = refl
absent packet (d ∷ ds) e = by (nat_eq d.packet packet) refl e (λ (rest : is_some (delivery_of_packet packet ds) ≡ false). absent packet ds rest)
  where
    by : (b : Bool) → nat_eq d.packet packet ≡ b → is_some (cond b (Some d) (delivery_of_packet packet ds)) ≡ false
        → (is_some (delivery_of_packet packet ds) ≡ false → count_by (is_packet packet) ds ≡ 0) → count_by (is_packet packet) (d ∷ ds) ≡ 0
    by true is e rest = absurd cc
    by false is e rest = other packet d ds is ∙ rest e

pub all-given : (n : ℕ) (ds : List Delivery) → AreGiven n ds → length ds ≡ n → (packet : ℕ) → packet < n → true ≡ is_some (delivery_of_packet packet ds)
all-given n ds are full packet lt = elim (cases_Bool (is_some (delivery_of_packet packet ds))) [
  | inl there ↦ sym there
  | inr gone ↦
      let few = fewer n packet ds are.once lt (absent packet ds gone) in
      let all = all-below n ds are.numbers in
      absurd (omega (arith, few, all, full))
]
