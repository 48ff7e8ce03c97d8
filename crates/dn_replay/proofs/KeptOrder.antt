-- The lines of deliveries in their order, and the others by row, are what the sorts of a report give.
use Rattle.dn_replay.proofs.Words.{AcceptedRow, All, All-head, All-tail, AreInOrder, Bool, Delivery, Fate, List, None, Option, Refusal, Refused, ReportLine, Some, Unanswered, [], accepted_row, ap}
use Rattle.dn_replay.proofs.Words.{append-nil, arith, cond, count_by, delivery_line, delivery_of_packet, due_of, false, fate_line, fate_lines, filter, filter-append, get_or, inl, inr, is_accepted}
use Rattle.dn_replay.proofs.Words.{is_other, is_out, is_packet, length, map, nat_eq, nat_lt, nat_tests, no_row, option_to_list, outs_in_order, packet_of, queued_line, refl, row_number, rows_kept}
use Rattle.dn_replay.proofs.Words.{sorted_by, suc, sum_by-cons, sym, true, zero, ℕ, ◌++◌, ◌+◌, ◌<◌, ◌∙◌, ◌∷◌, ◌≡◌, ◌≤◌, ◌⊎◌}
use Rattle.dn_replay.specs.declared.report.fate.Fate.TheVariants.{Accepted}
use Rattle.dn_replay.specs.declared.report.line.ReportLine.TheVariants as line
use Rattle.dn_replay.specs.declared.report.refusal.Refusal.TheVariants.{Full, Lost, NoTarget}
use Rattle.dn_replay.proofs.Orders.{AtLeast, Rises, at, in_order-level, in_order-rises, unique}

turned : (a b : ℕ) → nat_eq a b ≡ nat_eq b a
turned a b = grind (arith, nat_tests)

-- ---- Lists in order

module _ {X : Type 0} where
  swap-tests : (p q : X → Bool) (xs : List X) → filter p (filter q xs) ≡ filter q (filter p xs)
  swap-tests p q [] = refl
  swap-tests p q (x ∷ xs) = by (p x) (q x) refl refl (swap-tests p q xs)
    where
      by : (a b : Bool) → p x ≡ a → q x ≡ b → filter p (filter q xs) ≡ filter q (filter p xs) → filter p (cond b (x ∷ filter q xs) (filter q xs)) ≡ filter q (cond a (x ∷ filter p xs) (filter p xs))
      by true true e f rest = rw (e, f) (ap (λ (l : List X). x ∷ l) rest)
      by true false e f rest = rw f rest
      by false true e f rest = rw e rest
      by false false e f rest = rest

  at_least-filter : (place : X → ℕ) (n : ℕ) (test : X → Bool) (ys : List X) → AtLeast place n ys → AtLeast place n (filter test ys)
  at_least-filter place n test [] h = tt
  at_least-filter place n test (y ∷ ys) h = by (test y) (at_least-filter place n test ys h.1)
    where
      by : (b : Bool) → AtLeast place n (filter test ys) → AtLeast place n (cond b (y ∷ filter test ys) (filter test ys))
      by true rest = (h.0, rest)
      by false rest = rest

  filter-rises : (place : X → ℕ) (test : X → Bool) (ys : List X) → Rises place ys → Rises place (filter test ys)
  filter-rises place test [] h = tt
  filter-rises place test (y ∷ ys) h = by (test y) (filter-rises place test ys h.1)
    where
      by : (b : Bool) → Rises place (filter test ys) → Rises place (cond b (y ∷ filter test ys) (filter test ys))
      by true rest = (at_least-filter place (place y) test ys h.0, rest)
      by false rest = rest

  -- A list in order is not changed by a sort.
  sorted-already : (place : X → ℕ) (xs : List X) → Rises place xs → sorted_by place xs ≡ xs
  sorted-already place xs h = sym (unique place xs (sorted_by place xs) h (in_order-rises place xs) (λ x. in_order-level place (place x) xs))

-- A list is the lines in the order of due moments, and of packet numbers where these are level, if it stands in that order and has
-- the same lines of each packet.
by-due : (outs given : List ReportLine) → Rises due_of given → ((due : ℕ) → Rises packet_of (at due_of due given)) → ((packet : ℕ) → at packet_of packet outs ≡ at packet_of packet given)
    → outs_in_order outs ≡ given
by-due outs given rises level same =
    sym (unique due_of given (sorted_by due_of (sorted_by packet_of outs)) rises (in_order-rises due_of (sorted_by packet_of outs))
    (λ x. in_order-level due_of (due_of x) (sorted_by packet_of outs) ∙ sym (level-is (due_of x))))
  where
    packets : (due packet : ℕ) → at packet_of packet (at due_of due (sorted_by packet_of outs)) ≡ at packet_of packet (at due_of due given)
    packets due packet =
        swap-tests (λ y. nat_eq packet (packet_of y)) (λ y. nat_eq due (due_of y)) (sorted_by packet_of outs)
        ∙ ap (λ (l : List ReportLine). at due_of due l) (in_order-level packet_of packet outs ∙ same packet)
        ∙ swap-tests (λ y. nat_eq due (due_of y)) (λ y. nat_eq packet (packet_of y)) given

    level-is : (due : ℕ) → at due_of due given ≡ at due_of due (sorted_by packet_of outs)
    level-is due =
        unique packet_of (at due_of due given) (at due_of due (sorted_by packet_of outs)) (level due)
        (filter-rises packet_of (λ y. nat_eq due (due_of y)) (sorted_by packet_of outs) (in_order-rises packet_of outs))
        (λ x. packets due (packet_of x))

-- ---- The lines of deliveries

module _ (accepted : List AcceptedRow) where
  due-at_least : (n : ℕ) (ds : List Delivery) → All (λ e. n ≤ e.due) ds → AtLeast due_of n (map (delivery_line accepted) ds)
  due-at_least n [] h = tt
  due-at_least n (d ∷ ds) h = (All-head (λ e. n ≤ e.due) d ds h, due-at_least n ds (All-tail (λ e. n ≤ e.due) d ds h))

  given-rises : (ds : List Delivery) → AreInOrder ds → Rises due_of (map (delivery_line accepted) ds)
  given-rises [] h = tt
  given-rises (d ∷ ds) h = (due-at_least d.due ds (λ k e lt. (h.0 k e lt).0), given-rises ds h.1)

  packet-at_least : (due packet : ℕ) (ds : List Delivery) → All (λ e. due ≡ e.due → packet ≤ e.packet) ds → AtLeast packet_of packet (at due_of due (map (delivery_line accepted) ds))
  packet-at_least due packet [] h = tt
  packet-at_least due packet (d ∷ ds) h =
      by (nat_eq due d.due) refl (packet-at_least due packet ds (All-tail (λ e. due ≡ e.due → packet ≤ e.packet) d ds h))
    where
      by : (b : Bool) → nat_eq due d.due ≡ b → AtLeast packet_of packet (at due_of due (map (delivery_line accepted) ds))
          → AtLeast packet_of packet (cond b (delivery_line accepted d ∷ at due_of due (map (delivery_line accepted) ds)) (at due_of due (map (delivery_line accepted) ds)))
      by true e rest = (All-head (λ e. due ≡ e.due → packet ≤ e.packet) d ds h (grind (arith, nat_tests)), rest)
      by false e rest = rest

  level-rises : (due : ℕ) (ds : List Delivery) → AreInOrder ds → Rises packet_of (at due_of due (map (delivery_line accepted) ds))
  level-rises due [] h = tt
  level-rises due (d ∷ ds) h = by (nat_eq due d.due) refl (level-rises due ds h.1)
    where
      by : (b : Bool) → nat_eq due d.due ≡ b → Rises packet_of (at due_of due (map (delivery_line accepted) ds))
          → Rises packet_of (cond b (delivery_line accepted d ∷ at due_of due (map (delivery_line accepted) ds)) (at due_of due (map (delivery_line accepted) ds)))
      by true e rest =
          let same : due ≡ d.due = grind (arith, nat_tests) in
          (packet-at_least due d.packet ds (λ k x lt. λ level. (h.0 k x lt).1 (sym same ∙ level)), rest)
      by false e rest = rest

  none-of : (packet : ℕ) (ds : List Delivery) → count_by (is_packet packet) ds ≤ 0 → at packet_of packet (map (delivery_line accepted) ds) ≡ []
  none-of packet [] h = refl
  none-of packet (d ∷ ds) h = by (nat_eq d.packet packet) refl (λ (few : count_by (is_packet packet) ds ≤ 0). none-of packet ds few)
    where
      rest : count_by (is_packet packet) ds ≤ 0
      rest = let one = sum_by-cons (λ x. cond {A = ℕ} (is_packet packet x) 1 0) d ds in omega (arith, one, h)

      by : (b : Bool) → nat_eq d.packet packet ≡ b → (count_by (is_packet packet) ds ≤ 0 → at packet_of packet (map (delivery_line accepted) ds) ≡ [])
          → at packet_of packet (map (delivery_line accepted) (d ∷ ds)) ≡ []
      by true e none =
          let one = sum_by-cons (λ x. cond {A = ℕ} (is_packet packet x) 1 0) d ds in
          let this : cond {A = ℕ} (nat_eq d.packet packet) 1 0 ≡ 1 = rw e refl in
          absurd (omega (arith, one, this, h))
      by false e none = rw (turned packet d.packet, e) (none rest)

  -- A packet that is given once at most has the line of its delivery, if it has one.
  once-at : (packet : ℕ) (ds : List Delivery) → count_by (is_packet packet) ds ≤ 1
      → at packet_of packet (map (delivery_line accepted) ds) ≡ map (delivery_line accepted) (option_to_list (delivery_of_packet packet ds))
  once-at packet [] h = refl
  once-at packet (d ∷ ds) h = by (nat_eq d.packet packet) refl (λ (few : count_by (is_packet packet) ds ≤ 1). once-at packet ds few)
    where
      by : (b : Bool) → nat_eq d.packet packet ≡ b
          → (count_by (is_packet packet) ds ≤ 1 → at packet_of packet (map (delivery_line accepted) ds) ≡ map (delivery_line accepted) (option_to_list (delivery_of_packet packet ds)))
          → at packet_of packet (map (delivery_line accepted) (d ∷ ds)) ≡ map (delivery_line accepted) (option_to_list (cond b (Some d) (delivery_of_packet packet ds)))
      by true e more =
          let one = sum_by-cons (λ x. cond {A = ℕ} (is_packet packet x) 1 0) d ds in
          let this : cond {A = ℕ} (nat_eq d.packet packet) 1 0 ≡ 1 = rw e refl in
          let none : count_by (is_packet packet) ds ≤ 0 = omega (arith, one, this, h) in
          rw (turned packet d.packet, e) (ap (λ (l : List ReportLine). delivery_line accepted d ∷ l) (none-of packet ds none))
      by false e more =
          let one = sum_by-cons (λ x. cond {A = ℕ} (is_packet packet x) 1 0) d ds in
          let few : count_by (is_packet packet) ds ≤ 1 = omega (arith, one, h) in
          rw (turned packet d.packet, e) (more few)

  beyond : (n packet : ℕ) (ds : List Delivery) → All (λ d. d.packet < n) ds → n ≤ packet → at packet_of packet (map (delivery_line accepted) ds) ≡ []
  beyond n packet [] h far = refl
  beyond n packet (d ∷ ds) h far =
      let below = All-head (λ d. d.packet < n) d ds h in
      let other : nat_eq packet d.packet ≡ false = grind (arith, nat_tests) in
      rw other (beyond n packet ds (All-tail (λ d. d.packet < n) d ds h) far)

-- ---- The `out` lines of fates

-- Of one fate.
abbrev outs_of : ℕ → ℕ → List Delivery → Fate → List ReportLine
outs_of row packet given f = filter is_out (option_to_list (fate_line row packet given f))

abbrev queued_outs : ℕ → ℕ → ℕ → ℕ → Option Delivery → List ReportLine
queued_outs row at' flow packet o = filter is_out (queued_line row at' flow packet o ∷ [])

queued-other : (row at' flow packet p : ℕ) (o : Option Delivery) → nat_eq p packet ≡ false → at packet_of p (queued_outs row at' flow packet o) ≡ []
queued-other row at' flow packet p None e = refl
queued-other row at' flow packet p (Some d) e = rw e refl

queued-own : (row at' flow packet : ℕ) (o : Option Delivery) → at packet_of packet (queued_outs row at' flow packet o) ≡ queued_outs row at' flow packet o
queued-own row at' flow packet None = refl
queued-own row at' flow packet (Some d) = let own : nat_eq packet packet ≡ true = grind (arith, nat_tests) in rw own refl

refused-none : (row packet : ℕ) (given : List Delivery) (why : Refusal) → outs_of row packet given (Refused why) ≡ []
refused-none row packet given (Lost flow at') = refl
refused-none row packet given (Full flow at') = refl
refused-none row packet given (NoTarget at') = refl
refused-none row packet given Unanswered = refl

other-number : (row packet p : ℕ) (given : List Delivery) (f : Fate) → nat_eq p packet ≡ false → at packet_of p (outs_of row packet given f) ≡ []
other-number row packet p given (Accepted flow at') e = queued-other row at' flow packet p (delivery_of_packet packet given) e
other-number row packet p given (Refused why) e = ap (λ (l : List ReportLine). at packet_of p l) (refused-none row packet given why)

own-number : (row packet : ℕ) (given : List Delivery) (f : Fate) → at packet_of packet (outs_of row packet given f) ≡ outs_of row packet given f
own-number row packet given (Accepted flow at') = queued-own row at' flow packet (delivery_of_packet packet given)
own-number row packet given (Refused why) = rw (refused-none row packet given why) refl

not-accepted : (row packet : ℕ) (given : List Delivery) (f : Fate) → is_accepted f ≡ false → outs_of row packet given f ≡ []
not-accepted row packet given (Accepted flow at') e = absurd cc
not-accepted row packet given (Refused why) e = refused-none row packet given why

-- The lines of a packet among those of one fate and of others.
in-parts : (row packet p : ℕ) (given : List Delivery) (f : Fate) (rest : List ReportLine)
    → at packet_of p (filter is_out (option_to_list (fate_line row packet given f) ++ rest)) ≡ at packet_of p (outs_of row packet given f) ++ at packet_of p (filter is_out rest)
in-parts row packet p given f rest =
    ap (λ (l : List ReportLine). at packet_of p l) (filter-append is_out (option_to_list (fate_line row packet given f)) rest)
    ∙ filter-append (λ y. nat_eq p (packet_of y)) (outs_of row packet given f) (filter is_out rest)

-- Packets with lower numbers, and with numbers past the last, have none.
below : (row packet p : ℕ) (given : List Delivery) (fates : List Fate) → p < packet → at packet_of p (filter is_out (fate_lines row packet given fates)) ≡ []
unfolding fate_lines
below row packet p given [] lt = refl
below row packet p given (f ∷ fates) lt = by (is_accepted f) (λ (q : ℕ) (further : p < q). below (row + 1) q p given fates further)
  where
    by : (b : Bool) → ((q : ℕ) → p < q → at packet_of p (filter is_out (fate_lines (row + 1) q given fates)) ≡ [])
        → at packet_of p (filter is_out (option_to_list (fate_line row packet given f) ++ fate_lines (row + 1) (cond b (packet + 1) packet) given fates)) ≡ []
    by true rest =
        let other : nat_eq p packet ≡ false = grind (arith, nat_tests) in
        in-parts row packet p given f (fate_lines (row + 1) (packet + 1) given fates) ∙ rw (other-number row packet p given f other) (rest (packet + 1) (omega arith))
    by false rest =
        let other : nat_eq p packet ≡ false = grind (arith, nat_tests) in
        in-parts row packet p given f (fate_lines (row + 1) packet given fates) ∙ rw (other-number row packet p given f other) (rest packet lt)

past : (row packet p : ℕ) (given : List Delivery) (fates : List Fate) → packet + length (rows_kept accepted_row row fates) ≤ p → at packet_of p (filter is_out (fate_lines row packet given fates)) ≡ []
unfolding fate_lines rows_kept
past row packet p given [] le = refl
past row packet p given (Accepted flow at' ∷ fates) le =
    let far : packet + suc (length (rows_kept accepted_row (row + 1) fates)) ≤ p = le in
    let other : nat_eq p packet ≡ false = grind (arith, nat_tests) in
    in-parts row packet p given (Accepted flow at') (fate_lines (row + 1) (packet + 1) given fates)
    ∙ rw (other-number row packet p given (Accepted flow at') other) (past (row + 1) (packet + 1) p given fates (omega arith))
past row packet p given (Refused why ∷ fates) le =
    in-parts row packet p given (Refused why) (fate_lines (row + 1) packet given fates) ∙ rw (not-accepted row packet given (Refused why) refl) (past (row + 1) packet p given fates le)

-- The `out` line of an accepted packet with this number, if it is given.
abbrev outs_at : ℕ → List Delivery → AcceptedRow → List ReportLine
outs_at packet given own = queued_outs own.row own.at own.flow packet (delivery_of_packet packet given)

-- The packet with number `packet + k` has the line of the row that is kept there.
placed : (row packet k : ℕ) (given : List Delivery) (fates : List Fate) → k < length (rows_kept accepted_row row fates)
    → at packet_of (packet + k) (filter is_out (fate_lines row packet given fates)) ≡ outs_at (packet + k) given (get_or (rows_kept accepted_row row fates) k no_row)
unfolding fate_lines rows_kept
placed row packet k given [] lt = absurd (omega arith)
placed row packet zero given (Accepted flow at' ∷ fates) lt =
    let same : packet + 0 ≡ packet = omega arith in
    rw same
    (in-parts row packet packet given (Accepted flow at') (fate_lines (row + 1) (packet + 1) given fates)
    ∙ rw (own-number row packet given (Accepted flow at'), below (row + 1) (packet + 1) packet given fates (omega arith)) (append-nil (outs_of row packet given (Accepted flow at'))))
placed row packet (suc k) given (Accepted flow at' ∷ fates) lt =
    let within : suc k < suc (length (rows_kept accepted_row (row + 1) fates)) = lt in
    let next : packet + suc k ≡ (packet + 1) + k = omega arith in
    let other : nat_eq ((packet + 1) + k) packet ≡ false = grind (arith, nat_tests) in
    rw next
    (in-parts row packet ((packet + 1) + k) given (Accepted flow at') (fate_lines (row + 1) (packet + 1) given fates)
    ∙ rw (other-number row packet ((packet + 1) + k) given (Accepted flow at') other) (placed (row + 1) (packet + 1) k given fates (omega arith)))
placed row packet k given (Refused why ∷ fates) lt =
    in-parts row packet (packet + k) given (Refused why) (fate_lines (row + 1) packet given fates)
    ∙ rw (not-accepted row packet given (Refused why) refl) (placed (row + 1) packet k given fates lt)

-- ---- The same lines of each packet

found-number : (packet : ℕ) (d : Delivery) (ds : List Delivery) → delivery_of_packet packet ds ≡ Some d → d.packet ≡ packet
found-number packet d [] e = absurd cc
found-number packet d (x ∷ ds) e = by (nat_eq x.packet packet) refl e (λ (is : delivery_of_packet packet ds ≡ Some d). found-number packet d ds is)
  where
    by : (b : Bool) → nat_eq x.packet packet ≡ b → cond b (Some x) (delivery_of_packet packet ds) ≡ Some d → (delivery_of_packet packet ds ≡ Some d → d.packet ≡ packet) → d.packet ≡ packet
    by true same is rest = let one : x ≡ d = cc in let number : x.packet ≡ packet = grind (arith, nat_tests) in ap (λ (y : Delivery). y.packet) (sym one) ∙ number
    by false other is rest = rest is

-- The line of a packet by its row is that by its delivery.
same-line : (accepted : List AcceptedRow) (packet : ℕ) (given : List Delivery) → outs_at packet given (get_or accepted packet no_row) ≡ map (delivery_line accepted) (option_to_list (delivery_of_packet packet given))
same-line accepted packet given = by (delivery_of_packet packet given) refl
  where
    by : (o : Option Delivery) → delivery_of_packet packet given ≡ o
        → queued_outs (get_or accepted packet no_row).row (get_or accepted packet no_row).at (get_or accepted packet no_row).flow packet o ≡ map (delivery_line accepted) (option_to_list o)
    by None none = refl
    by (Some d) some = let number = found-number packet d given some in rw number refl

-- What a list of deliveries has to keep: numbers below the count of those accepted, each once, in order.
pub record AreGiven (n : ℕ) (given : List Delivery) : Type 0 where
  pub numbers : All (λ d. d.packet < n) given
  pub once : (packet : ℕ) → count_by (is_packet packet) given ≤ 1
  pub in_order : AreInOrder given

same-of-packet : (accepted : List AcceptedRow) (fates : List Fate) (given : List Delivery) → accepted ≡ rows_kept accepted_row 1 fates → AreGiven (length accepted) given → (packet : ℕ)
    → at packet_of packet (filter is_out (fate_lines 1 0 given fates)) ≡ at packet_of packet (map (delivery_line accepted) given)
same-of-packet accepted fates given rows are packet = by (nat_lt packet (length accepted)) refl
  where
    count : length accepted ≡ length (rows_kept accepted_row 1 fates)
    count = ap (length {A = AcceptedRow}) rows

    by : (b : Bool) → nat_lt packet (length accepted) ≡ b → at packet_of packet (filter is_out (fate_lines 1 0 given fates)) ≡ at packet_of packet (map (delivery_line accepted) given)
    by true e =
        let within : packet < length (rows_kept accepted_row 1 fates) = (let c = count in grind (arith, nat_tests)) in
        let zero' : 0 + packet ≡ packet = omega arith in
        let own = rw zero' at (placed 1 0 packet given fates within) in
        own ∙ ap (λ (l : List AcceptedRow). outs_at packet given (get_or l packet no_row)) (sym rows) ∙ same-line accepted packet given ∙ sym (once-at accepted packet given (are.once packet))
    by false e =
        let far : length accepted ≤ packet = grind (arith, nat_tests) in
        past 1 0 packet given fates (let c = count in omega (arith, c, far)) ∙ sym (beyond accepted (length accepted) packet given are.numbers far)

pub outs-as-given : (accepted : List AcceptedRow) (fates : List Fate) (given : List Delivery) → accepted ≡ rows_kept accepted_row 1 fates → AreGiven (length accepted) given
    → outs_in_order (filter is_out (fate_lines 1 0 given fates)) ≡ map (delivery_line accepted) given
outs-as-given accepted fates given rows are =
    by-due (filter is_out (fate_lines 1 0 given fates)) (map (delivery_line accepted) given) (given-rises accepted given are.in_order) (λ due. level-rises accepted due given are.in_order)
    (same-of-packet accepted fates given rows are)

-- ---- The other lines

IsOneOf : ℕ → List ReportLine → Type 0
IsOneOf row ls = (ls ≡ []) ⊎ ((l : ReportLine) × (row_number l ≡ row) × (ls ≡ l ∷ []))

queued-one : (row at' flow packet : ℕ) (o : Option Delivery) → IsOneOf row (filter is_other (queued_line row at' flow packet o ∷ []))
unfolding IsOneOf
queued-one row at' flow packet None = inr (line.Held row flow packet at', refl, refl)
queued-one row at' flow packet (Some d) = inl refl

one-other : (row packet : ℕ) (given : List Delivery) (f : Fate) → IsOneOf row (filter is_other (option_to_list (fate_line row packet given f)))
unfolding IsOneOf
one-other row packet given (Accepted flow at') = queued-one row at' flow packet (delivery_of_packet packet given)
one-other row packet given (Refused (Lost flow at')) = inr (line.Lost row flow at', refl, refl)
one-other row packet given (Refused (Full flow at')) = inr (line.Full row flow at', refl, refl)
one-other row packet given (Refused (NoTarget at')) = inr (line.NoTarget row at', refl, refl)
one-other row packet given (Refused Unanswered) = inl refl

others-at_least : (n row packet : ℕ) (given : List Delivery) (fates : List Fate) → n ≤ row → AtLeast row_number n (filter is_other (fate_lines row packet given fates))
unfolding fate_lines IsOneOf
others-at_least n row packet given [] le = tt
others-at_least n row packet given (f ∷ fates) le =
    let next = cond (is_accepted f) (packet + 1) packet in
    let rest = others-at_least n (row + 1) (cond (is_accepted f) (packet + 1) packet) given fates (omega arith) in
    rw (filter-append is_other (option_to_list (fate_line row packet given f)) (fate_lines (row + 1) next given fates))
    (by (filter is_other (option_to_list (fate_line row packet given f))) (one-other row packet given f) rest)
  where
    by : (ls : List ReportLine) → (ls ≡ []) ⊎ ((l : ReportLine) × (row_number l ≡ row) × (ls ≡ l ∷ []))
        → AtLeast row_number n (filter is_other (fate_lines (row + 1) (cond (is_accepted f) (packet + 1) packet) given fates))
        → AtLeast row_number n (ls ++ filter is_other (fate_lines (row + 1) (cond (is_accepted f) (packet + 1) packet) given fates))
    by ls (inl none) rest = rw none rest
    by ls (inr one) rest = let row_is = one.1 in rw one.2 (omega (arith, row_is, le), rest)

others-rise : (row packet : ℕ) (given : List Delivery) (fates : List Fate) → Rises row_number (filter is_other (fate_lines row packet given fates))
unfolding fate_lines IsOneOf
others-rise row packet given [] = tt
others-rise row packet given (f ∷ fates) =
    let next = cond (is_accepted f) (packet + 1) packet in
    rw (filter-append is_other (option_to_list (fate_line row packet given f)) (fate_lines (row + 1) next given fates))
    (by (filter is_other (option_to_list (fate_line row packet given f))) (one-other row packet given f) (others-rise (row + 1) (cond (is_accepted f) (packet + 1) packet) given fates))
  where
    by : (ls : List ReportLine) → (ls ≡ []) ⊎ ((l : ReportLine) × (row_number l ≡ row) × (ls ≡ l ∷ []))
        → Rises row_number (filter is_other (fate_lines (row + 1) (cond (is_accepted f) (packet + 1) packet) given fates))
        → Rises row_number (ls ++ filter is_other (fate_lines (row + 1) (cond (is_accepted f) (packet + 1) packet) given fates))
    by ls (inl none) rest = rw none rest
    by ls (inr one) rest =
        let row_is = one.1 in
        rw one.2 (others-at_least (row_number one.0) (row + 1) (cond (is_accepted f) (packet + 1) packet) given fates (omega (arith, row_is)), rest)

pub others-by-row : (given : List Delivery) (fates : List Fate) → sorted_by row_number (filter is_other (fate_lines 1 0 given fates)) ≡ filter is_other (fate_lines 1 0 given fates)
others-by-row given fates = sorted-already row_number (filter is_other (fate_lines 1 0 given fates)) (others-rise 1 0 given fates)
