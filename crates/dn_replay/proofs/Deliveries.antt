-- The table of deliveries, one delivery and one entry at a time.
use Rattle.dn_replay.proofs.Words.{Delivery, Entry, List, None, Option, Some, [], ap, append-nil, append_assoc, arith, cases_Bool, delivered, deliveries, delivery_of_packet, drop, eqb-true, false}
use Rattle.dn_replay.proofs.Words.{find-append, get_or, get_or-eq_default, get_or-replicate, get_or-set_other, get_or-set_same, inl, inr, is_some, length, length-replicate, nat_eq, nat_lt}
use Rattle.dn_replay.proofs.Words.{nat_tests, option_or, refl, replicate, set, sym, take, take-append-drop, take_more, true, ℕ, ◌++◌, ◌+◌, ◌<◌, ◌∙◌, ◌∷◌, ◌≡◌, ◌≢◌, ◌≤◌}
use Rattle.dn_replay.proofs.LineSteps.{differ}

or-none : (o : Option Delivery) → option_or o None ≡ o
or-none None = refl
or-none (Some d) = refl

or-assoc : (a b c : Option Delivery) → option_or (option_or a b) c ≡ option_or a (option_or b c)
or-assoc None b c = refl
or-assoc (Some d) b c = refl

-- A delivery whose packet has no place.
pub beyond : (table : List (Option Delivery)) (d : Delivery) (packet : ℕ) → length table ≤ d.packet → packet < length table
    → get_or table packet None ≡ option_or (get_or table packet None) (delivery_of_packet packet (d ∷ []))
beyond table d packet far below =
    let other : nat_eq d.packet packet ≡ false = grind (arith, nat_tests) in
    rw other (sym (or-none (get_or table packet None)))

some-or : (o x : Option Delivery) → is_some o ≡ true → o ≡ option_or o x
some-or None x e = cc e
some-or (Some d) x e = refl

none-of : (o : Option Delivery) → is_some o ≡ false → o ≡ None
none-of None e = refl
none-of (Some d) e = cc e

-- A delivery that is noted.
pub noted : (table : List (Option Delivery)) (d : Delivery) (packet : ℕ) → d.packet < length table → is_some (get_or table d.packet None) ≡ false
    → get_or (set table d.packet (Some d)) packet None ≡ option_or (get_or table packet None) (delivery_of_packet packet (d ∷ []))
noted table d packet below absent = elim (cases_Bool (nat_eq d.packet packet)) [
  | inl is ↦
      let e = eqb-true d.packet packet is in
      let gone : get_or table packet None ≡ None = ap (λ (n : ℕ). get_or table n None) (sym e) ∙ none-of _ absent in
      let here : get_or (set table d.packet (Some d)) packet None ≡ Some d = ap (λ (n : ℕ). get_or (set table d.packet (Some d)) n None) (sym e) ∙ get_or-set_same table d.packet (Some d) None below in
      rw (is, gone) here
  | inr other ↦ rw other (get_or-set_other table d.packet packet (Some d) None (differ d.packet packet other) ∙ sym (or-none (get_or table packet None)))
]

-- One delivery more of a list.
pub more : (list : List Delivery) (i packet : ℕ) (d : Delivery) (old : Option Delivery) → i < length list
    → option_or (option_or old (delivery_of_packet packet (take i list))) (delivery_of_packet packet (get_or list i d ∷ [])) ≡ option_or old (delivery_of_packet packet (take (i + 1) list))
more list i packet d old lt =
    or-assoc old (delivery_of_packet packet (take i list)) (delivery_of_packet packet (get_or list i d ∷ []))
    ∙ ap (option_or old) (sym (find-append (λ d. nat_eq d.packet packet) (take i list) (get_or list i d ∷ [])))
    ∙ ap (λ (l : List Delivery). option_or old (delivery_of_packet packet l)) (sym (take_more list i d lt))

pub deliveries-append : (front : List Entry) (e : Entry) → deliveries (front ++ e ∷ []) ≡ deliveries front ++ delivered e.reply
unfolding deliveries
deliveries-append [] e = append-nil _
deliveries-append (x ∷ front) e = rw (deliveries-append front e) (sym (append_assoc (delivered x.reply) (deliveries front) (delivered e.reply)))

-- One entry more of a history.
pub further : (entries : List Entry) (i packet : ℕ) (e : Entry) → i < length entries → e ≡ get_or entries i e
    → option_or (delivery_of_packet packet (deliveries (take i entries))) (delivery_of_packet packet (delivered e.reply)) ≡ delivery_of_packet packet (deliveries (take (i + 1) entries))
further entries i packet e lt is =
    let longer : deliveries (take (i + 1) entries) ≡ deliveries (take i entries) ++ delivered e.reply =
    ap deliveries (take_more entries i e lt) ∙ ap (λ (x : Entry). deliveries (take i entries ++ x ∷ [])) (sym is) ∙ deliveries-append (take i entries) e in
    sym (ap (delivery_of_packet packet) longer ∙ find-append (λ d. nat_eq d.packet packet) (deliveries (take i entries)) (delivered e.reply))

pub nothing-yet : (packet : ℕ) → None ≡ delivery_of_packet packet (deliveries [])
unfolding deliveries
nothing-yet packet = refl

-- A list is looked through in order.
one_more : (list : List Delivery) (i packet : ℕ) (d : Delivery) → i < length list → delivery_of_packet packet (take i list) ≡ None
    → delivery_of_packet packet (take (i + 1) list) ≡ delivery_of_packet packet (get_or list i d ∷ [])
one_more list i packet d lt none =
    ap (delivery_of_packet packet) (take_more list i d lt) ∙ find-append (λ d. nat_eq d.packet packet) (take i list) (get_or list i d ∷ [])
    ∙ ap (λ (o : Option Delivery). option_or o (delivery_of_packet packet (get_or list i d ∷ []))) none

pub found : (list : List Delivery) (i packet : ℕ) (d : Delivery) → i < length list → delivery_of_packet packet (take i list) ≡ None → (get_or list i d).packet ≡ packet
    → Some (get_or list i d) ≡ delivery_of_packet packet list
found list i packet d lt none is =
    let here : nat_eq (get_or list i d).packet packet ≡ true = grind (arith, nat_tests) in
    let front : delivery_of_packet packet (take (i + 1) list) ≡ Some (get_or list i d) = one_more list i packet d lt none ∙ rw here refl in
    sym (ap (delivery_of_packet packet) (sym (take-append-drop (i + 1) list)) ∙ find-append (λ d. nat_eq d.packet packet) (take (i + 1) list) (drop (i + 1) list)
    ∙ ap (λ (o : Option Delivery). option_or o (delivery_of_packet packet (drop (i + 1) list))) front)

pub missed : (list : List Delivery) (i packet : ℕ) (d : Delivery) → i < length list → delivery_of_packet packet (take i list) ≡ None → (get_or list i d).packet ≢ packet
    → delivery_of_packet packet (take (i + 1) list) ≡ None
missed list i packet d lt none other =
    let not_here : nat_eq (get_or list i d).packet packet ≡ false = grind (arith, nat_tests) in
    one_more list i packet d lt none ∙ rw not_here refl

deliveries-of_both : (front back : List Entry) → deliveries (front ++ back) ≡ deliveries front ++ deliveries back
unfolding deliveries
deliveries-of_both [] back = refl
deliveries-of_both (x ∷ front) back = rw (deliveries-of_both front back) (sym (append_assoc (delivered x.reply) (deliveries front) (deliveries back)))

-- The delivery is that of the next entry, or there is none up to it.
here : (entries : List Entry) (i packet : ℕ) (e : Entry) (r : Option Delivery) → i < length entries → e ≡ get_or entries i e → delivery_of_packet packet (deliveries (take i entries)) ≡ None
    → r ≡ delivery_of_packet packet (delivered e.reply) → delivery_of_packet packet (deliveries (take (i + 1) entries)) ≡ r
here entries i packet e r lt is none found =
    sym (further entries i packet e lt is) ∙ ap (λ (o : Option Delivery). option_or o (delivery_of_packet packet (delivered e.reply))) none ∙ sym found

pub found_here : (entries : List Entry) (i packet : ℕ) (e : Entry) (r : Option Delivery) → i < length entries → e ≡ get_or entries i e → delivery_of_packet packet (deliveries (take i entries)) ≡ None
    → r ≡ delivery_of_packet packet (delivered e.reply) → is_some r ≡ true → r ≡ delivery_of_packet packet (deliveries entries)
found_here entries i packet e r lt is none found some =
    some-or r (delivery_of_packet packet (deliveries (drop (i + 1) entries))) some
    ∙ ap (λ (o : Option Delivery). option_or o (delivery_of_packet packet (deliveries (drop (i + 1) entries)))) (sym (here entries i packet e r lt is none found))
    ∙ sym (find-append (λ d. nat_eq d.packet packet) (deliveries (take (i + 1) entries)) (deliveries (drop (i + 1) entries)))
    ∙ ap (delivery_of_packet packet) (sym (deliveries-of_both (take (i + 1) entries) (drop (i + 1) entries)))
    ∙ ap (λ (es : List Entry). delivery_of_packet packet (deliveries es)) (take-append-drop (i + 1) entries)

pub not_here : (entries : List Entry) (i packet : ℕ) (e : Entry) (r : Option Delivery) → i < length entries → e ≡ get_or entries i e → delivery_of_packet packet (deliveries (take i entries)) ≡ None
    → r ≡ delivery_of_packet packet (delivered e.reply) → is_some r ≡ false → delivery_of_packet packet (deliveries (take (i + 1) entries)) ≡ None
not_here entries i packet e r lt is none none_there absent = here entries i packet e r lt is none none_there ∙ none-of r absent

-- A table of nothing.
pub empty_table : (n i : ℕ) (nothing : Option Delivery) → get_or (replicate n nothing) i nothing ≡ nothing
empty_table n i nothing = elim (cases_Bool (nat_lt i n)) [
  | inl below ↦ get_or-replicate n i nothing nothing (grind (arith, nat_tests))
  | inr past ↦ get_or-eq_default (replicate n nothing) nothing (rw (length-replicate {A = Option Delivery} n nothing) (grind (arith, nat_tests)))
]
