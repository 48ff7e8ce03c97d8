-- What is still to be given of a pipe's part is the pipe's part of what is still to be given.
use Rattle.dn_laws.proofs.Words.{Accepted, All, All-cons, All-filter, All-nil, Bool, Choice, Delivery, Equal, Event, Greater, IsProper, IsTotalOrder, Less, Link, List, MatchOrdering, Ordering}
use Rattle.dn_laws.proofs.Words.{Rule, Some, Start, [], ap, arith, arrival_time, arrived, backlog, collected, cond, delivery_by, delivery_cmp, delivery_of, discarded, drop, due_by, false, filter}
use Rattle.dn_laws.proofs.Words.{given, in_order, in_order-all, is_given_before, is_link_on, is_lt, is_of, last_due, lost, map, nat_cmp, nat_cmp_is, nat_cmp_total, nat_eq, nat_le, nat_lt}
use Rattle.dn_laws.proofs.Words.{on_total, opened, ordering_reverse, ordering_then, part, ranks, refl, refused, slice_get, started, subst, suc, sym, then_total, true, undelivered, ℕ, ⊤, ◌++◌, ◌<◌}
use Rattle.dn_laws.proofs.Words.{◌∙◌, ◌∷◌, ◌≡◌}
use Rattle.dn_laws.specs.Parts.{place}
use Rattle.dn_laws.proofs.EachWaiting.{each-pushed, each-left, each-cleared}
use Rattle.dn_laws.proofs.PartCalls.{AreTaken}
use Rattle.dn_laws.proofs.Parts.{skip, IsFit, AreFit, link', accepted', start', last_due-part}
use Rattle.dn_laws.proofs.Places.{place-lt}

delivery-total : IsTotalOrder delivery_cmp
delivery-total =
    then_total (on_total (λ (d : Delivery). d.due) nat_cmp_total) (then_total (on_total (λ (d : Delivery). d.packet) nat_cmp_total)
    (then_total (on_total (λ (d : Delivery). d.flow) nat_cmp_total) (on_total (λ (d : Delivery). d.start) nat_cmp_total)))

less-is : (o : Ordering) → is_lt o ≡ true → o ≡ Less
less-is Less e = refl
less-is Equal e = absurd cc
less-is Greater e = absurd cc

-- What goes before one goes before each that doesn't go before that one.
before-later : (d e x : Delivery) → is_given_before d e ≡ true → is_given_before x e ≡ false → is_given_before d x ≡ true
before-later d e x h k = by (delivery_cmp x e) refl k
  where
    first : delivery_cmp d e ≡ Less
    first = less-is (delivery_cmp d e) h

    by : (o : Ordering) → delivery_cmp x e ≡ o → is_lt o ≡ false → is_given_before d x ≡ true
    by Less is no' = absurd cc
    by Equal is no' =
        ap is_lt (delivery-total.antisymm d x ∙ ap ordering_reverse (delivery-total.congr x e d is) ∙ sym (delivery-total.antisymm d e)) ∙ h
    by Greater is no' = ap is_lt (delivery-total.trans d e x first (delivery-total.antisymm e x ∙ ap ordering_reverse is))

-- What goes before one goes before all that it goes before.
before-both : (d e x : Delivery) → is_given_before d e ≡ true → is_given_before e x ≡ true → is_given_before d x ≡ true
before-both d e x h k = ap is_lt (delivery-total.trans d e x (less-is (delivery_cmp d e) h) (less-is (delivery_cmp e x) k))

abbrev IsAhead : Delivery → Delivery → Type 0
IsAhead e x = (d : Delivery) → is_given_before d e ≡ true → is_given_before d x ≡ true

abbrev AreSorted : List Delivery → Type 0
AreSorted [] = ⊤
AreSorted (e ∷ es) = All (IsAhead e) es × AreSorted es

sorted-with : (d : Delivery) (ds : List Delivery) → AreSorted ds → AreSorted (in_order d ds)
sorted-with d [] h = (All-nil (IsAhead d), tt)
sorted-with d (e ∷ es) h = by (is_given_before d e) refl (sorted-with d es h.1)
  where
    by : (b : Bool) → is_given_before d e ≡ b → AreSorted (in_order d es) → AreSorted (cond b (d ∷ e ∷ es) (e ∷ in_order d es))
    by true is rest = (All-cons (IsAhead d) e es (λ c lt. before-both c d e lt is) (λ k x below c lt. h.0 k x below c (before-both c d e lt is)), h)
    by false is rest = (in_order-all (IsAhead e) d es (λ c lt. before-later c e d lt is) h.0, rest)

sorted-filter : (test : Delivery → Bool) (ds : List Delivery) → AreSorted ds → AreSorted (filter test ds)
sorted-filter test [] h = tt
sorted-filter test (d ∷ ds) h = by (test d) (sorted-filter test ds h.1)
  where
    by : (b : Bool) → AreSorted (filter test ds) → AreSorted (cond b (d ∷ filter test ds) (filter test ds))
    by true rest = (All-filter test (IsAhead d) ds h.0, rest)
    by false rest = rest

undelivered-sorted : (rule : Rule) (t : List Event) → AreSorted (undelivered rule t)
undelivered-sorted rule [] = tt
undelivered-sorted rule (started s ∷ t) = sorted-with (delivery_of rule s (last_due rule s.packet.link t)) (undelivered rule t) (undelivered-sorted rule t)
undelivered-sorted rule (collected at ∷ t) = sorted-filter (λ d. nat_lt at d.due) (undelivered rule t) (undelivered-sorted rule t)
undelivered-sorted rule (_ ∷ t) = undelivered-sorted rule t

module _ (test : Delivery → Bool) where
  -- One that goes before all goes before the first of some.
  in-front : (d : Delivery) (ds : List Delivery) → All (λ x. is_given_before d x ≡ true) ds → in_order d ds ≡ d ∷ ds
  in-front d [] h = refl
  in-front d (e ∷ es) h = ap (λ b. cond b (d ∷ e ∷ es) (e ∷ in_order d es)) (h 0 e (omega arith))

  filter-in_order : (d : Delivery) (ds : List Delivery) → AreSorted ds → test d ≡ true → filter test (in_order d ds) ≡ in_order d (filter test ds)
  filter-in_order d [] h e = ap (λ b. cond b (d ∷ []) []) e
  filter-in_order d (x ∷ xs) h e = by (is_given_before d x) refl (filter-in_order d xs h.1 e)
    where
      by : (b : Bool) → is_given_before d x ≡ b → filter test (in_order d xs) ≡ in_order d (filter test xs) → filter test (cond b (d ∷ x ∷ xs) (x ∷ in_order d xs)) ≡ in_order d (filter test (x ∷ xs))
      by true is rest =
          ap (λ b. cond b (d ∷ filter test (x ∷ xs)) (filter test (x ∷ xs))) e
          ∙ sym (in-front d (filter test (x ∷ xs)) (All-filter test (λ y. is_given_before d y ≡ true) (x ∷ xs) (All-cons (λ y. is_given_before d y ≡ true) x xs is (λ k y below. h.0 k y below d is))))
      by false is rest = either (test x)
        where
          either : (c : Bool) → cond c (x ∷ filter test (in_order d xs)) (filter test (in_order d xs)) ≡ in_order d (cond c (x ∷ filter test xs) (filter test xs))
          either true = ap (λ (r : List Delivery). x ∷ r) rest ∙ sym (ap (λ b. cond b (d ∷ x ∷ filter test xs) (x ∷ in_order d (filter test xs))) is)
          either false = rest

  filter-out : (d : Delivery) (ds : List Delivery) → test d ≡ false → filter test (in_order d ds) ≡ filter test ds
  filter-out d [] e = ap (λ b. cond b (d ∷ []) []) e
  filter-out d (x ∷ xs) e = by (is_given_before d x) (filter-out d xs e)
    where
      by : (b : Bool) → filter test (in_order d xs) ≡ filter test xs → filter test (cond b (d ∷ x ∷ xs) (x ∷ in_order d xs)) ≡ filter test (x ∷ xs)
      by true rest = ap (λ b. cond b (d ∷ filter test (x ∷ xs)) (filter test (x ∷ xs))) e
      by false rest = ap (λ (r : List Delivery). cond (test x) (x ∷ r) r) rest

  filter-both : (other : Delivery → Bool) (ds : List Delivery) → filter test (filter other ds) ≡ filter other (filter test ds)
  filter-both other [] = refl
  filter-both other (x ∷ xs) = by (other x) refl (test x) refl (filter-both other xs)
    where
      by : (b : Bool) → other x ≡ b → (c : Bool) → test x ≡ c → filter test (filter other xs) ≡ filter other (filter test xs) →
          filter test (cond b (x ∷ filter other xs) (filter other xs)) ≡ filter other (cond c (x ∷ filter test xs) (filter test xs))
      by true is true is' rest = (λ i. cond (is' i) (x ∷ rest i) (rest i)) ∙ sym (ap (λ b. cond b (x ∷ filter other (filter test xs)) (filter other (filter test xs))) is)
      by true is false is' rest = ap (λ c. cond c (x ∷ filter test (filter other xs)) (filter test (filter other xs))) is' ∙ rest
      by false is true is' rest = rest ∙ sym (ap (λ b. cond b (x ∷ filter other (filter test xs)) (filter other (filter test xs))) is)
      by false is false is' rest = rest

module _ (chosen : Choice) (mine taken : ℕ → Bool) where
  abbrev part-on : List Event → List Event
  part-on t = part chosen mine taken t

  abbrev delivery-on : Delivery → Delivery
  delivery-on d = delivery_by (place mine) (place taken) d

  abbrev is-mine : Delivery → Bool
  is-mine d = mine d.flow

  -- A delivery of the pipe has one of its numbers.
  abbrev pub IsTaken : Delivery → Type 0
  IsTaken d = mine d.flow ≡ true → taken d.packet ≡ true

  abbrev IsOn : Delivery → Type 0
  IsOn d = (mine d.flow ≡ true) × (taken d.packet ≡ true)

  compare-places : (test : ℕ → Bool) (a b : ℕ) → test a ≡ true → test b ≡ true → nat_cmp (place test a) (place test b) ≡ nat_cmp a b
  compare-places test a b one two = sym (nat_cmp_is (place test a) (place test b) (nat_cmp a b) (by (nat_cmp a b) (ranks a b)))
    where
      by : (r : Ordering) → MatchOrdering r (a < b) (a ≡ b) (b < a) → MatchOrdering r (place test a < place test b) (place test a ≡ place test b) (place test b < place test a)
      by Less h = place-lt test a b h one
      by Equal h = ap (place test) h
      by Greater h = place-lt test b a h two

  before-part : (a b : Delivery) → IsOn a → IsOn b → is_given_before (delivery-on a) (delivery-on b) ≡ is_given_before a b
  before-part a b h k =
      let p = compare-places taken a.packet b.packet h.1 k.1 in
      let f = compare-places mine a.flow b.flow h.0 k.0 in
      λ i. is_lt (ordering_then (nat_cmp a.due b.due) (ordering_then (p i) (ordering_then (f i) (nat_cmp a.start b.start))))

  in_order-part : (d : Delivery) (ds : List Delivery) → IsOn d → All IsOn ds → map delivery-on (in_order d ds) ≡ in_order (delivery-on d) (map delivery-on ds)
  in_order-part d [] h all = refl
  in_order-part d (e ∷ es) h all =
      let rest = in_order-part d es h (λ k x below. all (suc k) x (omega arith)) in
      by (is_given_before d e) rest ∙ sym (ap (λ b. cond b (delivery-on d ∷ delivery-on e ∷ map delivery-on es)
      (delivery-on e ∷ in_order (delivery-on d) (map delivery-on es))) (before-part d e h (all 0 e (omega arith))))
    where
      by : (b : Bool) → map delivery-on (in_order d es) ≡ in_order (delivery-on d) (map delivery-on es) →
          map delivery-on (cond b (d ∷ e ∷ es) (e ∷ in_order d es)) ≡ cond b (delivery-on d ∷ delivery-on e ∷ map delivery-on es) (delivery-on e ∷ in_order (delivery-on d) (map delivery-on es))
      by true rest = refl
      by false rest = ap (λ (r : List Delivery). delivery-on e ∷ r) rest

  all-on : (ds : List Delivery) → All IsTaken ds → All IsOn (filter is-mine ds)
  all-on [] h = All-nil IsOn
  all-on (d ∷ ds) h = by (is-mine d) refl (all-on ds (λ k x below. h (suc k) x (omega arith)))
    where
      by : (b : Bool) → is-mine d ≡ b → All IsOn (filter is-mine ds) → All IsOn (cond b (d ∷ filter is-mine ds) (filter is-mine ds))
      by true e rest = All-cons IsOn d (filter is-mine ds) (e, h 0 d (omega arith) e) rest
      by false e rest = rest

  filter-map : (at : ℕ) (later : Bool) (ds : List Delivery) → filter (λ d. cond later (nat_lt at d.due) (nat_le d.due at)) (map delivery-on ds)
      ≡ map delivery-on (filter (λ d. cond later (nat_lt at d.due) (nat_le d.due at)) ds)
  filter-map at later [] = refl
  filter-map at later (d ∷ ds) = by (cond later (nat_lt at d.due) (nat_le d.due at)) (filter-map at later ds)
    where
      by : (b : Bool) → filter (λ d. cond later (nat_lt at d.due) (nat_le d.due at)) (map delivery-on ds) ≡ map delivery-on (filter (λ d. cond later (nat_lt at d.due) (nat_le d.due at)) ds) →
          cond b (delivery-on d ∷ filter (λ d. cond later (nat_lt at d.due) (nat_le d.due at)) (map delivery-on ds))
          (filter (λ d. cond later (nat_lt at d.due) (nat_le d.due at)) (map delivery-on ds)) ≡
          map delivery-on (cond b (d ∷ filter (λ d. cond later (nat_lt at d.due) (nat_le d.due at)) ds) (filter (λ d. cond later (nat_lt at d.due) (nat_le d.due at)) ds))
      by true rest = ap (λ (r : List Delivery). delivery-on d ∷ r) rest
      by false rest = rest

  abbrev IsNumbered : Accepted → Type 0
  IsNumbered p = taken p.packet ≡ is_link_on chosen mine p.link

  backlog-numbered : (l : Link) (f : ℕ) (t : List Event) → AreTaken chosen mine taken t → All IsNumbered (backlog l f t)
  backlog-numbered l f [] h = All-nil IsNumbered
  backlog-numbered l f (arrived q ∷ t) h = each-pushed IsNumbered (is_of l f q) (backlog l f t) q (λ _. h.0) (backlog-numbered l f t h.1)
  backlog-numbered l f (started s ∷ t) h = each-left IsNumbered (is_of l f s.packet) (backlog l f t) (backlog-numbered l f t h)
  backlog-numbered l f (discarded g ∷ t) h = each-cleared IsNumbered (nat_eq g f) (backlog l f t) (backlog-numbered l f t h)
  backlog-numbered l f (_ ∷ t) h = backlog-numbered l f t h

  first-numbered : (p : Accepted) (ps : List Accepted) → slice_get ps 0 ≡ Some p → All IsNumbered ps → IsNumbered p
  first-numbered p [] e all = absurd cc
  first-numbered p (r ∷ ps) e all = let same : r ≡ p = cc in subst IsNumbered same (all 0 r (omega arith))

  start-taken : (s : Start) (t : List Event) → IsFit chosen mine taken s.packet.link s.packet.stamped.flow
      → AreTaken chosen mine taken t → slice_get (backlog s.packet.link s.packet.stamped.flow t) 0 ≡ Some s.packet →
      mine s.packet.stamped.flow ≡ true → taken s.packet.packet ≡ true
  start-taken s t fit all first e =
      first-numbered s.packet (backlog s.packet.link s.packet.stamped.flow t) first (backlog-numbered s.packet.link s.packet.stamped.flow t all) ∙ sym fit ∙ e

  pub all-taken : (rule : Rule) (t : List Event) → AreFit chosen mine taken t → IsProper t → AreTaken chosen mine taken t → All IsTaken (undelivered rule t)
  all-taken rule [] f h a = All-nil IsTaken
  all-taken rule (opened l ∷ t) f h a = all-taken rule t f h a
  all-taken rule (arrived q ∷ t) f h a = all-taken rule t f.1 h.1 a.1
  all-taken rule (started s ∷ t) f h a =
      in_order-all IsTaken (delivery_of rule s (last_due rule s.packet.link t)) (undelivered rule t) (λ e. start-taken s t f.0 a h.0 e) (all-taken rule t f.1 h.2 a)
  all-taken rule (lost l g ∷ t) f h a = all-taken rule t f.1 h a
  all-taken rule (refused l g ∷ t) f h a = all-taken rule t f.1 h a
  all-taken rule (discarded g ∷ t) f h a = all-taken rule t f h a
  all-taken rule (collected at ∷ t) f h a = All-filter (λ d. nat_lt at d.due) IsTaken (undelivered rule t) (all-taken rule t f h a)

  started-part : (rule : Rule) (s : Start) (t : List Event) → IsFit chosen mine taken s.packet.link s.packet.stamped.flow → AreFit chosen mine taken t → AreTaken chosen mine taken t →
      slice_get (backlog s.packet.link s.packet.stamped.flow t) 0 ≡ Some s.packet → All IsTaken (undelivered rule t)
      → undelivered rule (part-on t) ≡ map delivery-on (filter is-mine (undelivered rule t)) →
      undelivered rule (part-on (started s ∷ t)) ≡ map delivery-on (filter is-mine (undelivered rule (started s ∷ t)))
  started-part rule s t fit all tk first everyone rest = by (is_link_on chosen mine s.packet.link) refl
    where
      d : Delivery
      d = delivery_of rule s (last_due rule s.packet.link t)

      by : (b : Bool) → is_link_on chosen mine s.packet.link ≡ b → undelivered rule (cond b (started (start' chosen mine taken s) ∷ part-on t) (part-on t))
          ≡ map delivery-on (filter is-mine (in_order (delivery_of rule s (last_due rule s.packet.link t)) (undelivered rule t)))
      by true e =
          let last = last_due-part chosen mine taken s.packet.link e rule t all in
          let on : mine s.packet.stamped.flow ≡ true = fit ∙ e in
          (λ i. in_order (record { due = due_by rule (arrival_time s) (last i); packet = place taken s.packet.packet; flow = place mine s.packet.stamped.flow; start = s.moment }) (rest i))
          ∙ sym (in_order-part (delivery_of rule s (last_due rule s.packet.link t)) (filter is-mine (undelivered rule t)) (on, start-taken s t fit tk first on) (all-on (undelivered rule t) everyone))
          ∙ ap (map delivery-on) (sym (filter-in_order is-mine (delivery_of rule s (last_due rule s.packet.link t)) (undelivered rule t) (undelivered-sorted rule t) on))
      by false e = rest ∙ ap (map delivery-on) (sym (filter-out is-mine (delivery_of rule s (last_due rule s.packet.link t)) (undelivered rule t) (fit ∙ e)))

  pub undelivered-part : (rule : Rule) (t : List Event) → AreFit chosen mine taken t → IsProper t
      → AreTaken chosen mine taken t → undelivered rule (part-on t) ≡ map delivery-on (filter is-mine (undelivered rule t))
  undelivered-part rule [] f h a = refl
  undelivered-part rule (opened l ∷ t) f h a = skip (undelivered rule) (is_link_on chosen mine l) (opened (link' chosen mine taken l)) (part-on t) refl ∙ undelivered-part rule t f h a
  undelivered-part rule (arrived q ∷ t) f h a = skip (undelivered rule) (is_link_on chosen mine q.link) (arrived (accepted' chosen mine taken q)) (part-on t) refl ∙ undelivered-part rule t f.1 h.1 a.1
  undelivered-part rule (started s ∷ t) f h a = started-part rule s t f.0 f.1 a h.0 (all-taken rule t f.1 h.2 a) (undelivered-part rule t f.1 h.2 a)
  undelivered-part rule (lost l g ∷ t) f h a = skip (undelivered rule) (is_link_on chosen mine l) (lost (link' chosen mine taken l) (place mine g)) (part-on t) refl ∙ undelivered-part rule t f.1 h a
  undelivered-part rule (refused l g ∷ t) f h a = skip (undelivered rule) (is_link_on chosen mine l) (refused (link' chosen mine taken l) (place mine g))
      (part-on t) refl ∙ undelivered-part rule t f.1 h a
  undelivered-part rule (discarded g ∷ t) f h a = skip (undelivered rule) (mine g) (discarded (place mine g)) (part-on t) refl ∙ undelivered-part rule t f h a
  undelivered-part rule (collected at ∷ t) f h a =
      ap (filter (λ d. nat_lt at d.due)) (undelivered-part rule t f h a) ∙ filter-map at true (filter is-mine (undelivered rule t))
      ∙ ap (map delivery-on) (sym (filter-both is-mine (λ d. nat_lt at d.due) (undelivered rule t)))

  pub given-part : (rule : Rule) (at : ℕ) (t : List Event) → AreFit chosen mine taken t → IsProper t
      → AreTaken chosen mine taken t → given rule at (part-on t) ≡ map delivery-on (filter is-mine (given rule at t))
  given-part rule at t f h a =
      ap (filter (λ d. nat_le d.due at)) (undelivered-part rule t f h a) ∙ filter-map at false (filter is-mine (undelivered rule t))
      ∙ ap (map delivery-on) (sym (filter-both is-mine (λ d. nat_le d.due at) (undelivered rule t)))
