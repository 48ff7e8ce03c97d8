-- A Collect of the definitions tells what the law of deliveries asks for.
use Rattle.dn_laws.proofs.Words.{All, All-cons, All-head, All-tail, Bool, IsGiven, List, [], ap, arith, cond, count_by, eq-eqb, eqb-true, false, inl, inr, leb_tells, length, nat_eq, refl, subst}
use Rattle.dn_laws.proofs.Words.{sym, true, ℕ, ⊎_elim, ◌++◌, ◌+◌, ◌<◌, ◌∙◌, ◌∷◌, ◌≡◌, ◌≢◌, ◌≤◌}
use Rattle.dn_laws.proofs.LawWords.{trace_of, call_limit, effective_moment, AreInOrder, answers, Has, IsGivenBy, GivesNot, ComesBefore, ComeInOrder, is_on, on_link, emulated, IsDueBy, IsDeliveryOf}
use Rattle.dn_laws.proofs.LawWords.{is_packet, start_count, last_due, reply, replies, times_in, times_told, Link, Start, Event, started, Call, Collect, Delivery, Reply, Delivered, Rule}
use Rattle.dn_types.proofs.{Giving.count-delivery, Once.starts-once, Settled.link_eq-refl, Settled.link_eq-true}
use Rattle.dn_laws.proofs.{PlainLawsHold.answers-are, ReadingsObey.read, ReadingsObey.due-on, ReadingsObey.kept-on, Isolation.false-if, ToldDeliveries.collects-are-told, ToldDeliveries.told-once}
use Rattle.dn_laws.proofs.{ToldDeliveries.told-when-due, ToldDeliveries.one-start, ToldDeliveries.one-due}

all-has : (P : Delivery → Type 0) (ds : List Delivery) (d : Delivery) → All P ds → Has ds d → P d
all-has P [] d h there = absurd there
all-has P (x ∷ ds) d h there = ⊎_elim (λ e. subst P e (All-head P x ds h)) (λ rest. all-has P ds d (All-tail P x ds h) rest) there

counts : (n : ℕ) (d : Delivery) → d.packet ≡ n → cond {A = ℕ} (is_packet n d) 1 0 ≡ 1
counts n d e = ap {B = ℕ} (λ b. cond b 1 0) (eq-eqb d.packet n e)

has-count : (n : ℕ) (ds : List Delivery) (d : Delivery) → Has ds d → d.packet ≡ n → 1 ≤ count_by (is_packet n) ds
has-count n [] d there e = absurd there
has-count n (x ∷ ds) d there e = ⊎_elim
    (λ same. let one = count-delivery (is_packet n) x ds in let it = counts n x (ap (λ (y : Delivery). y.packet) same ∙ e) in omega (arith, one, it))
    (λ rest. let one = count-delivery (is_packet n) x ds in let more = has-count n ds d rest e in omega (arith, one, more)) there

count-has : (n : ℕ) (ds : List Delivery) → 1 ≤ count_by (is_packet n) ds → (d : Delivery) × Has ds d × (d.packet ≡ n)
count-has n [] h = absurd (omega (arith, h))
count-has n (x ∷ ds) h = by (nat_eq x.packet n) refl (λ more. count-has n ds more)
  where
    by : (b : Bool) → nat_eq x.packet n ≡ b → (1 ≤ count_by (is_packet n) ds → (d : Delivery) × Has ds d × (d.packet ≡ n)) → (d : Delivery) × Has (x ∷ ds) d × (d.packet ≡ n)
    by true e rest = (x, inl refl, eqb-true x.packet n e)
    by false e rest =
        let one = count-delivery (is_packet n) x ds in
        let no' : cond {A = ℕ} (nat_eq x.packet n) 1 0 ≡ 0 = ap {B = ℕ} (λ b. cond b 1 0) e in
        let some = rest (omega (arith, h, one, no')) in
        (some.0, inr some.1, some.2)

strictly : (ds : List Delivery) → AreInOrder ds → ((n : ℕ) → count_by (is_packet n) ds ≤ 1) → ComeInOrder ds
strictly [] h once = tt
strictly (d ∷ ds) h once = (before, strictly ds h.1 (λ n. let one = count-delivery (is_packet n) d ds in let o = once n in omega (arith, one, o)))
  where
    differs : (other : Delivery) → Has ds other → other.packet ≡ d.packet → ⊥
    differs other there e =
        let one = count-delivery (is_packet d.packet) d ds in
        let it = counts d.packet d refl in
        let more = has-count d.packet ds other there e in
        let o = once d.packet in
        absurd (omega (arith, one, it, more, o))

    before : (other : Delivery) → Has ds other → ComesBefore d other
    before other there = ⊎_elim
        (λ low. let same : d.due ≡ other.due = (let a = low.1 in let b = le.0 in omega (arith, a, b)) in
        inr (same, ⊎_elim (λ down. absurd (differs other there (let a = down.1 in let b = le.1 same in omega (arith, a, b)))) (λ up. up.1) (leb_tells other.packet d.packet)))
        (λ high. inl high.1)
        (leb_tells other.due d.due)
      where
        le : (d.due ≤ other.due) × (d.due ≡ other.due → d.packet ≤ other.packet)
        le = all-has (λ e. (d.due ≤ e.due) × (d.due ≡ e.due → d.packet ≤ e.packet)) ds other h.0 there

none-in : (n : ℕ) (ds : List Delivery) → count_by (is_packet n) ds ≡ 0 → All (λ d. d.packet ≢ n) ds
none-in n [] e = λ k d lt. absurd (omega (arith, lt))
none-in n (x ∷ ds) e =
    let one = count-delivery (is_packet n) x ds in
    All-cons (λ d. d.packet ≢ n) x ds (λ same. let it = counts n x same in absurd (omega (arith, e, one, it))) (none-in n ds (omega (arith, e, one)))

gives-not : (n : ℕ) (r : Reply) → times_in n r ≡ 0 → GivesNot n r
gives-not n (Delivered at list) e = none-in n list e
gives-not n _ e = tt

none-told : (n : ℕ) (rs : List Reply) → times_told n rs ≡ 0 → All (GivesNot n) rs
none-told n [] e = λ k d lt. absurd (omega (arith, lt))
none-told n (r ∷ rs) e = All-cons (GivesNot n) r rs (gives-not n r (omega (arith, e))) (none-told n rs (omega (arith, e)))

no-count : (n : ℕ) (ds : List Delivery) → All (λ d. d.packet ≢ n) ds → count_by (is_packet n) ds ≡ 0
no-count n [] h = refl
no-count n (x ∷ ds) h =
    let one = count-delivery (is_packet n) x ds in
    let rest = no-count n ds (All-tail (λ d. d.packet ≢ n) x ds h) in
    let no' : cond {A = ℕ} (nat_eq x.packet n) 1 0 ≡ 0 = ap {B = ℕ} (λ b. cond b 1 0) (false-if (nat_eq x.packet n) (λ t. All-head (λ d. d.packet ≢ n) x ds h (eqb-true x.packet n t))) in
    omega (arith, one, rest, no')

not-given : (n : ℕ) (r : Reply) → GivesNot n r → times_in n r ≡ 0
not-given n (Delivered at list) h = no-count n list h
not-given n _ h = refl

never-told : (n : ℕ) (rs : List Reply) → All (GivesNot n) rs → times_told n rs ≡ 0
never-told n [] h = refl
never-told n (r ∷ rs) h = let one = not-given n r (All-head (GivesNot n) r rs h) in let rest = never-told n rs (All-tail (GivesNot n) r rs h) in omega (arith, one, rest)

on-append : (link : Link) (a b : List Event) → on_link link (a ++ b) ≡ on_link link a ++ on_link link b
on-append link [] b = refl
on-append link (e ∷ a) b = by (is_on link e) (on-append link a b)
  where
    by : (c : Bool) → on_link link (a ++ b) ≡ on_link link a ++ on_link link b → cond c (e ∷ on_link link (a ++ b)) (on_link link (a ++ b)) ≡ cond c (e ∷ on_link link a) (on_link link a) ++ on_link link b
    by true rest = ap (λ (t : List Event). e ∷ t) rest
    by false rest = rest

-- Where a start stands among what happened on a link, it stands among all that happened.
pub record IsAmong (link : Link) (t : List Event) (s : Start) (earlier : List Event) : Type 0 where
  pub later : List Event
  pub older : List Event
  pub all : t ≡ later ++ started s ∷ older
  pub on_it : on_link link older ≡ earlier
  pub of_link : s.packet.link ≡ link

among : (link : Link) (t later earlier : List Event) (s : Start) → on_link link t ≡ later ++ started s ∷ earlier → IsAmong link t s earlier
among link [] [] earlier s e = absurd cc
among link [] (x ∷ later) earlier s e = absurd cc
among link (x ∷ t) later earlier s e = by (is_on link x) refl later e (λ l h. among link t l earlier s h)
  where
    more : IsAmong link t s earlier → IsAmong link (x ∷ t) s earlier
    more a = record { later = x ∷ a.later; older = a.older; all = ap (λ (u : List Event). x ∷ u) a.all; on_it = a.on_it; of_link = a.of_link }

    by : (b : Bool) → is_on link x ≡ b → (later : List Event) → cond b (x ∷ on_link link t) (on_link link t) ≡ later ++ started s ∷ earlier →
        ((l : List Event) → on_link link t ≡ l ++ started s ∷ earlier → IsAmong link t s earlier) → IsAmong link (x ∷ t) s earlier
    by false is later e rest = more (rest later e)
    by true is [] e rest =
        let first : x ≡ started s = cc in
        let tail : on_link link t ≡ earlier = cc in
        record {
          later = [];
          older = t;
          all = ap (λ (y : Event). y ∷ t) first;
          on_it = tail;
          of_link = link_eq-true s.packet.link link (ap (is_on link) (sym first) ∙ is);
        }
    by true is (y ∷ later) e rest = let tail : on_link link t ≡ later ++ started s ∷ earlier = cc in more (rest later tail)

module _ (rule : Rule) (calls : List Call) (moment : ℕ) (lt : length calls < call_limit) where
  all : List Event
  all = trace_of (Collect moment ∷ calls)

  told : (list : List Delivery) × (reply rule calls (Collect moment) ≡ Delivered (effective_moment (Collect moment ∷ calls)) list)
      × All (λ d. (d.due ≤ effective_moment (Collect moment ∷ calls)) × IsDeliveryOf rule (trace_of (Collect moment ∷ calls)) d) list
      × AreInOrder list
  told = collects-are-told rule calls moment lt

  in-all : (n : ℕ) → count_by (is_packet n) told.0 + times_told n (replies rule calls) ≡ times_told n (replies rule (Collect moment ∷ calls))
  in-all n = let same : times_in n (reply rule calls (Collect moment)) ≡ count_by (is_packet n) told.0 = ap (times_in n) told.1 in omega (arith, same)

  once : (n : ℕ) → count_by (is_packet n) told.0 + times_told n (replies rule calls) ≤ 1
  once n = let a = in-all n in let b = told-once rule n (Collect moment ∷ calls) in omega (arith, a, b)

  given-by : (d : Delivery) → IsDeliveryOf rule (trace_of (Collect moment ∷ calls)) d → IsGivenBy rule (read rule) (emulated rule) (Collect moment ∷ calls) d
  given-by d h = record {
    link = h.start.packet.link;
    start = h.start;
    later = on_link h.start.packet.link h.later;
    earlier = on_link h.start.packet.link h.earlier;
    happened = ap (on_link h.start.packet.link) h.happened ∙ on-append h.start.packet.link h.later (started h.start ∷ h.earlier)
        ∙ ap (λ (t : List Event). on_link h.start.packet.link h.later ++ t) (kept-on h.start.packet.link (started h.start) h.earlier (link_eq-refl h.start.packet.link));
    number = h.number;
    flow = h.flow;
    moment = h.moment;
    due = subst (λ (n : ℕ). IsDueBy rule h.start n d.due) (sym (due-on rule h.start.packet.link h.earlier)) h.due;
  }

  not-before : (d : Delivery) → Has told.0 d → All (GivesNot d.packet) (answers (emulated rule) calls)
  not-before d there =
      let some = has-count d.packet told.0 d there refl in
      let o = once d.packet in
      subst (λ (rs : List Reply). All (GivesNot d.packet) rs) (sym (answers-are rule calls)) (none-told d.packet (replies rule calls) (omega (arith, some, o)))

  is-there : (d : Delivery) → IsGivenBy rule (read rule) (emulated rule) (Collect moment ∷ calls) d → d.due ≤ effective_moment (Collect moment ∷ calls) →
      All (GivesNot d.packet) (answers (emulated rule) calls) → Has told.0 d
  is-there d g soon never = subst (λ (x : Delivery). Has told.0 x) same it.1
    where
      a : IsAmong g.link (trace_of (Collect moment ∷ calls)) g.start g.earlier
      a = among g.link (trace_of (Collect moment ∷ calls)) g.later g.earlier g.start g.happened

      due : IsDueBy rule g.start (last_due rule g.start.packet.link a.older) d.due
      due = subst (λ (n : ℕ). IsDueBy rule g.start n d.due)
          (ap (last_due rule g.link) (sym a.on_it) ∙ due-on rule g.link a.older ∙ ap (λ (l : Link). last_due rule l a.older) (sym a.of_link)) g.due

      one : times_told g.start.packet.packet (replies rule (Collect moment ∷ calls)) ≡ 1
      one = told-when-due rule calls moment d.due a.later a.older g.start lt a.all due soon

      some : 1 ≤ count_by (is_packet d.packet) told.0
      some =
          let n = never-told d.packet (replies rule calls) (subst (λ (rs : List Reply). All (GivesNot d.packet) rs) (answers-are rule calls) never) in
          let c = in-all d.packet in
          let o = ap (λ m. times_told m (replies rule (Collect moment ∷ calls))) g.number ∙ one in
          omega (arith, n, c, o)

      it : (x : Delivery) × Has told.0 x × (x.packet ≡ d.packet)
      it = count-has d.packet told.0 some

      its : IsDeliveryOf rule (trace_of (Collect moment ∷ calls)) it.0
      its = (all-has (λ x. (x.due ≤ effective_moment (Collect moment ∷ calls)) × IsDeliveryOf rule (trace_of (Collect moment ∷ calls)) x) told.0 it.0 told.2 it.1).1

      starts : (its.start ≡ g.start) × (its.earlier ≡ a.older)
      starts = one-start d.packet its.later a.later its.start g.start its.earlier a.older (sym its.happened ∙ a.all) (sym its.number ∙ it.2) (sym g.number)
          (subst (λ (t : List Event). start_count d.packet t ≤ 1) its.happened (starts-once d.packet (Collect moment ∷ calls)))

      due_same : it.0.due ≡ d.due
      due_same = one-due rule g.start (last_due rule g.start.packet.link a.older) it.0.due d.due
          (subst (λ (t : List Event). IsDueBy rule g.start (last_due rule g.start.packet.link t) it.0.due) starts.1
          (subst (λ (x : Start). IsDueBy rule x (last_due rule x.packet.link its.earlier) it.0.due) starts.0 its.due)) due

      same : it.0 ≡ d
      same = λ i. record {
        due = due_same i;
        packet = it.2 i;
        flow = (its.flow ∙ ap (λ (x : Start). x.packet.stamped.flow) starts.0 ∙ sym g.flow) i;
        start = (its.moment ∙ ap (λ (x : Start). x.moment) starts.0 ∙ sym g.moment) i;
      }

  pub gives-hold : (list : List Delivery) × (reply rule calls (Collect moment) ≡ Delivered (effective_moment (Collect moment ∷ calls)) list) × IsGiven rule (read rule) (emulated rule) calls moment list
  gives-hold = (
    told.0,
    told.1,
    record {
      in_order = strictly told.0 told.3 (λ n. let o = once n in omega (arith, o));
      are_due = λ d there. let h = all-has (λ x. (x.due ≤ effective_moment (Collect moment ∷ calls)) × IsDeliveryOf rule (trace_of (Collect moment ∷ calls)) x) told.0 d told.2 there in
          (given-by d h.1, h.0, not-before d there);
      all_due = is-there;
    },
  )
