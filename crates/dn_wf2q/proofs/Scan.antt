-- What the definition's scan over the heads finds, from what holds of each head: this is where the two heaps and the
-- definition of the pick meet.
use Rattle.dn_wf2q.proofs.Words.{All, All-append, All-cons, All-filter, All-head, All-nil, All-tail, All-weaker, Bool, Flow, HeadIs, List, None, Some, Stamped, [], ap, arith, cases_Bool, cases_lt}
use Rattle.dn_wf2q.proofs.Words.{false, filter, filter_passes, first_to_go, flow_at, goes_before, heads_of, inl, inr, is_eligible, least_start_tag, leb-true, max, min, nat_tests, pick, raised}
use Rattle.dn_wf2q.proofs.Words.{refl, subst, suc, sym, take, true, zero, ℕ, ◌++◌, ◌<◌, ◌∙◌, ◌∷◌, ◌≡◌, ◌≤◌}
use Rattle.dn_wf2q.proofs.Heads.{IfHead}
use Rattle.dn_wf2q.proofs.Counts.{first_packets, heads_are}

-- Some packet of the list has this property.
pub record Has (P : Stamped → Type 0) (hs : List Stamped) : Type 1 where
  pub packet : Stamped
  pub holds : P packet
  pub fits : (Q : Stamped → Type 0) → All Q hs → Q packet

has_here : (P : Stamped → Type 0) (h : Stamped) (hs : List Stamped) → P h → Has P (h ∷ hs)
has_here P h hs p = record { packet = h; holds = p; fits = λ Q all. All-head Q h hs all }

has_later : (P : Stamped → Type 0) (h : Stamped) (hs : List Stamped) → Has P hs → Has P (h ∷ hs)
has_later P h hs r = record { packet = r.packet; holds = r.holds; fits = λ Q all. r.fits Q (All-tail Q h hs all) }

has_in_append : (P : Stamped → Type 0) (xs hs : List Stamped) → Has P hs → Has P (xs ++ hs)
has_in_append P [] hs r = r
has_in_append P (x ∷ xs) hs r = has_later P x (xs ++ hs) (has_in_append P xs hs r)

has_first : (P : Stamped → Type 0) (q hs : List Stamped) → HeadIs P q → Has P (take 1 q ++ hs)
has_first P [] hs h = absurd h
has_first P (p ∷ q) hs h = has_here P p hs h

-- A head of which P holds is among the heads.
has_head : (P : Stamped → Type 0) (flows : List Flow) (slot : ℕ) → HeadIs P (flow_at flows slot).backlog → Has P (first_packets flows)
has_head P [] slot h = absurd h
has_head P (fl ∷ fls) zero h = has_first P fl.backlog (first_packets fls) h
has_head P (fl ∷ fls) (suc slot) h = has_in_append P (take 1 fl.backlog) (first_packets fls) (has_head P fls slot h)

all_first : (P : Stamped → Type 0) (q : List Stamped) → IfHead P q → All P (take 1 q)
all_first P [] h = All-nil P
all_first P (p ∷ q) h = All-cons P p [] h (All-nil P)

-- What holds of the head at each slot holds of all heads.
all_heads : (P : Stamped → Type 0) (flows : List Flow) → ((slot : ℕ) → IfHead P (flow_at flows slot).backlog) → All P (first_packets flows)
all_heads P [] h = All-nil P
all_heads P (fl ∷ fls) h = All-append P (take 1 fl.backlog) (first_packets fls) (all_first P fl.backlog (h 0)) (all_heads P fls (λ slot. h (suc slot)))

least-le : (most : ℕ) (hs : List Stamped) → (least_start_tag most hs ≤ most) × All (λ h. least_start_tag most hs ≤ h.start_tag) hs
least-le most [] = (omega arith, All-nil (λ h. most ≤ h.start_tag))
least-le most (h ∷ hs) =
    let rest = least-le most hs in
    let r0 = rest.0 in
    let least = least_start_tag most hs in (
      omega arith,
      All-cons (λ x. min h.start_tag least ≤ x.start_tag) h hs (omega arith) (All-weaker (λ x. least ≤ x.start_tag) (λ x. min h.start_tag least ≤ x.start_tag) (λ x l. omega arith) hs rest.1),
    )

least-ge : (s most : ℕ) (hs : List Stamped) → s ≤ most → All (λ h. s ≤ h.start_tag) hs → s ≤ least_start_tag most hs
least-ge s most [] l all = l
least-ge s most (h ∷ hs) l all =
    let one = All-head (λ x. s ≤ x.start_tag) h hs all in
    let rest = least-ge s most hs l (All-tail (λ x. s ≤ x.start_tag) h hs all) in
    omega arith

raised-stays : (v : ℕ) (hs : List Stamped) → Has (λ h. h.start_tag ≤ v) hs → raised v hs ≡ v
raised-stays v [] r = refl
raised-stays v (h ∷ hs) r =
    let l = least-le h.start_tag hs in
    let l0 = l.0 in
    let m = r.fits (λ x. least_start_tag h.start_tag hs ≤ x.start_tag) (All-cons (λ x. least_start_tag h.start_tag hs ≤ x.start_tag) h hs l0 l.1) in
    let n = r.holds in
    omega (arith, m, n)

raised-to : (v s : ℕ) (hs : List Stamped) → Has (λ h. h.start_tag ≤ s) hs → All (λ h. s ≤ h.start_tag) hs → raised v hs ≡ max v s
raised-to v s [] r all = absurd (let f = r.fits (λ x. ⊥) (All-nil (λ x. ⊥)) in f)
raised-to v s (h ∷ hs) r all =
    let l = least-le h.start_tag hs in
    let l0 = l.0 in
    let m = r.fits (λ x. least_start_tag h.start_tag hs ≤ x.start_tag) (All-cons (λ x. least_start_tag h.start_tag hs ≤ x.start_tag) h hs l0 l.1) in
    let n = r.holds in
    let one = All-head (λ x. s ≤ x.start_tag) h hs all in
    let ge = least-ge s h.start_tag hs one (All-tail (λ x. s ≤ x.start_tag) h hs all) in
    omega (arith, m, n, ge)

-- Virtual time stays where some head is eligible already.
pub raised_stays : (v : ℕ) (flows : List Flow) (slot : ℕ) → HeadIs (λ p. p.start_tag ≤ v) (flow_at flows slot).backlog → raised v (heads_of flows) ≡ v
raised_stays v flows slot h = rw (heads_are flows) (raised-stays v (first_packets flows) (has_head (λ p. p.start_tag ≤ v) flows slot h))

-- Virtual time is raised to s, where s is the least start tag.
pub raised_is : (v s : ℕ) (flows : List Flow) (slot : ℕ) → HeadIs (λ p. p.start_tag ≤ s) (flow_at flows slot).backlog
    → ((g : ℕ) → IfHead (λ p. s ≤ p.start_tag) (flow_at flows g).backlog) → raised v (heads_of flows) ≡ max v s
raised_is v s flows slot h all = rw (heads_are flows) (raised-to v s (first_packets flows) (has_head (λ p. p.start_tag ≤ s) flows slot h) (all_heads (λ p. s ≤ p.start_tag) flows all))

-- The packet a does not go before b.
abbrev pub IsNotBefore : Stamped → Stamped → Type 0
IsNotBefore a b = (b.finish_tag ≤ a.finish_tag) × (a.finish_tag ≡ b.finish_tag → b.flow ≤ a.flow)

not_before : (a b : Stamped) → goes_before a b ≡ false → IsNotBefore a b
not_before a b h = elim (cases_lt a.finish_tag b.finish_tag) [
  | inl l ↦ absurd (let z : goes_before a b ≡ true = grind (arith, nat_tests) in cc)
  | inr m ↦ (
    m,
    λ e. elim (cases_lt a.flow b.flow) [
      | inl l ↦ absurd (let z : goes_before a b ≡ true = grind (arith, nat_tests) in cc)
      | inr n ↦ n
    ],
  )
]

before : (a b : Stamped) → goes_before a b ≡ true → IsNotBefore b a
before a b h = elim (cases_lt b.finish_tag a.finish_tag) [
  | inl l ↦ absurd (let z : goes_before a b ≡ false = grind (arith, nat_tests) in cc)
  | inr m ↦ (
    m,
    λ e. elim (cases_lt b.flow a.flow) [
      | inl l ↦ absurd (let z : goes_before a b ≡ false = grind (arith, nat_tests) in cc)
      | inr n ↦ n
    ],
  )
]

-- What the scan finds is in the list, and none goes before it.
record IsFirst (r : Stamped) (hs : List Stamped) : Type 1 where
  is : first_to_go hs ≡ Some r
  among : (Q : Stamped → Type 0) → All Q hs → Q r
  first : All (λ x. IsNotBefore x r) hs

weaker_first : (a b : Stamped) → IsNotBefore b a → (x : Stamped) → IsNotBefore x b → IsNotBefore x a
weaker_first a b h x k =
    let h0 = h.0 in
    let h1 = h.1 in
    let k0 = k.0 in
    let k1 = k.1 in
    (omega arith, λ e. let u = h1 (omega arith) in let w = k1 (omega arith) in omega arith)

first_exists : (h : Stamped) (hs : List Stamped) → (r : Stamped) × IsFirst r (h ∷ hs)
first_exists h [] = (
  h,
  record {
    is = refl;
    among = λ Q all. All-head Q h [] all;
    first = All-cons (λ x. IsNotBefore x h) h [] (omega arith, λ e. omega arith) (All-nil (λ x. IsNotBefore x h));
  },
)
first_exists h (k ∷ hs) =
    let rest = first_exists k hs in
    let b = rest.0 in
    let f = rest.1 in
    elim (cases_Bool (goes_before b h)) [
      | inl y ↦ (
        b,
        record {
          is = rw (f.is, y) refl;
          among = λ Q all. f.among Q (All-tail Q h (k ∷ hs) all);
          first = All-cons (λ x. IsNotBefore x b) h (k ∷ hs) (before b h y) f.first;
        },
      )
      | inr n ↦ (
        h,
        record {
          is = rw (f.is, n) refl;
          among = λ Q all. All-head Q h (k ∷ hs) all;
          first = All-cons (λ x. IsNotBefore x h) h (k ∷ hs) (omega arith, λ e. omega arith)
              (All-weaker (λ x. IsNotBefore x b) (λ x. IsNotBefore x h) (weaker_first h b (not_before b h n)) (k ∷ hs) f.first);
        },
      )
    ]

first_packet_some : (hs : List Stamped) → Has (λ h. Unit {0}) hs → (r : Stamped) × IsFirst r hs
first_packet_some [] s = absurd (let f = s.fits (λ x. ⊥) (All-nil (λ x. ⊥)) in f)
first_packet_some (h ∷ hs) s = first_exists h hs

filtered_fits : (p : Stamped → Bool) (Q : Stamped → Type 0) (hs : List Stamped) → All Q (filter p hs) → All (λ x. p x ≡ true → Q x) hs
filtered_fits p Q [] all = All-nil (λ x. p x ≡ true → Q x)
filtered_fits p Q (h ∷ hs) all = elim (cases_Bool (p h)) [
  | inl e ↦
      let a : All Q (h ∷ filter p hs) = rw e at all in
      All-cons (λ x. p x ≡ true → Q x) h hs (λ _. All-head Q h (filter p hs) a) (filtered_fits p Q hs (All-tail Q h (filter p hs) a))
  | inr e ↦
      let a : All Q (filter p hs) = rw e at all in
      All-cons (λ x. p x ≡ true → Q x) h hs (λ t. absurd (cc)) (filtered_fits p Q hs a)
]

has_filtered : (p : Stamped → Bool) (P : Stamped → Type 0) (hs : List Stamped) → ((h : Stamped) → P h → p h ≡ true) → Has P hs → Has P (filter p hs)
has_filtered p P hs f s = record {
  packet = s.packet;
  holds = s.holds;
  fits = λ Q all. s.fits (λ x. p x ≡ true → Q x) (filtered_fits p Q hs all) (f s.packet s.holds);
}

has_some : (P : Stamped → Type 0) (hs : List Stamped) → Has P hs → Has (λ h. Unit {0}) hs
has_some P hs s = record { packet = s.packet; holds = tt; fits = s.fits }

eligible_by : (v : ℕ) (h : Stamped) → h.start_tag ≤ v → is_eligible v h ≡ true
eligible_by v h l = grind (arith, nat_tests)

-- What another head is to the pick h, where it is eligible: it does not go before h, and no two heads tie.
abbrev pub YieldsTo : ℕ → Stamped → Stamped → Type 0
YieldsTo v h x = x.start_tag ≤ v → IsNotBefore x h × (x.flow ≡ h.flow → x ≡ h)

first-is : (v : ℕ) (h : Stamped) (hs : List Stamped) → Has (λ x. (x ≡ h) × (x.start_tag ≤ v)) hs → All (YieldsTo v h) hs → first_to_go (filter (is_eligible v) hs) ≡ Some h
first-is v h hs has all =
    let fs = filter (is_eligible v) hs in
    let eligible = has_filtered (is_eligible v) (λ x. (x ≡ h) × (x.start_tag ≤ v)) hs (λ x k. eligible_by v x k.1) has in
    let some = first_packet_some fs (has_some (λ x. (x ≡ h) × (x.start_tag ≤ v)) fs eligible) in
    let r = some.0 in
    let f = some.1 in
    let h-r : IsNotBefore h r = subst (λ x. IsNotBefore x r) eligible.holds.0 (eligible.fits (λ x. IsNotBefore x r) f.first) in
    let passes = f.among (λ x. is_eligible v x ≡ true) (filter_passes (is_eligible v) hs) in
    let yields = f.among (YieldsTo v h) (All-filter (is_eligible v) (YieldsTo v h) hs all) (leb-true r.start_tag v passes) in
    let a0 = h-r.0 in
    let a1 = h-r.1 in
    let b0 = yields.0.0 in
    let b1 = yields.0.1 in
    let fin : h.finish_tag ≡ r.finish_tag = omega arith in
    let c = a1 fin in
    let d = b1 (sym fin) in
    f.is ∙ ap (λ x. Some x) (yields.1 (omega arith))

-- The scan finds h, the head at a slot, where h is eligible and each other eligible head yields to it.
pub first_is : (v : ℕ) (flows : List Flow) (slot : ℕ) (h : Stamped) → HeadIs (λ x. (x ≡ h) × (x.start_tag ≤ v)) (flow_at flows slot).backlog
    → ((g : ℕ) → IfHead (YieldsTo v h) (flow_at flows g).backlog) → first_to_go (filter (is_eligible v) (heads_of flows)) ≡ Some h
first_is v flows slot h is all = rw (heads_are flows) (first-is v h (first_packets flows) (has_head (λ x. (x ≡ h) × (x.start_tag ≤ v)) flows slot is) (all_heads (YieldsTo v h) flows all))

filter-none : (p : Stamped → Bool) (hs : List Stamped) → All (λ x. p x ≡ false) hs → filter p hs ≡ []
filter-none p [] all = refl
filter-none p (h ∷ hs) all = rw (All-head (λ x. p x ≡ false) h hs all) (filter-none p hs (All-tail (λ x. p x ≡ false) h hs all))

-- The scan finds nothing where no head is eligible.
pub first_none : (v : ℕ) (flows : List Flow) → ((g : ℕ) → IfHead (λ x. v < x.start_tag) (flow_at flows g).backlog) → first_to_go (filter (is_eligible v) (heads_of flows)) ≡ None
first_none v flows late =
    let all = All-weaker (λ x. v < x.start_tag) (λ x. is_eligible v x ≡ false) (λ x l. grind (arith, nat_tests)) (first_packets flows) (all_heads (λ x. v < x.start_tag) flows late) in
    rw (heads_are flows, filter-none (is_eligible v) (first_packets flows) all) refl

has_least : (h : Stamped) (hs : List Stamped) → Has (λ x. x.start_tag ≤ least_start_tag h.start_tag hs) (h ∷ hs)
has_least h [] = has_here (λ x. x.start_tag ≤ h.start_tag) h [] (omega arith)
has_least h (k ∷ hs) =
    let rest = has_least h hs in
    let least = least_start_tag h.start_tag hs in
    elim (cases_lt k.start_tag least) [
      | inl l ↦ record {
        packet = k;
        holds = omega arith;
        fits = λ Q all. All-head Q k hs (All-tail Q h (k ∷ hs) all);
      }
      | inr m ↦
          let r = rest.holds in
          record {
            packet = rest.packet;
            holds = omega arith;
            fits = λ Q all. rest.fits Q (All-cons Q h hs (All-head Q h (k ∷ hs) all) (All-tail Q k hs (All-tail Q h (k ∷ hs) all)));
          }
    ]

some_picked : (v : ℕ) (h : Stamped) (hs : List Stamped) → pick v (h ∷ hs) ≡ None → ⊥
some_picked v h hs e =
    let w = raised v (h ∷ hs) in
    let has = has_least h hs in
    let l = has.holds in
    let now : Has (λ x. x.start_tag ≤ w) (h ∷ hs) = record { packet = has.packet; holds = omega arith; fits = has.fits } in
    let eligible = has_filtered (is_eligible w) (λ x. x.start_tag ≤ w) (h ∷ hs) (λ x k. eligible_by w x k) now in
    let some = first_packet_some (filter (is_eligible w) (h ∷ hs)) (has_some (λ x. x.start_tag ≤ w) (filter (is_eligible w) (h ∷ hs)) eligible) in
    let is = some.1.is in
    absurd (cc (e, is))

-- The definition picks nothing exactly where there is no head.
pub pick_none : (v : ℕ) (hs : List Stamped) → pick v hs ≡ None → hs ≡ []
pick_none v [] e = refl
pick_none v (h ∷ hs) e = absurd (some_picked v h hs e)
