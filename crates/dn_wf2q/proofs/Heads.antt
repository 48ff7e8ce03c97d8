-- Heads of flows.
use Rattle.dn_wf2q.proofs.Words.{All, All-nil, All-weaker, AreTagsWithin, Bool, Flow, HeadIs, IfSome, IsWithin, List, None, Some, Stamped, TaggedPacket, TaggedQueue, [], ap, arith, behind}
use Rattle.dn_wf2q.proofs.Words.{by_slot, cases_eq, cases_lt, cond, false, first_packet, flow_at, get_or, get_or-set_other, get_or-set_same, get_or_past, head_weight, inl, inr, length}
use Rattle.dn_wf2q.proofs.Words.{length_push, map, no_packets, presence, refl, seen, set, suc, sym, tagged, take, true, zero, ℕ, ◌++◌, ◌+◌, ◌<◌, ◌∷◌, ◌≡◌, ◌≤◌}
use Rattle.dn_wf2q.proofs.BySlot.{by_slot_at}

-- P holds of the head, if there is one
abbrev pub IfHead : (Stamped → Type 0) → List Stamped → Type 0
IfHead P [] = Unit {0}
IfHead P (p ∷ q) = P p

pub head_weaker : (P Q : Stamped → Type 0) → ((p : Stamped) → P p → Q p) → (q : List Stamped) → HeadIs P q → HeadIs Q q
head_weaker P Q w [] h = h
head_weaker P Q w (p ∷ q) h = w p h

pub head_both : (P Q R : Stamped → Type 0) → ((p : Stamped) → P p → Q p → R p) → (q : List Stamped) → HeadIs P q → HeadIs Q q → HeadIs R q
head_both P Q R w [] h k = h
head_both P Q R w (p ∷ q) h k = w p h k

pub head_if : (P Q : Stamped → Type 0) → ((p : Stamped) → P p → Q p) → (q : List Stamped) → HeadIs P q → IfHead Q q
head_if P Q w [] h = tt
head_if P Q w (p ∷ q) h = w p h

pub if_none : (P : Stamped → Type 0) (q : List Stamped) → presence q ≡ 0 → IfHead P q
if_none P [] e = tt
if_none P (p ∷ q) e = absurd (omega arith)

pub head_grows : (P : Stamped → Type 0) (q r : List Stamped) → HeadIs P q → HeadIs P (q ++ r)
head_grows P [] r h = absurd h
head_grows P (p ∷ q) r h = h

pub head_there : (P : Stamped → Type 0) (q : List Stamped) → HeadIs P q → presence q ≡ 1
head_there P [] h = absurd h
head_there P (p ∷ q) h = refl

pub head_waits : (P : Stamped → Type 0) (q : List Stamped) → HeadIs P q → 0 < length q
head_waits P [] h = absurd h
head_waits P (p ∷ q) h = omega arith

pub presence-le : (q : List Stamped) → presence q ≤ 1
presence-le [] = omega arith
presence-le (p ∷ q) = omega arith

pub length-split : (q : List Stamped) → length q ≡ presence q + behind q
length-split [] = refl
length-split (p ∷ q) = omega arith

-- a flow with a head is in the list
pub head_listed : (P : Stamped → Type 0) (flows : List Flow) (f : ℕ) → HeadIs P (flow_at flows f).backlog → f < length flows
head_listed P [] f h = absurd h
head_listed P (fl ∷ fls) zero h = omega arith
head_listed P (fl ∷ fls) (suc f) h = let l = head_listed P fls f h in omega arith

pub flow_within : (b : ℕ) (flows : List Flow) (f : ℕ) → All (AreTagsWithin b) flows → AreTagsWithin b (flow_at flows f)
flow_within b flows f all = elim (cases_lt f (length flows)) [
  | inl l ↦ all f no_packets l
  | inr n ↦ rw (get_or_past flows f no_packets n) (omega arith, All-nil (IsWithin b))
]

pub head_of_all : (P : Stamped → Type 0) (Q : Stamped → Type 0) (q : List Stamped) → HeadIs P q → All Q q → HeadIs Q q
head_of_all P Q [] h all = h
head_of_all P Q (p ∷ q) h all = all 0 p (omega arith)

pub head_within : (P : Stamped → Type 0) (b : ℕ) (flows : List Flow) (f : ℕ) → All (AreTagsWithin b) flows → HeadIs P (flow_at flows f).backlog → HeadIs (IsWithin b) (flow_at flows f).backlog
head_within P b flows f all h = head_of_all P (IsWithin b) (flow_at flows f).backlog h (flow_within b flows f all).1

-- a fact that does not speak of the head
pub head_says : (P : Stamped → Type 0) (A : Type 0) → ((p : Stamped) → P p → A) → (q : List Stamped) → HeadIs P q → A
head_says P A w [] h = absurd h
head_says P A w (p ∷ q) h = w p h

-- the flow f, from the code's list
pub flow_at_seen : (b : ℕ) (qs : List TaggedQueue) (f : ℕ) (d : TaggedQueue) → f < length qs → flow_at (by_slot (seen b) qs) f ≡ seen b f (get_or qs f d)
flow_at_seen b qs f d l = by_slot_at (seen b) qs f d no_packets l

pub within_more : (b c : ℕ) (p : Stamped) → b ≤ c → IsWithin b p → IsWithin c p
within_more b c p l h = let a = h.0 in let f = h.1 in (omega arith, omega arith, h.2, h.3, h.4)

pub flow_within_more : (b c : ℕ) (fl : Flow) → b ≤ c → AreTagsWithin b fl → AreTagsWithin c fl
flow_within_more b c fl l h = let a = h.0 in (omega arith, All-weaker (IsWithin b) (IsWithin c) (λ p w. within_more b c p l w) fl.backlog h.1)

pub next_is : (slot : ℕ) (q : List TaggedPacket) (h : TaggedPacket) → first_packet q ≡ Some h → HeadIs (λ p. p ≡ tagged slot h) (map (tagged slot) q)
next_is slot [] h e = absurd (cc)
next_is slot (p ∷ q) h e = let same : p ≡ h = cc in ap (tagged slot) same

pub next_is_none : (q : List TaggedPacket) → first_packet q ≡ None → q ≡ []
next_is_none [] e = refl
next_is_none (p ∷ q) e = absurd (cc)

pub head_weighs : (h : Stamped) (q : List Stamped) → HeadIs (λ p. p ≡ h) q → head_weight q ≡ h.weight
head_weighs h [] e = absurd e
head_weighs h (p ∷ q) e = ap (λ x. x.weight) e

pub head_weight-le : (b : ℕ) (q : List Stamped) → All (IsWithin b) q → head_weight q ≤ 100
head_weight-le b [] all = omega arith
head_weight-le b (p ∷ q) all = (all 0 p (omega arith)).4

pub cond-le : (b : Bool) (x y m : ℕ) → x ≤ m → y ≤ m → cond b x y ≤ m
cond-le b x y m h k = elim b as (λ v. cond v x y ≤ m) [ true ↦ h | false ↦ k ]

-- a head stays where its queue grows at the end
pub head_stays : (P : Stamped → Type 0) (flows : List Flow) (f : ℕ) (fl : Flow) (ys : List Stamped) → f < length flows
    → fl.backlog ≡ (flow_at flows f).backlog ++ ys → (g : ℕ) → HeadIs P (flow_at flows g).backlog
    → HeadIs P (flow_at (set flows f fl) g).backlog
head_stays P flows f fl ys l e g h = elim (cases_eq g f) [
  | inl same ↦
      let h' = rw same at h in
      rw (same, get_or-set_same flows f fl no_packets l, e) (head_grows P (flow_at flows f).backlog ys h')
  | inr other ↦ rw (get_or-set_other flows f g fl no_packets other) h
]

pub presence_grows : (q : List Stamped) (x : Stamped) → 0 < length q → (presence (q ++ x ∷ []) ≡ presence q) × (head_weight (q ++ x ∷ []) ≡ head_weight q) × (behind (q ++ x ∷ []) ≡ behind q + 1)
presence_grows [] x l = absurd (omega arith)
presence_grows (p ∷ q) x l = (refl, refl, length_push q x)

pub presence_begins : (q : List Stamped) (x : Stamped) → length q ≡ 0
    → (presence (q ++ x ∷ []) ≡ 1) × (head_weight (q ++ x ∷ []) ≡ x.weight) × (behind (q ++ x ∷ []) ≡ 0) × (presence q ≡ 0) × (head_weight q ≡ 0) × (behind q ≡ 0)
presence_begins [] x e = (refl, refl, refl, refl, refl, refl)
presence_begins (p ∷ q) x e = absurd (omega arith)

pub head_begins : (P : Stamped → Type 0) (q : List Stamped) (x : Stamped) → length q ≡ 0 → P x → HeadIs P (q ++ x ∷ [])
head_begins P [] x e h = h
head_begins P (p ∷ q) x e h = absurd (omega arith)

-- The head of what a queue stands for is its first packet.
pub some_packets : (P : Stamped → Type 0) (slot : ℕ) (q : List TaggedPacket) → HeadIs P (map (tagged slot) q) → 0 < length q
some_packets P slot [] h = absurd h
some_packets P slot (p ∷ q) h = omega arith

-- The head's finish tag is the first packet's.
pub first_finishes : (slot tag : ℕ) (q : List TaggedPacket) → 0 < length q → IfSome (first_packet q) (λ head. head.finish_tag ≡ tag) → HeadIs (λ x. tag ≡ x.finish_tag) (map (tagged slot) q)
first_finishes slot tag [] l h = absurd (omega arith)
first_finishes slot tag (p ∷ q) l h = sym h

-- Where a queue has a first packet, that is the head and all that is there of heads.
pub first_facts : (slot : ℕ) (q : List TaggedPacket) (h : TaggedPacket) → first_packet q ≡ Some h
    → (presence (map (tagged slot) q) ≡ 1) × (take 1 (map (tagged slot) q) ≡ tagged slot h ∷ []) × HeadIs (λ x. x ≡ tagged slot h) (map (tagged slot) q)
first_facts slot [] h e = absurd (cc)
first_facts slot (p ∷ q) h e = let same : p ≡ h = cc in (refl, ap (λ x. tagged slot x ∷ []) same, ap (tagged slot) same)

pub cond_zero : (b : Bool) → ◌≡◌ {A = ℕ} (cond b 0 0) 0
cond_zero b = elim b as (λ v. ◌≡◌ {A = ℕ} (cond v 0 0) 0) [ true ↦ refl | false ↦ refl ]
