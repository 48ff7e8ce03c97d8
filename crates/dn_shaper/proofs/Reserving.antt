-- Reserving room leaves all that a trace says.
use Rattle.dn_shaper.proofs.Words.{AreCountsWithin, Err, FlowState, HasSlotRoom, KeepsAt, KeepsLink, KeepsPlaces, Link, LinkView, List, None, Ok, OnOk, Option, Result, SameFlow, Some, Waiting, ap}
use Rattle.dn_shaper.proofs.Words.{arith, cases_eq, cond, eq-yes, flow_after_set, flow_at, get-set, get-set-other, inl, inr, length, length-set, own, places, places-same, queue_lengths, refl}
use Rattle.dn_shaper.proofs.Words.{room_at, set, shared, slice_get, subst, sym, true, with_place, ℕ, ◌<◌, ◌∙◌, ◌≡◌, ◌⊎◌}
use Rattle.dn_shaper.proofs.Alone.{lengths-same}
use Rattle.dn_shaper.proofs.OnePlace.{each-flow}

pub same-flow : (s : FlowState) → SameFlow s s
same-flow s = record { backlog = refl; lost = refl; full = refl; started = refl; discarded = refl; active = refl }

-- The flow's counts are within the same limit.
pub same-within : {n : ℕ} {s t : FlowState} → SameFlow s t → AreCountsWithin n s → AreCountsWithin n t
same-within same within =
    let lost = within.0 in
    let full = within.1 in
    let packets = within.2 in
    let waits = ap {B = ℕ} (λ (ws : List Waiting). length ws) same.backlog in
    (omega arith, omega arith, omega arith)

pub same-link : (v : LinkView) → KeepsLink v v
same-link v = record { link = refl; value = refl; waits = refl; slots = refl; schedule = record { virtual_time = refl; flows = λ slot. refl; room = λ slot. omega arith; arrivals = refl } }

pub same-at : (o : Option LinkView) → KeepsAt o o
same-at None = tt
same-at (Some v) = same-link v

-- One flow changes, but for its packets and counts.
pub set-same : (flows : List FlowState) (flow g : ℕ) (s : FlowState) → flow < length flows → SameFlow (flow_at flows flow) s → SameFlow (flow_at flows g) (flow_at (set flows flow s) g)
set-same flows flow g s lt same = each-flow (λ g t. SameFlow (flow_at flows g) t) flows flow s lt same (λ g ne. same-flow (flow_at flows g)) g

pub set-keeps : (flows : List FlowState) (flow : ℕ) (s : FlowState) → flow < length flows → s.reserved ≡ true → KeepsPlaces flows (set flows flow s)
set-keeps flows flow s lt placed g had =
    each-flow (λ (f : ℕ) (t : FlowState). (flow_at flows f).reserved ≡ true → t.reserved ≡ true) flows flow s lt (λ its. placed) (λ f ne its. its) g had

-- A place is reserved in one flow's queue.
pub place-reserved : (flows : List FlowState) (flow g : ℕ) → flow < length flows → SameFlow (flow_at flows g) (flow_at (set flows flow (with_place (flow_at flows flow))) g)
place-reserved flows flow g lt =
    set-same flows flow g (with_place (flow_at flows flow)) lt (record { backlog = refl; lost = refl; full = refl; started = refl; discarded = refl; active = refl })

-- One link has more room.
pub link-reserved : (views : List LinkView) (k : ℕ) (v w : LinkView) → slice_get views k ≡ Some v → KeepsLink v w → (place : ℕ) → KeepsAt (slice_get views place) (slice_get (set views k w) place)
link-reserved views k v w there keeps place = by (cases_eq place k)
  where
    by : (place ≡ k) ⊎ (place ≡ k → ⊥) → KeepsAt (slice_get views place) (slice_get (set views k w) place)
    by (inl same) = subst (λ (x : Option LinkView × Option LinkView). KeepsAt x.0 x.1)
        (λ i. (sym (ap (slice_get views) same ∙ there) i, sym (ap (slice_get (set views k w)) same ∙ get-set views k v w there) i)) keeps
    by (inr ne) = subst (λ (o : Option LinkView). KeepsAt (slice_get views place) o) (sym (get-set-other views k place w ne)) (same-at (slice_get views place))

pub on-ok : {X E : Type 0} {A B : Type 0} (r : Result X E) → (A → B) → OnOk r A → OnOk r B
on-ok (Ok x) f a = f a
on-ok (Err e) f a = tt

-- The flow's slot has room on its link, and no other link is asked.
pub slot-ready : (views : List LinkView) (k slot : ℕ) (v w : LinkView) → slice_get views k ≡ Some v → HasSlotRoom slot w w.link → (x : LinkView) (pipe : ℕ) →
    slice_get (set views k w) k ≡ Some x → x.link ≡ shared pipe → 0 < room_at x.schedule.room slot
slot-ready views k slot v w there room x pipe at is =
    let both : Some w ≡ Some x = sym (get-set views k v w there) ∙ at in
    let same : w ≡ x = cc in
    subst (λ (l : Link). HasSlotRoom slot x l) is (subst (λ (y : LinkView). HasSlotRoom slot y y.link) same room)

-- A link has room at the slot where it has, or isn't shared.
pub slot-has : (slot : ℕ) (v : LinkView) (l : Link) → ((pipe : ℕ) → l ≡ shared pipe → 0 < room_at v.schedule.room slot) → HasSlotRoom slot v l
slot-has slot v (own pipe flow) has = tt
slot-has slot v (shared pipe) has = has pipe refl

-- ---- The flow table in which a place is reserved for one more packet of the flow

module _ (flows : List FlowState) {flow : ℕ} (inside : flow < length flows) {now : List FlowState} (is : now ≡ set flows flow (with_place (flow_at flows flow))) where
  pub lengths-placed : (f : ℕ) → queue_lengths now f ≡ queue_lengths flows f
  lengths-placed = lengths-same flows flow inside (with_place (flow_at flows flow)) now is refl

  pub many-placed : length now ≡ length flows
  many-placed = ap (λ (fs : List FlowState). length fs) is ∙ length-set flows flow (with_place (flow_at flows flow))

  pub flows-placed : (g : ℕ) → SameFlow (flow_at flows g) (flow_at now g)
  flows-placed g = subst (λ (fs : List FlowState). SameFlow (flow_at flows g) (flow_at fs g)) (sym is) (place-reserved flows flow g inside)

  pub placed-keeps : KeepsPlaces flows now
  placed-keeps = subst (KeepsPlaces flows) (sym is) (set-keeps flows flow (with_place (flow_at flows flow)) inside refl)

  -- A flow that has a place gets no other.
  pub places-placed : (flow_at flows flow).reserved ≡ true → places (set flows flow (with_place (flow_at flows flow))) ≡ places flows
  places-placed had = places-same flows flow (with_place (flow_at flows flow)) inside (sym had)

  pub place-ready : (flow_at now flow).reserved ≡ true
  place-ready =
      ap (λ (fs : List FlowState). (flow_at fs flow).reserved) is
      ∙ ap (λ (s : FlowState). s.reserved) (flow_after_set flows flow flow (with_place (flow_at flows flow)) inside)
      ∙ ap (λ b. (cond b (with_place (flow_at flows flow)) (flow_at flows flow)).reserved) (eq-yes flow flow refl)
