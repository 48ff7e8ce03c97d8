-- What a Collect takes. The packets that `pop_due` gives one after the other, up to the first None, are `given` of
-- the definition of the emulator, and what is left is what `undelivered` keeps: at None `due-none` and `not_due-none` say
-- that nothing in the line is due.
use Rattle.std.proofs.Common.{◌≡◌, ℕ, ◌<◌, ◌≤◌, Bool, true, false, cond, nat_le, nat_lt, List, [], ◌∷◌, filter, All, Some, None, is_some, refl, sym, ap, subst, ◌∙◌, arith, inl, inr, length, Contains}
use Rattle.std.specs.Prelude.{option_map, slice_get}
use Rattle.std.specs.Ordering.{is_lt}
use Rattle.std.proofs.lemmas.List.Elements.{All-nil, All-cons}
use Rattle.std.proofs.lemmas.Bool.{cases_lt}
use Rattle.dn_types.specs.declared.delivery.Delivery.{Delivery}
use Rattle.dn_types.specs.declared.rule.Rule.{Rule}
use Rattle.dn_types.specs.Deliveries.{delivery_cmp, is_given_before, in_order, delivery_of, undelivered}
use Rattle.dn_types.specs.Links.{last_due}
use Rattle.dn_types.specs.Trace.{Event, opened, arrived, started, lost, refused, discarded, collected}
use Rattle.dn_link.specs.Line.{all_in_order, due_first}
use Rattle.dn_link.proofs.Placed.{NoneBefore, Ascends, ascends_placed, ascends_filtered}
use Rattle.dn_link.proofs.InOrder.{strict, in_order_placed, first_due, first_in_order}

-- The packets that are due at the moment, and those that aren't.
abbrev pub due_at : ℕ → List Delivery → List Delivery
due_at at ds = filter (λ d. nat_le d.due at) ds

abbrev pub not_due_at : ℕ → List Delivery → List Delivery
not_due_at at ds = filter (λ d. nat_lt at d.due) ds

-- The packets are in the order in which they are given.
abbrev pub IsInOrder : List Delivery → Type 0
IsInOrder ds = Ascends is_given_before ds

pub IsInOrder-in_order : (d : Delivery) (ds : List Delivery) → IsInOrder ds → IsInOrder (in_order d ds)
IsInOrder-in_order d ds ordered = rw in_order_placed (ascends_placed is_given_before strict d ds ordered)

-- The undelivered packets of every trace are in order.
pub IsInOrder-undelivered : (rule : Rule) (trace : List Event) → IsInOrder (undelivered rule trace)
IsInOrder-undelivered rule [] = tt
IsInOrder-undelivered rule (started s ∷ trace) = IsInOrder-in_order (delivery_of rule s (last_due rule s.packet.link trace)) (undelivered rule trace) (IsInOrder-undelivered rule trace)
IsInOrder-undelivered rule (collected at ∷ trace) = ascends_filtered is_given_before (λ d. nat_lt at d.due) (undelivered rule trace) (IsInOrder-undelivered rule trace)
IsInOrder-undelivered rule (opened l ∷ trace) = IsInOrder-undelivered rule trace
IsInOrder-undelivered rule (arrived p ∷ trace) = IsInOrder-undelivered rule trace
IsInOrder-undelivered rule (lost l f ∷ trace) = IsInOrder-undelivered rule trace
IsInOrder-undelivered rule (refused l f ∷ trace) = IsInOrder-undelivered rule trace
IsInOrder-undelivered rule (discarded f ∷ trace) = IsInOrder-undelivered rule trace

-- What is given later isn't due sooner.
due_order : (a b : Delivery) → is_given_before b a ≡ false → a.due ≤ b.due
due_order a b h = elim (cases_lt b.due a.due) [
  | inl sooner ↦ absurd (let z : is_lt (delivery_cmp b a) ≡ true = grind arith in cc)
  | inr order ↦ order
]

-- Behind a packet that isn't due none is.
none_due : (at : ℕ) (d : Delivery) (ds : List Delivery) → NoneBefore is_given_before d ds → at < d.due → due_at at ds ≡ []
none_due at d [] behind later = refl
none_due at d (e ∷ es) behind later =
    let test : nat_le e.due at ≡ false = grind arith in
    rw test (none_due at d es behind.1 later)

all_stay : (at : ℕ) (d : Delivery) (ds : List Delivery) → NoneBefore is_given_before d ds → at < d.due → not_due_at at ds ≡ ds
all_stay at d [] behind later = refl
all_stay at d (e ∷ es) behind later =
    let test : nat_lt at e.due ≡ true = grind arith in
    rw test (ap (λ l. e ∷ l) (all_stay at d es behind.1 later))

first_is_not : (b : Bool) (d : Delivery) → cond b (Some d) None ≡ None → b ≡ false
first_is_not true d h = absurd (cc)
first_is_not false d h = refl

-- Where the first of a list in order isn't due, none is.
pub due-none : (at : ℕ) (ds : List Delivery) → IsInOrder ds → due_first at ds ≡ None → due_at at ds ≡ []
due-none at [] ordered h = refl
due-none at (d ∷ ds) ordered h =
    let test = first_is_not (nat_le d.due at) d h in
    rw test (none_due at d ds ordered.0 (grind arith))

pub not_due-none : (at : ℕ) (ds : List Delivery) → IsInOrder ds → due_first at ds ≡ None → not_due_at at ds ≡ ds
not_due-none at [] ordered h = refl
not_due-none at (d ∷ ds) ordered h =
    let later : nat_lt at d.due ≡ true = grind arith in
    rw later (ap (λ l. d ∷ l) (all_stay at d ds ordered.0 (grind arith)))

-- And every packet is due later.
all_later : (at : ℕ) (d : Delivery) (ds : List Delivery) → NoneBefore is_given_before d ds → at < d.due → All (λ e. at < e.due) ds
all_later at d [] behind later = All-nil (λ (e : Delivery). at < e.due)
all_later at d (e ∷ es) behind later =
    let order = due_order d e behind.0 in
    All-cons (λ (e : Delivery). at < e.due) e es (omega arith) (all_later at d es behind.1 later)

pub later-none : (at : ℕ) (ds : List Delivery) → IsInOrder ds → is_some (due_first at ds) ≡ false → All (λ d. at < d.due) ds
later-none at [] ordered h = All-nil (λ (e : Delivery). at < e.due)
later-none at (d ∷ ds) ordered h =
    let test : nat_le d.due at ≡ false = sym (first_due at d ds (d ∷ ds) refl) ∙ h in
    let later : at < d.due = grind arith in
    All-cons (λ (e : Delivery). at < e.due) d ds later (all_later at d ds ordered.0 later)

pub IsInOrder-all_in_order : (ds : List Delivery) → IsInOrder (all_in_order ds)
IsInOrder-all_in_order [] = tt
IsInOrder-all_in_order (d ∷ ds) = IsInOrder-in_order d (all_in_order ds) (IsInOrder-all_in_order ds)

-- No packet is due before the first.
no_sooner : (d : Delivery) (ds : List Delivery) → NoneBefore is_given_before d ds → All (λ e. d.due ≤ e.due) ds
no_sooner d [] behind = All-nil (λ (e : Delivery). d.due ≤ e.due)
no_sooner d (e ∷ es) behind = All-cons (λ (x : Delivery). d.due ≤ x.due) e es (due_order d e behind.0) (no_sooner d es behind.1)

-- The due moment of a least packet that a heap holds is the first one's, and the least of all.
module _ (d : Delivery) (ds : List Delivery) (held : Contains ds d) (least : All (λ e. is_lt (delivery_cmp e d) ≡ false) ds) where
  pub least-value : Some d.due ≡ option_map (λ (x : Delivery). x.due) (slice_get (all_in_order ds) 0)
  least-value = let found = first_in_order d ds held least in sym (ap (λ (l : List Delivery). option_map (λ (x : Delivery). x.due) (slice_get l 0)) found.1)

  pub least-due : All (λ e. d.due ≤ e.due) (all_in_order ds)
  least-due =
      let found = first_in_order d ds held least in
      let ordered : IsInOrder (d ∷ found.0) = subst IsInOrder found.1 (IsInOrder-all_in_order ds) in
      subst (All (λ (e : Delivery). d.due ≤ e.due)) (sym found.1) (All-cons (λ (e : Delivery). d.due ≤ e.due) d found.0 (omega arith) (no_sooner d found.0 ordered.0))
