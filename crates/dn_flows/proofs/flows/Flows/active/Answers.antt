-- The flows that were let go keep all but their places.
use Rattle.dn_flows.proofs.Words.{IfNone, IfSome, None, Option, Some, arith, sym, ◌∙◌}
use Rattle.dn_flows.proofs.Places.{get-below, get-some}
use Rattle.dn_flows.proofs.Reservations.{places-are}
use Rattle.dn_flows.proofs.Tables.{as-many-flows}
use Rattle.dn_flows.proofs.Unreserved.{active-read, still-stored, unreserves}
use Rattle.dn_flows.proofs.flows.Flows.active.Goals as goal

if-some : {X : Type 0} (r : Option X) (P Q : X → Type 0) → ((x : X) → P x → Q x) → IfSome r P → IfSome r Q
if-some None P Q f h = tt
if-some (Some x) P Q f h = f x h

if-none : {X : Type 0} (r : Option X) (P Q : Type 0) → (P → Q) → IfNone r P → IfNone r Q
if-none None P Q f h = f h
if-none (Some x) P Q f h = tt

pub invariant_of-self : goal.invariant_of-self
invariant_of-self c =
    let e = c.last_active.ensures in (
      c.self.invariant.0 ∙ sym e.keeps.many,
      (e.counted, omega arith),
      still-stored c.self.inside.packets c.self.inside.queues.items c.last_active.new.queues.items e.keeps c.self.invariant.2,
      c.self.invariant.3 ∙ sym e.keeps.many,
      e.listed,
    )

pub returns-clause-many : goal.returns-clause-many
returns-clause-many c =
    let before = as-many-flows c.self.inside.packets c.self.inside.queues.items c.self.inside.unsent.items in
    let after = as-many-flows c.self.inside.packets c.last_active.new.queues.items c.self.inside.unsent.items in
    rw (← c.self.view_is) (omega arith)

pub returns-clause-flows : goal.returns-clause-flows
returns-clause-flows c =
    rw (← c.self.view_is) (unreserves c.self.inside.packets c.self.inside.queues.items c.last_active.new.queues.items c.self.inside.unsent.items c.last_active.ensures.keeps)

pub returns-clause-places : goal.returns-clause-places
returns-clause-places c =
    let before = places-are c.self.inside.packets c.self.inside.queues.items c.self.inside.unsent.items in
    let after = places-are c.self.inside.packets c.last_active.new.queues.items c.self.inside.unsent.items in
    let was = c.self.invariant.1.0 in
    let now = c.last_active.ensures.counted in
    let fewer = c.last_active.ensures.fewer in
    rw (← c.self.view_is) (omega arith)

pub returns-clause-within : goal.returns-clause-within
returns-clause-within c =
    let after = as-many-flows c.self.inside.packets c.last_active.new.queues.items c.self.inside.unsent.items in
    if-some c.last_active.result _ _ (λ flow some. let lt = get-below c.last_active.new.queues.items flow some.0 some.1 in omega arith) c.last_active.ensures.some

pub returns-clause-active : goal.returns-clause-active
returns-clause-active c =
    if-some c.last_active.result _ _ (λ flow some. active-read c.self.inside.packets c.last_active.new.queues.items c.self.inside.unsent.items flow some.0 some.1 ∙ some.2) c.last_active.ensures.some

pub returns-clause-none : goal.returns-clause-none
returns-clause-none c =
    if-none c.last_active.result _ _ (λ none flow key its at.
    let lt = get-below c.self.inside.keys.keys flow key its in
    let q = get-some c.last_active.new.queues.items flow (omega arith) in
    active-read c.self.inside.packets c.last_active.new.queues.items c.self.inside.unsent.items flow q.0 q.1 ∙ none flow q.0 key q.1 its at) c.last_active.ensures.none
