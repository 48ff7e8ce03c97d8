-- Deliveries: the packets that have started and that no Collect has given, in the order in which one gives them.
use Rattle.std.specs.Prelude.{ℕ, ◌≡◌, ◌≤◌, ⊤, Bool, cond, List, [], ◌∷◌, nat_lt, nat_le}
use Rattle.std.specs.List.{All, filter}
use Rattle.std.specs.declared.cmp.Ordering.{Ordering}
use Rattle.std.specs.Ordering.{is_lt, nat_cmp, ordering_then}
use Rattle.dn_types.specs.Links.{arrival_time, due_by, last_due}
use Rattle.dn_types.specs.Trace.{Start, Event, started, collected}
use Rattle.dn_types.specs.declared.delivery.Delivery.{Delivery}
use Rattle.dn_types.specs.declared.rule.Rule.{Rule}

-- The order of deliveries: by due moment, then by packet number, and then by what the packet number determines.
abbrev pub delivery_cmp : Delivery → Delivery → Ordering
delivery_cmp a b = ordering_then (nat_cmp a.due b.due) (ordering_then (nat_cmp a.packet b.packet) (ordering_then (nat_cmp a.flow b.flow) (nat_cmp a.start b.start)))

abbrev pub is_given_before : Delivery → Delivery → Bool
is_given_before a b = is_lt (delivery_cmp a b)

-- The list with one more in its place.
abbrev pub in_order : Delivery → List Delivery → List Delivery
in_order d [] = d ∷ []
in_order d (e ∷ es) = cond (is_given_before d e) (d ∷ e ∷ es) (e ∷ in_order d es)

-- A started packet as it is to be given, where the last packet before it on its link was due at `last`.
abbrev pub delivery_of : Rule → Start → ℕ → Delivery
delivery_of rule s last = record { due = due_by rule (arrival_time s) last; packet = s.packet.packet; flow = s.packet.stamped.flow; start = s.moment }

-- The packets that have started and that no Collect has given yet, in order. A Collect takes what is due at its moment.
abbrev pub undelivered : Rule → List Event → List Delivery
undelivered rule [] = []
undelivered rule (started s ∷ trace) = in_order (delivery_of rule s (last_due rule s.packet.link trace)) (undelivered rule trace)
undelivered rule (collected at ∷ trace) = filter (λ d. nat_lt at d.due) (undelivered rule trace)
undelivered rule (_ ∷ trace) = undelivered rule trace

-- What a Collect at the moment gives.
abbrev pub given : Rule → ℕ → List Event → List Delivery
given rule at trace = filter (λ d. nat_le d.due at) (undelivered rule trace)

-- Deliveries by due moment, and where two are equal by packet number.
abbrev pub AreInOrder : List Delivery → Type 0
AreInOrder [] = ⊤
AreInOrder (d ∷ ds) = All (λ e. (d.due ≤ e.due) × (d.due ≡ e.due → d.packet ≤ e.packet)) ds × AreInOrder ds
