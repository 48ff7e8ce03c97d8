-- Words for the laws: what a flow's queue accepted and what started of it, and what the Collects gave.
use Rattle.std.specs.Prelude.{ℕ, ◌+◌, Bool, false, cond, List, [], ◌∷◌, ◌++◌, nat_eq}
use Rattle.std.specs.List.{count_by}
use Rattle.dn_types.specs.Deliveries.{given}
use Rattle.dn_types.specs.Trace.{Link, Accepted, Event, arrived, started, discarded, collected, is_of}
use Rattle.dn_types.specs.declared.delivery.Delivery.{Delivery}
use Rattle.dn_types.specs.declared.rule.Rule.{Rule}

-- The packets accepted into the flow's queue since the last delete that reached it.
abbrev pub accepted_since : Link → ℕ → List Event → List Accepted
accepted_since link flow [] = []
accepted_since link flow (arrived p ∷ trace) = cond (is_of link flow p) (accepted_since link flow trace ++ p ∷ []) (accepted_since link flow trace)
accepted_since link flow (discarded f ∷ trace) = cond (nat_eq f flow) [] (accepted_since link flow trace)
accepted_since link flow (_ ∷ trace) = accepted_since link flow trace

-- The packets of the flow that have started since.
abbrev pub started_since : Link → ℕ → List Event → List Accepted
started_since link flow [] = []
started_since link flow (started s ∷ trace) = cond (is_of link flow s.packet) (started_since link flow trace ++ s.packet ∷ []) (started_since link flow trace)
started_since link flow (discarded f ∷ trace) = cond (nat_eq f flow) [] (started_since link flow trace)
started_since link flow (_ ∷ trace) = started_since link flow trace

-- Whether a delivery and a start are of the packet with the number.
abbrev pub is_packet : ℕ → Delivery → Bool
is_packet number d = nat_eq d.packet number

abbrev pub is_start_with : ℕ → Event → Bool
is_start_with number (started s) = nat_eq s.packet.packet number
is_start_with number _ = false

-- How often the packet has started.
abbrev pub start_count : ℕ → List Event → ℕ
start_count number trace = count_by (is_start_with number) trace

-- How often the Collects have given the packet.
abbrev pub given_count : Rule → ℕ → List Event → ℕ
given_count rule number [] = 0
given_count rule number (collected at ∷ trace) = count_by (is_packet number) (given rule at trace) + given_count rule number trace
given_count rule number (_ ∷ trace) = given_count rule number trace
