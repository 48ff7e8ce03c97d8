use Rattle.dn_service.proofs.Words.{[], accounts_of, keeping, shed_in, ◌++◌, ◌≡◌}
use Rattle.dn_service.proofs.take_in.take_in.Given as goal

abbrev pub invariant-loop-caller : goal.invariant-loop-caller
invariant-loop-caller l =
    (goal.iterator-loop-caller).can_next l.caller-iterator
    × (goal.iterator-loop-caller).is_finite l.caller-iterator
    × (l.seat.table_id ≡ l.initial.seat.table_id)
    × (l.seat.me ≡ (keeping l.initial.seat.me.0.count (shed_in l.initial.seat.me.0.shed) (accounts_of l.yielded), []))
    × (l.yielded ++ l.caller-iterator.rest.items ≡ l.fn.callers.items)
