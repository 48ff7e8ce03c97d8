use Rattle.dn_replay.proofs.Words.{Ok, map, ◌++◌, ◌≡◌}
use Rattle.dn_replay.proofs.callers.calls.gathered.Given as goal

abbrev pub invariant-loop-caller : goal.invariant-loop-caller
invariant-loop-caller l =
    (goal.iterator-loop-caller).can_next l.caller-iterator
    × (goal.iterator-loop-caller).is_finite l.caller-iterator
    × (map Ok l.callers.items ≡ l.yielded)
    × (l.yielded ++ l.caller-iterator.rest.items ≡ l.fn.back.items)
