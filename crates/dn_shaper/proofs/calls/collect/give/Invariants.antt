use Rattle.dn_shaper.proofs.Words.{IsInOrder, due_at, length, not_due_at, vec_capacity, ◌++◌, ◌+◌, ◌≡◌, ◌≤◌}
use Rattle.dn_shaper.proofs.calls.collect.give.Given as goal

abbrev pub invariant-loop-delivery : goal.invariant-loop-delivery
invariant-loop-delivery l = record {
  ordered : IsInOrder l.line.pending;
  given : l.list.items ++ due_at l.at l.line.pending ≡ l.initial.list.items ++ due_at l.at l.initial.line.pending;
  rest : not_due_at l.at l.line.pending ≡ not_due_at l.at l.initial.line.pending;
  room : length l.list.items + length l.line.pending ≤ vec_capacity l.list;
  keeps_room : l.initial.line.room ≤ l.line.room;
  pushed : l.line.pushed ≡ l.initial.line.pushed;
}

abbrev pub decreases-loop-delivery : goal.decreases-loop-delivery
decreases-loop-delivery l = length l.line.pending
