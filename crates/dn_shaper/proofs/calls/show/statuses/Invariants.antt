use Rattle.dn_shaper.proofs.Words.{drop, length, told_from, vec_capacity, ◌++◌, ◌≡◌, ◌≤◌}
use Rattle.dn_shaper.proofs.calls.show.statuses.Given as goal

abbrev pub invariant-loop-flow : goal.invariant-loop-flow
invariant-loop-flow l = record {
  told : l.list.items ++ told_from l.flow (drop l.flow l.flows.keys) l.flows.flows ≡ told_from 0 l.flows.keys l.flows.flows;
  so_far : length l.list.items ≡ l.flow;
  room : l.count ≤ vec_capacity l.list;
}
