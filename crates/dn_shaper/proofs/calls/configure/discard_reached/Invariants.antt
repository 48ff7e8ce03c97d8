use Rattle.dn_shaper.proofs.Words.{AreInStep, DiscardsSome, KeepsFlows, Within, active_flows, ℕ, ◌+◌, ◌≤◌}
use Rattle.dn_shaper.proofs.calls.configure.discard_reached.Given as goal

abbrev pub invariant-loop : goal.invariant-loop
invariant-loop l = record {
  kept : AreInStep l.parts l.heap;
  within : (n : ℕ) → Within n l.initial.parts → Within n l.parts;
  moves : l.heap.moves + l.parts.waiting ≤ l.initial.heap.moves + l.initial.parts.waiting;
  keeps : KeepsFlows l.initial.parts l.parts;
  discards : DiscardsSome l.command l.initial.parts.flows.keys l.initial.parts l.parts;
}

abbrev pub decreases-loop : goal.decreases-loop
decreases-loop l = active_flows l.parts
