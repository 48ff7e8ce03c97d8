use Rattle.dn_shaper.proofs.Words.{HasKept, KeepsCounting, length}
use Rattle.dn_shaper.proofs.links.leaving.drop_first.Given as goal

abbrev pub invariant-loop : goal.invariant-loop
invariant-loop l = record {
  kept : HasKept l.heap l.emptied;
  keeps : KeepsCounting l.initial.heap l.initial.emptied l.heap l.emptied;
}

abbrev pub decreases-loop : goal.decreases-loop
decreases-loop l = length l.heap.keys
