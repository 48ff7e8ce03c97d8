use Rattle.dn_shaper.proofs.Words.{AreInStep, OnlyStarts, settings_of}
use Rattle.dn_shaper.proofs.Settles.{Reaches}
use Rattle.dn_shaper.proofs.links.settle.settle_due.Given as goal

abbrev pub invariant-loop : goal.invariant-loop
invariant-loop l = record {
  kept : AreInStep l.parts l.heap;
  only : OnlyStarts l.initial.parts l.initial.heap l.parts l.heap;
  reached : Reaches (settings_of l.configured) l.at l.initial.parts l.parts;
}

abbrev pub decreases-loop : goal.decreases-loop
decreases-loop l = l.parts.waiting
