use Rattle.dn_service.specs.Callers.{IsSameCaller}
use Rattle.test_service.proofs.two_callers.take_turns.Given as goal

abbrev pub invariant-loop-i : goal.invariant-loop-i
invariant-loop-i g l = IsSameCaller l.initial.zero l.zero × IsSameCaller l.initial.one l.one
