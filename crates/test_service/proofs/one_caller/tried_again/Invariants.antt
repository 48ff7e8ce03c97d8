use Rattle.dn_service.specs.Callers.{IsSameCaller}
use Rattle.test_service.proofs.one_caller.tried_again.Given as goal

abbrev pub invariant-loop : goal.invariant-loop
invariant-loop g l = IsSameCaller l.initial.caller l.caller
