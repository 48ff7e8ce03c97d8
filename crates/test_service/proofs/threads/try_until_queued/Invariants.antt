use Rattle.dn_service.specs.Callers.{IsSameCaller}
use Rattle.test_service.proofs.threads.try_until_queued.Given as goal

abbrev pub invariant-loop : goal.invariant-loop
invariant-loop g l = IsSameCaller l.initial.caller l.caller
