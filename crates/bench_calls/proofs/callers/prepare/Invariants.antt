use Rattle.dn_service.specs.Callers.{IsSameCaller}
use Rattle.bench_calls.proofs.callers.prepare.Given as goal

abbrev pub invariant-loop-place : goal.invariant-loop-place
invariant-loop-place g l = IsSameCaller l.initial.caller l.caller
