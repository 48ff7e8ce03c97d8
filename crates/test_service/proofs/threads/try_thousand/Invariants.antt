use Rattle.std.proofs.Common.{◌≡◌}
use Rattle.test_service.proofs.threads.try_thousand.Given as goal

abbrev pub invariant-loop-moment : goal.invariant-loop-moment
invariant-loop-moment g l = l.caller.service ≡ l.fn.caller.service
