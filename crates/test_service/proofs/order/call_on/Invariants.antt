use Rattle.std.proofs.Common.{◌≡◌}
use Rattle.test_service.proofs.order.call_on.Given as goal

abbrev pub invariant-loop-call : goal.invariant-loop-call
invariant-loop-call g l = l.caller.service ≡ l.fn.caller.service
