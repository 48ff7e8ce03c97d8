use Rattle.std.proofs.Common.{◌≡◌}
use Rattle.test_service.proofs.threads.until_two_are_seen.Given as goal

abbrev pub invariant-loop : goal.invariant-loop
invariant-loop g l = l.caller.service ≡ l.fn.caller.service
