use Rattle.std.proofs.Common.{◌≡◌}
use Rattle.many_senders.proofs.sender.send.Given as goal

abbrev pub invariant-loop-round : goal.invariant-loop-round
invariant-loop-round g l = l.caller.service ≡ l.fn.caller.service
