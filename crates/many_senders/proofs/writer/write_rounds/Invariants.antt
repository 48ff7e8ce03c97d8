use Rattle.std.proofs.Common.{◌≡◌}
use Rattle.many_senders.proofs.writer.write_rounds.Given as goal

abbrev pub invariant-loop-round : goal.invariant-loop-round
invariant-loop-round g l = l.taker.lasting.service ≡ l.fn.taker.lasting.service
