use Rattle.dn_service.proofs.Words.{IsSameCaller, KeepsSeen, ◌≡◌}
use Rattle.dn_service.proofs.caller.Caller.call_after.Given as goal

abbrev pub invariant-loop : goal.invariant-loop
invariant-loop g l = (goal.iterator-loop g).can_next l.iterator' × (goal.iterator-loop g).is_finite l.iterator' × IsSameCaller l.initial.self l.self × KeepsSeen l.initial.self l.self
