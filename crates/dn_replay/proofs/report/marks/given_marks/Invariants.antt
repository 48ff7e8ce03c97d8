use Rattle.dn_replay.proofs.Words.{length, take}
use Rattle.dn_replay.proofs.MarkSteps.{IsMarked}
use Rattle.dn_replay.proofs.report.marks.given_marks.Given as goal

abbrev pub invariant-loop-delivery : goal.invariant-loop-delivery
invariant-loop-delivery l = IsMarked l.marks.items (length l.kept.accepted.items) (take l.delivery-index l.given)
