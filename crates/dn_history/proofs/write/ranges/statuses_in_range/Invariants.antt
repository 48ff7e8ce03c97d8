use Rattle.dn_history.proofs.Words.{All, IsStatus, take}
use Rattle.dn_history.proofs.write.ranges.statuses_in_range.Given as goal

abbrev pub invariant-loop-status : goal.invariant-loop-status
invariant-loop-status l = All IsStatus (take l.status-index l.list)
