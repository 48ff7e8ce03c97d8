use Rattle.dn_history.proofs.Words.{All, IsEntry, take}
use Rattle.dn_history.proofs.write.ranges.entries_in_range.Given as goal

abbrev pub invariant-loop-entry : goal.invariant-loop-entry
invariant-loop-entry l = All IsEntry (take l.entry-index l.entries)
