use Rattle.dn_history.proofs.Words.{◌≡◌}
use Rattle.dn_history.proofs.HistoryReading.{after_front}
use Rattle.dn_history.proofs.read.history.entries_left.Given as goal

abbrev pub invariant-loop-entry : goal.invariant-loop-entry
invariant-loop-entry l = (after_front l.entries.items l.reader.entries ≡ l.fn.reader.entries) × (l.reader.rule ≡ l.fn.reader.rule)

abbrev pub decreases-loop-entry : goal.decreases-loop-entry
decreases-loop-entry l = l.reader.records
