use Rattle.dn_history.proofs.Words.{arith}
use Rattle.dn_history.proofs.HistoryReading.{numbered}
use Rattle.dn_history.proofs.read.numbered_records.NumberedRecords.from.Goals as goal

pub invariant_of-result : goal.invariant_of-result
invariant_of-result c = let few = rw (← c.new.ensures) at (numbered c.args.text.now) in omega (arith, few, c.requires)
