use Rattle.dn_records.proofs.Words.{length}
use Rattle.dn_records.proofs.FirstRecord.{IsReading}
use Rattle.dn_records.proofs.first_record.read_first.Given as goal

abbrev pub invariant-loop-left : goal.invariant-loop-left
invariant-loop-left l = IsReading l.most l.text l.state l.left l.fields l.field.items

abbrev pub decreases-loop-left : goal.decreases-loop-left
decreases-loop-left l = length l.left
