use Rattle.dn_history.proofs.Words.{ahead, has_remarks, length, ◌≡◌, ◌≤◌}
use Rattle.dn_history.proofs.read.remarks.read_past_remarks.Given as goal

abbrev pub invariant-loop-fields : goal.invariant-loop-fields
invariant-loop-fields l = record {
  same : ahead (has_remarks l.version) l.fn.records ≡ ahead (has_remarks l.version) l.records;
  fewer : length l.records ≤ length l.fn.records;
}

abbrev pub decreases-loop-fields : goal.decreases-loop-fields
decreases-loop-fields l = length l.records
