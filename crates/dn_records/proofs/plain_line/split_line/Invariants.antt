use Rattle.dn_records.proofs.Words.{[], fields_of, length, partial_of, slice_split, ◌++◌, ◌==◌, ◌≡◌, ◌≤◌}
use Rattle.dn_records.proofs.plain_line.split_line.Given as goal

abbrev pub invariant-loop-left : goal.invariant-loop-left
invariant-loop-left l = record {
  fields : fields_of l.fields ++ slice_split (λ b. b == 44) l.left ≡ slice_split (λ b. b == 44) l.line;
  whole : partial_of l.fields ≡ [];
  few : length (fields_of l.fields) ≤ l.most;
  no_longer : length l.left ≤ length l.line;
}

abbrev pub decreases-loop-left : goal.decreases-loop-left
decreases-loop-left l = length l.left
