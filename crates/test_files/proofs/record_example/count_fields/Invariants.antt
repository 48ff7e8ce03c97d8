use Rattle.std.proofs.Common.{length}
use Rattle.test_files.proofs.record_example.count_fields.Given as goal

abbrev pub decreases-loop-lines : goal.decreases-loop-lines
decreases-loop-lines l = length l.records
