use Rattle.std.proofs.Common.{length}
use Rattle.test_files.proofs.packet_parts.take_rows.Given as goal

abbrev pub decreases-loop-row : goal.decreases-loop-row
decreases-loop-row l = length l.reader.text
