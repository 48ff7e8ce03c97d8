use Rattle.dn_files.proofs.Words.{length, rows_from, ◌+◌, ◌≡◌}
use Rattle.dn_files.proofs.Rows.{with_front}
use Rattle.dn_files.proofs.packets.rows_below.Given as goal

abbrev pub invariant-loop-row : goal.invariant-loop-row
invariant-loop-row l = with_front l.rows.items (rows_from (l.first + length l.rows.items) l.reader) ≡ rows_from l.first l.fn.reader

abbrev pub decreases-loop-row : goal.decreases-loop-row
decreases-loop-row l = length l.reader
