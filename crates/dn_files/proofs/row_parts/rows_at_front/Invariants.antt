-- What was read off the text, and what is left of it.
use Rattle.dn_files.proofs.Words.{length, ◌≤◌}
use Rattle.dn_files.proofs.ChunkRows.{GoesOn}
use Rattle.dn_files.proofs.row_parts.rows_at_front.Given as goal

abbrev pub invariant-loop-row : goal.invariant-loop-row
invariant-loop-row l = record {
  read : GoesOn l.fn.text l.rows.items l.rest;
  few : length l.rows.items ≤ l.most;
  within : length l.rest ≤ length l.fn.text;
}

abbrev pub decreases-loop-row : goal.decreases-loop-row
decreases-loop-row l = length l.rest
