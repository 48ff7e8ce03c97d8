use Rattle.dn_replay.proofs.Words.{Submits, take}
use Rattle.dn_replay.proofs.replays.pass.submit_rows.Given as goal

abbrev pub invariant-loop-row : goal.invariant-loop-row
invariant-loop-row l = Submits (take l.row-index l.rows) l.fn.held l.fn.run l.fn.kept l.held l.run l.kept
