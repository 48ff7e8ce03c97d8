use Rattle.dn_replay.proofs.Words.{HasSubmitted, take, ◌≤◌}
use Rattle.dn_replay.proofs.callers.calls.submit_own.Given as goal

abbrev pub invariant-loop-place : goal.invariant-loop-place
invariant-loop-place g l = (l.turn ≤ l.place) × HasSubmitted l.n (take l.place l.rows) l.fn.caller l.caller
