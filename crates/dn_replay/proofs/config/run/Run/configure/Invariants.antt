use Rattle.dn_replay.proofs.Words.{Call, HasMade, List, configured_by, configured_from, length, lines_of, ◌+◌, ◌≡◌, ◌≤◌}
use Rattle.dn_replay.proofs.config.run.Run.configure.Given as goal

abbrev pub invariant-loop-line : goal.invariant-loop-line
invariant-loop-line l = record {
  made : (calls : List Call) × (configured_from calls l.lines.number (lines_of l.lines.rest.now) ≡ configured_by l.text) × HasMade l.self calls;
  room : l.lines.number + length l.lines.rest.now ≤ 1 + length l.text;
}

abbrev pub decreases-loop-line : goal.decreases-loop-line
decreases-loop-line l = length l.lines.rest.now
