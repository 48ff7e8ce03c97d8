use Rattle.dn_files.proofs.Words.{commands_from, commands_in, length, lines_of, ◌+◌, ◌≡◌, ◌≤◌}
use Rattle.dn_files.proofs.Commands.{with_front}
use Rattle.dn_files.proofs.config.commands_of_text.Given as goal

abbrev pub invariant-loop-line : goal.invariant-loop-line
invariant-loop-line l = record {
  so_far : with_front l.commands.items (commands_from l.lines.number (lines_of l.lines.rest.now)) ≡ commands_in l.text;
  room : l.lines.number + length l.lines.rest.now ≤ 1 + length l.text;
}

abbrev pub decreases-loop-line : goal.decreases-loop-line
decreases-loop-line l = length l.lines.rest.now
