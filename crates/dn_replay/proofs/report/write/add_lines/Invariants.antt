use Rattle.dn_replay.proofs.Words.{line_fields, map, take, text_of, ◌++◌, ◌≡◌}
use Rattle.dn_replay.proofs.report.write.add_lines.Given as goal

abbrev pub invariant-loop-line : goal.invariant-loop-line
invariant-loop-line l = l.text.items ≡ l.fn.text.items ++ text_of (map line_fields (take l.line-index l.lines))
