use Rattle.dn_replay.proofs.Words.{deliveries, drop, filter, get_or, is_other, is_out, length, lines_after, submit_lines, submits_by, take, ℕ, ◌++◌, ◌<◌, ◌≡◌}
use Rattle.dn_replay.proofs.report.order.lines_of_history.Given as goal

abbrev pub invariant-loop-entry : goal.invariant-loop-entry
invariant-loop-entry l = record {
  callers : length l.counts.items ≡ l.n;
  counted : (k : ℕ) → k < l.n → get_or l.counts.items k 0 ≡ submits_by k (take l.entry-index l.entries);
  outs : l.lines.outs.items ++ filter is_out (lines_after l.n (deliveries l.entries) (take l.entry-index l.entries) (drop l.entry-index l.entries)) ≡ filter is_out (submit_lines l.n l.entries);
  others : l.lines.others.items ++ filter is_other (lines_after l.n (deliveries l.entries) (take l.entry-index l.entries) (drop l.entry-index l.entries)) ≡ filter is_other
      (submit_lines l.n l.entries);
}
