-- The texts of the entries so far fit.
use Rattle.hingetulip_c.proofs.Words.{length, part_text, take, ◌≡◌, ◌≤◌}
use Rattle.hingetulip_c.proofs.history_lines.texts_within.Given as goal

abbrev pub invariant-loop-count : goal.invariant-loop-count
invariant-loop-count l = record {
  so_far : l.writer.text ≡ part_text (take l.count l.entries);
  size : l.size ≡ length l.writer.text;
  fits : l.size ≤ l.room;
}
