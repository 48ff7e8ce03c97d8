use Rattle.dn_history.proofs.Words.{entry_records, flat_map, take, text_of, ◌++◌, ◌≡◌}
use Rattle.dn_history.proofs.write.history.write_entries.Given as goal

abbrev pub invariant-loop-entry : goal.invariant-loop-entry
invariant-loop-entry l = l.writer.text ≡ l.fn.writer.text ++ text_of (flat_map entry_records (take l.entry-index l.entries))
