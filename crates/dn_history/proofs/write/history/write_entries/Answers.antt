use Rattle.dn_history.proofs.Words.{Entry, ap, entry_records, flat_map, take, text-none, text_of, texts-more, ◌++◌, ◌∙◌}
use Rattle.dn_history.proofs.write.history.write_entries.Goals as goal

pub loop-entry-init : goal.loop-entry-init
loop-entry-init c = text-none c.args.writer.now.text

pub loop-entry-preserved : goal.loop-entry-preserved
loop-entry-preserved c =
    let one = rw c.loop-entry.invariant at c.in_ok-write_entry.ensures in
    let before = c.args.writer.now.text ++ text_of (flat_map entry_records (take c.loop-entry.entry-index c.args.entries.now)) in
    one ∙ ap (λ (e : Entry). before ++ text_of (entry_records e)) c.entry-item.is ∙ texts-more entry_records c.args.writer.now.text c.args.entries.now c.loop-entry.entry-index _ c.loop-entry-test.true
