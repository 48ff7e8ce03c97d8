use Rattle.hingetulip_c.proofs.Words.{Entry, [], ap, arith, entry_records, length, sym, text-none, text_of, ℕ, ◌++◌, ◌∙◌}
use Rattle.hingetulip_c.proofs.ManyTexts.{one_more}
use Rattle.hingetulip_c.proofs.history_lines.texts_within.Goals as goal

pub loop-count-init : goal.loop-count-init
loop-count-init c = record {
  so_far = c.new-writer.ensures.empty ∙ text-none [];
  size = sym (ap (length {A = ℕ}) c.new-writer.ensures.empty);
  fits = omega arith;
}

pub loop-count-preserved : goal.loop-count-preserved
loop-count-preserved c =
    let entries = c.args.entries.now in let i = c.loop-count.count in
    let is = c.in_ok-write_entry.ensures ∙ ap (λ (e : Entry). c.loop-count.writer.text ++ text_of (entry_records e)) c.index-entries-count.is in
    record {
      so_far = one_more entries i c.index-entries-count.result c.loop-count.writer.text c.write_entry.new.writer.text c.loop-count-test.true c.loop-count.invariant.so_far is;
      size = c.text_len-size.ensures;
      fits = omega (arith, c.if-room-text_len.false, c.text_len.ensures, c.text_len-size.ensures);
    }
