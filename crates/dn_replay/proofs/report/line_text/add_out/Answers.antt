use Rattle.dn_replay.proofs.Words.{List, ap, arith, sym, ℕ, ◌++◌, ◌∙◌}
use Rattle.dn_replay.proofs.LineBytes.{out-line}
use Rattle.dn_replay.proofs.report.line_text.add_out.Goals as goal

pub returns-clause-items : goal.returns-clause-items
returns-clause-items c =
    let line = out-line c.args.row c.args.flow c.args.packet c.args.at c.args.start c.args.due (omega arith) (omega arith) (omega arith) (omega arith) (omega arith) (omega arith) in
    c.append_from.ensures.items
    ∙ ap (λ (t : List ℕ). c.args.text.now.items ++ t)
    (rw (
      c.put_byte-end-3.ensures.written,
      c.put_byte-end-2.ensures.written,
      c.put_byte-end.ensures.written,
      c.put_row-end.ensures.written,
      c.put_number-end-5.ensures.written,
      c.put_number-end-4.ensures.written,
      c.put_number-end-3.ensures.written,
      c.put_number-end-2.ensures.written,
      c.put_number-end.ensures.written,
      c.put_line_feed-end.ensures.written,
    ) (sym line))
