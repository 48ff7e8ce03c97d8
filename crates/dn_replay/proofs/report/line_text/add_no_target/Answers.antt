use Rattle.dn_replay.proofs.Words.{List, ap, arith, sym, ℕ, ◌++◌, ◌∙◌}
use Rattle.dn_replay.proofs.LineBytes.{none-line}
use Rattle.dn_replay.proofs.report.line_text.add_no_target.Goals as goal

pub returns-clause-items : goal.returns-clause-items
returns-clause-items c =
    let line = none-line c.args.row c.args.at (omega arith) (omega arith) in
    c.add_row.ensures.items
    ∙ ap (λ (t : List ℕ). c.args.text.now.items ++ t) (rw (c.put_byte-end-2.ensures.written, c.put_byte-end.ensures.written, c.put_submitted-end.ensures.written) (sym line))
