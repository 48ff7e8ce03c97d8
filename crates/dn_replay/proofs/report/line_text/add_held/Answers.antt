use Rattle.dn_replay.proofs.Words.{List, ap, arith, sym, ℕ, ◌++◌, ◌∙◌}
use Rattle.dn_replay.proofs.LineBytes.{held-line}
use Rattle.dn_replay.proofs.report.line_text.add_held.Goals as goal

pub returns-clause-items : goal.returns-clause-items
returns-clause-items c =
    let line = held-line c.args.row c.args.flow c.args.packet c.args.at (omega arith) (omega arith) (omega arith) (omega arith) in
    c.add_row.ensures.items
    ∙ ap (λ (t : List ℕ). c.args.text.now.items ++ t) (rw (c.put_number-end-2.ensures.written, c.put_number-end.ensures.written, c.put_submitted-end.ensures.written) (sym line))
