use Rattle.dn_replay.proofs.Words.{List, ap, refl, ℕ, ◌++◌, ◌∙◌}
use Rattle.dn_replay.proofs.report.line_text.add_refused.Goals as goal

pub returns-clause-items : goal.returns-clause-items
returns-clause-items c =
    c.add_row.ensures.items
    ∙ ap (λ (t : List ℕ). c.args.text.now.items ++ (c.args.event.now ++ t)) (rw (c.put_number-end.ensures.written, c.put_byte-end.ensures.written, c.put_submitted-end.ensures.written) refl)
