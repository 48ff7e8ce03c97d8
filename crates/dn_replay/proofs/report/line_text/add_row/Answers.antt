use Rattle.dn_replay.proofs.Words.{List, ap, append_assoc, drop, ℕ, ◌++◌, ◌∙◌}
use Rattle.dn_replay.proofs.report.line_text.add_row.Goals as goal

pub returns-clause-items : goal.returns-clause-items
returns-clause-items c =
    c.append_from.ensures.items
    ∙ ap (λ (t : List ℕ). t ++ drop c.put_row-start.result c.put_row-start.new.bytes) c.append.ensures.items
    ∙ append_assoc c.args.text.now.items c.args.event.now (drop c.put_row-start.result c.put_row-start.new.bytes)
    ∙ ap (λ (t : List ℕ). c.args.text.now.items ++ (c.args.event.now ++ t)) c.put_row-start.ensures.written
