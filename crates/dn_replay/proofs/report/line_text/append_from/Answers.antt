use Rattle.dn_replay.proofs.Words.{List, ap, take_rest, ℕ, ◌++◌, ◌∙◌}
use Rattle.dn_replay.proofs.report.line_text.append_from.Goals as goal

pub returns-clause-items : goal.returns-clause-items
returns-clause-items c = c.append.ensures.items ∙ ap (λ (t : List ℕ). c.args.text.now.items ++ t) (take_rest c.args.bytes.now c.args.start)
