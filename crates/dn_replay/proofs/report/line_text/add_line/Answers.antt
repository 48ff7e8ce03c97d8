use Rattle.dn_replay.proofs.Words.{List, ap, arith, sym, ℕ, ◌++◌, ◌∙◌}
use Rattle.dn_replay.proofs.LineBytes.{full-line, lost-line}
use Rattle.dn_replay.proofs.report.line_text.add_line.Goals as goal

pub returns-in-Lost : goal.returns-in-Lost
returns-in-Lost c =
    rw c.in-Lost.is (c.add_refused.ensures.items
    ∙ ap (λ (t : List ℕ). c.args.text.now.items ++ t) (sym (lost-line c.in-Lost.row c.in-Lost.flow c.in-Lost.at (omega arith) (omega arith) (omega arith))))

pub returns-in-Full : goal.returns-in-Full
returns-in-Full c =
    rw c.in-Full.is (c.add_refused-in-Full.ensures.items
    ∙ ap (λ (t : List ℕ). c.args.text.now.items ++ t) (sym (full-line c.in-Full.row c.in-Full.flow c.in-Full.at (omega arith) (omega arith) (omega arith))))
