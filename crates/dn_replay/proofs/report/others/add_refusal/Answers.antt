use Rattle.dn_replay.proofs.Words.{List, ap, arith, sym, ℕ, ◌++◌, ◌∙◌}
use Rattle.dn_replay.proofs.LineBytes.{full-line, lost-line}
use Rattle.dn_replay.proofs.OtherSteps.{full-one, lost-one, no_target-one, unanswered-one}
use Rattle.dn_replay.proofs.report.others.add_refusal.Goals as goal

pub returns-in-Lost-clause-items : goal.returns-in-Lost-clause-items
returns-in-Lost-clause-items c =
    c.add_refused.ensures.items ∙ ap (λ (t : List ℕ). c.args.text.now.items ++ t)
    (sym (lost-line c.args.row c.in-Lost.flow c.in-Lost.at (omega arith) (omega arith) (omega arith)) ∙ lost-one c.args.row c.in-Lost.flow c.in-Lost.at c.args.why c.in-Lost.is)

pub returns-in-Full-clause-items : goal.returns-in-Full-clause-items
returns-in-Full-clause-items c =
    c.add_refused-in-Full.ensures.items ∙ ap (λ (t : List ℕ). c.args.text.now.items ++ t)
    (sym (full-line c.args.row c.in-Full.flow c.in-Full.at (omega arith) (omega arith) (omega arith)) ∙ full-one c.args.row c.in-Full.flow c.in-Full.at c.args.why c.in-Full.is)

pub returns-in-NoTarget-clause-items : goal.returns-in-NoTarget-clause-items
returns-in-NoTarget-clause-items c =
    c.add_no_target.ensures.items ∙ ap (λ (t : List ℕ). c.args.text.now.items ++ t) (no_target-one c.args.row c.in-NoTarget.at c.args.why c.in-NoTarget.is)

pub returns-in-Unanswered-clause-items : goal.returns-in-Unanswered-clause-items
returns-in-Unanswered-clause-items c = unanswered-one c.args.text.now.items c.args.row c.args.why c.in-Unanswered.is
