use Rattle.dn_replay.proofs.Words.{Option, ReportLine, ap, other_text, sym, ◌++◌, ◌∙◌}
use Rattle.dn_replay.proofs.OtherSteps.{next-accepted, refused-line}
use Rattle.dn_replay.proofs.report.others.add_other.Goals as goal

pub returns-in-Some-clause-items : goal.returns-in-Some-clause-items
returns-in-Some-clause-items c = λ given fate fates marks is e.
    c.add_refusal.ensures.items ∙ ap (λ (o : Option ReportLine). c.args.text.now.items ++ other_text o)
    (refused-line c.args.row c.args.packet given fate c.in-Some.why (sym c.in-Some.is ∙ is))

pub returns-in-None-clause-items : goal.returns-in-None-clause-items
returns-in-None-clause-items c = λ given fate fates marks is e.
    let own = next-accepted c.args.accepted.now c.args.packet c.args.row fate fates (sym is ∙ c.in-None.is) e in
    c.add_accepted.ensures.items given marks ∙ ap (λ (o : Option ReportLine). c.args.text.now.items ++ other_text o) (own.1 given)
