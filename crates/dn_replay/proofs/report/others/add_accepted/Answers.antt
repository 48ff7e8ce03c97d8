use Rattle.dn_replay.proofs.Words.{List, ap, get_or, no_row, sym, ℕ, ◌++◌, ◌∙◌}
use Rattle.dn_replay.proofs.OtherSteps.{given-one, held-one}
use Rattle.dn_replay.proofs.report.others.add_accepted.Goals as goal

pub returns-then-is_given-clause-items : goal.returns-then-is_given-clause-items
returns-then-is_given-clause-items c = λ given marks.
    let there = sym (marks c.args.packet c.requires.numbered) ∙ sym c.is_given.ensures ∙ c.if-is_given.true in
    given-one c.args.text.now.items c.args.packet given (get_or c.args.accepted.now c.args.packet no_row) there

pub returns-clause-items : goal.returns-clause-items
returns-clause-items c = λ given marks.
    let absent = sym (marks c.args.packet c.requires.numbered) ∙ sym c.is_given.ensures ∙ c.if-is_given.false in
    let items = rw c.row_of-own.ensures at c.add_held.ensures.items in
    items ∙ ap (λ (t : List ℕ). c.args.text.now.items ++ t) (held-one c.args.packet given (get_or c.args.accepted.now c.args.packet no_row) absent)
