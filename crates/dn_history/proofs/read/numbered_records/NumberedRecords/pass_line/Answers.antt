use Rattle.dn_history.proofs.Words.{arith, behind-line, ◌+◌, ◌∷◌}
use Rattle.dn_history.proofs.PlainForms.{one-counted, one-fewer}
use Rattle.dn_history.proofs.read.numbered_records.NumberedRecords.pass_line.Goals as goal

pub go_on-requires : goal.go_on-requires
go_on-requires c = let (field, others, line) = c.requires.line in behind-line c.args.text.now (field ∷ others) c.args.rest.now line

pub overflow_add-self : goal.overflow_add-self
overflow_add-self c =
    let (field, others, line) = c.requires.line in
    let is = rw (← c.self.view_is) at c.requires.records in
    let count = one-counted c.self.inside.records c.go_on.new.self c.args.text.now c.args.rest.now field others is line c.go_on.ensures in
    omega (arith, count, c.self.invariant)

pub invariant_of-self : goal.invariant_of-self
invariant_of-self c =
    let (field, others, line) = c.requires.line in
    let is = rw (← c.self.view_is) at c.requires.records in
    let count = one-counted c.self.inside.records c.go_on.new.self c.args.text.now c.args.rest.now field others is line c.go_on.ensures in
    omega (arith, count, c.self.invariant)

pub returns-clause-next : goal.returns-clause-next
returns-clause-next c = rw (← c.self.view_is) (λ i. record { number = c.self.inside.number + 1; records = c.go_on.ensures i })

pub returns-clause-fewer : goal.returns-clause-fewer
returns-clause-fewer c =
    let (field, others, line) = c.requires.line in
    let is = rw (← c.self.view_is) at c.requires.records in
    rw (← c.self.view_is) (one-fewer c.self.inside.records c.go_on.new.self c.args.text.now c.args.rest.now field others is line c.go_on.ensures)
