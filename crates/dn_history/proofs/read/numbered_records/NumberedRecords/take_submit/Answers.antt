use Rattle.dn_history.proofs.Words.{codes, records_after, refl}
use Rattle.csv.specs.declared.parser.State.TheVariants as st
use Rattle.dn_history.proofs.PlainForms.{call-taken}
use Rattle.dn_history.proofs.read.numbered_records.NumberedRecords.take_submit.Goals as goal

pub pass_line-requires-clause-line : goal.pass_line-requires-clause-line
pass_line-requires-clause-line c = (codes "c", c.in-Some.ensures.others, c.in-Some.ensures.line)

pub returns-clause-call : goal.returns-clause-call
returns-clause-call c =
    λ version count. rw c.pass_line.ensures.next (call-taken c.args.self.now.records (records_after st.StartRecord c.in-Some.rest.now) c.lines-text.result.now c.in-Some.rest.now
    c.in-Some.caller c.in-Some.call c.lines-text.ensures c.in-Some.ensures refl c.args.self.now.number count version)
