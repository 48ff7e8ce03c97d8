use Rattle.dn_history.proofs.Words.{codes, records_after, refl}
use Rattle.csv.specs.declared.parser.State.TheVariants as st
use Rattle.dn_history.proofs.PlainForms.{reply-taken}
use Rattle.dn_history.proofs.read.numbered_records.NumberedRecords.take_queued.Goals as goal

pub pass_line-requires-clause-line : goal.pass_line-requires-clause-line
pass_line-requires-clause-line c = (codes "r", c.in-Some.ensures.others, c.in-Some.ensures.line)

pub returns-clause-reply : goal.returns-clause-reply
returns-clause-reply c =
    λ version. rw c.pass_line.ensures.next (reply-taken c.args.self.now.records (records_after st.StartRecord c.in-Some.rest.now) c.lines-text.result.now c.in-Some.rest.now
    c.in-Some.reply c.lines-text.ensures c.in-Some.ensures refl c.args.self.now.number version)
