use Rattle.dn_live.proofs.Words.{IfOk-weaker, fields_of, records_of}
use Rattle.dn_live.proofs.FieldSteps.{first_read}
use Rattle.dn_live.proofs.line_fields.read_quoted.Goals as goal

pub returns : goal.returns
returns c = IfOk-weaker c.is_at_end.result _ _
    (λ none is. first_read (records_of c.args.line.now) c.read.new.self (fields_of c.read.new.row) none (rw (c.new-records.ensures.records, c.if-not-found.false) at c.in-Ok.ensures.ok) is)
    c.is_at_end.ensures
