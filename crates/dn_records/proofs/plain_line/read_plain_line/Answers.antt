use Rattle.dn_records.proofs.Words.{fields_of}
use Rattle.dn_records.proofs.PlainLines.{all-pieces}
use Rattle.dn_records.proofs.plain_line.read_plain_line.Goals as goal

pub returns-clause-fields : goal.returns-clause-fields
returns-clause-fields c = λ plain. all-pieces c.args.line.now (fields_of c.split_line.new.fields) c.in_ok-split_line.ensures
