use Rattle.dn_records.proofs.PlainLines.{none-in}
use Rattle.dn_records.proofs.records.Records.end.Goals as goal

pub returns : goal.returns
returns c = none-in
