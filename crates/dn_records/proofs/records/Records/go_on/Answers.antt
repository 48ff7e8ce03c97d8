use Rattle.dn_records.proofs.Words.{ap, length, records_of, take_rest, ◌-◌, ◌∙◌}
use Rattle.dn_records.proofs.FirstLine.{behind-feed}
use Rattle.dn_records.proofs.PlainLines.{rest-is}
use Rattle.dn_records.proofs.records.Records.go_on.Goals as goal

pub returns : goal.returns
returns c =
    let text = c.args.text.now in
    let rest = c.args.rest.now in
    rw (take_rest text (length text - length rest - 1)) (ap records_of (rest-is text rest c.requires) ∙ behind-feed rest)
