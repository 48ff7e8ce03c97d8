use Rattle.dn_files.proofs.Inputs.{too_long}
use Rattle.dn_files.proofs.input.read_input.Goals as goal

pub returns-in-Err-TooLong-clause-err : goal.returns-in-Err-TooLong-clause-err
returns-in-Err-TooLong-clause-err g c =
    let err = rw c.in-Err-TooLong.field-0-is at c.in-Err-TooLong.ensures.err in
    (err.0, too_long c.args.source c.args.limit (g.I.Inlet.remaining c.args.reader.now) err.1)
