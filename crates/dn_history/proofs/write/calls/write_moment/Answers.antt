use Rattle.dn_history.proofs.Words.{arith}
use Rattle.dn_history.proofs.LineBytes.{moment_line}
use Rattle.dn_history.proofs.write.calls.write_moment.Goals as goal

pub returns : goal.returns
returns c =
    let line = moment_line c.args.caller c.args.name.now c.args.moment (omega arith) c.requires.plain (omega (arith, c.get.ensures.value)) in
    rw (← line) (rw (
      c.put_bytes-3.ensures,
      c.put_number-2.ensures.written,
      c.put_bytes-2.ensures,
      c.put_bytes.ensures,
      c.put_number.ensures.written,
      c.new-line.ensures,
      c.as_bytes.ensures.value,
      c.get.ensures.value,
    ) at c.write_line.ensures.ok)
