use Rattle.dn_history.proofs.Words.{arith}
use Rattle.dn_history.proofs.LineBytes.{two_line}
use Rattle.dn_history.proofs.write.replies.write_two.Goals as goal

pub returns : goal.returns
returns c =
    rw (
      c.put_bytes-2.ensures,
      c.put_bytes.ensures,
      c.put_number-2.ensures.written,
      c.put_number.ensures.written,
      c.new-line.ensures,
      c.as_bytes.ensures.value,
      two_line c.args.name.now c.args.first c.args.second c.requires.plain (omega arith) (omega arith),
    ) at c.write_line.ensures.ok
