use Rattle.dn_history.proofs.Words.{arith}
use Rattle.dn_history.proofs.LineBytes.{one_line}
use Rattle.dn_history.proofs.write.replies.write_one.Goals as goal

pub returns : goal.returns
returns c =
    rw (
      c.put_bytes-2.ensures,
      c.put_bytes.ensures,
      c.put_number.ensures.written,
      c.new-line.ensures,
      c.as_bytes.ensures.value,
      one_line c.args.name.now c.args.value c.requires.plain (omega arith),
    ) at c.write_line.ensures.ok
