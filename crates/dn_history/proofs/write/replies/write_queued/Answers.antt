use Rattle.dn_history.proofs.Words.{arith}
use Rattle.dn_history.proofs.LineBytes.{queued_line}
use Rattle.dn_history.proofs.write.replies.write_queued.Goals as goal

pub returns : goal.returns
returns c =
    rw (
      c.put_bytes.ensures,
      c.put_number-3.ensures.written,
      c.put_number-2.ensures.written,
      c.put_number.ensures.written,
      c.new-line.ensures,
      queued_line c.args.at c.args.flow c.args.packet (omega arith) (omega arith) (omega arith),
    ) at c.write_line.ensures.ok
