use Rattle.dn_history.proofs.Words.{arith}
use Rattle.dn_history.proofs.LineBytes.{show_line}
use Rattle.dn_history.proofs.write.calls.write_show.Goals as goal

pub returns : goal.returns
returns c =
    rw (
      c.put_bytes-2.ensures,
      c.put_number.ensures.written,
      c.put_bytes.ensures,
      c.new-line.ensures,
      show_line c.args.caller (omega arith),
    ) at c.write_line.ensures.ok
