use Rattle.dn_history.proofs.LineBytes.{name_line}
use Rattle.dn_history.proofs.write.replies.write_name.Goals as goal

pub returns : goal.returns
returns c =
    rw (
      c.put_bytes-2.ensures,
      c.put_bytes.ensures,
      c.new-line.ensures,
      c.as_bytes.ensures.value,
      name_line c.args.name.now c.requires.plain,
    ) at c.write_line.ensures.ok
