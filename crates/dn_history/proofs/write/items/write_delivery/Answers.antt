use Rattle.dn_history.proofs.LineBytes.{delivery_line}
use Rattle.dn_history.proofs.write.items.write_delivery.Goals as goal

pub returns : goal.returns
returns c =
    rw (
      c.put_bytes.ensures,
      c.put_number-4.ensures.written,
      c.put_number-3.ensures.written,
      c.put_number-2.ensures.written,
      c.put_number.ensures.written,
      c.new-line.ensures,
      delivery_line c.args.delivery.now c.delivery_in_range.ensures,
    ) at c.write_line.ensures.ok
