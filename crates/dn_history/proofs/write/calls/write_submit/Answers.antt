use Rattle.dn_history.proofs.Words.{arith}
use Rattle.dn_history.proofs.LineBytes.{submit_line}
use Rattle.dn_history.proofs.write.calls.write_submit.Goals as goal

pub returns : goal.returns
returns c =
    let line = submit_line c.args.caller c.args.target.now c.args.packet.now c.args.moment (omega arith) c.submit_in_range.ensures in
    rw (← line) (rw (
      c.put_bytes.ensures,
      c.put_number-7.ensures.written,
      c.put_target.ensures.written,
      c.put_address-2.ensures.written,
      c.put_address.ensures.written,
      c.put_number-6.ensures.written,
      c.put_number-5.ensures.written,
      c.put_number-4.ensures.written,
      c.put_number-3.ensures.written,
      c.put_number-2.ensures.written,
      c.put_number.ensures.written,
      c.new-line.ensures,
      c.from-5.ensures,
      c.from-4.ensures,
      c.from-3.ensures,
      c.from-2.ensures,
      c.get-2.ensures.value,
      c.from.ensures,
      c.get.ensures.value,
    ) at c.write_line.ensures.ok)
