use Rattle.dn_records.proofs.Words.{append_assoc, arith, decimal_nonempty, length-decimal-le, refl, ◌/◌}
use Rattle.dn_records.proofs.address.write_address.Goals as goal

pub write_digits-requires : goal.write_digits-requires
write_digits-requires c =
    let short = length-decimal-le 3 (c.args.address / 16777216) (omega arith) (omega arith) (omega arith) in
    let fourth = c.write_byte-fourth.ensures.start in
    let third = c.write_byte-third.ensures.start in
    let second = c.write_byte-second.ensures.start in (
      omega (arith, short, fourth, third, second, c.requires),
      omega (arith, fourth, third, second, c.requires, c.write_byte-second.auto.bytes, c.write_byte-third.auto.bytes, c.write_byte-fourth.auto.bytes),
    )

pub returns : goal.returns
returns c =
    let short = length-decimal-le 3 (c.args.address / 16777216) (omega arith) (omega arith) (omega arith) in
    let some = decimal_nonempty (c.args.address / 16777216) (omega arith) in
    let fourth = c.write_byte-fourth.ensures.start in
    let third = c.write_byte-third.ensures.start in
    let second = c.write_byte-second.ensures.start in
    let first = c.write_digits.ensures.start in
    record {
      start = (omega (arith, short, first, fourth, third, second), omega (arith, some, first, fourth, third, second));
      written = rw (
        c.write_digits.ensures.written,
        c.write_byte-second.ensures.written,
        c.write_byte-third.ensures.written,
        c.write_byte-fourth.ensures.written,
      ) (simp append_assoc refl);
    }
