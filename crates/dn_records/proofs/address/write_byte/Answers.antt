use Rattle.dn_records.proofs.Words.{arith, decimal_nonempty, drop-set, length-decimal-le, refl, ◌+◌, ◌-◌, ◌≡◌}
use Rattle.dn_records.proofs.address.write_byte.Goals as goal

pub write_digits-start-requires : goal.write_digits-start-requires
write_digits-start-requires c =
    (omega (arith, length-decimal-le 3 c.args.byte (omega arith) (omega arith) (omega arith), c.requires), c.requires.1)

pub overflow_sub-start : goal.overflow_sub-start
overflow_sub-start c = omega (arith, length-decimal-le 3 c.args.byte (omega arith) (omega arith) (omega arith), c.requires, c.write_digits-start.ensures.start)

pub returns-clause-start : goal.returns-clause-start
returns-clause-start c =
    let short = length-decimal-le 3 c.args.byte (omega arith) (omega arith) (omega arith) in
    let some = decimal_nonempty c.args.byte (omega arith) in
    let start = c.write_digits-start.ensures.start in
    (omega (arith, short, c.requires, start), omega (arith, some, c.requires, start))

pub returns-clause-written : goal.returns-clause-written
returns-clause-written c =
    let w = c.write_digits-start in
    let short = length-decimal-le 3 c.args.byte (omega arith) (omega arith) (omega arith) in
    let some = decimal_nonempty c.args.byte (omega arith) in
    let back : w.result - 1 + 1 ≡ w.result = omega (arith, short, c.requires, w.ensures.start) in
    rw (drop-set w.new.buf (w.result - 1) 46 (omega (arith, some, short, c.requires, w.ensures.start, w.auto.buf)), back, w.ensures.written) refl
