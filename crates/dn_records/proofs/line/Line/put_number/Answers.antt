use Rattle.dn_records.proofs.Words.{ap, arith, decimal, decimal_nonempty, drop-set, length, length-append, length-decimal-le, length-drop, refl, ℕ, ◌+◌, ◌-◌, ◌≡◌, ◌≤◌}
use Rattle.dn_records.proofs.line.Line.put_number.Goals as goal

pub write_digits-start-requires : goal.write_digits-start-requires
write_digits-start-requires c =
    let short = length-decimal-le 20 c.args.number (omega arith) (omega arith) (omega arith) in
    let left = length-drop c.self.inside.start c.self.inside.bytes in
    let view = ap (length {A = ℕ}) c.self.view_is in
    (omega (arith, short, left, view, c.requires, c.self.invariant, c.self.told), omega (arith, c.self.told, c.self.invariant))

pub overflow_sub-start : goal.overflow_sub-start
overflow_sub-start c =
    let short = length-decimal-le 20 c.args.number (omega arith) (omega arith) (omega arith) in
    let left = length-drop c.self.inside.start c.self.inside.bytes in
    let view = ap (length {A = ℕ}) c.self.view_is in
    omega (arith, short, left, view, c.requires, c.self.invariant, c.self.told, c.write_digits-start.ensures.start)

pub returns-clause-written : goal.returns-clause-written
returns-clause-written c =
    let w = c.write_digits-start in
    let short = length-decimal-le 20 c.args.number (omega arith) (omega arith) (omega arith) in
    let left = length-drop c.self.inside.start c.self.inside.bytes in
    let view = ap (length {A = ℕ}) c.self.view_is in
    let some : 1 ≤ w.result = omega (arith, short, left, view, c.requires, c.self.invariant, c.self.told, w.ensures.start) in
    let digits = decimal_nonempty c.args.number (omega arith) in
    let back : w.result - 1 + 1 ≡ w.result = omega (arith, some) in
    rw (drop-set w.new.buf (w.result - 1) 44 (omega (arith, some, digits, w.ensures.start, w.auto.buf, c.self.invariant, c.self.told)), back, w.ensures.written, c.self.view_is) refl

pub returns-clause-len : goal.returns-clause-len
returns-clause-len c =
    let short = length-decimal-le 20 c.args.number (omega arith) (omega arith) (omega arith) in
    rw (returns-clause-written c) (omega (arith, short, length-append (decimal c.args.number) c.args.self.now))
