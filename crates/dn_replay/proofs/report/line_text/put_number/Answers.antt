use Rattle.dn_replay.proofs.Words.{arith, decimal, length, length-decimal-le, ◌≤◌}
use Rattle.dn_replay.proofs.report.line_text.put_number.Goals as goal

pub write_digits-digits-requires : goal.write_digits-digits-requires
write_digits-digits-requires c = let short : length (decimal c.args.number) ≤ 20 = length-decimal-le 20 c.args.number (omega arith) (omega arith) (omega arith) in (omega arith, c.requires.within)

pub put_byte-requires-clause-room : goal.put_byte-requires-clause-room
put_byte-requires-clause-room c = let short : length (decimal c.args.number) ≤ 20 =
    length-decimal-le 20 c.args.number (omega arith) (omega arith) (omega arith) in omega (arith, short, c.write_digits-digits.ensures.start)

pub returns-clause-start : goal.returns-clause-start
returns-clause-start c = let short : length (decimal c.args.number) ≤ 20 = length-decimal-le 20 c.args.number (omega arith) (omega arith) (omega arith) in
    omega (arith, short, c.write_digits-digits.ensures.start, c.put_byte.ensures.start)
