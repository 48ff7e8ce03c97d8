use Rattle.dn_replay.proofs.Words.{arith, get_or_past, length, sym, true, ◌≤◌}
use Rattle.dn_replay.proofs.report.marks.is_given.Goals as goal

pub returns-then-packet-marks : goal.returns-then-packet-marks
returns-then-packet-marks c =
    let far : length c.args.marks.now ≤ c.args.packet = omega (arith, c.if-packet-marks.true) in
    sym (get_or_past c.args.marks.now c.args.packet true far)
