use Rattle.dn_replay.proofs.Words.{arith, length, refl, ◌<◌, ◌≤◌}
use Rattle.dn_replay.proofs.MarkSteps.{mark-far, mark-set}
use Rattle.dn_replay.proofs.report.marks.mark.Goals as goal

pub returns-then-place-len-clause-marked : goal.returns-then-place-len-clause-marked
returns-then-place-len-clause-marked c = λ p below.
    let far : length c.args.marks.now.items ≤ c.args.packet = omega (arith, c.if-place-len.true, c.len.ensures, c.args.marks.now.ok.0) in
    mark-far c.args.marks.now.items c.args.packet p far below

pub returns-clause-marked : goal.returns-clause-marked
returns-clause-marked c = λ p below.
    let within : c.args.packet < length c.args.marks.now.items = omega (arith, c.if-place-len.false, c.len.ensures, c.args.marks.now.ok.0) in
    mark-set c.args.marks.now.items c.args.packet c.args.packet p refl within
