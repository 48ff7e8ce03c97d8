use Rattle.dn_replay.proofs.Words.{arith, length, no_refusal, ◌<◌, ◌≤◌}
use Rattle.dn_replay.proofs.OtherSteps.{later-refused, none-refused, this-refused}
use Rattle.dn_replay.proofs.report.others.refusal_of.Goals as goal

pub returns-then-place-refused : goal.returns-then-place-refused
returns-then-place-refused c = λ fate fates e.
    let far : length c.args.refused.now ≤ c.args.place = omega (arith, c.if-place-refused.true) in
    none-refused c.args.refused.now c.args.place c.args.row fate fates far e

pub returns-then-next-row : goal.returns-then-next-row
returns-then-next-row c = λ fate fates e.
    let within : c.args.place < length c.args.refused.now = omega (arith, c.if-place-refused.false) in
    this-refused c.args.refused.now c.args.place c.args.row fate fates no_refusal c.refused_at-next.result within c.refused_at-next.ensures c.if-next-row.true e

pub returns-else-next-row : goal.returns-else-next-row
returns-else-next-row c = λ fate fates e.
    let within : c.args.place < length c.args.refused.now = omega (arith, c.if-place-refused.false) in
    later-refused c.args.refused.now c.args.place c.args.row fate fates no_refusal c.refused_at-next.result within c.refused_at-next.ensures c.if-next-row.false e
