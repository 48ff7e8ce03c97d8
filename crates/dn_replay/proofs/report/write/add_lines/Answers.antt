use Rattle.dn_replay.proofs.Words.{line_fields, text-more, text-none, ◌∙◌}
use Rattle.dn_replay.proofs.report.write.add_lines.Goals as goal

pub loop-line-init : goal.loop-line-init
loop-line-init c = text-none c.args.text.now.items

pub loop-line-preserved : goal.loop-line-preserved
loop-line-preserved c =
    let one = rw (c.reserve.ensures.items, c.loop-line.invariant) at c.add_line.ensures in
    one ∙ text-more line_fields c.args.text.now.items c.args.lines.now c.loop-line.line-index _ c.loop-line-test.true
