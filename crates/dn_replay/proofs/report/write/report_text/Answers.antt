use Rattle.dn_replay.proofs.Words.{ap, outs_in_order, row_number, sorted_by, ◌∙◌}
use Rattle.dn_replay.proofs.LineSteps.{report_is}
use Rattle.dn_replay.proofs.report.write.report_text.Goals as goal

pub returns : goal.returns
returns c =
    let outs = c.as_slice.ensures.value ∙ c.in_ok-sort.ensures.outs ∙ ap outs_in_order c.in_ok-lines.ensures.outs in
    let others = c.as_slice-2.ensures.value ∙ c.in_ok-sort.ensures.others ∙ ap (sorted_by row_number) c.in_ok-lines.ensures.others in
    let text = rw (c.in_ok-add_lines.ensures, c.add_header.ensures.items, c.in_ok-text.ensures.items) at c.in_ok-add_lines-2.ensures in
    text ∙ report_is c.args.n c.args.entries.now c.as_slice.result.now c.as_slice-2.result.now outs others
