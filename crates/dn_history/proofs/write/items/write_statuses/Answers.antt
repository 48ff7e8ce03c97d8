use Rattle.dn_history.proofs.Words.{FlowStatus, ap, line_of, map, status_record, take, text-more, text-none, text_of, ◌++◌, ◌∙◌}
use Rattle.dn_history.proofs.write.items.write_statuses.Goals as goal

pub loop-status-init : goal.loop-status-init
loop-status-init c = text-none c.args.writer.now.text

pub loop-status-preserved : goal.loop-status-preserved
loop-status-preserved c =
    let one = rw c.loop-status.invariant at c.in_ok-write_status.ensures in
    let before = c.args.writer.now.text ++ text_of (map status_record (take c.loop-status.status-index c.args.list.now)) in
    one ∙ ap (λ (s : FlowStatus). before ++ line_of (status_record s)) c.status-item.is
    ∙ text-more status_record c.args.writer.now.text c.args.list.now c.loop-status.status-index _ c.loop-status-test.true
