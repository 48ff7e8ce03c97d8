use Rattle.dn_replay.proofs.Words.{Entry, List, None, ap, deliveries, delivery_of_packet, rules, take_all, ◌∙◌}
use Rattle.dn_replay.proofs.Deliveries.{empty_table, further, nothing-yet}
use Rattle.dn_replay.proofs.report.delivered.delivery_table.Goals as goal

pub loop-entry-init : goal.loop-entry-init
loop-entry-init c = λ packet below.
    let empty = c.in_ok-table.ensures.items_if_clones_equal (search rules) in
    rw empty (empty_table _ packet None ∙ nothing-yet packet)

pub loop-entry-preserved : goal.loop-entry-preserved
loop-entry-preserved c = λ packet below.
    let under = rw c.note_all.ensures.len at below in
    let one = rw (c.loop-entry.invariant packet under, c.delivered_by.ensures) at (c.note_all.ensures.noted packet under) in
    one ∙ further c.args.entries.now c.loop-entry.entry-index packet c.entry-item.result c.loop-entry-test.true c.entry-item.is

pub returns : goal.returns
returns c = λ packet below.
    c.loop-entry.invariant packet below ∙ ap (λ (es : List Entry). delivery_of_packet packet (deliveries es)) (take_all c.loop-entry.entry-index c.args.entries.now c.loop-entry-test.false)
