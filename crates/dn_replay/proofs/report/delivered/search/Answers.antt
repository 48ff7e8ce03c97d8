use Rattle.dn_replay.proofs.Words.{ap, delivery_of_packet, sym, ◌∙◌}
use Rattle.dn_replay.proofs.Deliveries.{found_here, not_here, nothing-yet}
use Rattle.dn_replay.proofs.report.delivered.search.Goals as goal

pub loop-entry-init : goal.loop-entry-init
loop-entry-init c = sym (nothing-yet c.args.packet)

pub returns-then-is_some : goal.returns-then-is_some
returns-then-is_some c =
    found_here c.args.entries.now c.loop-entry.entry-index c.args.packet c.entry-item.result c.find_in-found.result c.loop-entry-test.true c.entry-item.is c.loop-entry.invariant
    (c.find_in-found.ensures ∙ ap (delivery_of_packet c.args.packet) c.delivered_by.ensures) (sym c.is_some.ensures ∙ c.if-is_some.true)

pub loop-entry-preserved : goal.loop-entry-preserved
loop-entry-preserved c =
    not_here c.args.entries.now c.loop-entry.entry-index c.args.packet c.entry-item.result c.find_in-found.result c.loop-entry-test.true c.entry-item.is c.loop-entry.invariant
    (c.find_in-found.ensures ∙ ap (delivery_of_packet c.args.packet) c.delivered_by.ensures) (sym c.is_some.ensures ∙ c.if-is_some.false)
