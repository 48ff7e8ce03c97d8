use Rattle.dn_history.proofs.Words.{delivery_record, text-more, text-none, ◌∙◌}
use Rattle.dn_history.proofs.write.items.write_deliveries.Goals as goal

pub loop-delivery-init : goal.loop-delivery-init
loop-delivery-init c = text-none c.args.writer.now.text

pub loop-delivery-preserved : goal.loop-delivery-preserved
loop-delivery-preserved c =
    let one = rw c.loop-delivery.invariant at c.in_ok-write_delivery.ensures in
    one ∙ text-more delivery_record c.args.writer.now.text c.args.list.now c.loop-delivery.delivery-index _ c.loop-delivery-test.true
