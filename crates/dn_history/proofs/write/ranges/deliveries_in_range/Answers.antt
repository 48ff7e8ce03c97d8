use Rattle.dn_history.proofs.Words.{All-more, All-same, IsDelivery, sym, take_all}
use Rattle.dn_history.proofs.write.ranges.deliveries_in_range.Goals as goal

pub loop-delivery-preserved : goal.loop-delivery-preserved
loop-delivery-preserved c = All-more IsDelivery c.args.list.now c.loop-delivery.delivery-index _ c.loop-delivery-test.true c.loop-delivery.invariant c.delivery_in_range.ensures

pub returns-clause-each : goal.returns-clause-each
returns-clause-each c = All-same IsDelivery _ _ (sym (take_all c.loop-delivery.delivery-index c.args.list.now c.loop-delivery-test.false)) c.loop-delivery.invariant
