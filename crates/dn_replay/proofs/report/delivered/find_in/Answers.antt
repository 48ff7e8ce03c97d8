use Rattle.dn_replay.proofs.Deliveries.{found, missed}
use Rattle.dn_replay.proofs.report.delivered.find_in.Goals as goal

pub returns-then-delivery-packet : goal.returns-then-delivery-packet
returns-then-delivery-packet c = found c.args.list.now c.loop-delivery.delivery-index c.args.packet _ c.loop-delivery-test.true c.loop-delivery.invariant c.if-delivery-packet.true

pub loop-delivery-preserved : goal.loop-delivery-preserved
loop-delivery-preserved c = missed c.args.list.now c.loop-delivery.delivery-index c.args.packet _ c.loop-delivery-test.true c.loop-delivery.invariant c.if-delivery-packet.false
