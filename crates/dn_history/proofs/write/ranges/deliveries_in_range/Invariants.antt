use Rattle.dn_history.proofs.Words.{All, IsDelivery, take}
use Rattle.dn_history.proofs.write.ranges.deliveries_in_range.Given as goal

abbrev pub invariant-loop-delivery : goal.invariant-loop-delivery
invariant-loop-delivery l = All IsDelivery (take l.delivery-index l.list)
