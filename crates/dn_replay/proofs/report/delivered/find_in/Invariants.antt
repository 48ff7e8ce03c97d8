use Rattle.dn_replay.proofs.Words.{None, delivery_of_packet, take, ◌≡◌}
use Rattle.dn_replay.proofs.report.delivered.find_in.Given as goal

abbrev pub invariant-loop-delivery : goal.invariant-loop-delivery
invariant-loop-delivery l = delivery_of_packet l.packet (take l.delivery-index l.list) ≡ None
