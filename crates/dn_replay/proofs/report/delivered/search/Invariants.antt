use Rattle.dn_replay.proofs.Words.{None, deliveries, delivery_of_packet, take, ◌≡◌}
use Rattle.dn_replay.proofs.report.delivered.search.Given as goal

abbrev pub invariant-loop-entry : goal.invariant-loop-entry
invariant-loop-entry l = delivery_of_packet l.packet (deliveries (take l.entry-index l.entries)) ≡ None
