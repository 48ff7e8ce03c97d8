use Rattle.dn_replay.proofs.Words.{None, deliveries, delivery_of_packet, get_or, length, take, ℕ, ◌<◌, ◌≡◌}
use Rattle.dn_replay.proofs.report.delivered.delivery_table.Given as goal

abbrev pub invariant-loop-entry : goal.invariant-loop-entry
invariant-loop-entry l = (packet : ℕ) → packet < length l.table.items → get_or l.table.items packet None ≡ delivery_of_packet packet (deliveries (take l.entry-index l.entries))
