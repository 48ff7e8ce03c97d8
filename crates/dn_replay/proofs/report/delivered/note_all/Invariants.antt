use Rattle.dn_replay.proofs.Words.{None, delivery_of_packet, get_or, length, option_or, take, ℕ, ◌<◌, ◌≡◌}
use Rattle.dn_replay.proofs.report.delivered.note_all.Given as goal

abbrev pub invariant-loop-delivery : goal.invariant-loop-delivery
invariant-loop-delivery l = record {
  len : length l.table.items ≡ length l.fn.table.items;
  noted : (packet : ℕ) → packet < length l.fn.table.items
      → get_or l.table.items packet None ≡ option_or (get_or l.fn.table.items packet None) (delivery_of_packet packet (take l.delivery-index l.list));
}
