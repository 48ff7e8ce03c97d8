use Rattle.dn_history.proofs.Words.{delivery_item, items_from, length, ◌≡◌, ◌≤◌}
use Rattle.dn_history.proofs.HistoryReading.{with_front}
use Rattle.dn_history.proofs.read.items.read_deliveries.Given as goal

abbrev pub invariant-loop-left : goal.invariant-loop-left
invariant-loop-left l = record {
  so_far : with_front l.list.items (items_from delivery_item l.left l.records) ≡ items_from delivery_item l.fn.count l.fn.records;
  fewer : length l.records.records ≤ length l.fn.records.records;
}

abbrev pub decreases-loop-left : goal.decreases-loop-left
decreases-loop-left l = l.left
