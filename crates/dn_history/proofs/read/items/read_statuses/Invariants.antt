use Rattle.dn_history.proofs.Words.{items_from, length, status_item, ◌≡◌, ◌≤◌}
use Rattle.dn_history.proofs.HistoryReading.{with_front}
use Rattle.dn_history.proofs.read.items.read_statuses.Given as goal

abbrev pub invariant-loop-left : goal.invariant-loop-left
invariant-loop-left l = record {
  so_far : with_front l.list.items (items_from (status_item l.fn.version) l.left l.records) ≡ items_from (status_item l.fn.version) l.fn.count l.fn.records;
  fewer : length l.records.records ≤ length l.fn.records.records;
}

abbrev pub decreases-loop-left : goal.decreases-loop-left
decreases-loop-left l = l.left
