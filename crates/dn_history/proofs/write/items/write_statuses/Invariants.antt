use Rattle.dn_history.proofs.Words.{map, status_record, take, text_of, ◌++◌, ◌≡◌}
use Rattle.dn_history.proofs.write.items.write_statuses.Given as goal

abbrev pub invariant-loop-status : goal.invariant-loop-status
invariant-loop-status l = l.writer.text ≡ l.fn.writer.text ++ text_of (map status_record (take l.status-index l.list))
