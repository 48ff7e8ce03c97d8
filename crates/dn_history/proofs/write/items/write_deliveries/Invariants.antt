use Rattle.dn_history.proofs.Words.{delivery_record, map, take, text_of, ◌++◌, ◌≡◌}
use Rattle.dn_history.proofs.write.items.write_deliveries.Given as goal

abbrev pub invariant-loop-delivery : goal.invariant-loop-delivery
invariant-loop-delivery l = l.writer.text ≡ l.fn.writer.text ++ text_of (map delivery_record (take l.delivery-index l.list))
