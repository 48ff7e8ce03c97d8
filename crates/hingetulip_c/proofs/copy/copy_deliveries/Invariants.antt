-- What was written so far, and what stands behind it.
use Rattle.hingetulip_c.proofs.Words.{c_delivery, drop, map, take, ◌≡◌}
use Rattle.hingetulip_c.proofs.copy.copy_deliveries.Given as goal

abbrev pub invariant-loop-i : goal.invariant-loop-i
invariant-loop-i l = record {
  written : take l.i l.list ≡ map c_delivery (take l.i l.given);
  others : drop l.i l.list ≡ drop l.i l.fn.list;
}
