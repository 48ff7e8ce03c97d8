-- What was written so far, and what stands behind it.
use Rattle.hingetulip_c.proofs.Words.{c_packet, drop, map, take, ◌≡◌}
use Rattle.hingetulip_c.proofs.rows.copy_rows.Given as goal

abbrev pub invariant-loop-i : goal.invariant-loop-i
invariant-loop-i l = record {
  written : take l.i l.packets ≡ map c_packet (take l.i l.rows);
  others : drop l.i l.packets ≡ drop l.i l.fn.packets;
}
