-- What was written so far, and what stands behind it.
use Rattle.hingetulip_c.proofs.Words.{c_flow, drop, map, take, ◌≡◌}
use Rattle.hingetulip_c.proofs.copy.copy_flows.Given as goal

abbrev pub invariant-loop-i : goal.invariant-loop-i
invariant-loop-i l = record {
  written : take l.i l.list ≡ map c_flow (take l.i l.given);
  others : drop l.i l.list ≡ drop l.i l.fn.list;
}
