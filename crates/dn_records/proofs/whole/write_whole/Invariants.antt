use Rattle.dn_records.proofs.Words.{Appends, false, length, take, ◌-◌, ◌≡◌, ◌≤◌}
use Rattle.dn_records.proofs.whole.write_whole.Given as goal

abbrev pub invariant-loop-at : goal.invariant-loop-at
invariant-loop-at g l = record {
  within : l.at ≤ length l.text;
  sound : g.O.Outlet.has_failed l.outlet ≡ false;
  written : Appends (g.O.Outlet.contents l.initial.outlet) (g.O.Outlet.contents l.outlet) (take l.at l.text);
}

abbrev pub decreases-loop-at : goal.decreases-loop-at
decreases-loop-at g l = length l.text - l.at
