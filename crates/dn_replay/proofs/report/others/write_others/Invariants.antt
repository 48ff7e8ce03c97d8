use Rattle.dn_replay.proofs.Words.{AreMarksOf, Delivery, Fate, IsKeptOf, IsUnderWay, LINE, List, Option, drop, false, length, vec_capacity, ℕ, ◌++◌, ◌+◌, ◌<◌, ◌≡◌, ◌≤◌}
use Rattle.dn_replay.proofs.OtherSteps.{AreLeft, text_from}
use Rattle.dn_replay.proofs.report.others.write_others.Given as goal

-- The lines so far were written, or are in the buffer, and those of the rows that are left are still to come.
abbrev pub invariant-loop-place : goal.invariant-loop-place
invariant-loop-place g l = record {
  under_way : (start : Option (List ℕ)) (before : List ℕ) (given : List Delivery) (fates : List Fate)
      → IsKeptOf l.kept fates → AreMarksOf l.marks (length l.kept.accepted.items) given → IsUnderWay start (g.O.Outlet.contents l.fn.out) l.fn.text.items before
      → (done : List ℕ) × IsUnderWay start (g.O.Outlet.contents l.out) l.text.items done
      × (done ++ text_from l.place l.packet given fates ≡ before ++ text_from 0 0 given fates);
  left : (fates : List Fate) → IsKeptOf l.kept fates → AreLeft l.kept l.place l.packet (drop l.place fates);
  numbered : l.packet ≤ l.place;
  room : 65536 + LINE ≤ vec_capacity l.text;
  short : length l.text.items < 65536;
  sound : g.O.Outlet.has_failed l.out ≡ false;
}
