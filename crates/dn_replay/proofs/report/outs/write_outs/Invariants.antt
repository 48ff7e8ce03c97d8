use Rattle.dn_replay.proofs.Words.{IsUnderWay, LINE, List, Option, delivery_line, false, length, line_fields, map, take, text_of, vec_capacity, ℕ, ◌++◌, ◌+◌, ◌<◌, ◌≡◌, ◌≤◌}
use Rattle.dn_replay.proofs.report.outs.write_outs.Given as goal

-- The lines so far were written, or are in the buffer.
abbrev pub invariant-loop-delivery : goal.invariant-loop-delivery
invariant-loop-delivery g l = record {
  under_way : (start : Option (List ℕ)) (before : List ℕ) → IsUnderWay start (g.O.Outlet.contents l.fn.out) l.fn.text.items before
      → IsUnderWay start (g.O.Outlet.contents l.out) l.text.items (before ++ text_of (map line_fields (map (delivery_line l.kept.accepted.items) (take l.delivery-index l.given))));
  room : 65536 + LINE ≤ vec_capacity l.text;
  short : length l.text.items < 65536;
  sound : g.O.Outlet.has_failed l.out ≡ false;
}
