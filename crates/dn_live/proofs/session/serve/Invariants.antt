use Rattle.dn_live.proofs.Words.{All, Appends, AreTyped, Consumes, IsLine, List, Ordered, StandsAfter, bad_lines, begun, calls_of, false, length, lines_text, prepend_known, ℕ, ◌+◌, ◌≡◌, ◌≤◌}
use Rattle.dn_live.proofs.session.serve.Given as goal

-- The lines that were taken so far, newest first: they were answered, the shaper stands after their calls, and their
-- count and those of the calls and of the bad lines are known. Their entries hold numbers of their types.
abbrev pub invariant-loop-number : goal.invariant-loop-number
invariant-loop-number g l = record {
  answered : (lines : List (List ℕ))
      × Consumes (g.I.Inlet.remaining l.fn.input) (prepend_known l.source (g.I.Inlet.remaining l.input)) (lines_text lines)
      × All IsLine lines
      × Appends (g.O.Outlet.contents l.fn.out) (g.O.Outlet.contents l.out) (begun lines)
      × StandsAfter Ordered l.shaper (calls_of lines)
      × (l.so_far.calls ≡ length (calls_of lines))
      × (l.so_far.bad ≡ bad_lines lines)
      × (l.number ≡ length lines + 1)
      × AreTyped lines;
  few : l.so_far.calls + 1 ≤ l.number;
  few_bad : l.so_far.bad + 1 ≤ l.number;
  input : g.I.Inlet.has_failed l.input ≡ false;
  out : g.O.Outlet.has_failed l.out ≡ false;
}
