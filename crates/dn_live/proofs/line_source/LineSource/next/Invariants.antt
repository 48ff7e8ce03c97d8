use Rattle.dn_live.proofs.Words.{Consumes, IsOneLine, false, prepend_known, vec_len, ◌-◌, ◌≡◌, ◌≤◌}
use Rattle.dn_live.proofs.line_source.LineSource.next.Given as goal

abbrev pub invariant-loop-fault : goal.invariant-loop-fault
invariant-loop-fault g l = record {
  taken : Consumes (prepend_known l.fn.self (g.I.Inlet.remaining l.fn.input)) (prepend_known l.self (g.I.Inlet.remaining l.input)) l.line.items;
  one : IsOneLine l.line.items;
  short : vec_len l.line ≤ 65536;
  sound : g.I.Inlet.has_failed l.input ≡ false;
}

abbrev pub decreases-loop-fault : goal.decreases-loop-fault
decreases-loop-fault g l = 65537 - vec_len l.line
