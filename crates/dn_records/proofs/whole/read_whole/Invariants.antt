use Rattle.dn_records.proofs.Words.{Consumes, false, vec_len, ◌+◌, ◌-◌, ◌≡◌}
use Rattle.dn_records.proofs.whole.read_whole.Given as goal

-- no read has failed, and the text is what the inlet gave
abbrev pub invariant-loop-chunk : goal.invariant-loop-chunk
invariant-loop-chunk g l = record {
  sound : g.I.Inlet.has_failed l.inlet ≡ false;
  taken : Consumes (g.I.Inlet.remaining l.initial.inlet) (g.I.Inlet.remaining l.inlet) l.text.items;
}

abbrev pub decreases-loop-chunk : goal.decreases-loop-chunk
decreases-loop-chunk g l = l.limit + 1 - vec_len l.text
