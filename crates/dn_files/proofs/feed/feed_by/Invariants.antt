use Rattle.dn_files.proofs.Words.{Consumes, List, [], false, ℕ, ◌≡◌}
use Rattle.dn_files.proofs.feed.feed_by.Given as goal

-- No read has failed, and what came is what the inlet gave.
abbrev pub invariant-loop-count : goal.invariant-loop-count
invariant-loop-count g l = record {
  sound : g.I.Inlet.has_failed l.inlet ≡ false;
  come : (text : List ℕ) × Consumes (g.I.Inlet.remaining l.fn.inlet) (g.I.Inlet.remaining l.inlet) text
      × ((known : g.F.Feed.Known) → g.F.Feed.has_come known l.fn.feed [] → g.F.Feed.has_come known l.feed text);
}

abbrev pub decreases-loop-count : goal.decreases-loop-count
decreases-loop-count g l = g.F.Feed.room l.feed
