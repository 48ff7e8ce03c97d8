use Rattle.dn_history.proofs.Words.{All-more, All-same, IsEntry, arith, subst, sym, take_all}
use Rattle.dn_history.proofs.write.ranges.entries_in_range.Goals as goal

pub loop-entry-preserved : goal.loop-entry-preserved
loop-entry-preserved c = All-more IsEntry c.args.entries.now c.loop-entry.entry-index _ c.loop-entry-test.true c.loop-entry.invariant (subst IsEntry c.entry-item.is c.entry_in_range.ensures)

pub returns : goal.returns
returns c = record {
  count = omega arith;
  each = All-same IsEntry _ _ (sym (take_all c.loop-entry.entry-index c.args.entries.now c.loop-entry-test.false)) c.loop-entry.invariant;
}
