use Rattle.dn_history.proofs.Words.{All-more, All-same, IsStatus, subst, sym, take_all}
use Rattle.dn_history.proofs.write.ranges.statuses_in_range.Goals as goal

pub loop-status-preserved : goal.loop-status-preserved
loop-status-preserved c = All-more IsStatus c.args.list.now c.loop-status.status-index _ c.loop-status-test.true c.loop-status.invariant (subst IsStatus c.status-item.is c.status_in_range.ensures)

pub returns-clause-each : goal.returns-clause-each
returns-clause-each c = All-same IsStatus _ _ (sym (take_all c.loop-status.status-index c.args.list.now c.loop-status-test.false)) c.loop-status.invariant
