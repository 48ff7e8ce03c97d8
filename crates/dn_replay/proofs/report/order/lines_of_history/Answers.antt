use Rattle.dn_replay.proofs.Words.{deliveries, is_other, is_out, rules, ◌<◌, ◌∙◌}
use Rattle.dn_replay.proofs.LineSteps.{all, counts-step, passed}
use Rattle.dn_replay.proofs.report.order.lines_of_history.Goals as goal

pub loop-entry-preserved : goal.loop-entry-preserved
loop-entry-preserved c =
    let e = c.entry-item.result in
    let inv = c.loop-entry.invariant in
    let entries = c.args.entries.now in
    let i = c.loop-entry.entry-index in
    let caller : c.entry-item.result.caller < c.args.n = search rules in
    let line = rw (inv.callers, inv.counted e.caller caller) at c.line_of_entry-line.ensures.line in
    record {
      callers = c.line_of_entry-line.ensures.len ∙ inv.callers;
      counted = rw c.line_of_entry-line.ensures.counts
          (λ k below. counts-step entries i e c.loop-entry.counts.items c.loop-entry-test.true c.entry-item.is (rw inv.callers caller) (rw inv.callers inv.counted) k (rw inv.callers below));
      outs = rw c.in_ok-add.ensures.outs (passed is_out c.args.n (deliveries entries) entries i e c.loop-entry.lines.outs.items _ _ c.loop-entry-test.true c.entry-item.is line inv.outs);
      others = rw c.in_ok-add.ensures.others (passed is_other c.args.n (deliveries entries) entries i e c.loop-entry.lines.others.items _ _ c.loop-entry-test.true c.entry-item.is line inv.others);
    }

pub returns-clause-outs : goal.returns-clause-outs
returns-clause-outs c = all is_out c.args.n
    (deliveries c.args.entries.now) c.args.entries.now c.loop-entry.entry-index c.loop-entry.lines.outs.items _ c.loop-entry-test.false c.loop-entry.invariant.outs

pub returns-clause-others : goal.returns-clause-others
returns-clause-others c = all is_other c.args.n
    (deliveries c.args.entries.now) c.args.entries.now c.loop-entry.entry-index c.loop-entry.lines.others.items _ c.loop-entry-test.false c.loop-entry.invariant.others
