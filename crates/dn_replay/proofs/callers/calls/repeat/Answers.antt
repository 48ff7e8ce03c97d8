use Rattle.dn_replay.proofs.Words.{◌∙◌}
use Rattle.dn_replay.proofs.CallerRows.{repeated}
use Rattle.dn_replay.proofs.callers.calls.repeat.Goals as goal

pub loop-entry-preserved : goal.loop-entry-preserved
loop-entry-preserved g c =
    let was = c.loop-entry.invariant in let same = c.call.ensures.same_caller in (
      record { service = same.service ∙ was.0.service; number = same.number ∙ was.0.number },
      repeated c.args.entries.now c.loop-entry.entry-index c.entry-item.result c.args.caller.now c.loop-entry.caller c.call.new.self _ c.loop-entry-test.true c.entry-item.is was.1
          c.in_ok-call.ensures.ok,
    )
