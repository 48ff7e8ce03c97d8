use Rattle.dn_replay.proofs.Words.{[], has_entries}
use Rattle.dn_replay.proofs.InputSteps.{begun, not_begun}
use Rattle.dn_replay.proofs.replays.stage.begin.Goals as goal

pub returns-in_ok-feed-in-Ok : goal.returns-in_ok-feed-in-Ok
returns-in_ok-feed-in-Ok c = λ asked text cut.
    let (calls, accepted, fed) = c.in-Ok.ensures.ok in (
      calls,
      c.args.packets.now,
      c.in_ok-feed-in-Ok.ensures (has_entries c.args.pass.now.held) calls [] fed,
      begun asked text c.args.config.now c.args.packets.now calls accepted cut,
    )

pub returns-in-Err : goal.returns-in-Err
returns-in-Err c = λ asked text cut. (c.configure.ensures.records, λ more. not_begun asked text c.args.config.now c.args.packets.now c.in-Err.fault c.in-Err.ensures.err cut more)
