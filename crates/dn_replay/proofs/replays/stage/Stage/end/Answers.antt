use Rattle.dn_replay.proofs.Words.{[], on_ok_weaker}
use Rattle.dn_replay.proofs.InputSteps.{at_end, end_begun, stays_refused}
use Rattle.dn_replay.proofs.replays.stage.Stage.end.Goals as goal

pub returns-in-Ok-clause-ok : goal.returns-in-Ok-clause-ok
returns-in-Ok-clause-ok c =
    on_ok_weaker c.configure.result (λ configured records asked text taken.
    let (records_is, fresh, so_far, same) = rw c.in-Config.is at taken in
    let (calls, accepted, fed) = rw c.as_slice.ensures.value at configured in (
      calls,
      [],
      rw records_is at fed,
      end_begun asked text c.finish.new.self.lines.items calls accepted same (c.in-Ok.ensures text so_far),
    )) c.configure.ensures.ok

pub returns-in-Packets-clause-ok : goal.returns-in-Packets-clause-ok
returns-in-Packets-clause-ok c = λ records asked text taken.
    let (calls, packets, fed, asks) = rw c.in-Packets.is at taken in (calls, packets, fed, at_end asked text packets calls asks)

pub returns-in-Refused-clause-err : goal.returns-in-Refused-clause-err
returns-in-Refused-clause-err c = λ records asked text taken.
    let (records_is, own) = rw c.in-Refused.is at taken in stays_refused asked text c.in-Refused.fault own
