use Rattle.dn_replay.proofs.Words.{◌++◌}
use Rattle.dn_replay.proofs.InputSteps.{packets_come, still_refused}
use Rattle.dn_replay.proofs.replays.stage.Stage.feed.Goals as goal

pub returns-in-None-clause-taken : goal.returns-in-None-clause-taken
returns-in-None-clause-taken c = λ records asked text taken.
    let (records_is, fresh, so_far, same) = rw c.in-Config.is at taken in
    let none = rw c.in-None.is at c.in_ok-packets-in-Config.ensures in
    (records_is, fresh, none text so_far, same)

pub returns-in_ok-feed-in-Packets-clause-taken : goal.returns-in_ok-feed-in-Packets-clause-taken
returns-in_ok-feed-in-Packets-clause-taken c = λ records asked text taken.
    let (calls, packets, so_far, asks) = rw c.in-Packets.is at taken in
    (calls, packets ++ c.args.part.now, c.in_ok-feed-in-Packets.ensures records calls packets so_far, packets_come asked text packets c.args.part.now calls asks)

pub returns-in-Refused-clause-taken : goal.returns-in-Refused-clause-taken
returns-in-Refused-clause-taken c = λ records asked text taken.
    let (records_is, own) = rw c.in-Refused.is at taken in
    (records_is, still_refused asked text c.args.part.now c.in-Refused.fault own)
