use Rattle.dn_replay.proofs.Words.{MatchOption-at_some, ◌^◌, ◌≡◌}
use Rattle.dn_replay.proofs.CallerRows.{called}
use Rattle.dn_replay.proofs.callers.calls.collect.Goals as goal

pub returns-clause-calls : goal.returns-clause-calls
returns-clause-calls g c =
    let last : c.unwrap.result ≡ 2 ^ 62 = MatchOption-at_some _ _ _ c.unwrap.ensures c.new.ensures.value in
    rw last at (called c.args.caller.now c.call.new.self _ _ c.in_ok-call.ensures.ok)
