use Rattle.dn_replay.proofs.Words.{Config, Ok, Some, [], arith, config_calls, config_limit, length, short, ◌≡◌, ◌≤◌}
use Rattle.dn_replay.proofs.PartsCome.{behind_begins}
use Rattle.dn_replay.proofs.replays.file_replay.FileReplay.behind.Goals as goal

pub invariant_of-result : goal.invariant_of-result
invariant_of-result c =
    let (calls, configured, fed) = c.in-Ok.ensures.ok in
    let fits : length c.args.config.now ≤ config_limit = omega (arith, c.if-config-gt-CONFIG_LIMIT.false) in
    let is : config_calls c.args.config.now ≡ Ok calls = rw (short Config config_limit c.args.config.now fits) configured in (
      c.args.manner.records,
      Some c.args.config.now,
      [],
      behind_begins c.args.manner.records c.configure.new.self c.args.manner.limit c.args.config.now calls c.requires is (rw c.new-pass.ensures.records at fed),
    )

pub returns-in-Ok-clause-ok : goal.returns-in-Ok-clause-ok
returns-in-Ok-clause-ok c =
    let (calls, configured, fed) = c.in-Ok.ensures.ok in
    let fits : length c.args.config.now ≤ config_limit = omega (arith, c.if-config-gt-CONFIG_LIMIT.false) in
    let is : config_calls c.args.config.now ≡ Ok calls = rw (short Config config_limit c.args.config.now fits) configured in
    behind_begins c.args.manner.records c.configure.new.self c.args.manner.limit c.args.config.now calls c.requires is (rw c.new-pass.ensures.records at fed)
