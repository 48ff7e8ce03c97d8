use Rattle.dn_replay.proofs.Words.{None, []}
use Rattle.dn_replay.proofs.PartsCome.{joined_begins}
use Rattle.dn_replay.proofs.replays.file_replay.FileReplay.joined.Goals as goal

pub invariant_of-result : goal.invariant_of-result
invariant_of-result c = (c.args.manner.records, None, [], joined_begins c.args.manner.records c.new.result c.new-2.result c.args.manner.limit c.requires c.new-2.ensures.records c.new.ensures c.new-2.ensures.fresh)

pub returns-clause-come : goal.returns-clause-come
returns-clause-come c = joined_begins c.args.manner.records c.new.result c.new-2.result c.args.manner.limit c.requires c.new-2.ensures.records c.new.ensures c.new-2.ensures.fresh
