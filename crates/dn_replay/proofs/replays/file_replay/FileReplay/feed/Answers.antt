use Rattle.dn_replay.proofs.Words.{arith}
use Rattle.dn_replay.proofs.PartsCome.{goes_on}
use Rattle.dn_replay.proofs.replays.file_replay.FileReplay.feed.Goals as goal

pub invariant_of-self-2 : goal.invariant_of-self-2
invariant_of-self-2 c = let short = c.if-part-self.false in goes_on _ c.in-Ok.next c.feed.new.pass c.args.part.now c.replace-stage.ensures.value (omega arith) c.in-Ok.ensures.taken c.self.invariant
