use Rattle.dn_replay.proofs.Words.{◌∙◌}
use Rattle.dn_replay.proofs.Runs.{grown}
use Rattle.dn_replay.proofs.config.run.Run.add_entry.Goals as goal

pub returns : goal.returns
returns c = λ calls stands is said. (stands, c.in_ok-push.ensures.items ∙ grown calls c.args.call c.args.self.now.history.items c.args.reply is said)
