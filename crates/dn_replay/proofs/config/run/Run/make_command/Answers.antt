use Rattle.dn_replay.proofs.Words.{Ordered, sym, ◌∙◌}
use Rattle.dn_replay.proofs.Runs.{accepted}
use Rattle.dn_replay.proofs.config.run.Run.make_command.Goals as goal

pub returns-clause-ok : goal.returns-clause-ok
returns-clause-ok c = λ calls made.
    let step = c.in-Ok.ensures.ok Ordered calls made.0 in (
      accepted c.args.line calls c.args.command c.in-Ok.reply step.0 (sym c.refusal.ensures ∙ c.in-None.is),
      c.in-Ok-add_entry.ensures calls step.1 made.1 step.0,
    )
