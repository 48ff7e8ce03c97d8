use Rattle.dn_replay.proofs.Words.{Ordered, on_ok_weaker}
use Rattle.dn_replay.proofs.config.run.Run.make.Goals as goal

pub returns : goal.returns
returns c =
    on_ok_weaker c.add_entry.result (λ added calls made.
    let step = c.in_ok-reply.ensures.ok Ordered calls made.0 in
    added calls step.1 made.1 step.0) c.add_entry.ensures
