use Rattle.dn_replay.proofs.Words.{on_ok_weaker, refl}
use Rattle.dn_replay.proofs.PassSteps.{fed-first}
use Rattle.dn_replay.proofs.replays.pass.Pass.configure.Goals as goal

pub returns-clause-ok : goal.returns-clause-ok
returns-clause-ok c =
    on_ok_weaker c.configure.result (λ configured.
    let (calls, accepted, made) = configured in (
      calls,
      accepted,
      fed-first _ c.args.self.now c.configure.new.self c.args.config.now calls refl c.requires accepted made,
    )) c.configure.ensures.ok
