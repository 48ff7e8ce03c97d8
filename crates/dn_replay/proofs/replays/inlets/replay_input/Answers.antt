use Rattle.dn_replay.proofs.Words.{AsksForWithin, IfErr-weaker, IfOk-weaker, InputFailed, None, calls_asked, ◌≡◌}
use Rattle.dn_replay.proofs.InputSteps.{answered_through, by_one, read_known}
use Rattle.dn_replay.proofs.replays.inlets.replay_input.Goals as goal

pub returns : goal.returns
returns g c =
    let records = c.args.manner.records in
    let limit = c.args.manner.limit in
    let come = c.joined-replay.ensures.come in
    let failed = g.I.Inlet.has_failed c.answer.new.inlet in
    record {
      ok = IfOk-weaker c.answer.result _ _ (λ both told.
          by_one records (AsksForWithin limit (g.I.Inlet.remaining c.args.input.now)) both.0.items both.1.untargeted (g.O.Outlet.contents c.args.out.now) (g.O.Outlet.contents c.answer.new.out)
          (answered_through (λ asked. calls_asked limit None told.0 ≡ asked) (AsksForWithin limit (g.I.Inlet.remaining c.args.input.now))
          (g.O.Outlet.contents c.args.out.now) (g.O.Outlet.contents c.answer.new.out)
          (λ asked e. (told.0, told.1, e)) records both.0.items both.1.untargeted (rw c.joined-replay.ensures.limit at (told.2 records None come)))) c.answer.ensures.ok;
      inputs = read_known (InputFailed failed) c.answer.result c.answer.ensures.inlet (IfErr-weaker c.answer.result _ _ (λ fault untold. (untold records None come).0) c.answer.ensures.err);
      sound = c.answer.ensures.sound;
      err = IfErr-weaker c.answer.result _ _ (λ fault untold. rw c.joined-replay.ensures.limit at (untold records None come).1) c.answer.ensures.err;
    }
