use Rattle.dn_replay.proofs.Words.{AskForWithin, Config, EitherFailed, IfErr-weaker, IfOk-weaker, IsAskedBehind, None, Packets, Some, TextFailed, calls_asked, config_calls, config_limit}
use Rattle.dn_replay.proofs.Words.{configured_by, err_from_is_err_and, failed_read, passed_on, refused_for, ◌≡◌}
use Rattle.dn_replay.proofs.InputSteps.{answered_through, asked_by_both, by_one, either_failed, read_known, unanswered_through}
use Rattle.dn_replay.proofs.ReplaySteps.{config_unread}
use Rattle.dn_replay.proofs.replays.inlets.replay_files.Goals as goal

pub returns-in_err-text : goal.returns-in_err-text
returns-in_err-text g c =
    let config = g.C.Inlet.remaining c.args.config.now in
    let failed = g.C.Inlet.has_failed c.read_input.new.reader in
    let refused = config_unread c.args.manner.limit config (g.P.Inlet.remaining c.args.packets.now) (g.O.Outlet.contents c.args.out.now) failed
    (g.P.Inlet.has_failed c.args.packets.now) (g.O.Outlet.has_failed c.args.out.now) _ c.requires.packets c.requires.out
    (passed_on Config config_limit configured_by config failed _ c.in_err-text.ensures.err) in
    let p = err_from_is_err_and c.from_residual.result c.from_residual.ensures.1 in
    rw (p.1, p.2) record { ok = tt; inputs = refused.0; sound = tt; err = refused.1 }

pub returns-in_err-replay : goal.returns-in_err-replay
returns-in_err-replay g c =
    let config = g.C.Inlet.remaining c.args.config.now in
    let failed = g.C.Inlet.has_failed c.read_input.new.reader in
    let is = rw (← c.as_slice.ensures.value) at c.in_ok-text.ensures.text in
    let refused = config_unread c.args.manner.limit config (g.P.Inlet.remaining c.args.packets.now) (g.O.Outlet.contents c.args.out.now) failed
    (g.P.Inlet.has_failed c.args.packets.now) (g.O.Outlet.has_failed c.args.out.now) _ c.requires.packets c.requires.out
    (refused_for Config config_calls config failed c.as_slice.result.now c.in_ok-text.ensures.sound is _ c.in_err-replay.ensures.err) in
    let p = err_from_is_err_and c.from_residual-in_err-replay.result c.from_residual-in_err-replay.ensures.1 in
    rw (p.1, p.2) record { ok = tt; inputs = refused.0; sound = tt; err = refused.1 }

pub returns : goal.returns
returns g c =
    let records = c.args.manner.records in
    let limit = c.args.manner.limit in
    let come = c.in_ok-replay.ensures.ok in
    let config = g.C.Inlet.remaining c.args.config.now in
    let packets = g.P.Inlet.remaining c.args.packets.now in
    let text = c.as_slice.result.now in
    let is = rw (← c.as_slice.ensures.value) at c.in_ok-text.ensures.text in
    let config_failed = g.C.Inlet.has_failed c.read_input.new.reader in
    let failed = g.P.Inlet.has_failed c.answer.new.inlet in
    let either = either_failed config config_failed failed c.in_ok-text.ensures.sound (c.in_ok-replay.ensures.accepted.0, (text, is, c.in_ok-replay.ensures.accepted.1)) in
    record {
      ok = IfOk-weaker c.answer.result _ _ (λ both told.
          by_one records (AskForWithin limit config packets) both.0.items both.1.untargeted (g.O.Outlet.contents c.args.out.now) (g.O.Outlet.contents c.answer.new.out)
          (answered_through (λ asked. calls_asked limit (Some text) told.0 ≡ asked) (AskForWithin limit config packets)
          (g.O.Outlet.contents c.args.out.now) (g.O.Outlet.contents c.answer.new.out)
          (λ asked e. asked_by_both limit config packets text told.0 is told.1 asked e) records both.0.items both.1.untargeted
          (rw c.in_ok-replay.ensures.limit at (told.2 records (Some text) come)))) c.answer.ensures.ok;
      inputs = read_known (EitherFailed config config_failed failed) c.answer.result (IfOk-weaker c.answer.result _ _ (λ both sound. either None sound) c.answer.ensures.inlet)
          (IfErr-weaker c.answer.result _ _ (λ fault untold. either (failed_read fault) (untold records (Some text) come).0) c.answer.ensures.err);
      sound = c.answer.ensures.sound;
      err = IfErr-weaker c.answer.result _ _ (λ fault untold. (unanswered_through (IsAskedBehind limit (Some text) packets) (AskForWithin limit config packets)
          (g.O.Outlet.contents c.args.out.now) (g.O.Outlet.contents c.answer.new.out)
          (λ asked told. asked_by_both limit config packets text told.0 is told.1 asked told.2) (TextFailed Packets failed) (TextFailed Packets failed)
          (λ what h. h) (g.O.Outlet.has_failed c.answer.new.out) fault (rw c.in_ok-replay.ensures.limit at (untold records (Some text) come))).1) c.answer.ensures.err;
    }
