use Rattle.dn_replay.proofs.Words.{AskFor, EitherFailed, Keeps-refl, err_from_is_err_and, refl, report, subst, sym}
use Rattle.dn_replay.proofs.CallerSteps.{callers_replay, callers_unread, callers_unreported, no_bad_count, unopened, unopened_sound, unwritten_count, unwritten_sound}
use Rattle.dn_replay.proofs.ReplaySteps.{read_failed}
use Rattle.dn_replay.proofs.callers.replay.replay_callers_with_key.Goals as goal

pub returns-in_err-opened : goal.returns-in_err-opened
returns-in_err-opened g c =
    let config = g.C.Inlet.remaining c.args.config.now in
    let fault = c.in_err-opened.ensures.err in
    let p = err_from_is_err_and c.from_residual.result c.from_residual.ensures.1 in
    rw (p.1, p.2) record {
      ok = tt;
      inputs = subst (EitherFailed config (g.C.Inlet.has_failed c.args.config.now) (g.P.Inlet.has_failed c.args.packets.now))
          (sym (unopened_sound c.args.n _ fault)) (c.requires.config, c.requires.packets);
      sound = tt;
      unread = λ is. (refl, refl);
      err = unopened c.args.n config (g.P.Inlet.remaining c.args.packets.now) (g.O.Outlet.contents c.args.out.now)
          (g.O.Outlet.has_failed c.args.out.now) _ c.requires.out fault;
    }

pub returns-in_err-commands : goal.returns-in_err-commands
returns-in_err-commands g c =
    let config = g.C.Inlet.remaining c.args.config.now in
    let packets = g.P.Inlet.remaining c.args.packets.now in
    let failed = EitherFailed config (g.C.Inlet.has_failed c.commands_and_rows-read.new.config) (g.P.Inlet.has_failed c.commands_and_rows-read.new.packets) in
    let fault = c.in_err-commands.ensures.err in
    let p = err_from_is_err_and c.from_residual-in_err-commands.result c.from_residual-in_err-commands.ensures.1 in
    rw (p.1, p.2) record {
      ok = tt;
      inputs = read_failed failed (AskFor config packets) _ fault;
      sound = tt;
      unread = λ is. absurd (no_bad_count c.args.n config packets failed _ fault is);
      err = callers_unread c.args.n config packets failed (g.O.Outlet.contents c.args.out.now) (g.O.Outlet.has_failed c.args.out.now) _
          c.in_ok-opened.ensures.count.0 c.requires.out fault;
    }

pub returns-in_default-clause-err : goal.returns-in_default-clause-err
returns-in_default-clause-err g c = (c.in_ok-opened.ensures.count.0, (c.requires.out, Keeps-refl (g.O.Outlet.contents c.args.out.now)))

pub write_report-requires : goal.write_report-requires
write_report-requires g c = record { callers = rw c.as_slice-3.ensures.value c.in-Ok.ensures.callers; sound = c.requires.out }

pub returns-in_err-write_report-clause-inputs : goal.returns-in_err-write_report-clause-inputs
returns-in_err-write_report-clause-inputs g c =
    let config = g.C.Inlet.remaining c.args.config.now in
    let p = err_from_is_err_and c.from_residual-in_err-write_report.result c.from_residual-in_err-write_report.ensures.1 in
    rw (p.1, p.2) (subst
    (EitherFailed config (g.C.Inlet.has_failed c.commands_and_rows-read.new.config) (g.P.Inlet.has_failed c.commands_and_rows-read.new.packets))
    (sym (unwritten_sound (report c.args.n c.as_slice-3.result.now) (g.O.Outlet.contents c.args.out.now) (g.O.Outlet.contents c.write_report.new.out)
    (g.O.Outlet.has_failed c.write_report.new.out) _ c.in_err-write_report.ensures.err)) c.in_ok-commands.ensures.inputs)

pub returns-in_err-write_report-clause-unread : goal.returns-in_err-write_report-clause-unread
returns-in_err-write_report-clause-unread g c =
    let p = err_from_is_err_and c.from_residual-in_err-write_report.result c.from_residual-in_err-write_report.ensures.1 in
    rw (p.1, p.2) (λ is. absurd (unwritten_count (report c.args.n c.as_slice-3.result.now) (g.O.Outlet.contents c.args.out.now)
    (g.O.Outlet.contents c.write_report.new.out) (g.O.Outlet.has_failed c.write_report.new.out) _ c.in_err-write_report.ensures.err is))

pub returns-in_err-write_report-clause-err : goal.returns-in_err-write_report-clause-err
returns-in_err-write_report-clause-err g c =
    let config = g.C.Inlet.remaining c.args.config.now in
    let packets = g.P.Inlet.remaining c.args.packets.now in
    let (calls, reads, read, made) = c.in_ok-commands.ensures.ok in
    let replay = callers_replay c.args.n config packets calls c.in_ok-commands.rows.items c.in_ok-commands.commands.items c.in-Ok.entries.items reads read made
    (rw (c.as_slice.ensures.value, c.as_slice-2.ensures.value) at c.in-Ok.ensures) in
    let p = err_from_is_err_and c.from_residual-in_err-write_report.result c.from_residual-in_err-write_report.ensures.1 in
    rw (p.1, p.2) (callers_unreported c.args.n config packets
    c.in-Ok.entries.items (g.O.Outlet.contents c.args.out.now) (g.O.Outlet.contents c.write_report.new.out) (g.O.Outlet.has_failed c.write_report.new.out) _
    c.in_ok-opened.ensures.count.0 replay (rw c.as_slice-3.ensures.value at c.in_err-write_report.ensures.err))

pub returns-clause-ok : goal.returns-clause-ok
returns-clause-ok g c =
    let config = g.C.Inlet.remaining c.args.config.now in
    let packets = g.P.Inlet.remaining c.args.packets.now in
    let (calls, reads, read, made) = c.in_ok-commands.ensures.ok in
    let replay = callers_replay c.args.n config packets calls c.in_ok-commands.rows.items c.in_ok-commands.commands.items c.in-Ok.entries.items reads read made
    (rw (c.as_slice.ensures.value, c.as_slice-2.ensures.value) at c.in-Ok.ensures) in
    (c.in_ok-opened.ensures.count.0, replay, rw c.as_slice-3.ensures.value at c.in_ok-write_report.ensures.ok)
