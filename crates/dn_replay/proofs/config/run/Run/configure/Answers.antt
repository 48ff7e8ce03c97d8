use Rattle.dn_replay.proofs.Words.{arith, configured_by, lines_of, sym}
use Rattle.dn_replay.proofs.Runs.{bad_line, line-more, no_line, refused}
use Rattle.dn_replay.proofs.config.run.Run.configure.Goals as goal

pub returns-in_default-clause-ok : goal.returns-in_default-clause-ok
returns-in_default-clause-ok c =
    let (calls, so_far, made) = c.loop-line.invariant.made in
    (calls, no_line calls c.loop-line.lines.number _ (configured_by c.args.text.now) c.in_default.ensures so_far, made)

pub returns-in-Err-clause-err : goal.returns-in-Err-clause-err
returns-in-Err-clause-err c =
    let (calls, so_far, made) = c.loop-line.invariant.made in
    bad_line calls c.loop-line.lines.number c.in-Some.line.now (lines_of c.in-Some.rest.rest.now) _ c.in-Err.fault (configured_by c.args.text.now)
    c.in-Some.ensures.0 (sym c.in-Err.ensures.value) c.in-Err.ensures.err so_far

pub loop-line-preserved : goal.loop-line-preserved
loop-line-preserved c =
    let (calls, so_far, made) = c.loop-line.invariant.made in
    let (after, applied, now) = c.in-Ok-apply_line.ensures.ok calls made in
    record {
      made = (
        after,
        rw c.in-Some.ensures.1 (line-more calls after c.loop-line.lines.number c.in-Some.line.now (lines_of c.in-Some.rest.rest.now) _ c.in-Ok.command
            (configured_by c.args.text.now) c.in-Some.ensures.0 (sym c.in-Ok.ensures.value) applied so_far),
        now,
      );
      room = omega (arith, c.loop-line.invariant.room, c.in-Some.ensures.1, c.in-Some.ensures.2);
    }

pub returns-in-Err-apply_line-clause-err : goal.returns-in-Err-apply_line-clause-err
returns-in-Err-apply_line-clause-err c =
    let (calls, so_far, made) = c.loop-line.invariant.made in
    refused calls c.loop-line.lines.number c.in-Some.line.now (lines_of c.in-Some.rest.rest.now) _ c.in-Ok.command c.in-Err-apply_line.fault (configured_by c.args.text.now)
    c.in-Some.ensures.0 (sym c.in-Ok.ensures.value) (c.in-Err-apply_line.ensures.err calls made) so_far
