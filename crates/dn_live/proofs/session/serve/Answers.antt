use Rattle.dn_live.proofs.Words.{All-nil, IfErr-weaker, IfOk-weaker, IsLine, Served, [], ap, arith, asked, calls_of, inr, lines_text, refl}
use Rattle.dn_live.proofs.LineSteps.{front}
use Rattle.dn_live.proofs.SessionSteps.{bad-first, count-first, head-broken, line-more, next-broken, one-at-most, one-bad-at-most, served-typed, stands-first}
use Rattle.dn_live.proofs.SessionSteps.{taken-none, typed-first, unanswered, unended}
use Rattle.dn_live.proofs.session.serve.Goals as goal

pub returns-in-Err-clause-err : goal.returns-in-Err-clause-err
returns-in-Err-clause-err g c = head-broken _ _ _ _ _ _ c.requires.input c.in-Err.ensures.err

pub loop-number-init : goal.loop-number-init
loop-number-init g c = record {
  answered = ([], taken-none _ _ c.new-source.ensures, All-nil IsLine, c.in-Ok.ensures.ok, stands-first _ c.requires.shaper, count-first, bad-first, refl, typed-first);
  few = omega arith;
  few_bad = omega arith;
  input = c.requires.input;
  out = c.in-Ok.ensures.sound;
}

pub loop-number-preserved : goal.loop-number-preserved
loop-number-preserved g c =
    let (lines, taken, all, app, stands, count, bads, number, typed) = c.loop-number.invariant.answered in record {
      answered = line-more _ _ _ _ _ lines _ _ _ c.loop-number.so_far c.loop-number.number taken all app count bads number c.in-Ok-true.ensures.ok
          c.in-Ok-true.ensures.one c.as_slice-in-loop-number.ensures.value
          _ _ c.in-Ok-serve_line.made _ c.in-Ok-true.field-0-test c.in-Ok-serve_line.ensures.count c.with-so_far.ensures (c.in-Ok-serve_line.ensures.ok (calls_of lines) stands) typed;
      few = omega (
        arith,
        c.loop-number.invariant.few,
        ap (λ (s : Served). s.calls) c.with-so_far.ensures,
        c.in-Ok-serve_line.ensures.count.0,
        one-at-most (asked c.as_slice-in-loop-number.result.now),
      );
      few_bad = omega (
        arith,
        c.loop-number.invariant.few_bad,
        ap (λ (s : Served). s.bad) c.with-so_far.ensures,
        c.in-Ok-serve_line.ensures.count.1,
        one-bad-at-most (asked c.as_slice-in-loop-number.result.now),
      );
      input = c.in-Ok-true.ensures.sound;
      out = c.in-Ok-serve_line.ensures.sound;
    }

-- The input has ended.
pub returns-in-Ok-false-clause-ok : goal.returns-in-Ok-false-clause-ok
returns-in-Ok-false-clause-ok g c =
    let (lines, taken, all, app, stands, count, bads, number, typed) = c.loop-number.invariant.answered in
    IfOk-weaker c.close.result _ _
    (λ told w. served-typed _ _ _ _ _ lines _ _ _ c.loop-number.so_far c.loop-number.number taken all app count bads number c.in-Ok-false.ensures.ok
    c.in-Ok-false.ensures.one c.as_slice.ensures.value _ told typed (omega (arith, number)) c.in-Ok-false.field-0-test w)
    c.close.ensures.ok

pub returns-in-Ok-false-clause-err : goal.returns-in-Ok-false-clause-err
returns-in-Ok-false-clause-err g c =
    let (lines, taken, all, app, stands, count, bads, number, typed) = c.loop-number.invariant.answered in
    IfErr-weaker c.close.result _ _
    (λ fault h. unended _ _ _ _ _ lines _ _ _ c.loop-number.so_far c.loop-number.number taken all app count bads number c.in-Ok-false.ensures.ok
    c.in-Ok-false.ensures.one c.as_slice.ensures.value _ _ _ fault c.in-Ok-false.field-0-test c.in-Ok-false.ensures.sound h)
    c.close.ensures.err

-- No line was taken.
pub returns-in-Err-next-clause-err : goal.returns-in-Err-next-clause-err
returns-in-Err-next-clause-err g c =
    let (lines, taken, all, app, stands, count, bads, number, typed) = c.loop-number.invariant.answered in
    next-broken _ _ _ (g.O.Outlet.contents c.loop-number.out) _ _ lines (front _ _ (lines_text lines) taken) all _ c.in-Err-next.fault taken app c.loop-number.invariant.out c.in-Err-next.ensures.err

-- The answer wasn't written.
pub returns-in-Err-serve_line-clause-err : goal.returns-in-Err-serve_line-clause-err
returns-in-Err-serve_line-clause-err g c =
    let (lines, taken, all, app, stands, count, bads, number, typed) = c.loop-number.invariant.answered in
    unanswered _ _ _ _ _ lines _ _ _ c.loop-number.so_far c.loop-number.number taken all app count bads number c.in-Ok-true.ensures.ok c.in-Ok-true.ensures.one
    c.as_slice-in-loop-number.ensures.value _ _ _ c.in-Err-serve_line.fault
    c.in-Ok-true.field-0-test c.in-Ok-true.ensures.sound (c.in-Err-serve_line.ensures.err (calls_of lines) stands)

-- There were too many lines.
pub returns-clause-err : goal.returns-clause-err
returns-clause-err g c =
    let (lines, taken, all, app, stands, count, bads, number, typed) = c.loop-number.invariant.answered in
    (c.loop-number.invariant.out, (lines, (front _ _ (lines_text lines) taken, all, app), (refl, c.loop-number.invariant.input, inr (omega (arith, number, c.loop-number-test.false)))))
