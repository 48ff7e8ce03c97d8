use Rattle.dn_replay.proofs.Words.{IfErr-weaker, IfOk-weaker, IsAskedBehind, NoneFailed, TextFailed, calls_asked, refl, source_of, subst, sym, ◌≡◌}
use Rattle.dn_replay.proofs.InputSteps.{unanswered_through}
use Rattle.dn_replay.proofs.ReplaySteps.{unread_input, unreplayed}
use Rattle.dn_replay.proofs.replays.inlets.answer.Goals as goal

pub returns-in-Ok-clause-ok : goal.returns-in-Ok-clause-ok
returns-in-Ok-clause-ok g c =
    let (text, is, come) = c.in-Ok.ensures.ok in
    IfOk-weaker c.finish.result _ _
    (λ entries told. (text, is, λ records config first. rw (c.in-Ok.ensures.limit records config first) at (told records config text (come records config first)))) c.finish.ensures.ok

pub returns-in-Ok-clause-err : goal.returns-in-Ok-clause-err
returns-in-Ok-clause-err g c =
    let (text, is, come) = c.in-Ok.ensures.ok in
    let failed = g.I.Inlet.has_failed c.read.new.inlet in
    IfErr-weaker c.finish.result _ _ (λ fault untold records config first.
    unanswered_through (λ asked. calls_asked c.args.replay.limit config text ≡ asked) (IsAskedBehind c.args.replay.limit config (g.I.Inlet.remaining c.args.inlet.now))
    (g.O.Outlet.contents c.args.out.now) (g.O.Outlet.contents c.finish.new.out) (λ asked e. (text, is, e)) NoneFailed (TextFailed (source_of config) failed)
    (λ what none. subst (TextFailed (source_of config) failed) (sym none) c.in-Ok.ensures.sound) (g.O.Outlet.has_failed c.finish.new.out) fault
    (rw (c.in-Ok.ensures.limit records config first) at (untold records config text (come records config first)))) c.finish.ensures.err

pub returns-in-Err-clause-err : goal.returns-in-Err-clause-err
returns-in-Err-clause-err g c = λ records config first.
    let known = g.I.Inlet.remaining c.args.inlet.now in
    let failed = g.I.Inlet.has_failed c.read.new.inlet in
    let failures = TextFailed (source_of config) failed in
    unreplayed failures (IsAskedBehind c.args.replay.limit config known) (g.O.Outlet.contents c.args.out.now) (g.O.Outlet.has_failed c.args.out.now) c.in-Err.fault c.requires.out
    (unread_input failures (IsAskedBehind c.args.replay.limit config known) (source_of config)
    (calls_asked c.args.replay.limit config) known failed c.in-Err.fault (λ f r. r) (λ sound. sound) (λ bad. (refl, bad))
    (c.in-Err.ensures.err records config first))
