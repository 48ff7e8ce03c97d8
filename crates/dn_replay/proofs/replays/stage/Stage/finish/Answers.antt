use Rattle.dn_replay.proofs.Words.{IfErr-weaker, IfOk-weaker, NoneFailed, calls_with, sym, ◌∙◌, ◌≡◌}
use Rattle.dn_replay.proofs.InputSteps.{answered_through, records-taken, unanswered_through}
use Rattle.dn_replay.proofs.replays.stage.Stage.finish.Goals as goal

pub returns-clause-ok : goal.returns-clause-ok
returns-clause-ok g c =
    IfOk-weaker c.finish.result _ _ (λ both told records asked text taken few.
    let (calls, packets, fed, is) = c.in_ok-end.ensures.ok records asked text taken in
    answered_through (λ r. calls_with calls packets ≡ r) (λ r. asked text ≡ r) (g.O.Outlet.contents c.args.out.now) (g.O.Outlet.contents c.finish.new.out)
    (λ r e. is ∙ e) records both.0.items both.1.untargeted (told records calls packets fed (rw is at few))) c.finish.ensures.ok

pub returns-clause-unasked : goal.returns-clause-unasked
returns-clause-unasked g c =
    let (records, asked, text, taken, few) = c.requires.taken in
    let (calls, packets, fed, is) = c.in_ok-end.ensures.ok records asked text taken in
    let same = records-taken c.args.self records c.args.pass.now asked text taken in
    IfOk-weaker c.finish.result _ _ (λ both none unasked. none (fed.records_is ∙ sym same ∙ unasked)) c.finish.ensures.unasked

pub returns-clause-err : goal.returns-clause-err
returns-clause-err g c =
    IfErr-weaker c.finish.result _ _ (λ fault untold records asked text taken few.
    let (calls, packets, fed, is) = c.in_ok-end.ensures.ok records asked text taken in
    unanswered_through (λ r. calls_with calls packets ≡ r) (λ r. asked text ≡ r) (g.O.Outlet.contents c.args.out.now) (g.O.Outlet.contents c.finish.new.out)
    (λ r e. is ∙ e) NoneFailed NoneFailed (λ what none. none) (g.O.Outlet.has_failed c.finish.new.out) fault (untold records calls packets fed (rw is at few))) c.finish.ensures.err
