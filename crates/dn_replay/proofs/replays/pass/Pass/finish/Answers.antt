use Rattle.dn_replay.proofs.Words.{calls_with, err_from_is_err_and, submitted, sym, ◌∙◌}
use Rattle.dn_replay.proofs.PassSteps.{recorded, refused_text, told, untold}
use Rattle.dn_replay.proofs.replays.pass.Pass.finish.Goals as goal

pub returns-in_err-submit_rest-clause-err : goal.returns-in_err-submit_rest-clause-err
returns-in_err-submit_rest-clause-err g c =
    let p = err_from_is_err_and c.from_residual.result c.from_residual.ensures.1 in
    rw (p.1, p.2) (λ records calls text fed few. refused_text (calls_with calls text) (g.O.Outlet.contents c.args.out.now) (g.O.Outlet.has_failed c.args.out.now) _ c.requires.sound
    (c.in_err-submit_rest.ensures.err records calls text fed))

pub all_given-requires : goal.all_given-requires
all_given-requires g c =
    let (records, calls, text, fed, few) = c.requires.fed in
    let (rows, is, ended) = c.in_ok-submit_rest.ensures.ok records calls text fed few in
    (c.submit_rest.new.self.kept, submitted calls rows, ended.made)

pub write_kept-requires : goal.write_kept-requires
write_kept-requires g c =
    let (records, calls, text, fed, few) = c.requires.fed in
    let (rows, is, ended) = c.in_ok-submit_rest.ensures.ok records calls text fed few in
    record { kept = (submitted calls rows, c.all_given.ensures c.submit_rest.new.self.kept (submitted calls rows) ended.made); sound = c.requires.sound }

pub returns-in_err-outcome-clause-err : goal.returns-in_err-outcome-clause-err
returns-in_err-outcome-clause-err g c =
    let p = err_from_is_err_and c.from_residual-in_err-outcome.result c.from_residual-in_err-outcome.ensures.1 in
    rw (p.1, p.2) (λ records calls text fed few.
    let (rows, is, ended) = c.in_ok-submit_rest.ensures.ok records calls text fed few in
    untold calls text rows (g.O.Outlet.contents c.args.out.now) (g.O.Outlet.contents c.write_kept.new.out) (g.O.Outlet.has_failed c.write_kept.new.out) _ is
    (c.in_err-outcome.ensures.err (submitted calls rows) (c.all_given.ensures c.submit_rest.new.self.kept (submitted calls rows) ended.made)))

pub returns-clause-ok : goal.returns-clause-ok
returns-clause-ok g c = λ records calls text fed few.
    let pass = c.submit_rest.new.self in
    let (rows, is, ended) = c.in_ok-submit_rest.ensures.ok records calls text fed few in
    told records calls text rows c.take_history-history.result.items c.in_ok-outcome.outcome.untargeted (g.O.Outlet.contents c.args.out.now) (g.O.Outlet.contents c.write_kept.new.out) is
    (λ on. c.take_history-history.ensures.recorded (ended.records_is ∙ on) ∙ recorded pass.held pass.run pass.kept (submitted calls rows) ended.made (ended.records_is ∙ on))
    (λ off. c.take_history-history.ensures.unasked (ended.records_is ∙ off))
    (c.in_ok-outcome.ensures.ok (submitted calls rows) (c.all_given.ensures pass.kept (submitted calls rows) ended.made))

pub returns-clause-unasked : goal.returns-clause-unasked
returns-clause-unasked g c =
    let (records, calls, text, fed, few) = c.requires.fed in
    let (rows, is, ended) = c.in_ok-submit_rest.ensures.ok records calls text fed few in
    λ off. c.take_history-history.ensures.unasked (ended.records_is ∙ sym fed.records_is ∙ off)
