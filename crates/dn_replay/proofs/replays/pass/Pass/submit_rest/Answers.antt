use Rattle.dn_replay.proofs.Words.{err_from_is_err_and, submitted, ◌++◌, ◌∙◌}
use Rattle.dn_replay.proofs.PassSteps.{few_rows, last_rows, refused_rows}
use Rattle.dn_replay.proofs.replays.pass.Pass.submit_rest.Goals as goal

pub returns-in_err-rows-clause-err : goal.returns-in_err-rows-clause-err
returns-in_err-rows-clause-err c =
    let p = err_from_is_err_and c.from_residual.result c.from_residual.ensures.1 in
    rw (p.1, p.2) (λ records calls text fed. refused_rows calls text _ (c.in_err-rows.ensures.err text fed.rows fed.read))

pub returns-clause-ok : goal.returns-clause-ok
returns-clause-ok c = λ records calls text fed few.
    let rows = fed.rows ++ c.in_ok-rows.rows.items in
    let is = c.in_ok-rows.ensures.ok text fed.rows fed.read in
    let submitted_all = rw c.as_slice.ensures.value at c.in-Ok.ensures in
    let (same, more) = submitted_all (submitted calls fed.rows) fed.answered in
    let answered = last_rows c.submit_rows.new.held c.submit_rows.new.run c.submit_rows.new.kept calls fed.rows c.in_ok-rows.rows.items more in
    let (still, made) = c.in-Ok-collect_rest.ensures c.submit_rows.new.kept (submitted calls rows) answered (few_rows calls text rows is few) in
    (rows, is, record { records_is = still ∙ (same ∙ fed.records_is); made = made })
