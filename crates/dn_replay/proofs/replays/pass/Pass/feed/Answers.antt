use Rattle.dn_replay.proofs.Words.{[], submitted, ◌++◌, ◌∙◌, ◌∷◌}
use Rattle.dn_replay.proofs.PassSteps.{one_row}
use Rattle.dn_replay.proofs.replays.pass.Pass.feed.Goals as goal

pub loop-init : goal.loop-init
loop-init c = λ records calls text fed. record { records_is = fed.records_is; rows = fed.rows; read = c.in_ok-feed.ensures.ok text fed.rows fed.read; answered = fed.answered }

pub loop-preserved : goal.loop-preserved
loop-preserved c = λ records calls text fed.
    let so_far = c.loop.invariant records calls text fed in
    let (same, more) = c.in_ok-submit_row-in-Some.ensures (submitted calls so_far.rows) so_far.answered in
    record {
      records_is = same ∙ so_far.records_is;
      rows = so_far.rows ++ c.in-Some.row ∷ [];
      read = c.in-Some.ensures.rows (text ++ c.args.part.now) so_far.rows so_far.read;
      answered = one_row c.submit_row.new.held c.submit_row.new.run c.submit_row.new.kept calls so_far.rows c.in-Some.row more;
    }

pub returns-in-None : goal.returns-in-None
returns-in-None c = λ records calls text fed.
    let so_far = c.loop.invariant records calls text fed in
    record { records_is = so_far.records_is; rows = so_far.rows; read = c.in-None.ensures.rows (text ++ c.args.part.now) so_far.rows so_far.read; answered = so_far.answered }
