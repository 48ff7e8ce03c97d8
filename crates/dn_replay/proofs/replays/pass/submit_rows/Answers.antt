use Rattle.dn_replay.proofs.Words.{HasAnswered, List, Row, refl, submitted, subst, take, ◌∙◌}
use Rattle.std.proofs.lemmas.List as L
use Rattle.dn_replay.proofs.Runs.{no-row, row-more}
use Rattle.dn_replay.proofs.replays.pass.submit_rows.Goals as goal

pub loop-row-init : goal.loop-row-init
loop-row-init c = λ calls noted. (refl, rw (← no-row calls) noted)

pub loop-row-preserved : goal.loop-row-preserved
loop-row-preserved c = λ calls noted.
    let (same, so_far) = c.loop-row.invariant calls noted in
    let (still, more) = c.in_ok-submit_row.ensures (submitted calls (take c.loop-row.row-index c.args.rows.now)) so_far in (
      still ∙ same,
      subst (HasAnswered c.submit_row.new.held c.submit_row.new.run c.submit_row.new.kept)
          (row-more calls c.args.rows.now c.loop-row.row-index c.row-item.result c.loop-row-test.true c.row-item.is) more,
    )

pub returns : goal.returns
returns c = λ calls noted.
    let (same, all) = c.loop-row.invariant calls noted in (
      same,
      subst (λ (rows : List Row). HasAnswered c.loop-row.held c.loop-row.run c.loop-row.kept (submitted calls rows))
          (L.take_all c.loop-row.row-index c.args.rows.now c.loop-row-test.false) all,
    )
