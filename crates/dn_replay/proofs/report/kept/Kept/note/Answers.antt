use Rattle.dn_replay.proofs.Words.{ap, fate_of, ◌∙◌}
use Rattle.dn_replay.proofs.KeptSteps.{kept-submitted}
use Rattle.dn_replay.proofs.report.kept.Kept.note.Goals as goal

pub returns : goal.returns
returns c = λ calls target packet moment h said.
    let fate = c.of-fate.ensures ∙ ap fate_of said in
    kept-submitted c.args.self.now (record { accepted = c.keep_accepted.new.rows; refused = c.keep_refused.new.rows }) calls target packet moment h
    (rw (fate, c.rows-row.ensures) at c.in_ok-keep_accepted.ensures) (rw (fate, c.rows-row.ensures) at c.in_ok-keep_refused.ensures)
