use Rattle.dn_replay.proofs.Words.{◌∙◌}
use Rattle.dn_replay.proofs.report.write.write_report.Goals as goal

pub returns-in-Ok-clause-err : goal.returns-in-Ok-clause-err
returns-in-Ok-clause-err g c = rw (c.as_slice.ensures.value ∙ c.in-Ok.ensures) at c.write_text.ensures.err
