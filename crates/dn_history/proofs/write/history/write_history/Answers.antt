use Rattle.dn_history.proofs.Words.{◌∙◌}
use Rattle.dn_history.proofs.EntriesBack.{reads_back}
use Rattle.dn_history.proofs.write.history.write_history.Goals as goal

pub returns-in-Ok-clause-err : goal.returns-in-Ok-clause-err
returns-in-Ok-clause-err g c = rw (c.as_slice.ensures.value ∙ c.in-Ok.ensures) at c.write_text.ensures.err

pub returns-in-Ok-clause-reads_back : goal.returns-in-Ok-clause-reads_back
returns-in-Ok-clause-reads_back g c = reads_back c.args.entries.now c.entries_in_range.ensures

pub returns-in-Err-clause-reads_back : goal.returns-in-Err-clause-reads_back
returns-in-Err-clause-reads_back g c = reads_back c.args.entries.now c.entries_in_range.ensures
