use Rattle.dn_history.proofs.Words.{◌∙◌}
use Rattle.dn_history.proofs.HistorySteps.{history_is}
use Rattle.dn_history.proofs.write.history.history_text.Goals as goal

pub returns : goal.returns
returns c =
    let text = rw (c.in_ok-write_entries.ensures, c.in_ok-write_header.ensures, c.reserve.ensures.keeps_text, c.new-writer.ensures.empty) at c.in_ok-write_end.ensures in
    c.into_text.ensures.text ∙ text ∙ history_is c.args.entries.now
