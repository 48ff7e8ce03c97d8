use Rattle.dn_live.proofs.Words.{end_record, sym, tail_answer, text-push, ◌∙◌}
use Rattle.dn_live.proofs.answers.closing_text.Goals as goal

pub returns : goal.returns
returns c =
    let text = rw (c.in_ok-write_tail.ensures, c.new-writer.ensures.empty) at c.in_ok-write_end.ensures in
    c.into_text.ensures.text ∙ text ∙ sym (text-push (tail_answer c.args.line c.args.tail.now) (end_record c.args.calls))
