use Rattle.dn_replay.proofs.Words.{fields_text, is_blank}
use Rattle.dn_replay.proofs.report.line_text.add_header.Goals as goal

pub returns-clause-items : goal.returns-clause-items
unfolding fields_text is_blank
returns-clause-items c = c.append.ensures.items
