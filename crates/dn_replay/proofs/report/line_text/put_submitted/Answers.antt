use Rattle.dn_replay.proofs.Words.{refl}
use Rattle.dn_replay.proofs.report.line_text.put_submitted.Goals as goal

pub returns-clause-written : goal.returns-clause-written
returns-clause-written c = rw (c.put_number.ensures.written, c.put_byte-end-2.ensures.written, c.put_byte-end.ensures.written, c.put_line_feed-end.ensures.written) refl
