use Rattle.dn_history.proofs.Words.{append-nil}
use Rattle.dn_history.proofs.PartsRead.{begun}
use Rattle.dn_history.proofs.read.history_parts.HistoryParts.new.Goals as goal

pub returns : goal.returns
returns c = rw (c.in_ok-left.ensures, append-nil c.in-Some.rest.now) (begun c.args.text.now c.in-Some.rest.now c.in-Some.version c.in-Some.ensures)
