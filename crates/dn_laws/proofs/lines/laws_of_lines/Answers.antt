use Rattle.dn_laws.proofs.LineDeletesHold.{deletes-are-known, heads-are-known, kinds-are-known}
use Rattle.dn_laws.proofs.LineLawsHold.{defaults-are-known, others-are-refused, pipes-are-set, queues-are-set}
use Rattle.dn_laws.proofs.LineOptionsHold.{left-out-is-told, other-words-are-refused, pipes-are-needed}
use Rattle.dn_laws.proofs.LinePrefixHolds.{prefix-says-nothing}
use Rattle.dn_laws.proofs.LineWordsHold.{words-are-known}
use Rattle.dn_laws.proofs.lines.laws_of_lines.Goals as goal

pub returns-clause-defaults : goal.returns-clause-defaults
returns-clause-defaults c = defaults-are-known

pub returns-clause-pipes : goal.returns-clause-pipes
returns-clause-pipes c = pipes-are-set

pub returns-clause-queues : goal.returns-clause-queues
returns-clause-queues c = queues-are-set

pub returns-clause-ranges : goal.returns-clause-ranges
returns-clause-ranges c = others-are-refused

pub returns-clause-words : goal.returns-clause-words
returns-clause-words c = words-are-known

pub returns-clause-deletes : goal.returns-clause-deletes
returns-clause-deletes c = deletes-are-known

pub returns-clause-prefix : goal.returns-clause-prefix
returns-clause-prefix c = prefix-says-nothing

pub returns-clause-heads : goal.returns-clause-heads
returns-clause-heads c = heads-are-known

pub returns-clause-behind : goal.returns-clause-behind
returns-clause-behind c = kinds-are-known

pub returns-clause-others : goal.returns-clause-others
returns-clause-others c = other-words-are-refused

pub returns-clause-left_out : goal.returns-clause-left_out
returns-clause-left_out c = left-out-is-told

pub returns-clause-needs_pipe : goal.returns-clause-needs_pipe
returns-clause-needs_pipe c = pipes-are-needed
