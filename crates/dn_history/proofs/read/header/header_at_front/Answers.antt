use Rattle.dn_history.proofs.Words.{sym}
use Rattle.dn_history.proofs.VersionLines.{none-begins}
use Rattle.dn_history.proofs.read.header.header_at_front.Goals as goal

pub returns-in-Some : goal.returns-in-Some
returns-in-Some c = record { stands = sym c.in-Some.ensures }

pub returns-in-Some-behind_first : goal.returns-in-Some-behind_first
returns-in-Some-behind_first c = record { stands = sym c.in-Some-behind_first.ensures }

pub returns-in-Some-behind_first-2 : goal.returns-in-Some-behind_first-2
returns-in-Some-behind_first-2 c = record { stands = sym c.in-Some-behind_first-2.ensures }

pub returns-in-Some-behind_first-3 : goal.returns-in-Some-behind_first-3
returns-in-Some-behind_first-3 c = record { stands = sym c.in-Some-behind_first-3.ensures }

pub returns : goal.returns
returns c = none-begins c.args.text.now c.in_default.ensures c.in_default-behind_first.ensures c.in_default-behind_first-2.ensures c.in_default-behind_first-3.ensures
