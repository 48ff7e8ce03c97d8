use Rattle.dn_laws.proofs.ReportLawsHold.{inputs-are-calls, lines-are-in-order, lines-are-told, reports-are-written}
use Rattle.dn_laws.proofs.reports.laws_of_reports.Goals as goal

pub returns-clause-inputs : goal.returns-clause-inputs
returns-clause-inputs c = inputs-are-calls

pub returns-clause-lines : goal.returns-clause-lines
returns-clause-lines c = lines-are-told

pub returns-clause-order : goal.returns-clause-order
returns-clause-order c = lines-are-in-order

pub returns-clause-text : goal.returns-clause-text
returns-clause-text c = reports-are-written
