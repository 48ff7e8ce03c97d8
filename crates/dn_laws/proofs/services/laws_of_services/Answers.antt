use Rattle.dn_laws.proofs.CallerLawsHold.{absent-callers-are-missing, callers-begin, refusals-are-noted, segments-are-the-history, tokens-are-told}
use Rattle.dn_laws.proofs.ServiceLawsHold.{answers-suffice, callers-are-left, histories-suffice, none-is-foreign, none-is-overtaken}
use Rattle.dn_laws.proofs.services.laws_of_services.Goals as goal

pub returns-clause-callers : goal.returns-clause-callers
returns-clause-callers c = callers-are-left

pub returns-clause-entries : goal.returns-clause-entries
returns-clause-entries c = none-is-foreign

pub returns-clause-deliveries : goal.returns-clause-deliveries
returns-clause-deliveries c = none-is-overtaken

pub returns-clause-answers : goal.returns-clause-answers
returns-clause-answers c = answers-suffice

pub returns-clause-histories : goal.returns-clause-histories
returns-clause-histories c = histories-suffice

pub returns-clause-begin : goal.returns-clause-begin
returns-clause-begin c = callers-begin

pub returns-clause-refused : goal.returns-clause-refused
returns-clause-refused c = refusals-are-noted

pub returns-clause-tokens : goal.returns-clause-tokens
returns-clause-tokens c = tokens-are-told

pub returns-clause-segments : goal.returns-clause-segments
returns-clause-segments c = segments-are-the-history

pub returns-clause-absent : goal.returns-clause-absent
returns-clause-absent c = absent-callers-are-missing
