use Rattle.dn_laws.proofs.AuditLawsHold.{none-has-two-verdicts, truths-suffice, verdicts-are-true}
use Rattle.dn_laws.proofs.RecordLawsHold.{histories-are-read, histories-are-written, limits-are-known, rows-are-read, rows-have-ten-fields}
use Rattle.dn_laws.proofs.OnlyHistoriesHold.{only-histories-are-read}
use Rattle.dn_laws.proofs.OnlyRowsHold.{only-rows-are-read}
use Rattle.dn_laws.proofs.records.laws_of_records.Goals as goal

pub returns-clause-rows : goal.returns-clause-rows
returns-clause-rows c = rows-are-read

pub returns-clause-ten : goal.returns-clause-ten
returns-clause-ten c = rows-have-ten-fields

pub returns-clause-written : goal.returns-clause-written
returns-clause-written c = histories-are-written

pub returns-clause-read : goal.returns-clause-read
returns-clause-read c = histories-are-read

pub returns-clause-limits : goal.returns-clause-limits
returns-clause-limits c = limits-are-known

pub returns-clause-only_rows : goal.returns-clause-only_rows
returns-clause-only_rows c = only-rows-are-read

pub returns-clause-only_histories : goal.returns-clause-only_histories
returns-clause-only_histories c = only-histories-are-read

pub returns-clause-verdicts : goal.returns-clause-verdicts
returns-clause-verdicts c = verdicts-are-true

pub returns-clause-suffice : goal.returns-clause-suffice
returns-clause-suffice c = truths-suffice

pub returns-clause-one : goal.returns-clause-one
returns-clause-one c = none-has-two-verdicts
