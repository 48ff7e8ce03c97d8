use Rattle.dn_laws.proofs.AskedHold.{calls-are-read, lines-are-asked, only-calls-are-made}
use Rattle.dn_laws.proofs.SessionLawsHold.{lines-are-answered, sessions-are-histories, transcripts-are-written}
use Rattle.dn_laws.proofs.WakesHold.{wakes-are-first}
use Rattle.dn_laws.proofs.sessions.laws_of_sessions.Goals as goal

pub returns-clause-answered : goal.returns-clause-answered
returns-clause-answered c = lines-are-answered

pub returns-clause-histories : goal.returns-clause-histories
returns-clause-histories c = sessions-are-histories

pub returns-clause-wakes : goal.returns-clause-wakes
returns-clause-wakes c = wakes-are-first

pub returns-clause-lines : goal.returns-clause-lines
returns-clause-lines c = lines-are-asked

pub returns-clause-calls : goal.returns-clause-calls
returns-clause-calls c = calls-are-read

pub returns-clause-only_calls : goal.returns-clause-only_calls
returns-clause-only_calls c = only-calls-are-made

pub returns-clause-written : goal.returns-clause-written
returns-clause-written c = transcripts-are-written
