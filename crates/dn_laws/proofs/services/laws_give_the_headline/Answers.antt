use Rattle.dn_laws.proofs.ServiceHeadline.{services-by-the-laws, calls-by-the-laws}
use Rattle.dn_laws.proofs.services.laws_give_the_headline.Goals as goal

pub returns-clause-closes : goal.returns-clause-closes
returns-clause-closes c = services-by-the-laws

pub returns-clause-calls : goal.returns-clause-calls
returns-clause-calls c = calls-by-the-laws
