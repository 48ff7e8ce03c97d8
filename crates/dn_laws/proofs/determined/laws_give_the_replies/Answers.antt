use Rattle.dn_laws.proofs.LawsHold.{laws-give-the-replies, histories-by-the-laws, false-by-the-laws}
use Rattle.dn_laws.proofs.determined.laws_give_the_replies.Goals as goal

pub returns-clause-replies : goal.returns-clause-replies
returns-clause-replies c = laws-give-the-replies

pub returns-clause-histories : goal.returns-clause-histories
returns-clause-histories c = histories-by-the-laws

pub returns-clause-first_false : goal.returns-clause-first_false
returns-clause-first_false c = false-by-the-laws
