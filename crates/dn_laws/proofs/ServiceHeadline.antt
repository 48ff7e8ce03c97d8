-- A closed service and its calls by the laws: whatever obeys them gives the replies.
use Rattle.dn_laws.proofs.Words.{CallsByTheLaws, Ordered, ServicesByTheLaws}
use Rattle.dn_laws.proofs.LawsHold.{histories-by-the-laws}
use Rattle.dn_laws.proofs.ServiceLawsHold.{callers-are-left, none-is-foreign}

pub services-by-the-laws : ServicesByTheLaws
services-by-the-laws e obeys service callers history closes = record {
  replies = (histories-by-the-laws Ordered e obeys history).0 closes.lawful;
  left = λ c there. callers-are-left service callers history c closes there;
  no_others = λ entry there. none-is-foreign service callers history entry closes there;
}

pub calls-by-the-laws : CallsByTheLaws
calls-by-the-laws e obeys before after c r answered = (answered.between, answered.front, (histories-by-the-laws Ordered e obeys after.front).0 answered.lawful)
