-- Each law is a lemma over the definitions.
use Rattle.dn_laws.proofs.Acceptance.{arrivals-are-told}
use Rattle.dn_laws.proofs.Acceptance.{queued-packets-arrive}
use Rattle.dn_laws.proofs.QueuesRate.{queues-share-the-rate}
use Rattle.dn_laws.proofs.laws.laws_of_acceptance.Goals as goal

pub returns : goal.returns
returns c = record {
  arrivals = arrivals-are-told;
  queued = queued-packets-arrive;
  rate = queues-share-the-rate;
}
