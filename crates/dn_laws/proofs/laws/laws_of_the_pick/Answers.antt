-- Each law is a lemma over the definitions.
use Rattle.dn_laws.proofs.Words.{pick-some}
use Rattle.dn_laws.proofs.Heads.{heads-are-first}
use Rattle.dn_laws.proofs.PickLaws.{pick-is-first}
use Rattle.dn_laws.proofs.StartLaws.{starts-the-pick}
use Rattle.dn_laws.proofs.laws.laws_of_the_pick.Goals as goal

pub returns : goal.returns
returns c = record {
  heads = heads-are-first;
  there = pick-some;
  first = pick-is-first;
  started = starts-the-pick;
}
