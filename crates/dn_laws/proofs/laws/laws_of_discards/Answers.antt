-- Each law is a lemma over the definitions.
use Rattle.dn_laws.proofs.Comes.{discards-are-deletes}
use Rattle.dn_laws.proofs.AtHome.{packets-add-up}
use Rattle.dn_laws.proofs.Spares.{commands-spare}
use Rattle.dn_laws.proofs.laws.laws_of_discards.Goals as goal

pub returns : goal.returns
returns c = record {
  deletes = discards-are-deletes;
  spared = commands-spare;
  add_up = packets-add-up;
}
